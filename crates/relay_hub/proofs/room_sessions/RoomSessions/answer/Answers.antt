use Rattle.std.proofs.Common.{arith}
use Rattle.std.proofs.lemmas.Grind.{common_steps}
use Rattle.relay_hub.proofs.Snapshots.{text_stays}
use Rattle.relay_hub.proofs.room_sessions.RoomSessions.answer.Goals as goal

pub invariant_of-self : goal.invariant_of-self
invariant_of-self c =
    let g = c.self.inside in
    let asked = c.args.asked in (
      grind (arith, common_steps),
      text_stays c.args.config asked.caller.number asked.caller.index asked.request g.room
          c.answer.new.room c.as_mut_slice.result.now c.answer.new.sessions g.snapshot
          c.drop_over.new.self c.answer.result
          (rw c.as_mut_slice.ensures.value (rw (← c.self.view_is) at c.requires.caller))
          c.answer.ensures.ok c.answer.ensures.err c.drop_over.ensures c.self.invariant.1,
    )
