use Rattle.std.proofs.Common.{refl, arith}
use Rattle.relay_hub.proofs.Sessions.{push_last}
use Rattle.relay_hub.proofs.Watching.{joined_agrees}
use Rattle.relay_hub.proofs.room_sessions.RoomSessions.join.Goals as goal

pub invariant_of-self-2 : goal.invariant_of-self-2
invariant_of-self-2 c =
    let g = c.self.inside in (
      rw c.in_ok-push.ensures.items
          (joined_agrees g.audiences g.sessions.items c.args.session
          (rw (← c.self.view_is) at c.requires.fresh) c.requires.idle c.self.invariant.0),
      c.self.invariant.1,
    )

pub returns-clause-ok : goal.returns-clause-ok
returns-clause-ok c =
    let g = c.self.inside in
    rw (← c.self.view_is, c.in_ok-push.ensures.items) (
      refl,
      push_last g.sessions.items c.args.session
          (rw (← c.self.view_is) at (c.requires.fresh c.args.session.number (omega arith))),
    )
