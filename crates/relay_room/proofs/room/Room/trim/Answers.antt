use Rattle.std.proofs.Common.{sym, subst}
use Rattle.relay_history.specs.History.{Past}
use Rattle.relay_room.specs.Room.{State, IsWeighed}
use Rattle.relay_room.proofs.Rooms.{trimmed_is_room}
use Rattle.relay_room.proofs.room.Room.trim.Goals as goal

pub invariant_of-self : goal.invariant_of-self
invariant_of-self c =
    let room = c.self.inside in
    let before : State = record { document = room.document; history = room.history } in
    subst (λ (past : Past).
    IsWeighed (record { document = room.document; history = past }) room.weight)
    (sym c.trim.ensures)
    (record {
      is = trimmed_is_room c.args.budget before c.self.invariant.is;
      weight = c.self.invariant.weight;
    })
