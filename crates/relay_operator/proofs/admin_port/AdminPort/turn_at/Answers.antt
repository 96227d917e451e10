-- The connection had its turn, and what it asked was answered.
use Rattle.std.proofs.Common.{inl, inr, refl}
use Rattle.std.proofs.lemmas.Option.{slice_get_read}
use Rattle.relay_operator.proofs.Asking.{asks_served, heard_in}
use Rattle.relay_operator.proofs.Turning.{serves_answer, serves_found}
use Rattle.relay_operator.proofs.admin_port.AdminPort.turn_at.Goals as goal

pub returns-in-Ok-Found-clause-serves : goal.returns-in-Ok-Found-clause-serves
returns-in-Ok-Found-clause-serves g c =
    let old = c.args.self.now.connections.items in
    let there =
    slice_get_read old _ c.args.index c.in-Some.connection.now refl c.in-Some.ensures.item.3.0
    c.in-Some.ensures.value in
    inr (serves_found g.L.Stream.Read.remaining g.L.Stream.Write.contents c.args.view.now
    c.args.self.now.counters c.args.index c.in-Ok-Found.found c.in-Some.connection.now
    c.turn.new.self old there (rw c.in-Ok-Found.field-0-is at c.in-Ok-Found.ensures.turns))

pub returns-in-Ok-Answer-clause-asks : goal.returns-in-Ok-Answer-clause-asks
returns-in-Ok-Answer-clause-asks g c =
    let old = c.args.self.now.connections.items in
    let there =
    slice_get_read old _ c.args.index c.in-Some.connection.now refl c.in-Some.ensures.item.3.0
    c.in-Some.ensures.value in
    asks_served g.L.Stream.Read.remaining old c.args.index c.in-Some.connection.now
    c.turn.new.self c.in-Ok-Answer.answer c.reply_at.result.1 there
    (heard_in g.L.Stream.Read.remaining g.L.Stream.Write.contents c.in-Ok-Answer.answer
    c.in-Some.connection.now c.turn.new.self
    (rw c.in-Ok-Answer.field-0-is at c.in-Ok-Answer.ensures.turns)) c.reply_at.ensures.served

pub returns-in-Ok-Answer-clause-serves : goal.returns-in-Ok-Answer-clause-serves
returns-in-Ok-Answer-clause-serves g c =
    let old = c.args.self.now.connections.items in
    let there =
    slice_get_read old _ c.args.index c.in-Some.connection.now refl c.in-Some.ensures.item.3.0
    c.in-Some.ensures.value in
    elim c.reply_at.ensures.responds [
      | inl over ↦ inl over
      | inr answered ↦ inr (serves_answer g.L.Stream.Read.remaining g.L.Stream.Write.contents
          c.args.view.now c.args.self.now.counters c.args.index c.in-Ok-Answer.answer
          c.reply_at.result c.in-Some.connection.now c.turn.new.self old
          c.reply_at.new.self.connections.items there
          (rw c.in-Ok-Answer.field-0-is at c.in-Ok-Answer.ensures.turns) answered.0 answered.1)
    ]
