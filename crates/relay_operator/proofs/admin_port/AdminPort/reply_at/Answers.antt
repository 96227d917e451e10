-- The connection at the index has the response.
use Rattle.std.proofs.Common.{inr, refl, subst, string_bytes, IfOk}
use Rattle.std.proofs.lemmas.Option.{slice_get_read}
use Rattle.relay_hub.proofs.Lists.{slice_get-set}
use Rattle.relay_operator.specs.Connection.{Tells}
use Rattle.relay_operator.specs.Response.{AnswersAsk}
use Rattle.relay_operator.proofs.admin_port.AdminPort.reply_at.Goals as goal

pub returns-in-Some-Ok-clause-responds : goal.returns-in-Some-Ok-clause-responds
returns-in-Some-Ok-clause-responds g c =
    let held = c.args.self.now.connections.items in
    let there =
    slice_get_read held _ c.args.index c.in-Some-Ok.connection.now refl
    c.in-Some-Ok.ensures.item.3.0 c.in-Some-Ok.ensures.value in
    inr (
      c.request_in-served.ensures.is,
      record {
        asker = c.in-Some-Ok.connection.now;
        there = there;
        reply = c.in-Some-Ok.reply;
        says =
            subst (λ r. IfOk r (λ text. AnswersAsk c.args.view.now c.args.self.now.counters
            c.args.asked.now (string_bytes text))) c.in-Some-Ok.is-1 c.answer-reply.ensures;
        told = c.tell.new.self;
        at = slice_get-set held c.args.index c.in-Some-Ok.connection.now c.tell.new.self there;
        tells =
            subst (λ x. Tells g.L.Stream.Write.contents x c.tell.new.self) c.answer.ensures
            c.tell.ensures;
      },
    )
