use Rattle.std.proofs.Common.{sym, ap, ◌∙◌}
use Rattle.json.specs.Print.{escape_byte}
use Rattle.relay_tree.specs.Text.{text_of}
use Rattle.relay_tree.proofs.Texts.{if_ok}
use Rattle.relay_proto.specs.Message.{reply_document}
use Rattle.relay_proto.specs.declared.reply.Reply.TheVariants.{Refused}
use Rattle.relay_proto.proofs.Quoted.{refused, refused_naming}
use Rattle.relay_proto.proofs.text.refused_text.Goals as goal

pub returns-in-Some : goal.returns-in-Some
unfolding escape_byte
returns-in-Some c =
    if_ok c.format.result c.format.ensures.ok
    (λ s h. h ∙ refused_naming c.args.id c.args.at c.args.fault c.in-Some.rev c.text-fault.ensures
    c.in_ok-at.ensures c.in_ok-id.ensures
    ∙ ap (λ rev. text_of (reply_document (Refused c.args.id c.args.fault c.args.at rev)))
    (sym c.in-Some.is))

pub returns : goal.returns
unfolding escape_byte
returns c = if_ok c.format-in-None.result c.format-in-None.ensures.ok
    (λ s h. h ∙ refused c.args.id c.args.at c.args.fault c.text-fault.ensures c.in_ok-at.ensures
    c.in_ok-id.ensures
    ∙ ap (λ rev. text_of (reply_document (Refused c.args.id c.args.fault c.args.at rev)))
    (sym c.in-None.is))
