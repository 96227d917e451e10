use Rattle.std.proofs.Common.{sym, ap, ◌∙◌}
use Rattle.json.specs.Print.{escape_byte}
use Rattle.relay_tree.specs.Text.{text_of}
use Rattle.relay_tree.proofs.Texts.{if_ok}
use Rattle.relay_proto.specs.Message.{reply_document}
use Rattle.relay_proto.specs.MessageRead.{message_of_text}
use Rattle.relay_proto.proofs.Quoted.{resumed}
use Rattle.relay_proto.proofs.Written.{reply_text_back}
use Rattle.relay_proto.proofs.reply.Reply.text.Goals as goal

pub returns-in-Welcome-clause-text : goal.returns-in-Welcome-clause-text
unfolding escape_byte
returns-in-Welcome-clause-text c =
    if_ok c.format.result c.format.ensures.ok
    (λ s h. h ∙ ap (λ r. text_of (reply_document r)) (sym c.in-Welcome.is))

pub returns-in-Welcome-clause-reads_back : goal.returns-in-Welcome-clause-reads_back
unfolding escape_byte
returns-in-Welcome-clause-reads_back c =
    if_ok c.format.result c.format.ensures.ok
    (λ s h counts. ap message_of_text
    (h ∙ ap (λ r. text_of (reply_document r)) (sym c.in-Welcome.is))
    ∙ reply_text_back c.args.self.now counts)

pub returns-in-Done-clause-text : goal.returns-in-Done-clause-text
unfolding escape_byte
returns-in-Done-clause-text c =
    if_ok c.format-in-Done.result c.format-in-Done.ensures.ok
    (λ s h. h ∙ ap (λ r. text_of (reply_document r)) (sym c.in-Done.is))

pub returns-in-Done-clause-reads_back : goal.returns-in-Done-clause-reads_back
unfolding escape_byte
returns-in-Done-clause-reads_back c =
    if_ok c.format-in-Done.result c.format-in-Done.ensures.ok
    (λ s h counts. ap message_of_text (h ∙ ap (λ r. text_of (reply_document r)) (sym c.in-Done.is))
    ∙ reply_text_back c.args.self.now counts)

pub returns-in-Refused-clause-text : goal.returns-in-Refused-clause-text
returns-in-Refused-clause-text c =
    if_ok c.refused_text.result c.refused_text.ensures
    (λ s h. h ∙ ap (λ r. text_of (reply_document r)) (sym c.in-Refused.is))

pub returns-in-Refused-clause-reads_back : goal.returns-in-Refused-clause-reads_back
returns-in-Refused-clause-reads_back c =
    if_ok c.refused_text.result c.refused_text.ensures
    (λ s h counts. ap message_of_text
    (h ∙ ap (λ r. text_of (reply_document r)) (sym c.in-Refused.is))
    ∙ reply_text_back c.args.self.now counts)

pub returns-in-Willing-clause-text : goal.returns-in-Willing-clause-text
unfolding escape_byte
returns-in-Willing-clause-text c =
    if_ok c.format-in-Willing.result c.format-in-Willing.ensures.ok
    (λ s h. h ∙ ap (λ r. text_of (reply_document r)) (sym c.in-Willing.is))

pub returns-in-Willing-clause-reads_back : goal.returns-in-Willing-clause-reads_back
unfolding escape_byte
returns-in-Willing-clause-reads_back c =
    if_ok c.format-in-Willing.result c.format-in-Willing.ensures.ok
    (λ s h counts. ap message_of_text
    (h ∙ ap (λ r. text_of (reply_document r)) (sym c.in-Willing.is))
    ∙ reply_text_back c.args.self.now counts)

pub returns-in-Watching-clause-text : goal.returns-in-Watching-clause-text
unfolding escape_byte
returns-in-Watching-clause-text c =
    if_ok c.format-in-Watching.result c.format-in-Watching.ensures.ok
    (λ s h. h ∙ ap (λ r. text_of (reply_document r)) (sym c.in-Watching.is))

pub returns-in-Watching-clause-reads_back : goal.returns-in-Watching-clause-reads_back
unfolding escape_byte
returns-in-Watching-clause-reads_back c =
    if_ok c.format-in-Watching.result c.format-in-Watching.ensures.ok
    (λ s h counts. ap message_of_text
    (h ∙ ap (λ r. text_of (reply_document r)) (sym c.in-Watching.is))
    ∙ reply_text_back c.args.self.now counts)

pub returns-in-Resumed-clause-text : goal.returns-in-Resumed-clause-text
unfolding escape_byte
returns-in-Resumed-clause-text c =
    if_ok c.format-in-Resumed.result c.format-in-Resumed.ensures.ok
    (λ s h. h ∙ resumed c.in-Resumed.id c.in-Resumed.how c.text-how.ensures
    ∙ ap (λ r. text_of (reply_document r)) (sym c.in-Resumed.is))

pub returns-in-Resumed-clause-reads_back : goal.returns-in-Resumed-clause-reads_back
unfolding escape_byte
returns-in-Resumed-clause-reads_back c =
    if_ok c.format-in-Resumed.result c.format-in-Resumed.ensures.ok
    (λ s h counts. ap message_of_text
    (h ∙ resumed c.in-Resumed.id c.in-Resumed.how c.text-how.ensures
    ∙ ap (λ r. text_of (reply_document r)) (sym c.in-Resumed.is))
    ∙ reply_text_back c.args.self.now counts)

pub returns-in-Unwatched-clause-text : goal.returns-in-Unwatched-clause-text
unfolding escape_byte
returns-in-Unwatched-clause-text c =
    if_ok c.format-in-Unwatched.result c.format-in-Unwatched.ensures.ok
    (λ s h. h ∙ ap (λ r. text_of (reply_document r)) (sym c.in-Unwatched.is))

pub returns-in-Unwatched-clause-reads_back : goal.returns-in-Unwatched-clause-reads_back
unfolding escape_byte
returns-in-Unwatched-clause-reads_back c =
    if_ok c.format-in-Unwatched.result c.format-in-Unwatched.ensures.ok
    (λ s h counts. ap message_of_text
    (h ∙ ap (λ r. text_of (reply_document r)) (sym c.in-Unwatched.is))
    ∙ reply_text_back c.args.self.now counts)
