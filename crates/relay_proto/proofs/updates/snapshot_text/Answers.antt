use Rattle.std.proofs.Common.{string_bytes, ap, ◌∙◌}
use Rattle.json.specs.Print.{print}
use Rattle.relay_tree.proofs.Texts.{if_ok, print-tokens_of}
use Rattle.relay_proto.specs.Message.{snapshot_message}
use Rattle.relay_proto.proofs.Views.{snapshot_written}
use Rattle.relay_proto.proofs.Written.{snapshot_text_back}
use Rattle.relay_proto.proofs.updates.snapshot_text.Goals as goal

pub returns-clause-text : goal.returns-clause-text
returns-clause-text c =
    let view = c.args.view.now in
    let written =
    snapshot_written c.args.rev view c.in_ok-out.ensures.tokens c.in_ok-write.ensures.tokens in
    if_ok c.end_message.result c.end_message.ensures.text
    (λ s h. h ∙ ap print written ∙ print-tokens_of (snapshot_message c.args.rev view))

pub returns-clause-reads_back : goal.returns-clause-reads_back
returns-clause-reads_back c =
    let view = c.args.view.now in
    let written =
    snapshot_written c.args.rev view c.in_ok-out.ensures.tokens c.in_ok-write.ensures.tokens in
    if_ok c.end_message.result c.end_message.ensures.reads_back
    (λ s h writable. snapshot_text_back (string_bytes s) c.args.rev view
    (h ∙ written) c.in_ok-write.ensures.reads_back writable)
