use Rattle.std.proofs.Common.{◌≡◌, ◌≤◌, ◌++◌, ◌∷◌, [], length, string_bytes, ap, ◌∙◌, arith}
use Rattle.json.specs.Print.{print}
use Rattle.json.specs.Token.{end_object}
use Rattle.relay_tree.specs.Text.{text_of, tokens_of}
use Rattle.relay_tree.proofs.Texts.{if_ok, print-tokens_of}
use Rattle.relay_proto.specs.Message.{will_request}
use Rattle.relay_proto.specs.declared.reading.TheConstants.{MAX_REQUEST}
use Rattle.relay_proto.proofs.Texts.{if_both}
use Rattle.relay_proto.proofs.Views.{will_written}
use Rattle.relay_proto.proofs.Wills.{will_text_back}
use Rattle.relay_proto.proofs.will.will_text.Goals as goal

written : (c : goal.After-end_message)
    → c.write.new.out.tokens ++ end_object ∷ [] ≡ tokens_of (will_request c.args.patch.now)
written c =
    will_written c.args.patch.now c.in_ok-out.ensures.tokens c.in_ok-write.ensures.tokens

pub returns-clause-text : goal.returns-clause-text
returns-clause-text c =
    if_ok c.end_message.result c.end_message.ensures.text
    (λ s h. h ∙ ap print (written c) ∙ print-tokens_of (will_request c.args.patch.now))

pub returns-clause-reads_back : goal.returns-clause-reads_back
returns-clause-reads_back c =
    let ops = c.args.patch.now in
    if_both c.end_message.result c.end_message.ensures.text c.end_message.ensures.reads_back
    (λ s text back writable.
    let spelled : string_bytes s ≡ text_of (will_request ops) =
    text ∙ ap print (written c) ∙ print-tokens_of (will_request ops) in
    let short : length (string_bytes s) ≤ MAX_REQUEST =
    omega (arith, ap length spelled, writable.brief) in
    will_text_back (string_bytes s) ops (back ∙ written c) c.in_ok-write.ensures.reads_back short
    writable)
