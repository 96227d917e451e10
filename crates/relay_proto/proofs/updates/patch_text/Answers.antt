use Rattle.std.proofs.Common.{◌≡◌, ◌<◌, ◌^◌, [], ◌∷◌, ◌++◌, length, string_bytes, codes, decimal}
use Rattle.std.proofs.Common.{ap, ◌∙◌, arith, rules}
use Rattle.json.specs.Print.{print}
use Rattle.json.specs.Token.{end_object, key, number}
use Rattle.relay_tree.specs.Text.{text_of, tokens_of}
use Rattle.relay_tree.proofs.Texts.{if_ok, print-tokens_of}
use Rattle.relay_proto.specs.Message.{patch_message}
use Rattle.relay_proto.proofs.Texts.{if_both}
use Rattle.relay_proto.proofs.Views.{patch_written}
use Rattle.relay_proto.proofs.Written.{patch_text_back, ops_few}
use Rattle.relay_proto.proofs.updates.patch_text.Goals as goal

written : (c : goal.After-end_message)
    → c.u64.new.self.tokens ++ end_object ∷ []
    ≡ tokens_of (patch_message c.args.rev c.args.patch.now)
written c =
    let keyed : c.key.new.self.tokens ≡ c.in_ok-out.out.tokens ++ key (codes "patch") ∷ [] =
    search rules in
    let named : c.key-2.new.self.tokens ≡ c.write.new.out.tokens ++ key (codes "rev") ∷ [] =
    search rules in
    let numbered : c.u64.new.self.tokens ≡ c.key-2.new.self.tokens ++ number (decimal c.args.rev)
    ∷ [] = search rules in
    patch_written c.args.rev c.args.patch.now c.in_ok-out.ensures.tokens keyed
    c.in_ok-write.ensures.tokens named numbered

pub returns-clause-text : goal.returns-clause-text
returns-clause-text c =
    if_ok c.end_message.result c.end_message.ensures.text
    (λ s h. h ∙ ap print (written c) ∙ print-tokens_of (patch_message c.args.rev c.args.patch.now))

pub returns-clause-reads_back : goal.returns-clause-reads_back
returns-clause-reads_back c =
    let rev = c.args.rev in
    let ops = c.args.patch.now in
    if_both c.end_message.result c.end_message.ensures.text c.end_message.ensures.reads_back
    (λ s text back writable.
    let spelled : string_bytes s ≡ text_of (patch_message rev ops) =
    text ∙ ap print (written c) ∙ print-tokens_of (patch_message rev ops) in
    let few : length ops < 2 ^ 64 =
    omega (arith, ops_few rev ops, ap length spelled, s.bytes.ok.0) in
    patch_text_back (string_bytes s) rev ops
    (back ∙ written c) c.in_ok-write.ensures.reads_back few writable)
