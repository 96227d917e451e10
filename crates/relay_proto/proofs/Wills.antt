-- The text of a will reads back as the will.
use Rattle.std.proofs.Common.{◌≡◌, ℕ, ◌≤◌, List, length, true, nat_le, Ok, refl, sym, ◌∙◌, lit≤}
use Rattle.std.proofs.Common.{arith}
use Rattle.std.proofs.lemmas.Bool.Decides.{nat_tests}
use Rattle.json.specs.Lex.{tokens}
use Rattle.serde_json.proofs.OnLiterals.{serde_json_on_literals}
use Rattle.relay_tree.specs.Text.{tokens_of, ReadsBack}
use Rattle.relay_tree.proofs.Texts.{text_back}
use Rattle.relay_patch.specs.Form.{patch_document}
use Rattle.relay_patch.specs.Weight.{ops_weight}
use Rattle.relay_patch.specs.declared.limits.TheConstants.PatchLimits.{REQUEST}
use Rattle.relay_patch.specs.declared.op.Op.{Op}
use Rattle.relay_proto.specs.Message.{will_request}
use Rattle.relay_proto.specs.Request.{request_of, request_of_text}
use Rattle.relay_proto.specs.Written.{IsWritableWill}
use Rattle.relay_proto.specs.declared.reading.TheConstants.{MAX_REQUEST, MAX_WILL_WEIGHT}
use Rattle.relay_proto.specs.declared.request.Request.TheVariants.{Will}
use Rattle.relay_proto.proofs.Patches.{patch_back}
use Rattle.relay_proto.proofs.Requests.{asks_as_its_tree}
use Rattle.relay_proto.proofs.Written.{count_reads}

will_back : (ops : List Op) → IsWritableWill ops → request_of (will_request ops) ≡ Ok (Will 1 ops)
will_back ops h =
    let light : nat_le (ops_weight ops) MAX_WILL_WEIGHT ≡ true =
    grind (arith, nat_tests, h.light) in
    rw (patch_back REQUEST.ops REQUEST.tokens ops h.short h.few, light) refl

will_reads : (ops : List Op) → ReadsBack (patch_document ops) → ReadsBack (will_request ops)
unfolding serde_json_on_literals
will_reads ops p = let i = count_reads 1 (lit≤ tt) in
    record { written = rw (p.written, i.back.written) refl; read = rw p.read refl }

pub will_text_back : (s : List ℕ) (ops : List Op) → tokens s ≡ tokens_of (will_request ops)
    → ReadsBack (patch_document ops) → length s ≤ MAX_REQUEST → IsWritableWill ops
    → request_of_text s ≡ Ok (Will 1 ops)
will_text_back s ops same part short h =
    let tree = will_request ops in
    let read = text_back s tree same (will_reads ops part) h.shallow in
    sym (asks_as_its_tree s tree tree short read refl) ∙ will_back ops h
