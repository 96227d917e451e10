-- The tokens of patch and snapshot messages and of wills, in the order in which they are written.
use Rattle.std.proofs.Common.{◌≡◌, ℕ, List, [], ◌∷◌, ◌++◌, codes, decimal, append_assoc}
use Rattle.json.specs.Token.{Token, begin_object, end_object, key, string, number}
use Rattle.relay_tree.specs.Document.{Document}
use Rattle.relay_tree.specs.Text.{tokens_of}
use Rattle.relay_patch.specs.Form.{patch_document}
use Rattle.relay_patch.specs.declared.op.Op.{Op}
use Rattle.relay_proto.specs.Message.{patch_message, snapshot_message, will_request}

pub patch_written : {a b c d e : List Token} (rev : ℕ) (ops : List Op)
    → a ≡ begin_object ∷ key (codes "kind") ∷ string (codes "patch") ∷ []
    → b ≡ a ++ key (codes "patch") ∷ []
    → c ≡ b ++ tokens_of (patch_document ops) → d ≡ c ++ key (codes "rev") ∷ []
    → e ≡ d ++ number (decimal rev) ∷ []
    → e ++ end_object ∷ [] ≡ tokens_of (patch_message rev ops)
patch_written rev ops a b c d e = rw (e, d, c, b, a) (simp append_assoc)

pub snapshot_written : {a b : List Token} (rev : ℕ) (view : Document)
    → a ≡ begin_object ∷ key (codes "kind") ∷ string (codes "snapshot") ∷ key (codes "rev")
    ∷ number (decimal rev) ∷ key (codes "view") ∷ [] → b ≡ a ++ tokens_of view
    → b ++ end_object ∷ [] ≡ tokens_of (snapshot_message rev view)
snapshot_written rev view a b = rw (b, a) (simp append_assoc)

pub will_written : {a b : List Token} (ops : List Op)
    → a ≡ begin_object ∷ key (codes "do") ∷ string (codes "will") ∷ key (codes "id")
    ∷ number (decimal 1) ∷ key (codes "patch") ∷ [] → b ≡ a ++ tokens_of (patch_document ops)
    → b ++ end_object ∷ [] ≡ tokens_of (will_request ops)
will_written ops a b = rw (b, a) (simp append_assoc)
