-- A client that hears one patch more.
use Rattle.std.proofs.Common.{◌≡◌, ℕ, List, [], ◌∷◌, ◌++◌, Some, ap, sym, refl}
use Rattle.std.specs.Option.{unwrap_or}
use Rattle.relay_follow.specs.Hearing.{told}
use Rattle.relay_proto.specs.Client.{Client, lost}
use Rattle.relay_store.specs.Kept.{Patch, Room as KeptRoom, edited, revision, revision_after}
use Rattle.relay_keeping.specs.Mirrored.{client_of, heard, heard_all}

-- a text that is a message is heard
pub hears : (client after : Client) (text : List ℕ) → told client text ≡ Some after
    → after ≡ heard client text
hears client after text is = sym (ap (λ o. unwrap_or o lost) is)

heard_last : (client : Client) (patches : List Patch) (patch : Patch)
    → heard_all client (patches ++ patch ∷ []) ≡ heard (heard_all client patches) patch.text
heard_last client [] patch = refl
heard_last client (first ∷ patches) patch = heard_last (heard client first.text) patches patch

last_revision : (begins : ℕ) (patches : List Patch) (patch : Patch)
    → revision_after begins (patches ++ patch ∷ []) ≡ patch.revision
last_revision begins [] patch = refl
last_revision begins (first ∷ patches) patch = last_revision first.revision patches patch

-- the client of a room that has one patch more
pub client_of_edited : (kept : KeptRoom) (patch : Patch)
    → client_of (edited patch kept) ≡ heard (client_of kept) patch.text
client_of_edited kept patch = heard_last _ kept.edits patch

-- that patch leads to the room's revision
pub revision_of_edited : (kept : KeptRoom) (patch : Patch)
    → revision (edited patch kept) ≡ patch.revision
revision_of_edited kept patch = last_revision kept.begins kept.edits patch
