-- Rooms that are taken out of the clients by name.
use Rattle.std.proofs.Common.{◌≡◌, ◌∙◌, Bool, true, false, List, ℕ, [], ◌∷◌, Some, ap}
use Rattle.std.proofs.Common.{sym, refl, if◌then◌else◌, bytes_eq}
use Rattle.std.proofs.lemmas.Slice.Eq.{bytes_eq-Decides}
use Rattle.std.specs.Map.{lookup_key}
use Rattle.std.specs.String.{string_bytes}
use Rattle.std.specs.declared.alloc.Global.{Global}
use Rattle.std.specs.declared.string.String.{String}

-- a key that is found passes the test
key_passes : {K X : Type 0} (test : K → Bool) (entries : List (K × X)) (key : K)
    → Some key ≡ lookup_key test entries → test key ≡ true
key_passes test [] key is = absurd (cc is)
key_passes test (e ∷ entries) key is =
    go (test e.0) refl (key_passes test entries key) is
  where
    go : (b : Bool) → test e.0 ≡ b → (Some key ≡ lookup_key test entries → test key ≡ true)
        → Some key ≡ (if b then Some e.0 else lookup_key test entries) → test key ≡ true
    go true passes rest is = let same : key ≡ e.0 = cc is in ap test same ∙ passes
    go false passes rest is = rest is

-- the key that is found by a name is that name
pub key_is : {X : Type 0} (name : List ℕ) (entries : List (String Global × X))
    (key : String Global)
    → Some key ≡ lookup_key (λ k. bytes_eq name (string_bytes k)) entries
    → string_bytes key ≡ name
key_is name entries key is =
    sym ((bytes_eq-Decides name (string_bytes key)).0
    (key_passes (λ k. bytes_eq name (string_bytes k)) entries key is))
