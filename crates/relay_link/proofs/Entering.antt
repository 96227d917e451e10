-- In which rooms clients may enter once one name was added or removed.
use Rattle.std.proofs.Common.{◌≡◌, ◌≢◌, ℕ, Bool, false, List, String, Global, string_bytes}
use Rattle.std.proofs.Common.{bytes_eq, sym, ◌∙◌}
use Rattle.std.proofs.lemmas.Bool.{cond-false, false_from_ne_true}
use Rattle.std.proofs.lemmas.Map.Text.{hash_set_updates_text}
use Rattle.std.proofs.lemmas.Slice.Eq.{bytes_eq-Decides}
use Rattle.std.specs.List.{list_any}
use Rattle.std.specs.String.{string_eq}
use Rattle.indexmap.specs.IndexSet.{IndexSet, UpdatesBy}

other_name : (room name : List ℕ) → name ≢ room → bytes_eq room name ≡ false
other_name room name apart =
    false_from_ne_true (bytes_eq room name)
    (λ same. apart (sym ((bytes_eq-Decides room name).0 same)))

-- another name is among the names exactly if it was
pub others_stay : {H : Type 0} (room : List ℕ) (old new : IndexSet (String Global) H) (b : Bool)
    → UpdatesBy string_eq (λ k. bytes_eq room (string_bytes k)) old new b
    → (name : List ℕ) → name ≢ room
    → list_any (λ k. bytes_eq name (string_bytes k)) new.keys
    ≡ list_any (λ k. bytes_eq name (string_bytes k)) old.keys
others_stay room old new b updates name apart =
    hash_set_updates_text room old new b updates name
    ∙ cond-false (bytes_eq room name) b _ (other_name room name apart)
