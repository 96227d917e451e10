-- Laws of what is kept.
use Rattle.std.proofs.Common.{◌≡◌, ◌∙◌, ℕ, List, [], ◌∷◌, ◌++◌, map, ap, refl}
use Rattle.std.proofs.lemmas.List.{map-append}
use Rattle.relay_store.specs.declared.change.Change.{Change}
use Rattle.relay_store.specs.declared.change.Change.TheVariants.{Begin, Edit, End, RaiseFloor}
use Rattle.relay_store.specs.declared.change.Change.TheVariants.{LeaveWill, DropWill}
use Rattle.relay_store.specs.Kept.{Kept, changed, committed}

epoch_changed : (kept : Kept) (change : Change (List ℕ)) → (changed kept change).epoch ≡ kept.epoch
epoch_changed kept (Begin room revision text) = refl
epoch_changed kept (Edit room revision text) = refl
epoch_changed kept (End room) = refl
epoch_changed kept (RaiseFloor revision) = refl
epoch_changed kept (LeaveWill session room text) = refl
epoch_changed kept (DropWill session) = refl

-- the epoch is that with which the store began
pub epoch_committed : (kept : Kept) (changes : List (Change (List ℕ)))
    → (committed kept changes).epoch ≡ kept.epoch
epoch_committed kept [] = refl
epoch_committed kept (change ∷ changes) =
    epoch_committed (changed kept change) changes ∙ epoch_changed kept change

-- two commits keep what one commit of all their changes does
pub committed_append : (kept : Kept) (first more : List (Change (List ℕ)))
    → committed kept (first ++ more) ≡ committed (committed kept first) more
committed_append kept [] more = refl
committed_append kept (change ∷ first) more = committed_append (changed kept change) first more

-- a list of changes grown by those of a commit
pub grown : {T : Type 0} (text : T → Change (List ℕ)) (start : Kept) (old more : List T)
    (changes : List (Change (List ℕ))) → map text more ≡ changes
    → committed start (map text (old ++ more)) ≡ committed (committed start (map text old)) changes
grown text start old more changes same =
    ap (committed start) (map-append text old more ∙ ap (λ xs. map text old ++ xs) same)
    ∙ committed_append start (map text old) changes
