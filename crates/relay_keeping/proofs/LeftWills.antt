-- The wills that are kept, after a change of one of them, and those that are noted.
use Rattle.std.proofs.Common.{◌≡◌, ◌∙◌, ◌+◌, ◌-◌, ◌^◌, ℕ, Bool, true, false, not, List, [], ◌∷◌}
use Rattle.std.proofs.Common.{◌++◌, map, take, find, slice_get, Option, Some, None, nat_eq}
use Rattle.std.proofs.Common.{arith, ap, sym, subst, refl, if◌then◌else◌}
use Rattle.std.proofs.lemmas.Bool.Decides.{nat_tests}
use Rattle.std.proofs.lemmas.List.{map-append, take_more}
use Rattle.std.proofs.lemmas.List.Folds.{find-append}
use Rattle.std.proofs.lemmas.Map.Keys.{IsDistinct-head, IsDistinct-tail}
use Rattle.std.proofs.lemmas.Option.{get_or_from_slice_get, slice_get_within}
use Rattle.std.specs.List.{AllByRecursion, IsDistinct}
use Rattle.std.specs.Map.{keys_of, remove_entry}
use Rattle.std.specs.Option.{option_map, option_or}
use Rattle.relay_store.specs.Kept.{Will, without_will}
use Rattle.relay_keeping.specs.LeftWills.{AreNotedAsEarlier, kept_will}
use Rattle.relay_keeping.specs.Wills.{NotedWills, noted_number}
use Rattle.relay_keeping.specs.declared.left_wills.LeftWill.{LeftWill}

-- a will that no session of that number left goes nowhere
unmoved : (s : ℕ) (entries : List (ℕ × LeftWill))
    → AllByRecursion (λ other. nat_eq s other ≡ false) (keys_of entries)
    → without_will s (map kept_will entries) ≡ map kept_will entries
unmoved s [] apart = refl
unmoved s (e ∷ entries) apart =
    ap (λ b. if not b then kept_will e ∷ without_will s (map kept_will entries)
    else without_will s (map kept_will entries)) apart.0
    ∙ ap (λ wills. kept_will e ∷ wills) (unmoved s entries apart.1)

-- the wills without that of a session
pub without : (s : ℕ) (entries : List (ℕ × LeftWill)) → IsDistinct nat_eq (keys_of entries)
    → map kept_will (remove_entry (nat_eq s) entries) ≡ without_will s (map kept_will entries)
without s [] distinct = refl
without s (e ∷ entries) distinct =
    go (nat_eq s e.0) refl
    (without s entries (IsDistinct-tail nat_eq e.0 (keys_of entries) distinct))
  where
    go : (b : Bool) → nat_eq s e.0 ≡ b
        → map kept_will (remove_entry (nat_eq s) entries) ≡ without_will s (map kept_will entries)
        → map kept_will (if b then entries else e ∷ remove_entry (nat_eq s) entries)
        ≡ (if not b then kept_will e ∷ without_will s (map kept_will entries)
        else without_will s (map kept_will entries))
    go true same rest =
        let number : e.0 ≡ s = grind (arith, nat_tests, same) in
        sym (unmoved s entries
        (subst (λ n. AllByRecursion (λ other. nat_eq n other ≡ false) (keys_of entries)) number
        (IsDistinct-head nat_eq e.0 (keys_of entries) distinct)))
    go false differ rest = ap (λ wills. kept_will e ∷ wills) rest

-- one more will of an earlier run is noted
pub noted_more : (entries : List (ℕ × LeftWill)) (i : ℕ) (e : ℕ × LeftWill)
    (old new : NotedWills) → slice_get entries i ≡ Some e
    → AreNotedAsEarlier (map kept_will (take i entries)) old
    → ((s : ℕ) → noted_number new s
    ≡ (if nat_eq e.0 s then Some (2 ^ 64 - 1) else noted_number old s))
    → AreNotedAsEarlier (map kept_will (take (i + 1) entries)) new
noted_more entries i e old new at were notes s =
    let before = map kept_will (take i entries) in
    let more : map kept_will (take (i + 1) entries) ≡ before ++ kept_will e ∷ [] =
    ap (map kept_will) (take_more entries i e (slice_get_within entries i e at)
    ∙ ap (λ e. take i entries ++ e ∷ []) (get_or_from_slice_get entries i e e at))
    ∙ map-append kept_will (take i entries) (e ∷ []) in
    let test : Will → Bool = λ will. nat_eq will.session s in
    notes s ∙ ap (λ was. if nat_eq e.0 s then Some (2 ^ 64 - 1) else was) (were s)
    ∙ go (nat_eq e.0 s) (find test before)
    ∙ ap (option_map (λ will. 2 ^ 64 - 1))
    (sym (find-append test before (kept_will e ∷ [])) ∙ ap (find test) (sym more))
  where
    go : (b : Bool) (was : Option Will)
        → (if b then Some (2 ^ 64 - 1) else option_map (λ (will : Will). 2 ^ 64 - 1) was)
        ≡ option_map (λ (will : Will). 2 ^ 64 - 1)
        (option_or was (if b then Some (kept_will e) else None))
    go true None = refl
    go true (Some will) = refl
    go false None = refl
    go false (Some will) = refl
