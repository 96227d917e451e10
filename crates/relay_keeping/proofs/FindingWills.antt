-- The wills that a round finds, one list of them after another.
use Rattle.std.proofs.Common.{◌≡◌, ◌∙◌, ◌+◌, ℕ, Bool, List, [], ◌∷◌, ◌++◌, append-nil, append_assoc}
use Rattle.std.proofs.Common.{map, take, slice_get, Option, Some, None, is_some, nat_eq, ap, sym}
use Rattle.std.proofs.Common.{refl, if◌then◌else◌}
use Rattle.std.proofs.lemmas.Grind.{flat_map-append}
use Rattle.std.proofs.lemmas.List.{take_more}
use Rattle.std.proofs.lemmas.Option.{get_or_from_slice_get, slice_get_within}
use Rattle.std.specs.List.{flat_map}
use Rattle.std.specs.Option.{option_or}
use Rattle.relay_hub.specs.Log.{Bequest}
use Rattle.relay_store.specs.Texts.{owned}
use Rattle.relay_store.specs.declared.change.Change.TheVariants.{DropWill}
use Rattle.relay_keeping.specs.Wills.{Finds, NotedWills, drop_change, left_change, noted_number}
use Rattle.relay_keeping.specs.Wills.{NotesWills, number_in}
use Rattle.relay_keeping.specs.declared.found_wills.FoundWills.{FoundWills}

or_none : {X : Type 0} (o : Option X) → option_or o None ≡ o
or_none None = refl
or_none (Some x) = refl

or_or : {X : Type 0} (a b c : Option X) → option_or (option_or a b) c ≡ option_or a (option_or b c)
or_or None b c = refl
or_or (Some x) b c = refl

-- the numbers of two lists of wills
pub numbers_append : (first more : List Bequest) (session : ℕ)
    → number_in (first ++ more) session
    ≡ option_or (number_in more session) (number_in first session)
numbers_append [] more session = sym (or_none (number_in more session))
numbers_append (w ∷ first) more session =
    let own = if nat_eq w.session session then Some w.number else None in
    ap (λ o. option_or o own) (numbers_append first more session)
    ∙ or_or (number_in more session) (number_in first session) own

-- no will is found
pub finds_none : (noted : NotedWills) (found : FoundWills) → Finds noted [] found found
finds_none noted found = record {
  numbers = λ session. refl;
  changes = sym (append-nil (map owned found.changes.items));
}

-- wills are found, and then more
pub finds_then : (noted : NotedWills) (first more : List Bequest) (old mid new : FoundWills)
    → Finds noted first old mid → Finds noted more mid new → Finds noted (first ++ more) old new
finds_then noted first more old mid new before after = record {
  numbers = λ s.
      let was = noted_number old.numbers.entries s in
      after.numbers s ∙ ap (option_or (number_in more s)) (before.numbers s)
      ∙ sym (or_or (number_in more s) (number_in first s) was)
      ∙ ap (λ o. option_or o was) (sym (numbers_append first more s));
  changes =
      let was = map owned old.changes.items in
      after.changes ∙ ap (λ cs. cs ++ flat_map (left_change noted) more) before.changes
      ∙ append_assoc was (flat_map (left_change noted) first) (flat_map (left_change noted) more)
      ∙ ap (λ cs. was ++ cs) (sym (flat_map-append (left_change noted) first more));
}

-- one more element is mapped
pub mapped_more : {X A : Type 0} (f : X → List A) (xs : List X) (i : ℕ) (x : X)
    → slice_get xs i ≡ Some x
    → flat_map f (take (i + 1) xs) ≡ flat_map f (take i xs) ++ f x
mapped_more f xs i x at =
    ap (flat_map f) (take_more xs i x (slice_get_within xs i x at)
    ∙ ap (λ x. take i xs ++ x ∷ []) (get_or_from_slice_get xs i x x at))
    ∙ flat_map-append f (take i xs) (x ∷ [])
    ∙ ap (λ ys. flat_map f (take i xs) ++ ys) (append-nil (f x))

-- the change for a will that is noted, by the number that its session has now
pub dropped : (wills : List Bequest) (noted : ℕ × ℕ) (has : Bool)
    → has ≡ is_some (number_in wills noted.0)
    → drop_change wills noted ≡ (if has then [] else DropWill noted.0 ∷ [])
dropped wills noted has is =
    ap (λ b. if b then [] else DropWill noted.0 ∷ []) (sym is)

-- where no will was found before, these are all
pub found_all : (noted : NotedWills) (wills : List Bequest) (old new : FoundWills)
    → old.numbers.entries ≡ [] → old.changes.items ≡ [] → Finds noted wills old new
    → NotesWills new.numbers.entries wills
    × (map owned new.changes.items ≡ flat_map (left_change noted) wills)
found_all noted wills old new no_numbers no_changes finds = (
  λ s. finds.numbers s
      ∙ ap (λ entries. option_or (number_in wills s) (noted_number entries s)) no_numbers
      ∙ or_none (number_in wills s),
  finds.changes ∙ ap (λ items. map owned items ++ flat_map (left_change noted) wills) no_changes,
)
