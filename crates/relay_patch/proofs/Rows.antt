-- The definitions, computed on small documents.
use Rattle.std.proofs.Common.{◌≡◌, ℕ, ◌-◌, ◌^◌, List, [], ◌∷◌, pos, Ok, Err, refl, codes}
use Rattle.relay_tree.specs.declared.budget.Budget.TheVariants.{Left}
use Rattle.relay_tree.specs.Document.{Document, null, whole, text, list, object, Items, no_items}
use Rattle.relay_tree.specs.Document.{item, no_members, member}
use Rattle.relay_pointer.specs.Index.{index_of, index_text}
use Rattle.relay_patch.specs.declared.change.Change.TheVariants as change
use Rattle.relay_patch.specs.Walk.{Missing, NotIndex, PastEnd, NoContainer, Root, IntoItself}
use Rattle.relay_patch.specs.Walk.{TestFailed, TooHeavy}
use Rattle.relay_patch.specs.Patch.{Bounds, Add, Remove, Replace, Move, Test, effect, free}
use Rattle.relay_patch.specs.After.{after}
use Rattle.relay_patch.specs.Change.{changes_of}

abbrev numbers : List ℕ → Items
numbers [] = no_items
numbers (n ∷ ns) = item (whole (pos n)) (numbers ns)

-- `{"a":[..]}`
abbrev holding : List ℕ → Document
holding ns = object (member (codes "a") (list (numbers ns)) no_members)

one_two : Document
one_two = holding (1 ∷ 2 ∷ [])

removes_no_leading_zero : effect one_two (Remove (codes "a" ∷ codes "01" ∷ [])) ≡ Err NotIndex
unfolding one_two index_of
removes_no_leading_zero = refl

removes_none_past_the_end : effect one_two (Remove (codes "a" ∷ codes "2" ∷ [])) ≡ Err Missing
unfolding one_two index_of
removes_none_past_the_end = refl

replaces_none_at_dash : effect one_two (Replace (codes "a" ∷ codes "-" ∷ []) null) ≡ Err Missing
unfolding one_two index_of
replaces_none_at_dash = refl

adds_none_past_the_end : effect one_two (Add (codes "a" ∷ codes "3" ∷ []) null) ≡ Err PastEnd
unfolding one_two index_of
adds_none_past_the_end = refl

adds_at_the_end : effect one_two (Add (codes "a" ∷ codes "2" ∷ []) (whole (pos 0)))
    ≡ Ok (holding (1 ∷ 2 ∷ 0 ∷ []))
unfolding one_two index_of
adds_at_the_end = refl

adds_none_at_a_name : effect one_two (Add (codes "a" ∷ codes "x" ∷ []) null) ≡ Err NotIndex
unfolding one_two index_of
adds_none_at_a_name = refl

adds_none_below_nothing : effect one_two (Add (codes "b" ∷ codes "c" ∷ []) null) ≡ Err Missing
unfolding one_two index_of
adds_none_below_nothing = refl

adds_none_in_a_number : effect one_two (Add (codes "a" ∷ codes "0" ∷ codes "x" ∷ []) null)
    ≡ Err NoContainer
unfolding one_two index_of
adds_none_in_a_number = refl

moves_none_past_the_end : effect one_two
    (Move (codes "a" ∷ codes "0" ∷ []) (codes "a" ∷ codes "2" ∷ [])) ≡ Err PastEnd
unfolding one_two index_of
moves_none_past_the_end = refl

moves_to_the_end : effect one_two (Move (codes "a" ∷ codes "0" ∷ []) (codes "a" ∷ codes "1" ∷ []))
    ≡ Ok (holding (2 ∷ 1 ∷ []))
unfolding one_two index_of
moves_to_the_end = refl

moves_to_its_own_place : effect one_two
    (Move (codes "a" ∷ codes "1" ∷ []) (codes "a" ∷ codes "-" ∷ [])) ≡ Ok one_two
unfolding one_two index_of index_text
moves_to_its_own_place = refl

tells_no_move_to_its_own_place : changes_of one_two
    (Move (codes "a" ∷ codes "1" ∷ []) (codes "a" ∷ codes "-" ∷ [])) ≡ []
unfolding one_two index_of index_text
tells_no_move_to_its_own_place = refl

moves_none_into_itself : effect one_two (Move (codes "a" ∷ []) (codes "a" ∷ codes "b" ∷ []))
    ≡ Err IntoItself
unfolding one_two
moves_none_into_itself = refl

removes_no_root : effect one_two (Remove []) ≡ Err Root
unfolding one_two
removes_no_root = refl

tells_the_index_of_dash : changes_of one_two (Add (codes "a" ∷ codes "-" ∷ []) null)
    ≡ change.AddItem (codes "a" ∷ codes "2" ∷ []) null ∷ []
unfolding one_two index_of index_text
tells_the_index_of_dash = refl

names_the_third : after one_two
    (Replace (codes "a" ∷ []) null ∷ Add (codes "b" ∷ []) null ∷ Test (codes "a" ∷ []) one_two ∷ [])
    free ≡ Err (record { at = 2; cause = TestFailed })
unfolding one_two
names_the_third = refl

-- each of these changes weighs 17: 9 for its path and 8 for its value
abbrev paying : ℕ → Bounds
paying n = record { depth = 2 ^ 64 - 1; weight = 2 ^ 64 - 1; changes = Left n }

pays_for_two_changes : after one_two
    (Replace (codes "a" ∷ []) null ∷ Replace (codes "a" ∷ []) null ∷ []) (paying 34)
    ≡ Ok (object (member (codes "a") null no_members))
unfolding one_two
pays_for_two_changes = refl

pays_for_one_change : after one_two
    (Replace (codes "a" ∷ []) null ∷ Replace (codes "a" ∷ []) null ∷ []) (paying 33)
    ≡ Err (record { at = 1; cause = TooHeavy })
unfolding one_two
pays_for_one_change = refl

composes_nothing : effect (text (codes "é")) (Test [] (text (101 ∷ 204 ∷ 129 ∷ [])))
    ≡ Err TestFailed
composes_nothing = refl
