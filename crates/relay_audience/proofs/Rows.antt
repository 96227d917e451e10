-- Worked calls of a room's audiences, by computation: what sessions watch, and what edits touch.
use Rattle.std.proofs.Common.{◌≡◌, ℕ, List, [], ◌∷◌, Some, None, refl, codes}
use Rattle.relay_tree.specs.Document.{null}
use Rattle.relay_pointer.specs.Index.{index_of}
use Rattle.relay_pointer.specs.Path.{Path}
use Rattle.relay_patch.specs.declared.change.Change.TheVariants as change
use Rattle.relay_view.specs.View.{View}
use Rattle.relay_view.specs.declared.slot.Slot.{Slot}
use Rattle.relay_view.specs.declared.slot.SlotKind.TheVariants.{Value, Size}
use Rattle.relay_audience.specs.declared.audience.Audience.{Audience}
use Rattle.relay_audience.specs.Audiences.{next_number, numbers_touched, slots_at, view_of, watched}
use Rattle.relay_audience.specs.Audiences.{without}

abbrev at : Path → Slot
at path = record { pointer = path; kind = Value }

abbrev cards : View
cards = at (codes "cards" ∷ []) ∷ []

abbrev title : View
title = at (codes "title" ∷ []) ∷ []

abbrev size : View
size = record { pointer = codes "cards" ∷ []; kind = Size } ∷ []

abbrev audience : ℕ → View → List ℕ → Audience
audience n v ss = record { number = n; view = v; sessions = ss }

the_first_session_begins_an_audience : watched 7 cards [] ≡ audience 0 cards (7 ∷ []) ∷ []
the_first_session_begins_an_audience = refl

an_equal_view_is_one_audience : watched 3 cards (audience 0 cards (7 ∷ []) ∷ [])
    ≡ audience 0 cards (3 ∷ 7 ∷ []) ∷ []
an_equal_view_is_one_audience = refl

a_size_is_another_view : watched 3 size (audience 0 cards (7 ∷ []) ∷ [])
    ≡ audience 0 cards (7 ∷ []) ∷ audience 1 size (3 ∷ []) ∷ []
a_size_is_another_view = refl

a_session_that_watches_another_view_moves : watched 7 title
    (audience 0 cards (3 ∷ 7 ∷ []) ∷ audience 1 title (8 ∷ []) ∷ [])
    ≡ audience 0 cards (3 ∷ []) ∷ audience 1 title (7 ∷ 8 ∷ []) ∷ []
a_session_that_watches_another_view_moves = refl

the_last_session_takes_its_audience_with_it : watched 7 title
    (audience 0 cards (7 ∷ []) ∷ audience 1 title (8 ∷ []) ∷ [])
    ≡ audience 1 title (7 ∷ 8 ∷ []) ∷ []
the_last_session_takes_its_audience_with_it = refl

a_new_audience_has_a_number_above_those_that_were : watched 7 size
    (audience 0 cards (8 ∷ []) ∷ audience 1 title (7 ∷ []) ∷ [])
    ≡ audience 0 cards (8 ∷ []) ∷ audience 2 size (7 ∷ []) ∷ []
a_new_audience_has_a_number_above_those_that_were = refl

who_watches_the_view_already_stays : watched 7 cards (audience 0 cards (7 ∷ []) ∷ [])
    ≡ audience 0 cards (7 ∷ []) ∷ []
who_watches_the_view_already_stays = refl

one_of_two_leaves : without 7 (audience 0 cards (3 ∷ 7 ∷ []) ∷ audience 1 title (8 ∷ []) ∷ [])
    ≡ audience 0 cards (3 ∷ []) ∷ audience 1 title (8 ∷ []) ∷ []
one_of_two_leaves = refl

the_last_one_leaves : without 8 (audience 0 cards (3 ∷ 7 ∷ []) ∷ audience 1 title (8 ∷ []) ∷ [])
    ≡ audience 0 cards (3 ∷ 7 ∷ []) ∷ []
the_last_one_leaves = refl

the_view_of_a_session : view_of 8 (audience 0 cards (3 ∷ []) ∷ audience 1 title (8 ∷ []) ∷ [])
    ≡ Some title
the_view_of_a_session = refl

nobody_s_view : view_of 9 (audience 0 cards (3 ∷ []) ∷ audience 1 title (8 ∷ []) ∷ []) ≡ None
nobody_s_view = refl

abbrev three : List Audience
three = audience 0 cards (3 ∷ 7 ∷ []) ∷ audience 2 title (8 ∷ []) ∷ audience 5 size (1 ∷ []) ∷ []

the_next_number_is_above_all : next_number three ≡ 6
the_next_number_is_above_all = refl

-- an element that is replaced does not touch the size
an_exchange_touches_the_value :
    numbers_touched (change.Set (codes "cards" ∷ codes "0" ∷ []) null ∷ []) three ≡ 0 ∷ []
unfolding index_of
an_exchange_touches_the_value = refl

an_addition_touches_the_size_too :
    numbers_touched (change.AddItem (codes "cards" ∷ codes "0" ∷ []) null ∷ []) three
    ≡ 0 ∷ 5 ∷ []
unfolding index_of
an_addition_touches_the_size_too = refl

all_are_touched_in_order :
    numbers_touched (change.Set (codes "title" ∷ []) null
    ∷ change.AddItem (codes "cards" ∷ codes "0" ∷ []) null ∷ []) three ≡ 0 ∷ 2 ∷ 5 ∷ []
unfolding index_of
all_are_touched_in_order = refl

no_such_audience_has_no_slots : slots_at three 1 ≡ []
no_such_audience_has_no_slots = refl
