-- The rooms that are seen, and the sums over them.
use Rattle.std.proofs.Common.{◌≡◌, ◌<◌, ◌≤◌, ◌+◌, ◌-◌, ◌^◌, ℕ, zero, suc, List, [], ◌∷◌, length}
use Rattle.std.proofs.Common.{take, drop, slice_get, sum_by, Option, Some, None, option_map, inl}
use Rattle.std.proofs.Common.{inr, refl, sym, ap, ◌∙◌, arith, add-one}
use Rattle.std.proofs.lemmas.List.{take_all, length-take, length-map}
use Rattle.std.proofs.lemmas.List.Sums.{sum_by_more}
use Rattle.std.proofs.lemmas.Option.{slice_get-map, slice_get_within, slice_get_cases}
use Rattle.std.proofs.lemmas.Option.{get_or_from_slice_get}
use Rattle.std.proofs.Math.Seq.{drop-cons}
use Rattle.relay_hub.specs.State.{State}
use Rattle.relay_hub.specs.Summary.{Summary, summary_of, shown_by}
use Rattle.relay_hub.specs.declared.summary.RoomSummary.{RoomSummary}
use Rattle.relay_tree.specs.Document.{saturated}
use Rattle.relay_operator.specs.Numbers.{rooms_seen, sum_over, totals_of, with_room}
use Rattle.relay_operator.specs.declared.admin_view.Totals.{Totals}

slice_get-take : {A : Type 0} (xs : List A) (n i : ℕ) → i < n
    → slice_get (take n xs) i ≡ slice_get xs i
slice_get-take xs zero i within = absurd (omega arith)
slice_get-take [] (suc n) i within = refl
slice_get-take (x ∷ xs) (suc n) zero within = refl
slice_get-take (x ∷ xs) (suc n) (suc i) within = slice_get-take xs n i (omega arith)

-- what a hub shows at an index is what is seen there
seen_at : (hub : State) (index : ℕ) (found : Option RoomSummary) → index < 2 ^ 64 - 1
    → option_map shown_by found ≡ option_map summary_of (slice_get hub.rooms index)
    → slice_get (rooms_seen hub) index ≡ option_map shown_by found
seen_at hub index found within is =
    slice_get-map summary_of (take (2 ^ 64 - 1) hub.rooms) index
    ∙ ap (option_map summary_of) (slice_get-take hub.rooms (2 ^ 64 - 1) index within) ∙ sym is

-- no more rooms are seen than an index counts
pub few_seen : (hub : State) → length (rooms_seen hub) ≤ 2 ^ 64 - 1
few_seen hub =
    omega (
      arith,
      length-map (take (2 ^ 64 - 1) hub.rooms) summary_of,
      length-take (2 ^ 64 - 1) hub.rooms,
    )

-- where the hub shows a room, it is the one that is seen
pub room_seen : (hub : State) (index : ℕ) (found : Option RoomSummary) (room : RoomSummary)
    → index < 2 ^ 64 - 1
    → option_map shown_by found ≡ option_map summary_of (slice_get hub.rooms index)
    → found ≡ Some room → slice_get (rooms_seen hub) index ≡ Some (shown_by room)
room_seen hub index found room within shown is =
    seen_at hub index found within shown ∙ ap (option_map shown_by) is

-- where it shows none, all that are seen stand before
pub all_seen : (hub : State) (index : ℕ) (found : Option RoomSummary) → index < 2 ^ 64 - 1
    → option_map shown_by found ≡ option_map summary_of (slice_get hub.rooms index)
    → found ≡ None → length (rooms_seen hub) ≤ index
all_seen hub index found within shown none =
    elim (slice_get_cases (rooms_seen hub) index).1 [
      | inl there ↦ absurd (cc (seen_at hub index found within shown, none, there.2))
      | inr past ↦ past.0
    ]

-- the rooms from an index on, if there is one
pub drop_seen : (rooms : List Summary) (index : ℕ) (r : Summary) → slice_get rooms index ≡ Some r
    → drop index rooms ≡ r ∷ drop (index + 1) rooms
drop_seen rooms index r there =
    drop-cons rooms index r (slice_get_within rooms index r there)
    ∙ ap (λ x. x ∷ drop (suc index) rooms) (get_or_from_slice_get rooms index r r there)
    ∙ ap (λ n. r ∷ drop n rooms) (sym (add-one index))

saturated_more : (a b : ℕ) → saturated (a + b) ≡ saturated (saturated a + b)
saturated_more a b = omega arith

sum_next : (rooms : List Summary) (index : ℕ) (r : Summary) (number : Summary → ℕ)
    → slice_get rooms index ≡ Some r
    → sum_over (take (index + 1) rooms) number
    ≡ saturated (sum_over (take index rooms) number + number r)
sum_next rooms index r number there =
    ap saturated (sum_by_more number rooms index r (slice_get_within rooms index r there)
    ∙ ap (λ x. sum_by number (take index rooms) + number x)
    (get_or_from_slice_get rooms index r r there))
    ∙ saturated_more (sum_by number (take index rooms)) (number r)

length_next : (rooms : List Summary) (index : ℕ) (r : Summary) → slice_get rooms index ≡ Some r
    → saturated (length (take (index + 1) rooms))
    ≡ saturated (saturated (length (take index rooms)) + 1)
length_next rooms index r there =
    let within = slice_get_within rooms index r there in
    omega (arith, within, length-take (index + 1) rooms, length-take index rooms)

totals_by : ℕ → ℕ → ℕ → ℕ → Totals
totals_by rooms sessions weight history = record {
  rooms = rooms;
  sessions = sessions;
  weight = weight;
  history = history;
}

-- the totals with the room at an index
pub totals_next : (rooms : List Summary) (index : ℕ) (r : Summary)
    → slice_get rooms index ≡ Some r
    → totals_of (take (index + 1) rooms) ≡ with_room r (totals_of (take index rooms))
unfolding totals_by
totals_next rooms index r there =
    let a = length_next rooms index r there in
    let b = sum_next rooms index r (λ x. x.sessions) there in
    let c = sum_next rooms index r (λ x. x.weight) there in
    let d = sum_next rooms index r (λ x. x.history) there in
    cc

-- the totals once no room is left
pub totals_all : (rooms : List Summary) (index : ℕ) → length rooms ≤ index
    → totals_of (take index rooms) ≡ totals_of rooms
totals_all rooms index past = ap totals_of (take_all index rooms past)
