-- The law of rows that go: after a change the same is kept without those that it replaces.
use Rattle.std.proofs.Common.{◌≡◌, ◌∙◌, ◌≤◌, ℕ, Bool, true, false, not, max, bytes_eq, nat_eq}
use Rattle.std.proofs.Common.{nat_le, List, [], ◌∷◌, ◌++◌, map, filter, ap, sym, subst, refl}
use Rattle.std.proofs.Common.{append-nil, arith, if◌then◌else◌, true≢false, inl, inr}
use Rattle.std.proofs.lemmas.Bool.Decides.{leb_tells, Decides-eqb}
use Rattle.std.proofs.lemmas.List.Elements.{filter-append}
use Rattle.std.proofs.lemmas.Slice.Eq.{bytes_eq-Decides}
use Rattle.std.specs.List.{AllByRecursion}
use Rattle.relay_store.specs.declared.change.Change.{Change}
use Rattle.relay_store.specs.declared.change.Change.TheVariants.{Begin, Edit, End, RaiseFloor}
use Rattle.relay_store.specs.declared.change.Change.TheVariants.{LeaveWill, DropWill}
use Rattle.relay_store.specs.Kept.{Kept, Room, Will, Patch, changed, committed, edited}
use Rattle.relay_store.specs.Kept.{without_room, without_will}
use Rattle.relay_store.specs.Replaced.{is_of_room, is_floor_up_to, is_of_session, is_replaced}
use Rattle.relay_store.proofs.Filters.{filter_twice, filter_between, filter-map, map-filter}

with_rooms : (kept : Kept) (a b : List Room) → a ≡ b
    → record kept { rooms = a } ≡ record kept { rooms = b }
with_rooms kept a b same = ap (λ (rooms : List Room). record kept { rooms = rooms }) same

with_wills : (kept : Kept) (a b : List Will) → a ≡ b
    → record kept { wills = a } ≡ record kept { wills = b }
with_wills kept a b same = ap (λ (wills : List Will). record kept { wills = wills }) same

with_floor : (kept : Kept) (a b : ℕ) → a ≡ b
    → record kept { floor = a } ≡ record kept { floor = b }
with_floor kept a b same = ap (λ (floor : ℕ). record kept { floor = floor }) same

abbrev is_other : List ℕ → Room → Bool
is_other name room = not (bytes_eq name room.name)

abbrev is_others : ℕ → Will → Bool
is_others session will = not (nat_eq session will.session)

abbrev edit_of : List ℕ → Patch → Room → Room
edit_of name patch room = if bytes_eq name room.name then edited patch room else room

name_stays : (name : List ℕ) (patch : Patch) (room : Room)
    → (edit_of name patch room).name ≡ room.name
name_stays name patch room = go (bytes_eq name room.name)
  where
    go : (b : Bool) → (if b then edited patch room else room).name ≡ room.name
    go true = refl
    go false = refl

other_stays : (name other : List ℕ) (patch : Patch) (room : Room)
    → is_other name (edit_of other patch room) ≡ is_other name room
other_stays name other patch room =
    ap (λ n. not (bytes_eq name n)) (name_stays other patch room)

other_unedited : (name : List ℕ) (patch : Patch) (room : Room) → is_other name room ≡ true
    → edit_of name patch room ≡ room
other_unedited name patch room = go (bytes_eq name room.name)
  where
    go : (b : Bool) → not b ≡ true → (if b then edited patch room else room) ≡ room
    go true is = absurd (true≢false (sym is))
    go false is = refl

-- what is kept but for one room
abbrev off : List ℕ → Kept → Kept
off name kept = record kept { rooms = without_room name kept.rooms }

off_changed : (name : List ℕ) (kept : Kept) (change : Change (List ℕ))
    → off name (changed kept change) ≡ off name (changed (off name kept) change)
off_changed name kept (Begin room revision text) =
    let new : Room = record { name = room; begins = revision; snapshot = text; edits = [] } in
    let p = is_other name in
    let left = without_room room kept.rooms in
    with_rooms kept _ _ (filter-append p left (new ∷ [])
    ∙ ap (λ rooms. rooms ++ filter p (new ∷ [])) (sym (filter_between p (is_other room) kept.rooms))
    ∙ sym (filter-append p (without_room room (without_room name kept.rooms)) (new ∷ [])))
off_changed name kept (Edit room revision text) =
    let patch : Patch = record { revision = revision; text = text } in
    let p = is_other name in
    let f = edit_of room patch in
    let same = other_stays name room patch in
    with_rooms kept _ _ (filter-map p f same kept.rooms
    ∙ ap (map f) (sym (filter_twice p kept.rooms))
    ∙ sym (filter-map p f same (without_room name kept.rooms)))
off_changed name kept (End room) =
    with_rooms kept _ _ (sym (filter_between (is_other name) (is_other room) kept.rooms))
off_changed name kept (RaiseFloor floor) =
    with_rooms (changed kept (RaiseFloor floor)) _ _ (sym (filter_twice (is_other name) kept.rooms))
off_changed name kept (LeaveWill session room text) =
    with_rooms (changed kept (LeaveWill session room text)) _ _
    (sym (filter_twice (is_other name) kept.rooms))
off_changed name kept (DropWill session) =
    with_rooms (changed kept (DropWill session)) _ _
    (sym (filter_twice (is_other name) kept.rooms))

begin_lost : (name : List ℕ) (revision : ℕ) (text : List ℕ) (kept : Kept)
    → off name (changed kept (Begin name revision text)) ≡ off name kept
begin_lost name revision text kept =
    let new : Room = record { name = name; begins = revision; snapshot = text; edits = [] } in
    let p = is_other name in
    let left = without_room name kept.rooms in
    with_rooms kept _ _ (filter-append p left (new ∷ [])
    ∙ ap (λ b. filter p left ++ (if not b then new ∷ [] else []))
    ((bytes_eq-Decides name name).1 refl)
    ∙ append-nil (filter p left) ∙ filter_twice p kept.rooms)

edit_lost : (name : List ℕ) (revision : ℕ) (text : List ℕ) (kept : Kept)
    → off name (changed kept (Edit name revision text)) ≡ off name kept
edit_lost name revision text kept =
    let patch : Patch = record { revision = revision; text = text } in
    let p = is_other name in
    let f = edit_of name patch in
    with_rooms kept _ _ (filter-map p f (other_stays name name patch) kept.rooms
    ∙ map-filter p f (other_unedited name patch) kept.rooms)

-- a change of that room makes no difference to the others
off_lost : (name : List ℕ) (change : Change (List ℕ)) → is_of_room name change ≡ true
    → (kept : Kept) → off name (changed kept change) ≡ off name kept
off_lost name (Begin room revision text) is kept =
    subst (λ n. off name (changed kept (Begin n revision text)) ≡ off name kept)
    ((bytes_eq-Decides name room).0 is) (begin_lost name revision text kept)
off_lost name (Edit room revision text) is kept =
    subst (λ n. off name (changed kept (Edit n revision text)) ≡ off name kept)
    ((bytes_eq-Decides name room).0 is) (edit_lost name revision text kept)
off_lost name (End room) is kept =
    subst (λ n. off name (changed kept (End n)) ≡ off name kept)
    ((bytes_eq-Decides name room).0 is)
    (with_rooms kept _ _ (filter_twice (is_other name) kept.rooms))
off_lost name (RaiseFloor floor) is kept = absurd (true≢false (sym is))
off_lost name (LeaveWill session room text) is kept = absurd (true≢false (sym is))
off_lost name (DropWill session) is kept = absurd (true≢false (sym is))

-- what is kept but for one session's will
abbrev off_will : ℕ → Kept → Kept
off_will session kept = record kept { wills = without_will session kept.wills }

twice_will : (session : ℕ) (kept new : Kept) → new.wills ≡ kept.wills
    → record new { wills = without_will session kept.wills }
    ≡ record new { wills = without_will session (without_will session kept.wills) }
twice_will session kept new same =
    with_wills new _ _ (sym (filter_twice (is_others session) kept.wills))

off_will_changed : (session : ℕ) (kept : Kept) (change : Change (List ℕ))
    → off_will session (changed kept change)
    ≡ off_will session (changed (off_will session kept) change)
off_will_changed session kept (Begin room revision text) =
    twice_will session kept (changed kept (Begin room revision text)) refl
off_will_changed session kept (Edit room revision text) =
    twice_will session kept (changed kept (Edit room revision text)) refl
off_will_changed session kept (End room) =
    twice_will session kept (changed kept (End room)) refl
off_will_changed session kept (RaiseFloor floor) =
    twice_will session kept (changed kept (RaiseFloor floor)) refl
off_will_changed session kept (LeaveWill other room text) =
    let new : Will = record { session = other; room = room; text = text } in
    let p = is_others session in
    let left = without_will other kept.wills in
    with_wills kept _ _ (filter-append p left (new ∷ [])
    ∙ ap (λ wills. wills ++ filter p (new ∷ []))
    (sym (filter_between p (is_others other) kept.wills))
    ∙ sym (filter-append p (without_will other (without_will session kept.wills)) (new ∷ [])))
off_will_changed session kept (DropWill other) =
    with_wills kept _ _ (sym (filter_between (is_others session) (is_others other) kept.wills))

leave_lost : (session : ℕ) (room text : List ℕ) (kept : Kept)
    → off_will session (changed kept (LeaveWill session room text)) ≡ off_will session kept
leave_lost session room text kept =
    let new : Will = record { session = session; room = room; text = text } in
    let p = is_others session in
    let left = without_will session kept.wills in
    with_wills kept _ _ (filter-append p left (new ∷ [])
    ∙ ap (λ b. filter p left ++ (if not b then new ∷ [] else []))
    ((Decides-eqb session session).1 refl)
    ∙ append-nil (filter p left) ∙ filter_twice p kept.wills)

-- a change of that session's will makes no difference to the others
off_will_lost : (session : ℕ) (change : Change (List ℕ)) → is_of_session session change ≡ true
    → (kept : Kept) → off_will session (changed kept change) ≡ off_will session kept
off_will_lost session (LeaveWill other room text) is kept =
    subst (λ n. off_will session (changed kept (LeaveWill n room text)) ≡ off_will session kept)
    ((Decides-eqb session other).0 is) (leave_lost session room text kept)
off_will_lost session (DropWill other) is kept =
    subst (λ n. off_will session (changed kept (DropWill n)) ≡ off_will session kept)
    ((Decides-eqb session other).0 is)
    (with_wills kept _ _ (filter_twice (is_others session) kept.wills))
off_will_lost session (Begin room revision text) is kept = absurd (true≢false (sym is))
off_will_lost session (Edit room revision text) is kept = absurd (true≢false (sym is))
off_will_lost session (End room) is kept = absurd (true≢false (sym is))
off_will_lost session (RaiseFloor floor) is kept = absurd (true≢false (sym is))

-- what is kept with the floor at least there
abbrev raised : ℕ → Kept → Kept
raised floor kept = record kept { floor = max kept.floor floor }

max_again : (a b : ℕ) → max a b ≡ max (max a b) b
max_again a b = omega arith

max_between : (a b c : ℕ) → max (max a c) b ≡ max (max (max a b) c) b
max_between a b c = omega arith

max_lost : (a b c : ℕ) → c ≤ b → max (max a c) b ≡ max a b
max_lost a b c low = omega (arith, low)

raised_changed : (floor : ℕ) (kept : Kept) (change : Change (List ℕ))
    → raised floor (changed kept change) ≡ raised floor (changed (raised floor kept) change)
raised_changed floor kept (Begin room revision text) =
    with_floor (changed kept (Begin room revision text)) _ _ (max_again kept.floor floor)
raised_changed floor kept (Edit room revision text) =
    with_floor (changed kept (Edit room revision text)) _ _ (max_again kept.floor floor)
raised_changed floor kept (End room) =
    with_floor (changed kept (End room)) _ _ (max_again kept.floor floor)
raised_changed floor kept (RaiseFloor other) =
    with_floor kept _ _ (max_between kept.floor floor other)
raised_changed floor kept (LeaveWill session room text) =
    with_floor (changed kept (LeaveWill session room text)) _ _ (max_again kept.floor floor)
raised_changed floor kept (DropWill session) =
    with_floor (changed kept (DropWill session)) _ _ (max_again kept.floor floor)

at_most : (a b : ℕ) → nat_le a b ≡ true → a ≤ b
at_most a b is = elim (leb_tells a b) [
  | inl low ↦ low.1
  | inr high ↦ absurd (true≢false (sym is ∙ high.0))
]

-- a floor that is no higher makes no difference
raised_lost : (floor : ℕ) (change : Change (List ℕ)) → is_floor_up_to floor change ≡ true
    → (kept : Kept) → raised floor (changed kept change) ≡ raised floor kept
raised_lost floor (RaiseFloor other) is kept =
    with_floor kept _ _ (max_lost kept.floor floor other (at_most other floor is))
raised_lost floor (Begin room revision text) is kept = absurd (true≢false (sym is))
raised_lost floor (Edit room revision text) is kept = absurd (true≢false (sym is))
raised_lost floor (End room) is kept = absurd (true≢false (sym is))
raised_lost floor (LeaveWill session room text) is kept = absurd (true≢false (sym is))
raised_lost floor (DropWill session) is kept = absurd (true≢false (sym is))

module _ (rest : Kept → Kept) (steady : (kept : Kept) (change : Change (List ℕ))
    → rest (changed kept change) ≡ rest (changed (rest kept) change)) where
  next : (a b : Kept) (change : Change (List ℕ)) → rest a ≡ rest b
      → rest (changed a change) ≡ rest (changed b change)
  next a b change same =
      steady a change ∙ ap (λ kept. rest (changed kept change)) same ∙ sym (steady b change)

  -- changes that make no difference to the rest may go
  same_rest : {T : Type 0} (text : T → Change (List ℕ)) (gone : T → Bool) (P : T → Type 0)
      → ((r : T) → P r → (kept : Kept) → rest (changed kept (text r)) ≡ rest kept)
      → (rows : List T) (a b : Kept) → rest a ≡ rest b → AllByRecursion P (filter gone rows)
      → rest (committed a (map text (filter (λ r. not (gone r)) rows)))
      ≡ rest (committed b (map text rows))
  same_rest text gone P lost [] a b same all = same
  same_rest text gone P lost (r ∷ rows) a b same all =
      go (gone r) (same_rest text gone P lost rows) all
    where
      go : (g : Bool) → ((a b : Kept) → rest a ≡ rest b → AllByRecursion P (filter gone rows)
          → rest (committed a (map text (filter (λ x. not (gone x)) rows)))
          ≡ rest (committed b (map text rows)))
          → AllByRecursion P (if g then r ∷ filter gone rows else filter gone rows)
          → rest (committed a (map text (if not g then r ∷ filter (λ x. not (gone x)) rows
          else filter (λ x. not (gone x)) rows)))
          ≡ rest (committed (changed b (text r)) (map text rows))
      go true more all = more a (changed b (text r)) (same ∙ sym (lost r all.0 b)) all.1
      go false more all =
          more (changed a (text r)) (changed b (text r)) (next a b (text r) same) all

-- what is kept after a change is the same without rows that it replaces
pub same_without : {T : Type 0} (text : T → Change (List ℕ)) (gone : T → Bool)
    (later : Change (List ℕ)) (rows : List T) (start : Kept)
    → AllByRecursion (λ r. is_replaced later (text r) ≡ true) (filter gone rows)
    → changed (committed start (map text (filter (λ r. not (gone r)) rows))) later
    ≡ changed (committed start (map text rows)) later
same_without text gone (Begin name revision snapshot) rows start all =
    let new : Room = record { name = name; begins = revision; snapshot = snapshot; edits = [] } in
    ap (λ (kept : Kept). record kept { rooms = kept.rooms ++ new ∷ [] })
    (same_rest (off name) (off_changed name) text gone _ (λ r is. off_lost name (text r) is) rows
    start start refl all)
same_without text gone (Edit name revision patch) rows start all =
    ap (λ (kept : Kept). changed kept (Edit name revision patch))
    (same_rest (λ kept. kept) (λ kept change. refl) text gone
    (λ r. is_replaced (Edit name revision patch) (text r) ≡ true)
    (λ r is kept. absurd (true≢false (sym is))) rows start start refl all)
same_without text gone (End name) rows start all =
    same_rest (off name) (off_changed name) text gone _ (λ r is. off_lost name (text r) is) rows
    start start refl all
same_without text gone (RaiseFloor floor) rows start all =
    same_rest (raised floor) (raised_changed floor) text gone _
    (λ r is. raised_lost floor (text r) is) rows start start refl all
same_without text gone (LeaveWill session room text_) rows start all =
    let new : Will = record { session = session; room = room; text = text_ } in
    ap (λ (kept : Kept). record kept { wills = kept.wills ++ new ∷ [] })
    (same_rest (off_will session) (off_will_changed session) text gone _
    (λ r is. off_will_lost session (text r) is) rows start start refl all)
same_without text gone (DropWill session) rows start all =
    same_rest (off_will session) (off_will_changed session) text gone _
    (λ r is. off_will_lost session (text r) is) rows start start refl all
