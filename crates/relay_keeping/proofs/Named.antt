-- The room of a name among those that are kept, after a change.
use Rattle.std.proofs.Common.{◌≡◌, ◌∙◌, ℕ, Bool, true, false, not, bytes_eq, List, []}
use Rattle.std.proofs.Common.{◌∷◌, map, filter, find, Option, Some, None, ap, sym, refl}
use Rattle.std.proofs.Common.{if◌then◌else◌, true≢false}
use Rattle.std.proofs.lemmas.List.Folds.{find-append}
use Rattle.std.proofs.lemmas.Slice.Eq.{bytes_eq-Decides}
use Rattle.std.specs.Option.{option_map, option_or}
use Rattle.relay_hub.proofs.Rooms.{by_name}
use Rattle.relay_store.specs.declared.change.Change.{Change}
use Rattle.relay_store.specs.declared.change.Change.TheVariants.{Begin, Edit, End, RaiseFloor}
use Rattle.relay_store.specs.declared.change.Change.TheVariants.{LeaveWill, DropWill}
use Rattle.relay_store.specs.Kept.{Kept, Patch, Room, changed, edited, with_edit, without_room}
use Rattle.relay_keeping.specs.Clients.{patch_of, record_of}
use Rattle.relay_keeping.specs.Mirrored.{kept_named}

-- The first element that passes a test.

module _ {X : Type 0} (p : X → Bool) where
  -- it stays in a list of which only others are left out
  find-filter_kept : (q : X → Bool) → ((x : X) → p x ≡ true → q x ≡ true)
      → (xs : List X) → find p (filter q xs) ≡ find p xs
  find-filter_kept q keeps [] = refl
  find-filter_kept q keeps (x ∷ xs) =
      go (p x) (q x) refl (keeps x) (find-filter_kept q keeps xs)
    where
      go : (a b : Bool) → p x ≡ a → (a ≡ true → b ≡ true) → find p (filter q xs) ≡ find p xs
          → find p (if b then x ∷ filter q xs else filter q xs)
          ≡ (if a then Some x else find p xs)
      go a true is keep rest = ap (λ a. if a then Some x else find p (filter q xs)) is
          ∙ ap (λ o. if a then Some x else o) rest
      go true false is keep rest = absurd (true≢false (sym (keep refl)))
      go false false is keep rest = rest

  -- none is in a list of which all that pass are left out
  find-filter_lost : (q : X → Bool) → ((x : X) → p x ≡ true → q x ≡ false)
      → (xs : List X) → find p (filter q xs) ≡ None
  find-filter_lost q drops [] = refl
  find-filter_lost q drops (x ∷ xs) =
      go (p x) (q x) refl (drops x) (find-filter_lost q drops xs)
    where
      go : (a b : Bool) → p x ≡ a → (a ≡ true → b ≡ false) → find p (filter q xs) ≡ None
          → find p (if b then x ∷ filter q xs else filter q xs) ≡ None
      go true true is drop rest = absurd (true≢false (drop refl))
      go false true is drop rest = ap (λ a. if a then Some x else find p (filter q xs)) is ∙ rest
      go a false is drop rest = rest

  -- a map that the test does not see
  find-map : (f : X → X) → ((x : X) → p (f x) ≡ p x) → (xs : List X)
      → find p (map f xs) ≡ option_map f (find p xs)
  find-map f same [] = refl
  find-map f same (x ∷ xs) =
      ap (λ a. if a then Some (f x) else find p (map f xs)) (same x)
      ∙ go (p x) (find-map f same xs)
    where
      go : (a : Bool) → find p (map f xs) ≡ option_map f (find p xs)
          → (if a then Some (f x) else find p (map f xs))
          ≡ option_map f (if a then Some x else find p xs)
      go true rest = refl
      go false rest = rest

  -- a map that is another one for all that pass
  found_alike : (f g : X → X) → ((x : X) → p x ≡ true → f x ≡ g x) → (xs : List X)
      → option_map f (find p xs) ≡ option_map g (find p xs)
  found_alike f g same [] = refl
  found_alike f g same (x ∷ xs) = go (p x) (same x) (found_alike f g same xs)
    where
      go : (a : Bool) → (a ≡ true → f x ≡ g x)
          → option_map f (find p xs) ≡ option_map g (find p xs)
          → option_map f (if a then Some x else find p xs)
          ≡ option_map g (if a then Some x else find p xs)
      go true here rest = ap Some (here refl)
      go false here rest = rest

-- The rooms that are kept.

-- the room of a name after a change, if it was this one before
abbrev pub room_after : List ℕ → Change (List ℕ) → Option Room → Option Room
room_after name (Begin room revision text) was =
    if bytes_eq room name then Some (record_of room revision text) else was
room_after name (Edit room revision text) was =
    if bytes_eq room name then option_map (edited (patch_of revision text)) was else was
room_after name (End room) was = if bytes_eq room name then None else was
room_after name (RaiseFloor revision) was = was
room_after name (LeaveWill session room text) was = was
room_after name (DropWill session) was = was

named_without : (name other : List ℕ) (rooms : List Room)
    → kept_named name (without_room other rooms)
    ≡ (if bytes_eq other name then None else kept_named name rooms)
named_without name other rooms = by_name (λ b. kept_named name (without_room other rooms)
    ≡ (if b then None else kept_named name rooms)) other name
    (λ same. find-filter_lost (λ room. bytes_eq name room.name) _
    (λ room is. ap not ((bytes_eq-Decides other room.name).1
    (same ∙ (bytes_eq-Decides name room.name).0 is))) rooms)
    (λ apart. find-filter_kept (λ room. bytes_eq name room.name) _
    (λ room is. by_name (λ b. not b ≡ true) other room.name
    (λ same. absurd (apart (same ∙ sym ((bytes_eq-Decides name room.name).0 is))))
    (λ differ. refl)) rooms)

named_edit : (name other : List ℕ) (patch : Patch) (rooms : List Room)
    → kept_named name (with_edit other patch rooms)
    ≡ (if bytes_eq other name then option_map (edited patch) (kept_named name rooms)
    else kept_named name rooms)
named_edit name other patch rooms = find-map p edits same rooms ∙ by_name (λ b.
    option_map edits (kept_named name rooms)
    ≡ (if b then option_map (edited patch) (kept_named name rooms)
    else kept_named name rooms)) other name
    (λ here. found_alike p edits (edited patch) (λ room is.
    ap (λ b. if b then edited patch room else room)
    ((bytes_eq-Decides other room.name).1 (here ∙ (bytes_eq-Decides name room.name).0 is))) rooms)
    (λ apart. found_alike p edits (λ room. room) (λ room is.
    by_name (λ b. (if b then edited patch room else room) ≡ room) other room.name
    (λ same. absurd (apart (same ∙ sym ((bytes_eq-Decides name room.name).0 is))))
    (λ differ. refl)) rooms ∙ all (kept_named name rooms))
  where
    p : Room → Bool
    p room = bytes_eq name room.name

    edits : Room → Room
    edits room = if bytes_eq other room.name then edited patch room else room

    same : (room : Room) → p (edits room) ≡ p room
    same room = go (bytes_eq other room.name)
      where
        go : (b : Bool) → p (if b then edited patch room else room) ≡ p room
        go true = refl
        go false = refl

    all : (o : Option Room) → option_map (λ room. room) o ≡ o
    all None = refl
    all (Some room) = refl

pub named_after : (name : List ℕ) (kept : Kept) (change : Change (List ℕ))
    → kept_named name (changed kept change).rooms
    ≡ room_after name change (kept_named name kept.rooms)
named_after name kept (Begin room revision text) =
    find-append (λ room. bytes_eq name room.name) (without_room room kept.rooms)
    (record_of room revision text ∷ [])
    ∙ ap (λ o. option_or o (if bytes_eq name room then Some (record_of room revision text)
    else None)) (named_without name room kept.rooms)
    ∙ by_name (λ b. option_or (if b then None else kept_named name kept.rooms)
    (if bytes_eq name room then Some (record_of room revision text) else None)
    ≡ (if b then Some (record_of room revision text) else kept_named name kept.rooms)) room name
    (λ same. ap (λ b. if b then Some (record_of room revision text) else None)
    ((bytes_eq-Decides name room).1 (sym same)))
    (λ apart. by_name (λ b. option_or (kept_named name kept.rooms)
    (if b then Some (record_of room revision text) else None) ≡ kept_named name kept.rooms)
    name room (λ same. absurd (apart (sym same)))
    (λ differ. nothing_more (kept_named name kept.rooms)))
  where
    nothing_more : (o : Option Room) → option_or o None ≡ o
    nothing_more None = refl
    nothing_more (Some room) = refl
named_after name kept (Edit room revision text) =
    named_edit name room (patch_of revision text) kept.rooms
named_after name kept (End room) = named_without name room kept.rooms
named_after name kept (RaiseFloor revision) = refl
named_after name kept (LeaveWill session room text) = refl
named_after name kept (DropWill session) = refl
