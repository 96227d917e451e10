-- The sessions that watch each pointer, and the pointers that lie near a change.
use Rattle.std.specs.Prelude.{◌≡◌, ℕ, nat_eq, zero, suc, ◌==◌, ◌≤◌, List, [], ◌∷◌, length, take}
use Rattle.std.specs.Prelude.{String, Bool, true, false, not, ◌&&◌, ◌||◌, ◌⊎◌, Option}
use Rattle.std.specs.List.{All, list_any}
use Rattle.std.specs.Option.{option_map_or}
use Rattle.std.specs.Ordering.{nat_cmp}
use Rattle.std.specs.FinMap as map
use Rattle.std.specs.Global.{Vec, Global}
use Rattle.std.specs.Map.{lookup, values_of}
use Rattle.std.specs.BTreeMap.{BTreeMap}
use Rattle.std.specs.BTreeSet.{BTreeSet, contains}
use Rattle.relay_pointer.specs.Path.{Path, path_of, same_path, is_prefix}
use Rattle.relay_patch.specs.Place.{parent}
use Rattle.relay_patch.specs.declared.change.Change.{Change}
use Rattle.relay_view.specs.View.{View}
use Rattle.relay_view.specs.declared.slot.Slot.{Slot}
use Rattle.relay_view.specs.declared.slot.SlotKind.{SlotKind}
use Rattle.relay_view.specs.declared.slot.SlotKind.TheVariants.{Value, Size}
use Rattle.relay_translate.specs.declared.watchers.Watchers.{Watchers}
use Rattle.relay_translate.specs.Watches.{Watches, slots_of, touches}

-- the watchers of each pointer that some session watches
abbrev pub SlotIndex : Type 0
SlotIndex = BTreeMap (Vec (String Global)) Watchers

abbrev pub same_kind : SlotKind → SlotKind → Bool
same_kind Value Value = true
same_kind Size Size = true
same_kind _ _ = false

abbrev pub same_slot : Slot → Slot → Bool
same_slot v u = same_path v.pointer u.pointer && same_kind v.kind u.kind

-- the sessions with a slot of the kind
abbrev pub of_kind : SlotKind → Watchers → BTreeSet ℕ
of_kind Value w = w.values
of_kind Size w = w.sizes

-- the session has a slot of the kind
abbrev pub watches_by : SlotKind → ℕ → Watchers → Bool
watches_by kind session w = contains nat_cmp (of_kind kind w) session

-- some session watches by these watchers
abbrev pub IsWatched : Watchers → Type 0
IsWatched w = (kind : SlotKind) × (session : ℕ) × (watches_by kind session w ≡ true)

-- each pointer of the index has a watcher
abbrev pub EachIsWatched : SlotIndex → Type 0
EachIsWatched index = All IsWatched (values_of index.entries)

-- the watchers of the path, if there are any
abbrev pub watchers_at : SlotIndex → Path → Option Watchers
watchers_at index path = lookup (λ key. same_path (path_of key.items) path) index.entries

-- the session has the slot, by the index
abbrev pub stands : SlotIndex → Slot → ℕ → Bool
stands index v session =
    option_map_or (watches_by v.kind session) (watchers_at index v.pointer) false

-- the new index has the slots of the old one and, for the session, these
abbrev pub Joins : SlotIndex → SlotIndex → ℕ → List Slot → Type 0
Joins old new session slots = (v : Slot) (s : ℕ)
    → stands new v s ≡ (stands old v s || ((s == session) && list_any (same_slot v) slots))

-- the new index has the slots of the old one but, for the session, those of these that are not kept
abbrev pub Leaves : SlotIndex → SlotIndex → ℕ → List Slot → List Slot → Type 0
Leaves old new session slots kept =
    (v : Slot) (s : ℕ)
    → stands new v s
    ≡ (stands old v s
    && not ((s == session)
    && (list_any (same_slot v) slots && not (list_any (same_slot v) kept))))

-- the same slots stand in both
abbrev pub IsSameIndex : SlotIndex → SlotIndex → Type 0
IsSameIndex old new = (v : Slot) (s : ℕ) → stands new v s ≡ stands old v s

-- the views of a map, by session
abbrev pub watches_of : BTreeMap ℕ View → Watches
watches_of views = map.from_entries views.entries

-- the invariant of an index: the slots of each session are those of its view
abbrev pub IsIndex : SlotIndex → Watches → Type 0
IsIndex index watches = (v : Slot) (session : ℕ)
    → stands index v session ≡ list_any (same_slot v) (slots_of (map.get watches session))

-- no pointer that some session watches has more tokens
abbrev pub IsWithin : ℕ → SlotIndex → Type 0
IsWithin deepest index = (v : Slot) (session : ℕ) → stands index v session ≡ true
    → length v.pointer ≤ deepest

-- no slot of the list has a pointer with more tokens
abbrev pub AreWithin : ℕ → List Slot → Type 0
AreWithin deepest slots = (v : Slot) → list_any (same_slot v) slots ≡ true
    → length v.pointer ≤ deepest

-- the path without its last token
abbrev pub container : Path → Path
container [] = []
container (t ∷ path) = parent t path

-- the path such that a change at the place touches only pointers that are a prefix of it or begin
-- with it: for an item its list, since the later elements move
abbrev pub scope : Bool → Path → Path
scope true path = container path
scope false path = path

-- the pointer q is one of the n shortest prefixes of the path; the shortest is the empty path
abbrev pub is_above : ℕ → Path → Path → Bool
is_above zero path q = false
is_above (suc n) path q = is_above n path q || same_path (take n path) q

-- the pointer q is a proper prefix of the path, or begins with the path
abbrev pub is_near : Path → Path → Bool
is_near path q = is_above (length path) path q || is_prefix path q

abbrev pub slot_of : Path → SlotKind → Slot
slot_of path kind = record { pointer = path; kind = kind }

-- the session has a slot at the path that the change touches, by the path's watchers
abbrev pub tells : Change → Path → ℕ → Watchers → Bool
tells c path session w =
    (watches_by Value session w && touches c (slot_of path Value))
    || (watches_by Size session w && touches c (slot_of path Size))

-- the session is in the list
abbrev pub named : List ℕ → ℕ → Bool
named sessions session = list_any (nat_eq session) sessions

-- The new list has the sessions of the old one and others with a slot that the change touches, and
-- among them each with such a slot at a pointer that passes the test.
pub record Gains (test : Path → Bool) (c : Change) (index : SlotIndex)
    (old new : List ℕ) : Type 0 where
  pub kept : (session : ℕ) → named old session ≡ true → named new session ≡ true
  pub found : (v : Slot) (session : ℕ) → stands index v session ≡ true → touches c v ≡ true
      → test v.pointer ≡ true → named new session ≡ true
  pub only : (session : ℕ) → named new session ≡ true
      → (named old session ≡ true)
      ⊎ ((v : Slot) × (stands index v session ≡ true) × (touches c v ≡ true))

-- the list has exactly the sessions with a slot that passes the test
pub record Found (test : Slot → Bool) (index : SlotIndex) (sessions : List ℕ) : Type 0 where
  pub found : (v : Slot) (session : ℕ) → stands index v session ≡ true → test v ≡ true
      → named sessions session ≡ true
  pub only : (session : ℕ) → named sessions session ≡ true
      → (v : Slot) × (stands index v session ≡ true) × (test v ≡ true)
