-- The slots that stand in an index, after one path's watchers changed.
use Rattle.std.proofs.Common.{◌≡◌, ℕ, ◌==◌, List, [], ◌∷◌, Option, Some, None, Bool, true, false}
use Rattle.std.proofs.Common.{not, ◌&&◌, ◌||◌, refl, sym, ap, ◌∙◌, String, Global}
use Rattle.std.specs.List.{list_any}
use Rattle.std.specs.Option.{option_map_or}
use Rattle.std.specs.Map.{lookup, set_value, remove_entry}
use Rattle.std.specs.BTreeMap.{insert_entry, is_at}
use Rattle.relay_pointer.specs.Path.{Path, path_of, same_path}
use Rattle.relay_pointer.proofs.Prefixes.{equal_paths, same_itself}
use Rattle.relay_view.specs.declared.slot.Slot.{Slot}
use Rattle.relay_view.specs.declared.slot.SlotKind.{SlotKind}
use Rattle.relay_view.specs.declared.slot.SlotKind.TheVariants.{Value, Size}
use Rattle.relay_translate.specs.declared.watchers.Watchers.{Watchers}
use Rattle.relay_translate.specs.SlotIndex.{SlotIndex, same_kind, same_slot, watches_by}
use Rattle.relay_translate.specs.SlotIndex.{watchers_at, stands, Joins, Leaves, IsSameIndex}
use Rattle.relay_translate.specs.SlotIndex.{slot_of}
use Rattle.relay_translate.proofs.Keys.{Key, against, at_tokens, written_other, written_same}
use Rattle.relay_translate.proofs.Keys.{removed_other, inserted_other}

-- the session has a slot of the kind among these watchers, if there are any
abbrev pub watches_in : Option Watchers → SlotKind → ℕ → Bool
watches_in o kind s = option_map_or (watches_by kind s) o false

-- only the watchers of one path changed
abbrev pub OthersKept : Path → SlotIndex → SlotIndex → Type 0
OthersKept path old new = (other : Path) → same_path path other ≡ false
    → watchers_at new other ≡ watchers_at old other

same_path-sym : (p q : Path) → same_path p q ≡ same_path q p
same_path-sym p q = go (same_path p q) (same_path q p) refl refl
  where
    go : (x y : Bool) → same_path p q ≡ x → same_path q p ≡ y → same_path p q ≡ same_path q p
    go true y e f = let same : p ≡ q = equal_paths p q e in rw same refl
    go false true e f = let same : q ≡ p = equal_paths q p f in rw same refl
    go false false e f = e ∙ sym f

module _ (u : Slot) (old new : SlotIndex) (others : OthersKept u.pointer old new) where
  pub joins_one : (session : ℕ)
      → ((kind : SlotKind) (s : ℕ)
      → watches_in (watchers_at new u.pointer) kind s
      ≡ (watches_in (watchers_at old u.pointer) kind s
      || (same_kind kind u.kind && (s == session)))) → Joins old new session (u ∷ [])
  joins_one session own v s = go (same_path u.pointer v.pointer) refl
    where
      both : (a b c : Bool) → (a || (b && c)) ≡ (a || (c && (b || false)))
      both true b c = refl
      both false true true = refl
      both false true false = refl
      both false false true = refl
      both false false false = refl

      neither : (a c : Bool) → a ≡ (a || (c && false))
      neither true c = refl
      neither false true = refl
      neither false false = refl

      go : (x : Bool) → same_path u.pointer v.pointer ≡ x
          → stands new v s
          ≡ (stands old v s
          || ((s == session)
          && ((same_path v.pointer u.pointer && same_kind v.kind u.kind) || false)))
      go true e =
          let same : u.pointer ≡ v.pointer = equal_paths u.pointer v.pointer e in
          rw (← same, same_itself u.pointer)
          (own v.kind s
          ∙ both (watches_in (watchers_at old u.pointer) v.kind s) (same_kind v.kind u.kind)
          (s == session))
      go false e =
          rw (same_path-sym v.pointer u.pointer, e, others v.pointer e)
          (neither (stands old v s) (s == session))

  pub leaves_one : (session : ℕ)
      → ((kind : SlotKind) (s : ℕ)
      → watches_in (watchers_at new u.pointer) kind s
      ≡ (watches_in (watchers_at old u.pointer) kind s
      && not (same_kind kind u.kind && (s == session)))) → Leaves old new session (u ∷ []) []
  leaves_one session own v s = go (same_path u.pointer v.pointer) refl
    where
      both : (a b c : Bool) → (a && not (b && c)) ≡ (a && not (c && ((b || false) && not false)))
      both false b c = refl
      both true true true = refl
      both true true false = refl
      both true false true = refl
      both true false false = refl

      neither : (a c : Bool) → a ≡ (a && not (c && (false && not false)))
      neither false c = refl
      neither true true = refl
      neither true false = refl

      go : (x : Bool) → same_path u.pointer v.pointer ≡ x
          → stands new v s
          ≡ (stands old v s
          && not ((s == session)
          && (((same_path v.pointer u.pointer && same_kind v.kind u.kind) || false) && not false)))
      go true e =
          let same : u.pointer ≡ v.pointer = equal_paths u.pointer v.pointer e in
          rw (← same, same_itself u.pointer)
          (own v.kind s
          ∙ both (watches_in (watchers_at old u.pointer) v.kind s) (same_kind v.kind u.kind)
          (s == session))
      go false e =
          rw (same_path-sym v.pointer u.pointer, e, others v.pointer e)
          (neither (stands old v s) (s == session))

  pub same_one : ((kind : SlotKind) (s : ℕ)
      → watches_in (watchers_at new u.pointer) kind s
      ≡ watches_in (watchers_at old u.pointer) kind s) → IsSameIndex old new
  same_one own v s = go (same_path u.pointer v.pointer) refl
    where
      go : (x : Bool) → same_path u.pointer v.pointer ≡ x → stands new v s ≡ stands old v s
      go true e =
          let same : u.pointer ≡ v.pointer = equal_paths u.pointer v.pointer e in
          rw (← same) (own v.kind s)
      go false e = rw (others v.pointer e) refl

-- ---- one slot after the other

pub leaves_none : (index : SlotIndex) (session : ℕ) (kept : List Slot)
    → Leaves index index session [] kept
leaves_none index session kept v s = go (stands index v s) (s == session)
  where
    go : (a c : Bool) → a ≡ (a && not (c && (false && not (list_any (same_slot v) kept))))
    go false c = refl
    go true true = refl
    go true false = refl

kinds_same : (a b : SlotKind) → same_kind a b ≡ true → a ≡ b
kinds_same Value Value h = refl
kinds_same Size Size h = refl
kinds_same Value Size h = cc
kinds_same Size Value h = cc

pub slots_same : (v u : Slot) → same_slot v u ≡ true → v ≡ u
slots_same v u h = go (same_path v.pointer u.pointer) refl h
  where
    go : (x : Bool) → same_path v.pointer u.pointer ≡ x → (x && same_kind v.kind u.kind) ≡ true
        → v ≡ u
    go true e k =
        ap (λ p. slot_of p v.kind) (equal_paths v.pointer u.pointer e)
        ∙ ap (slot_of u.pointer) (kinds_same v.kind u.kind k)
    go false e k = cc

-- the lists of slots before and after one more, and those that are kept
module _ (old between : SlotIndex) (session : ℕ) (us more kept : List Slot) (u : Slot)
    (next : (p : Slot → Bool) → list_any p more ≡ (list_any p us || p u))
    (h : Leaves old between session us kept) where
  -- the slot is not among those that are kept
  pub leaves_more : (new : SlotIndex) → list_any (same_slot u) kept ≡ false
      → Leaves between new session (u ∷ []) [] → Leaves old new session more kept
  leaves_more new gone k v s =
      k v s ∙ ap (λ b. b && not ((s == session) && ((same_slot v u || false) && not false))) (h v s)
      ∙ go (same_slot v u) refl
      ∙ ap (λ b. stands old v s && not ((s == session) && (b && not (list_any (same_slot v) kept))))
      (sym (next (same_slot v)))
    where
      first : (a c x : Bool)
          → ((a && not (c && (x && not false))) && not (c && (true && not false)))
          ≡ (a && not (c && ((x || true) && not false)))
      first false c x = refl
      first true true true = refl
      first true true false = refl
      first true false x = refl

      second : (a c x y : Bool)
          → ((a && not (c && (x && not y))) && not (c && (false && not false)))
          ≡ (a && not (c && ((x || false) && not y)))
      second false c x y = refl
      second true true true true = refl
      second true true true false = refl
      second true true false y = refl
      second true false x y = refl

      go : (z : Bool) → same_slot v u ≡ z
          → ((stands old v s
          && not ((s == session)
          && (list_any (same_slot v) us && not (list_any (same_slot v) kept))))
          && not ((s == session) && ((z || false) && not false)))
          ≡ (stands old v s
          && not ((s == session)
          && ((list_any (same_slot v) us || z) && not (list_any (same_slot v) kept))))
      go true e =
          let same : v ≡ u = slots_same v u e in
          let none : list_any (same_slot v) kept ≡ false =
          ap (λ w. list_any (same_slot w) kept) same ∙ gone in
          rw none (first (stands old v s) (s == session) (list_any (same_slot v) us))
      go false e =
          second (stands old v s) (s == session) (list_any (same_slot v) us)
          (list_any (same_slot v) kept)

  -- the slot is among them
  pub leaves_kept : list_any (same_slot u) kept ≡ true → Leaves old between session more kept
  leaves_kept there v s =
      h v s ∙ go (same_slot v u) refl
      ∙ ap (λ b. stands old v s && not ((s == session) && (b && not (list_any (same_slot v) kept))))
      (sym (next (same_slot v)))
    where
      first : (a c x : Bool)
          → (a && not (c && (x && not true))) ≡ (a && not (c && ((x || true) && not true)))
      first false c x = refl
      first true true true = refl
      first true true false = refl
      first true false x = refl

      second : (a c x y : Bool)
          → (a && not (c && (x && not y))) ≡ (a && not (c && ((x || false) && not y)))
      second false c x y = refl
      second true true true y = refl
      second true true false y = refl
      second true false x y = refl

      go : (z : Bool) → same_slot v u ≡ z
          → (stands old v s
          && not ((s == session)
          && (list_any (same_slot v) us && not (list_any (same_slot v) kept))))
          ≡ (stands old v s
          && not ((s == session)
          && ((list_any (same_slot v) us || z) && not (list_any (same_slot v) kept))))
      go true e =
          let same : v ≡ u = slots_same v u e in
          let some : list_any (same_slot v) kept ≡ true =
          ap (λ w. list_any (same_slot w) kept) same ∙ there in
          rw some (first (stands old v s) (s == session) (list_any (same_slot v) us))
      go false e =
          second (stands old v s) (s == session) (list_any (same_slot v) us)
          (list_any (same_slot v) kept)

-- ---- what a write, an insertion and a removal do

module _ (ts : List (String Global)) (u : Slot) (at : path_of ts ≡ u.pointer)
    (old new : SlotIndex) where
  same_at : (index : SlotIndex)
      → lookup (is_at (against ts)) index.entries ≡ watchers_at index u.pointer
  same_at index = at_tokens index ts ∙ ap (watchers_at index) at

  other_at : (path : Path) → same_path u.pointer path ≡ false → same_path (path_of ts) path ≡ false
  other_at path other = ap (λ p. same_path p path) at ∙ other

  -- other watchers were written at the slot's pointer
  module _ (v w : Watchers) (was : Some v ≡ lookup (is_at (against ts)) old.entries)
      (is : new.entries ≡ set_value (is_at (against ts)) old.entries w) where
    others_written : OthersKept u.pointer old new
    others_written path other = written_other ts path (other_at path other) old new w is

    old_written : watchers_at old u.pointer ≡ Some v
    old_written = sym (same_at old) ∙ sym was

    pub new_written : watchers_at new u.pointer ≡ Some w
    new_written =
        sym (ap (watchers_at new) at)
        ∙ written_same ts old new v w (sym (at_tokens old ts) ∙ sym was) is

    pub joins_written : (session : ℕ)
        → ((kind : SlotKind) (s : ℕ)
        → watches_by kind s w ≡ (watches_by kind s v || (same_kind kind u.kind && (s == session))))
        → Joins old new session (u ∷ [])
    joins_written session own =
        joins_one u old new others_written session (λ kind s.
        ap (λ o. watches_in o kind s) new_written ∙ own kind s
        ∙ ap (λ o. watches_in o kind s || (same_kind kind u.kind && (s == session)))
        (sym old_written))

    pub same_written : ((kind : SlotKind) (s : ℕ) → watches_by kind s w ≡ watches_by kind s v)
        → IsSameIndex old new
    same_written own =
        same_one u old new others_written
        (λ kind s. ap (λ o. watches_in o kind s) new_written ∙ own kind s
        ∙ ap (λ o. watches_in o kind s) (sym old_written))

    pub leaves_written : (session : ℕ)
        → ((kind : SlotKind) (s : ℕ)
        → watches_by kind s w
        ≡ (watches_by kind s v && not (same_kind kind u.kind && (s == session))))
        → Leaves old new session (u ∷ []) []
    leaves_written session own =
        leaves_one u old new others_written session (λ kind s.
        ap (λ o. watches_in o kind s) new_written ∙ own kind s
        ∙ ap (λ o. watches_in o kind s && not (same_kind kind u.kind && (s == session)))
        (sym old_written))

  -- the slot's pointer had no watchers, and has some now
  pub joins_inserted : (key : Key) (w : Watchers) (session : ℕ) → path_of key.items ≡ path_of ts
      → None ≡ lookup (is_at (against ts)) old.entries
      → new.entries ≡ insert_entry (λ a b. against a.items b) old.entries key w
      → lookup (is_at (against key.items)) new.entries ≡ Some w
      → ((kind : SlotKind) (s : ℕ)
      → watches_by kind s w ≡ (same_kind kind u.kind && (s == session)))
      → Joins old new session (u ∷ [])
  joins_inserted key w session same none is got own =
      let was : watchers_at old u.pointer ≡ None = sym (same_at old) ∙ sym none in
      let now : watchers_at new u.pointer ≡ Some w =
      sym (ap (watchers_at new) (same ∙ at)) ∙ sym (at_tokens new key.items) ∙ got in
      joins_one u old new
      (λ path other. inserted_other ts path (other_at path other) old new key w same is) session
      (λ kind s.
      ap (λ o. watches_in o kind s) now ∙ own kind s
      ∙ ap (λ o. watches_in o kind s || (same_kind kind u.kind && (s == session))) (sym was))

-- watchers of a path without any are removed with it
pub leaves_removed : (ts : List (String Global)) (u : Slot) → path_of ts ≡ u.pointer
    → (old between new : SlotIndex) (session : ℕ) (w : Watchers)
    → Leaves old between session (u ∷ []) [] → watchers_at between u.pointer ≡ Some w
    → ((kind : SlotKind) (s : ℕ) → watches_by kind s w ≡ false)
    → new.entries ≡ remove_entry (is_at (against ts)) between.entries
    → lookup (is_at (against ts)) new.entries ≡ None → Leaves old new session (u ∷ []) []
leaves_removed ts u at old between new session w h before empty is gone v s =
    let after : watchers_at new u.pointer ≡ None = sym (same_at ts u at old new new) ∙ gone in
    same_one u between new
    (λ path other. removed_other ts path (other_at ts u at old new path other) between new is)
    (λ kind s. ap (λ o. watches_in o kind s) after ∙ sym (empty kind s)
    ∙ ap (λ o. watches_in o kind s) (sym before)) v s
    ∙ h v s

-- a slot that does not stand leaves nothing
pub leaves_nobody : (ts : List (String Global)) (u : Slot) → path_of ts ≡ u.pointer
    → (index : SlotIndex) (session : ℕ) → None ≡ lookup (is_at (against ts)) index.entries
    → Leaves index index session (u ∷ []) []
leaves_nobody ts u at index session none =
    let was : watchers_at index u.pointer ≡ None =
    sym (same_at ts u at index index index) ∙ sym none in
    leaves_one u index index (λ path other. refl) session
    (λ kind s. ap (λ o. watches_in o kind s) was
    ∙ ap (λ o. watches_in o kind s && not (same_kind kind u.kind && (s == session))) (sym was))
