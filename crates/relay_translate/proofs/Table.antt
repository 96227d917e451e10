-- The table and the recursion agree.
use Rattle.std.proofs.Common.{◌≡◌, ℕ, List, [], ◌∷◌, Bool, true, false, ◌&&◌, refl, sym, bytes_eq}
use Rattle.std.proofs.Common.{length, drop, ap, ◌∙◌, nat_le, Option, Some, if◌then◌else◌}
use Rattle.std.proofs.lemmas.Slice.Eq.{bytes_eq-Decides}
use Rattle.relay_pointer.specs.Index.{Token, number_of}
use Rattle.relay_pointer.specs.Path.{Path, is_prefix, is_proper_prefix}
use Rattle.relay_patch.specs.Place.{parent, last}
use Rattle.relay_patch.specs.declared.change.Place.{Place}
use Rattle.relay_patch.specs.declared.change.Change.{Change}
use Rattle.relay_patch.specs.declared.change.Change.TheVariants as change
use Rattle.relay_view.specs.declared.slot.SlotKind.{SlotKind}
use Rattle.relay_view.specs.declared.slot.SlotKind.TheVariants.{Value, Size}
use Rattle.relay_translate.specs.Touch.{Touch, Apart, Inside, Reset, shifts, touch_below}
use Rattle.relay_translate.specs.Touch.{touch_path, touch_value, part_touch, size_touch}
use Rattle.relay_translate.specs.Touch.{exchange_touch, touch_place_size, touch_size, touch}
use Rattle.relay_translate.specs.Table.{next_index, not_inside, table_at, touch_value_by_table}
use Rattle.relay_translate.specs.Table.{size_by_table, touch_size_by_table, touch_by_table, IsTable}
use Rattle.relay_pointer.proofs.Prefixes.{and_false}

bytes_eq-swap : (a b : List ℕ) (x : Bool) → bytes_eq a b ≡ x → bytes_eq b a ≡ x
bytes_eq-swap a b true h = (bytes_eq-Decides b a).1 (sym ((bytes_eq-Decides a b).0 h))
bytes_eq-swap a b false h = go (bytes_eq b a) refl
  where
    go : (y : Bool) → bytes_eq b a ≡ y → bytes_eq b a ≡ false
    go true e = let k : bytes_eq a b
        ≡ true = (bytes_eq-Decides a b).1 (sym ((bytes_eq-Decides b a).0 e)) in cc
    go false e = e

and_true : (x : Bool) → (x && true) ≡ x
and_true true = refl
and_true false = refl

below_table : (is_item : Bool) (t : Token) (path q : Path)
    → touch_below is_item t path q ≡ table_at Inside is_item (t ∷ path) q
below_table is_item t path [] = refl
below_table true t [] (b ∷ q) = rw (and_false (bytes_eq b t)) refl
below_table false t [] (b ∷ q) = rw (and_false (bytes_eq b t), and_true (bytes_eq t b)) refl
below_table true t (u ∷ path) (b ∷ q) = go (bytes_eq t b) refl (below_table true u path q)
  where
    go : (x : Bool) → bytes_eq t b ≡ x
        → touch_below true u path q ≡ table_at Inside true (u ∷ path) q
        → touch_below true t (u ∷ path) (b ∷ q) ≡ table_at Inside true (t ∷ u ∷ path) (b ∷ q)
    go true e ih = rw (e, bytes_eq-swap t b true e) ih
    go false e ih = rw (e, bytes_eq-swap t b false e) refl
below_table false t (u ∷ path) (b ∷ q) = go (bytes_eq t b) refl (below_table false u path q)
  where
    go : (x : Bool) → bytes_eq t b ≡ x
        → touch_below false u path q ≡ table_at Inside false (u ∷ path) q
        → touch_below false t (u ∷ path) (b ∷ q) ≡ table_at Inside false (t ∷ u ∷ path) (b ∷ q)
    go true e ih = rw (e, bytes_eq-swap t b true e) ih
    go false e ih = rw (e, bytes_eq-swap t b false e) refl

path_table : (is_item : Bool) (path q : Path)
    → touch_path is_item path q ≡ table_at Inside is_item path q
path_table is_item [] q = refl
path_table is_item (t ∷ path) q = below_table is_item t path q

pub touch_table : IsTable
touch_table place q = path_table place.item place.path q

value_table : (c : Change) (q : Path) → touch_value c q ≡ touch_value_by_table c q
value_table (change.Set path v) q = path_table false path q
value_table (change.AddMember path v) q = path_table false path q
value_table (change.AddItem path v) q = path_table true path q
value_table (change.DropMember path) q = path_table false path q
value_table (change.DropItem path) q = path_table true path q
value_table (change.Move from to v) q = rw (touch_table from q, touch_table to q) refl
value_table (change.Copy from to v) q = touch_table to q

-- Sizes: a place outside the value or at its path is judged as for the value.

-- a judgement that keeps Apart and Reset, and turns Inside into `within`
record Keeps (judge : Touch → Touch) (within : Touch) : Type 0 where
  apart : judge Apart ≡ Apart
  inside : judge Inside ≡ within
  reset : judge Reset ≡ Reset

shifts_kept : (judge : Touch → Touch) (within : Touch) → Keeps judge within → (o p : Option ℕ)
    → judge (shifts o p) ≡ shifts o p
shifts_kept judge within keeps (Some i) (Some j) = go (nat_le i j)
  where
    go : (x : Bool) → judge (if x then Reset else Apart) ≡ (if x then Reset else Apart)
    go true = keeps.reset
    go false = keeps.apart
shifts_kept judge within keeps _ _ = keeps.apart

aside_kept : (judge : Touch → Touch) (within : Touch) → Keeps judge within
    → (is_item : Bool) (t : Token) (path q : Path)
    → judge (not_inside is_item t path q) ≡ not_inside is_item t path q
aside_kept judge within keeps true t path q = go (is_prefix (parent t path) q)
  where
    go : (x : Bool)
        → judge (if x
        then shifts (number_of (last t path)) (next_index (drop (length (parent t path)) q))
        else Apart) ≡ (if x
        then shifts (number_of (last t path)) (next_index (drop (length (parent t path)) q))
        else Apart)
    go true = shifts_kept judge within keeps (number_of (last t path))
        (next_index (drop (length (parent t path)) q))
    go false = keeps.apart
aside_kept judge within keeps false t path q = go (is_prefix (t ∷ path) q)
  where
    go : (x : Bool) → judge (if x then Reset else Apart) ≡ (if x then Reset else Apart)
    go true = keeps.reset
    go false = keeps.apart

judged_table : (judge : Touch → Touch) (within : Touch) → Keeps judge within
    → (is_item : Bool) (path q : Path)
    → judge (touch_path is_item path q) ≡ table_at within is_item path q
judged_table judge within keeps is_item [] q = keeps.reset
judged_table judge within keeps is_item (t ∷ path) q =
    ap judge (path_table is_item (t ∷ path) q) ∙ go (is_proper_prefix q (t ∷ path))
  where
    go : (x : Bool)
        → judge (if x then Inside else not_inside is_item t path q)
        ≡ (if x then within else not_inside is_item t path q)
    go true = keeps.inside
    go false = aside_kept judge within keeps is_item t path q

size_keeps : (path q : Path) → Keeps (size_touch path q) (part_touch path q)
size_keeps path q = record { apart = refl; inside = refl; reset = refl }

exchange_keeps : Keeps exchange_touch Apart
exchange_keeps = record { apart = refl; inside = refl; reset = refl }

path_size_table : (is_item : Bool) (path q : Path)
    → size_touch path q (touch_path is_item path q) ≡ table_at (part_touch path q) is_item path q
path_size_table is_item path q =
    judged_table (size_touch path q) (part_touch path q) (size_keeps path q) is_item path q

place_size_table : (place : Place) (q : Path) → touch_place_size place q ≡ size_by_table place q
place_size_table place q = path_size_table place.item place.path q

size_table : (c : Change) (q : Path) → touch_size c q ≡ touch_size_by_table c q
size_table (change.Set path v) q = judged_table exchange_touch Apart exchange_keeps false path q
size_table (change.AddMember path v) q = path_size_table false path q
size_table (change.AddItem path v) q = path_size_table true path q
size_table (change.DropMember path) q = path_size_table false path q
size_table (change.DropItem path) q = path_size_table true path q
size_table (change.Move from to v) q = rw (place_size_table from q, place_size_table to q) refl
size_table (change.Copy from to v) q = place_size_table to q

pub change_table : (c : Change) (q : Path) (kind : SlotKind)
    → touch c q kind ≡ touch_by_table c q kind
change_table c q Value = value_table c q
change_table c q Size = size_table c q
