-- A change touches a slot only if the slot's pointer is a prefix of a place of the change or begins
-- with it or, if the place is an item, begins with the path of its list.
use Rattle.std.proofs.Common.{◌≡◌, ℕ, zero, suc, ◌<◌, ◌⊎◌, inl, inr, [], ◌∷◌, take, length, Bool}
use Rattle.std.proofs.Common.{true, false, ◌||◌, if◌then◌else◌, refl, bytes_eq, nat_lt, arith}
use Rattle.std.proofs.lemmas.Bool.Decides.{nat_tests}
use Rattle.relay_tree.specs.Document.{Document}
use Rattle.relay_pointer.specs.Index.{Token}
use Rattle.relay_pointer.specs.Path.{Path, same_path, is_prefix}
use Rattle.relay_patch.specs.Place.{parent}
use Rattle.relay_patch.specs.declared.change.Change.{Change}
use Rattle.relay_patch.specs.declared.change.Change.TheVariants as change
use Rattle.relay_view.specs.declared.slot.SlotKind.{SlotKind}
use Rattle.relay_view.specs.declared.slot.SlotKind.TheVariants.{Value, Size}
use Rattle.relay_translate.specs.Touch.{Touch, Apart, Reset, touch, touch_path, touch_below}
use Rattle.relay_translate.specs.Touch.{touch_place, touch_place_size, touch_either, size_touch}
use Rattle.relay_translate.specs.Touch.{exchange_touch}
use Rattle.relay_translate.specs.Local.{is_apart}
use Rattle.relay_translate.specs.SlotIndex.{container, scope, is_above, is_near}

or_true : (x : Bool) → (x || true) ≡ true
or_true true = refl
or_true false = refl

above_at : (n k : ℕ) (path q : Path) → k < n → same_path (take k path) q ≡ true
    → is_above n path q ≡ true
above_at zero k path q less h = absurd (omega arith)
above_at (suc n) k path q less h = go (nat_lt k n) refl (above_at n k path q)
  where
    go : (b : Bool) → nat_lt k n ≡ b
        → (k < n → same_path (take k path) q ≡ true → is_above n path q ≡ true)
        → (is_above n path q || same_path (take n path) q) ≡ true
    go true e more = rw (more (grind (arith, nat_tests)) h) refl
    go false e more =
        let same : k ≡ n = grind (arith, nat_tests) in
        let here : same_path (take n path) q ≡ true = rw (← same) h in
        rw here (or_true (is_above n path q))

-- the pointer q begins with the path, or is a proper prefix of it
abbrev Meets : Path → Path → Type 0
Meets path q =
    (is_prefix path q ≡ true) ⊎ ((k : ℕ) × (k < length path) × (same_path (take k path) q ≡ true))

near_meets : (path q : Path) → Meets path q → is_near path q ≡ true
near_meets path q (inl h) = rw h (or_true (is_above (length path) path q))
near_meets path q (inr (k, less, h)) = rw (above_at (length path) k path q less h) refl

-- the same with an equal token in front of both
meets_behind : (t b : Token) (path q : Path) → bytes_eq t b ≡ true → Meets path q
    → Meets (t ∷ path) (b ∷ q)
meets_behind t b path q e (inl h) = inl (rw e h)
meets_behind t b path q e (inr (k, less, h)) = inr (suc k, (omega arith), rw e h)

meets_member : (t : Token) (path q : Path) → is_apart (touch_below false t path q) ≡ false
    → Meets (t ∷ path) q
meets_member t path [] h = inr (0, (omega arith), refl)
meets_member t [] (b ∷ q) h = go (bytes_eq t b) refl h
  where
    go : (x : Bool) → bytes_eq t b ≡ x → is_apart (if x then Reset else Apart) ≡ false
        → Meets (t ∷ []) (b ∷ q)
    go true e k = meets_behind t b [] q e (inl refl)
    go false e k = cc
meets_member t (u ∷ path) (b ∷ q) h = go (bytes_eq t b) refl h (meets_member u path q)
  where
    go : (x : Bool) → bytes_eq t b ≡ x
        → is_apart (if x then touch_below false u path q else Apart) ≡ false
        → (is_apart (touch_below false u path q) ≡ false → Meets (u ∷ path) q)
        → Meets (t ∷ u ∷ path) (b ∷ q)
    go true e k rest = meets_behind t b (u ∷ path) q e (rest k)
    go false e k rest = cc

meets_item : (t : Token) (path q : Path) → is_apart (touch_below true t path q) ≡ false
    → Meets (parent t path) q
meets_item t [] q h = inl refl
meets_item t (u ∷ path) [] h = inr (0, (omega arith), refl)
meets_item t (u ∷ path) (b ∷ q) h = go (bytes_eq t b) refl h (meets_item u path q)
  where
    go : (x : Bool) → bytes_eq t b ≡ x
        → is_apart (if x then touch_below true u path q else Apart) ≡ false
        → (is_apart (touch_below true u path q) ≡ false → Meets (parent u path) q)
        → Meets (t ∷ parent u path) (b ∷ q)
    go true e k rest = meets_behind t b (parent u path) q e (rest k)
    go false e k rest = cc

near_path : (item : Bool) (path q : Path) → is_apart (touch_path item path q) ≡ false
    → is_near (scope item path) q ≡ true
near_path true [] q h = refl
near_path false [] q h = refl
near_path true (t ∷ path) q h = near_meets (parent t path) q (meets_item t path q h)
near_path false (t ∷ path) q h = near_meets (t ∷ path) q (meets_member t path q h)

exchanged : (r : Touch) → is_apart (exchange_touch r) ≡ false → is_apart r ≡ false
exchanged Apart h = h
exchanged _ h = refl

sized : (path q : Path) (r : Touch) → is_apart (size_touch path q r) ≡ false → is_apart r ≡ false
sized path q Apart h = h
sized path q _ h = refl

near_size : (item : Bool) (path q : Path)
    → is_apart (size_touch path q (touch_path item path q)) ≡ false
    → is_near (scope item path) q ≡ true
near_size item path q h = near_path item path q (sized path q (touch_path item path q) h)

either_near : (a b : Touch) (x y : Bool) → (is_apart a ≡ false → x ≡ true)
    → (is_apart b ≡ false → y ≡ true) → is_apart (touch_either a b) ≡ false → (x || y) ≡ true
either_near Apart b x y f g h = rw (g h) (or_true x)
either_near _ b x y f g h = rw (f refl) refl

-- the pointers near the places at which a change adds or removes something
abbrev pub near_places : Change → Path → Bool
near_places (change.Set path v) q = is_near path q
near_places (change.AddMember path v) q = is_near path q
near_places (change.AddItem path v) q = is_near (container path) q
near_places (change.DropMember path) q = is_near path q
near_places (change.DropItem path) q = is_near (container path) q
near_places (change.Move from to v) q =
    is_near (scope from.item from.path) q || is_near (scope to.item to.path) q
near_places (change.Copy from to v) q = is_near (scope to.item to.path) q

pub touched_near : (c : Change) (q : Path) (kind : SlotKind) → is_apart (touch c q kind) ≡ false
    → near_places c q ≡ true
touched_near (change.Set path v) q Value h = near_path false path q h
touched_near (change.Set path v) q Size h =
    near_path false path q (exchanged (touch_path false path q) h)
touched_near (change.AddMember path v) q Value h = near_path false path q h
touched_near (change.AddMember path v) q Size h = near_size false path q h
touched_near (change.AddItem path v) q Value h = near_path true path q h
touched_near (change.AddItem path v) q Size h = near_size true path q h
touched_near (change.DropMember path) q Value h = near_path false path q h
touched_near (change.DropMember path) q Size h = near_size false path q h
touched_near (change.DropItem path) q Value h = near_path true path q h
touched_near (change.DropItem path) q Size h = near_size true path q h
touched_near (change.Move from to v) q Value h =
    either_near (touch_place from q) (touch_place to q) _ _ (near_path from.item from.path q)
    (near_path to.item to.path q) h
touched_near (change.Move from to v) q Size h =
    either_near (touch_place_size from q) (touch_place_size to q) _ _
    (near_size from.item from.path q) (near_size to.item to.path q) h
touched_near (change.Copy from to v) q Value h = near_path to.item to.path q h
touched_near (change.Copy from to v) q Size h = near_size to.item to.path q h

-- a change at one path: of the value there, or of a member
abbrev pub IsAt : Change → Path → Type 0
IsAt c path =
    ((v : Document) × (c ≡ change.Set path v)) ⊎ ((v : Document) × (c ≡ change.AddMember path v))
    ⊎ (c ≡ change.DropMember path)

pub near_at : (c : Change) (path : Path) → IsAt c path → (q : Path)
    → near_places c q ≡ is_near path q
near_at c path (inl (v, e)) q = rw e refl
near_at c path (inr (inl (v, e))) q = rw e refl
near_at c path (inr (inr e)) q = rw e refl

-- a change at one path: of an item
abbrev pub IsItemAt : Change → Path → Type 0
IsItemAt c path = ((v : Document) × (c ≡ change.AddItem path v)) ⊎ (c ≡ change.DropItem path)

pub near_item : (c : Change) (path : Path) → IsItemAt c path → (q : Path)
    → near_places c q ≡ is_near (container path) q
near_item c path (inl (v, e)) q = rw e refl
near_item c path (inr e) q = rw e refl
