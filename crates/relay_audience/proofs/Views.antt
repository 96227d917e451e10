-- Views that compare as equal are one.
use Rattle.std.proofs.Common.{◌≡◌, arith, true, false, refl, is_eq, nat_cmp}
use Rattle.std.proofs.Common.{Ordering, Less, Equal, Greater, ℕ, ◌+◌, ◌==◌, [], ◌∷◌, length}
use Rattle.std.proofs.Common.{◌⊎◌, inl, inr, nat_lt}
use Rattle.std.proofs.lemmas.Bool.Decides.{nat_tests}
use Rattle.std.specs.FinMap.{IsAntisymmetric, nat_cmp-IsAntisymmetric, slice_cmp-IsAntisymmetric}
use Rattle.std.specs.Ordering.{ordering_then}
use Rattle.std.specs.Cmp.Lexicographic.{slice_cmp}
use Rattle.relay_view.specs.View.{View}
use Rattle.relay_view.specs.declared.slot.SlotKind.{SlotKind}
use Rattle.relay_view.specs.declared.slot.SlotKind.TheVariants.{Value, Size}
use Rattle.relay_audience.specs.ViewOrder.{kind_rank, slot_cmp, view_cmp, same_view}
use Rattle.relay_audience.specs.ViewOrder.{same_view_equiv}

is_equal : (r : Ordering) → is_eq r ≡ true → r ≡ Equal
is_equal Less h = cc
is_equal Equal h = refl
is_equal Greater h = cc

both_equal : (r t : Ordering) → ordering_then r t ≡ Equal → (r ≡ Equal) × (t ≡ Equal)
both_equal Less t h = cc
both_equal Equal t h = (refl, h)
both_equal Greater t h = cc

same_rank : (a b : SlotKind) → kind_rank a ≡ kind_rank b → a ≡ b
same_rank Value Value h = refl
same_rank Value Size h = absurd (omega (arith, h))
same_rank Size Value h = absurd (omega (arith, h))
same_rank Size Size h = refl

slot_is : IsAntisymmetric slot_cmp
slot_is s t h =
    let each = both_equal (slice_cmp (slice_cmp nat_cmp) s.pointer t.pointer)
    (nat_cmp (kind_rank s.kind) (kind_rank t.kind)) h in
    let pointer : s.pointer ≡ t.pointer =
    slice_cmp-IsAntisymmetric (slice_cmp-IsAntisymmetric nat_cmp-IsAntisymmetric)
    s.pointer t.pointer each.0 in
    let kind : s.kind ≡ t.kind =
    same_rank s.kind t.kind
    (nat_cmp-IsAntisymmetric (kind_rank s.kind) (kind_rank t.kind) each.1) in
    λ i. record { pointer = pointer i; kind = kind i }

pub view_is : (v w : View) → same_view v w ≡ true → v ≡ w
view_is v w h = slice_cmp-IsAntisymmetric slot_is v w (is_equal (view_cmp v w) h)

pub view_itself : (v : View) → same_view v v ≡ true
view_itself v = same_view_equiv.refl v

pub view_back : (v w : View) → same_view v w ≡ same_view w v
view_back v w = same_view_equiv.symm v w

-- when one of two views has no more slots, they compare as their lengths
pub ended : (v w : View) (m n : ℕ) → (length v ≡ 0) ⊎ (length w ≡ 0)
    → length v + n ≡ length w + m → view_cmp v w ≡ nat_cmp m n
ended [] [] m n some long =
    let less : nat_lt m n ≡ false = grind (arith, nat_tests, long) in
    let same : (m == n) ≡ true = grind (arith, nat_tests, long) in
    rw (less, same) refl
ended [] (t ∷ w) m n some long =
    let less : nat_lt m n ≡ true = grind (arith, nat_tests, long) in
    rw less refl
ended (s ∷ v) [] m n some long =
    let less : nat_lt m n ≡ false = grind (arith, nat_tests, long) in
    let other : (m == n) ≡ false = grind (arith, nat_tests, long) in
    rw (less, other) refl
ended (s ∷ v) (t ∷ w) m n some long =
    absurd (elim some [ inl e ↦ omega (arith, e) | inr e ↦ omega (arith, e) ])
