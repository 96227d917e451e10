-- The flags of a queue's keys: a flag that is not set leaves room for one more, and flags that are
-- added unset change nothing.
use Rattle.std.proofs.Common.{◌≡◌, ℕ, zero, suc, List, [], ◌∷◌, ◌++◌, Bool, true, false, ◌+◌, ◌<◌}
use Rattle.std.proofs.Common.{◌≤◌, length, take, replicate, arith, cond, refl, sym, ◌∙◌, ap}
use Rattle.std.proofs.Common.{slice_index_or, slice_set, nat_lt, inl, inr, subst}
use Rattle.std.specs.List.{count_by}
use Rattle.std.proofs.lemmas.List.{length-set, length-append, length-replicate, get_or_past}
use Rattle.std.proofs.lemmas.List.{take_all, get_or-set_same, get_or-set_other}
use Rattle.std.proofs.lemmas.List.Sums.{sum_by-set, sum_by-append, count_by-le-length}
use Rattle.std.proofs.lemmas.Bool.Decides.{nat_tests, eqb_tells}
use Rattle.relay_schedule.specs.Queue.{IsQueue, times}
use Rattle.relay_schedule.specs.TurnLine.{IsLine}
use Rattle.relay_schedule.specs.Representation.{Flagged, IsKept, keys_of, IsLinedUp, line_of}
use Rattle.relay_schedule.specs.declared.key_queue.KeyQueue.TheInside.{Inside}
use Rattle.relay_schedule.specs.declared.turn_line.TurnLine.TheInside as turn_line
use Rattle.relay_schedule.proofs.Times.{one_if, times_first, times_others}

-- fewer flags are set than there are
pub has_room : (flags : List Bool) (i : ℕ) (flag : Bool) → flag ≡ slice_index_or flags i flag
    → flag ≡ false → i < length flags
    → count_by (λ b. b) flags < length flags
has_room flags i flag at unset within =
    let sums = sum_by-set one_if flags i true flag within in
    let most = count_by-le-length (λ b. b) (slice_set flags i true) in
    let zero = ap one_if (sym at ∙ unset) in
    omega (arith, sums, most, length-set flags i true, zero)

unset_behind : (flags : List Bool) (n i : ℕ)
    → slice_index_or (flags ++ replicate n false) i false ≡ slice_index_or flags i false
unset_behind [] zero i = refl
unset_behind [] (suc n) zero = refl
unset_behind [] (suc n) (suc i) = unset_behind [] n i
unset_behind (flag ∷ flags) n zero = refl
unset_behind (flag ∷ flags) n (suc i) = unset_behind flags n i

-- the flags after a `resize` that adds some, or that fails
abbrev resized : Bool → ℕ → ℕ → List Bool → List Bool
resized done count more flags = cond done (take count flags ++ replicate more false) flags

pub flagged_resized : (done : Bool) (count more : ℕ) (flags : List Bool) (keys : List ℕ)
    → length flags ≤ count → Flagged flags keys
    → Flagged (resized done count more flags) keys
flagged_resized true count more flags keys few flagged =
    rw (take_all count flags few)
    (λ key. flagged key ∙ ap one_if (sym (unset_behind flags more key)))
flagged_resized false count more flags keys few flagged = flagged

pub fits_resized : (done : Bool) (count more len : ℕ) (flags : List Bool) → length flags ≤ count
    → len ≤ count_by (λ b. b) flags
    → len ≤ count_by (λ b. b) (resized done count more flags)
fits_resized true count more len flags few fits =
    rw (take_all count flags few)
    (omega (arith, fits, sum_by-append one_if flags (replicate more false)))
fits_resized false count more len flags few fits = fits

pub room_resized : (done : Bool) (count more room : ℕ) (flags : List Bool) → length flags ≤ count
    → more + length flags ≤ count → count ≤ room
    → length (resized done count more flags) ≤ room
room_resized true count more room flags few added within =
    rw (take_all count flags few)
    (omega (
      arith,
      added,
      within,
      length-append flags (replicate more false),
      length-replicate more false,
    ))
room_resized false count more room flags few added within = omega (arith, few, within)

-- a key whose flag is beyond the flags does not wait
within_flags : (flags : List Bool) (keys : List ℕ) → Flagged flags keys → (key : ℕ)
    → nat_lt 0 (times key keys) ≡ true
    → key < length flags
within_flags flags keys flagged key is =
    go (nat_lt key (length flags)) refl
  where
    go : (inside : Bool) → nat_lt key (length flags) ≡ inside → key < length flags
    go true known = grind (arith, nat_tests, known)
    go false known =
        let past : length flags ≤ key = grind (arith, nat_tests, known) in
        let none : times key keys ≡ 0 =
        flagged key ∙ ap one_if (get_or_past flags key false past) in
        absurd (grind (arith, nat_tests, is, none))

-- no key stands in the list twice
flagged_once : (flags : List Bool) (keys : List ℕ) → Flagged flags keys → (key : ℕ)
    → times key keys ≤ 1
flagged_once flags keys flagged key = most (slice_index_or flags key false) (flagged key)
  where
    most : (flag : Bool) → times key keys ≡ one_if flag → times key keys ≤ 1
    most true is = omega (arith, is)
    most false is = omega (arith, is)

-- the first key leaves, and its flag is cleared
pub flagged_rest : (flags : List Bool) (key : ℕ) (keys : List ℕ) → key < length flags
    → Flagged flags (key ∷ keys)
    → Flagged (slice_set flags key false) keys
flagged_rest flags key keys within flagged other = elim (eqb_tells key other) [
  | inl (is, same) ↦
      let once = flagged_once flags (key ∷ keys) flagged key in
      let none : times key keys ≡ 0 = omega (arith, once, times_first key keys) in
      subst (λ k. times k keys ≡ one_if (slice_index_or (slice_set flags key false) k false)) same
      (none ∙ ap one_if (sym (get_or-set_same flags key false false within)))
  | inr (is, apart) ↦
      sym (times_others other key keys is) ∙ flagged other
      ∙ ap one_if
      (sym (get_or-set_other flags key other false false (λ same. apart (sym same))))
]

pub fewer_flags : (flags : List Bool) (key : ℕ) (keys : List ℕ) → key < length flags
    → Flagged flags (key ∷ keys)
    → count_by (λ b. b) (slice_set flags key false) + 1 ≡ count_by (λ b. b) flags
fewer_flags flags key keys within flagged =
    set (slice_index_or flags key false) (flagged key)
    (sum_by-set one_if flags key false false within)
  where
    set : (flag : Bool) → times key (key ∷ keys) ≡ one_if flag
        → count_by (λ b. b) (slice_set flags key false) + one_if flag
        ≡ count_by (λ b. b) flags + 0
        → count_by (λ b. b) (slice_set flags key false) + 1 ≡ count_by (λ b. b) flags
    set true is sums = omega (arith, sums)
    set false is sums = absurd (omega (arith, is, times_first key keys))

-- what the fields keep is what contracts see
pub kept_is_queue : (queue : Inside) → IsKept queue → IsQueue (keys_of queue)
kept_is_queue queue kept = record {
  once = flagged_once queue.queued.items queue.keys.items kept.flagged;
  admitted = within_flags queue.queued.items queue.keys.items kept.flagged;
}

pub kept_is_line : (line : turn_line.Inside) → IsLinedUp line → IsLine (line_of line)
kept_is_line line kept = record {
  once = flagged_once line.standing.items (line.waiting.items ++ line.served.items) kept.flagged;
  admitted = within_flags line.standing.items (line.waiting.items ++ line.served.items)
      kept.flagged;
}
