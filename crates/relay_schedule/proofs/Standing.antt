-- The number of times that each key stands in a line after a call.
use Rattle.std.proofs.Common.{◌≡◌, ℕ, List, [], ◌∷◌, ◌++◌, Bool, true, false, ◌&&◌, not, ◌==◌}
use Rattle.std.proofs.Common.{◌+◌, ◌≤◌, length, drop, nat_lt, arith, cond, append_assoc, append-nil}
use Rattle.std.proofs.Common.{sym, ◌∙◌, ap}
use Rattle.std.proofs.lemmas.List.{length-append}
use Rattle.relay_schedule.specs.Queue.{times}
use Rattle.relay_schedule.specs.TurnLine.{Line, order, holds, pushed, skipped, without_first}
use Rattle.relay_schedule.specs.TurnLine.{in_new_pass}
use Rattle.relay_schedule.proofs.Times.{one_if, times_push, times_rest, times_append}

-- a key behind all others, and one between the two parts
pub times_behind : (key other : ℕ) (waiting served : List ℕ)
    → times other (waiting ++ (served ++ key ∷ []))
    ≡ times other (waiting ++ served) + one_if (key == other)
times_behind key other waiting served =
    ap (times other) (sym (append_assoc waiting served (key ∷ [])))
    ∙ times_push other key (waiting ++ served)

pub times_between : (key other : ℕ) (waiting served : List ℕ)
    → times other ((waiting ++ key ∷ []) ++ served)
    ≡ times other (waiting ++ served) + one_if (key == other)
times_between key other waiting served = omega (
  arith,
  times_append other (waiting ++ key ∷ []) served,
  times_push other key waiting,
  times_append other waiting served,
)

pub times_pushed : (key other : ℕ) (line : Line)
    → times other (order (pushed key line)) ≤ times other (order line) + one_if (key == other)
times_pushed key other line = go (nat_lt key line.admitted && not (holds key line))
  where
    go : (fresh : Bool)
        → times other (order (cond fresh (record line { served = line.served ++ key ∷ [] }) line))
        ≤ times other (order line) + one_if (key == other)
    go true = omega (arith, times_behind key other line.waiting line.served)
    go false = omega arith

pub times_skipped : (key other : ℕ) (line : Line)
    → times other (order (skipped key line)) ≤ times other (order line) + one_if (key == other)
times_skipped key other line = go (nat_lt key line.admitted && not (holds key line))
  where
    go : (fresh : Bool)
        → times other (order (cond fresh (record line { waiting = line.waiting ++ key ∷ [] }) line))
        ≤ times other (order line) + one_if (key == other)
    go true = omega (arith, times_between key other line.waiting line.served)
    go false = omega arith

pub times_without_first : (key : ℕ) (line : Line)
    → times key (order (without_first line)) ≤ times key (order line)
times_without_first key line = omega (
  arith,
  times_append key (drop 1 line.waiting) line.served,
  times_append key line.waiting line.served,
  times_rest key line.waiting,
)

-- who waits after a key was put behind all others, or behind those that wait
pub waiting_pushed : (key : ℕ) (line : Line)
    → length line.waiting ≤ length (pushed key line).waiting
waiting_pushed key line = go (nat_lt key line.admitted && not (holds key line))
  where
    go : (fresh : Bool) → length line.waiting
        ≤ length (cond fresh (record line { served = line.served ++ key ∷ [] }) line).waiting
    go true = omega arith
    go false = omega arith

pub length_skipped : (key : ℕ) (line : Line)
    → length line.waiting ≤ length (skipped key line).waiting
length_skipped key line = go (nat_lt key line.admitted && not (holds key line))
  where
    go : (fresh : Bool) → length line.waiting
        ≤ length (cond fresh (record line { waiting = line.waiting ++ key ∷ [] }) line).waiting
    go true = omega (arith, length-append line.waiting (key ∷ []))
    go false = omega arith

-- a pass begins without a change of the order
pub order_new_pass : (line : Line) → order (in_new_pass line) ≡ order line
order_new_pass line = append-nil (order line)
