-- The lines of those who may be read keep their invariant: no key stands in line twice.
use Rattle.std.proofs.Common.{◌≡◌, inl, inr, ℕ, List, [], ◌∷◌, Bool, true, false, ◌||◌}
use Rattle.std.proofs.Common.{◌==◌, ◌+◌, ◌-◌, ◌≤◌, length, drop, arith, refl, subst}
use Rattle.std.proofs.lemmas.Bool.Decides.{nat_tests, eqb_tells}
use Rattle.std.proofs.lemmas.List.{length-append}
use Rattle.relay_schedule.specs.TurnLine.{Line, order, holds, pushed, skipped, without_first}
use Rattle.relay_schedule.specs.TurnLine.{in_new_pass}
use Rattle.relay_schedule.specs.Ready.{Lines, AreLines, stands, times_in, without_credited}
use Rattle.relay_schedule.specs.Ready.{in_credited_pass}
use Rattle.relay_schedule.proofs.Times.{one_if}
use Rattle.relay_schedule.proofs.Standing.{times_pushed, times_skipped, times_without_first}
use Rattle.relay_schedule.proofs.Standing.{waiting_pushed, length_skipped, order_new_pass}

length_rest : (keys : List ℕ) → length keys ≤ length (drop 1 keys) + 1
length_rest [] = omega arith
length_rest (k ∷ keys) = omega arith

-- a line without its first key, and the others
pub lines_without_credited : (lines : Lines) → AreLines lines → AreLines (without_credited lines)
lines_without_credited lines are = record {
  once = λ key. omega (arith, are.once key, times_without_first key lines.credited);
  light_left = are.light_left;
  heavy_left = are.heavy_left;
}

pub lines_with_fewer_light : (lines : Lines) (left : ℕ) → left ≤ lines.light_left - 1
    → AreLines lines
    → AreLines (record lines { light = without_first lines.light; light_left = left })
lines_with_fewer_light lines left fewer are = record {
  once = λ key. omega (arith, are.once key, times_without_first key lines.light);
  light_left =
      let within = are.light_left in omega (arith, fewer, within, length_rest lines.light.waiting);
  heavy_left = are.heavy_left;
}

pub lines_with_fewer_heavy : (lines : Lines) (left : ℕ) → left ≤ lines.heavy_left - 1
    → AreLines lines
    → AreLines (record lines { heavy = without_first lines.heavy; heavy_left = left })
lines_with_fewer_heavy lines left fewer are = record {
  once = λ key. omega (arith, are.once key, times_without_first key lines.heavy);
  light_left = are.light_left;
  heavy_left =
      let within = are.heavy_left in omega (arith, fewer, within, length_rest lines.heavy.waiting);
}

-- a pass moves keys within a line
pub lines_in_credited_pass : (lines : Lines) → AreLines lines → AreLines (in_credited_pass lines)
lines_in_credited_pass lines are = record {
  once = λ key. rw (order_new_pass lines.credited) (are.once key);
  light_left = are.light_left;
  heavy_left = are.heavy_left;
}

longer_in_pass : (line : Line) (left : ℕ) → left ≤ length line.waiting
    → left ≤ length (order line)
longer_in_pass line left within =
    omega (arith, within, length-append line.waiting line.served)

pub lines_in_owing_pass : (lines : Lines) → AreLines lines
    → AreLines (record lines { light = in_new_pass lines.light; heavy = in_new_pass lines.heavy })
lines_in_owing_pass lines are = record {
  once = λ key. rw (order_new_pass lines.light, order_new_pass lines.heavy) (are.once key);
  light_left = longer_in_pass lines.light lines.light_left are.light_left;
  heavy_left = longer_in_pass lines.heavy lines.heavy_left are.heavy_left;
}

-- who stands in no line
none_stands : (key : ℕ) (lines : Lines) → stands key lines ≡ false → times_in key lines ≡ 0
none_stands key lines is =
    go (holds key lines.credited) (holds key lines.light) (holds key lines.heavy) refl refl refl is
  where
    go : (credited light heavy : Bool) → holds key lines.credited ≡ credited
        → holds key lines.light ≡ light → holds key lines.heavy ≡ heavy
        → (credited || (light || heavy)) ≡ false → times_in key lines ≡ 0
    go false false false first second third is = grind (arith, nat_tests, first, second, third)
    go false false true first second third is = absurd cc
    go false true heavy first second third is = absurd cc
    go true light heavy first second third is = absurd cc

-- that key and those that stand in line do so once each
once_with : (key other n : ℕ) (lines : Lines) → stands key lines ≡ false → AreLines lines
    → n ≤ times_in other lines + one_if (key == other)
    → n ≤ 1
once_with key other n lines none are most = elim (eqb_tells key other) [
  | inl (is, same) ↦
      let alone : times_in other lines ≡ 0 =
      subst (λ k. times_in k lines ≡ 0) same (none_stands key lines none) in
      omega (arith, rw is at most, alone)
  | inr (is, apart) ↦ omega (arith, rw is at most, are.once other)
]

-- whoever stands in no line may stand behind the others of any
pub lines_with_credited : (key : ℕ) (lines : Lines) → stands key lines ≡ false → AreLines lines
    → AreLines (record lines { credited = pushed key lines.credited })
lines_with_credited key lines none are = record {
  once = λ other. once_with key other _ lines none are
      (omega (arith, times_pushed key other lines.credited));
  light_left = are.light_left;
  heavy_left = are.heavy_left;
}

pub lines_with_light : (key : ℕ) (lines : Lines) → stands key lines ≡ false → AreLines lines
    → AreLines (record lines { light = pushed key lines.light })
lines_with_light key lines none are = record {
  once = λ other. once_with key other _ lines none are
      (omega (arith, times_pushed key other lines.light));
  light_left =
      let within = are.light_left in omega (arith, within, waiting_pushed key lines.light);
  heavy_left = are.heavy_left;
}

pub lines_with_heavy : (key : ℕ) (lines : Lines) → stands key lines ≡ false → AreLines lines
    → AreLines (record lines { heavy = pushed key lines.heavy })
lines_with_heavy key lines none are = record {
  once = λ other. once_with key other _ lines none are
      (omega (arith, times_pushed key other lines.heavy));
  light_left = are.light_left;
  heavy_left =
      let within = are.heavy_left in omega (arith, within, waiting_pushed key lines.heavy);
}

-- and before those that were served
pub lines_with_skipped_credited : (key : ℕ) (lines : Lines) → stands key lines ≡ false
    → AreLines lines
    → AreLines (record lines { credited = skipped key lines.credited })
lines_with_skipped_credited key lines none are = record {
  once = λ other. once_with key other _ lines none are
      (omega (arith, times_skipped key other lines.credited));
  light_left = are.light_left;
  heavy_left = are.heavy_left;
}

pub lines_with_skipped_light : (key : ℕ) (lines : Lines) → stands key lines ≡ false
    → AreLines lines
    → AreLines (record lines { light = skipped key lines.light })
lines_with_skipped_light key lines none are = record {
  once = λ other. once_with key other _ lines none are
      (omega (arith, times_skipped key other lines.light));
  light_left =
      let within = are.light_left in omega (arith, within, length_skipped key lines.light);
  heavy_left = are.heavy_left;
}

pub lines_with_skipped_heavy : (key : ℕ) (lines : Lines) → stands key lines ≡ false
    → AreLines lines
    → AreLines (record lines { heavy = skipped key lines.heavy })
lines_with_skipped_heavy key lines none are = record {
  once = λ other. once_with key other _ lines none are
      (omega (arith, times_skipped key other lines.heavy));
  light_left = are.light_left;
  heavy_left =
      let within = are.heavy_left in omega (arith, within, length_skipped key lines.heavy);
}

-- a line with the same keys
abbrev pub HasSameKeys : Line → Line → Type 0
HasSameKeys one other = (other.waiting ≡ one.waiting) × (other.served ≡ one.served)

-- lines with the same keys
pub lines_with_same : (lines : Lines) (credited light heavy : Line) → AreLines lines
    → HasSameKeys lines.credited credited → HasSameKeys lines.light light
    → HasSameKeys lines.heavy heavy
    → AreLines (record lines { credited = credited; light = light; heavy = heavy })
lines_with_same lines credited light heavy are first second third = record {
  once = λ key. rw (first.0, first.1, second.0, second.1, third.0, third.1) (are.once key);
  light_left = rw second.0 are.light_left;
  heavy_left = rw third.0 are.heavy_left;
}
