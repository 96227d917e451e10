-- The connections that may be read, as contracts see them, and what a call makes of them.
use Rattle.std.specs.Prelude.{◌≡◌, ℕ, ◌+◌, ◌-◌, ◌^◌, ◌≤◌, Bool, ◌||◌, ◌&&◌, ◌==◌, min}
use Rattle.std.specs.Prelude.{if◌then◌else◌, List, length, take, refl}
use Rattle.std.specs.Coded.{Coded, code_by, coded×, coded_ℕ}
use Rattle.relay_schedule.specs.Credit.{has_credit}
use Rattle.relay_schedule.specs.Queue.{times}
use Rattle.relay_schedule.specs.TurnLine.{Line, Admits, MayAdmit, line_code, order, no_line}
use Rattle.relay_schedule.specs.TurnLine.{is_empty, holds, admitting, pushed, skipped}
use Rattle.relay_schedule.specs.TurnLine.{without_first, in_new_pass}
use Rattle.relay_schedule.specs.declared.credit.Credit.{Credit}
use Rattle.relay_schedule.specs.declared.credit.Debt.{Debt}
use Rattle.relay_schedule.specs.declared.credit.Debt.TheVariants.{Light, Heavy}

-- The line of those with credit, the two of whoever owes, by the debt, and the round of credit. Of
-- either of the two, how many were not visited in the round: the first ones.
pub record Lines : Type 0 where
  pub credited : Line
  pub light : Line
  pub heavy : Line
  pub round : ℕ
  pub light_left : ℕ
  pub heavy_left : ℕ

-- how often a key stands in line
abbrev pub times_in : ℕ → Lines → ℕ
times_in key lines =
    times key (order lines.credited) + (times key (order lines.light)
    + times key (order lines.heavy))

-- the invariant of the lines: no key stands in two, or twice in one; and who was not visited in the
-- round waits
pub record AreLines (lines : Lines) : Type 0 where
  pub once : (key : ℕ) → times_in key lines ≤ 1
  pub light_left : lines.light_left ≤ length lines.light.waiting
  pub heavy_left : lines.heavy_left ≤ length lines.heavy.waiting

-- no key stands in line, and none is admitted
abbrev pub no_lines : Lines
no_lines = record {
  credited = no_line;
  light = no_line;
  heavy = no_line;
  round = 1;
  light_left = 0;
  heavy_left = 0;
}

-- whether no key stands in line
abbrev pub are_empty : Lines → Bool
are_empty lines = is_empty lines.credited && (is_empty lines.light && is_empty lines.heavy)

-- whether a key stands in line
abbrev pub stands : ℕ → Lines → Bool
stands key lines = holds key lines.credited || (holds key lines.light || holds key lines.heavy)

-- there is memory for this key in each line
pub record EachAdmits (key : ℕ) (lines : Lines) : Type 0 where
  pub credited : Admits key lines.credited
  pub light : Admits key lines.light
  pub heavy : Admits key lines.heavy

-- each line admits this key too, and those below it
abbrev pub each_admitting : ℕ → Lines → Lines
each_admitting key lines = record lines {
  credited = admitting key lines.credited;
  light = admitting key lines.light;
  heavy = admitting key lines.heavy;
}

-- nothing changes, but that a line may admit this key too
pub record LinesMayAdmit (key : ℕ) (old new : Lines) : Type 0 where
  pub credited : MayAdmit key old.credited new.credited
  pub light : MayAdmit key old.light new.light
  pub heavy : MayAdmit key old.heavy new.heavy
  pub round : new.round ≡ old.round
  pub light_left : new.light_left ≡ old.light_left
  pub heavy_left : new.heavy_left ≡ old.heavy_left

-- the line of those with such a debt
abbrev pub owing : Debt → Lines → Line
owing Light lines = lines.light
owing Heavy lines = lines.heavy

-- the lines with what becomes of one: that in which a connection with this credit stands
abbrev pub in_line : (Line → Line) → Credit → Lines → Lines
in_line becomes credit lines =
    if has_credit credit then record lines { credited = becomes lines.credited } else
    (if credit.is_heavy then record lines { heavy = becomes lines.heavy }
    else record lines { light = becomes lines.light })

-- the key stands behind the others of its line, unless it stands in one
abbrev pub lined_up : ℕ → Credit → Lines → Lines
lined_up key credit lines =
    if stands key lines then lines else in_line (pushed key) credit lines

-- the key was skipped: it stands in its line behind those that wait and before those that were
-- served, unless it stands in one
abbrev pub skipped_in_line : ℕ → Credit → Lines → Lines
skipped_in_line key credit lines =
    if stands key lines then lines else in_line (skipped key) credit lines

-- a pass of those with credit begins
abbrev pub in_credited_pass : Lines → Lines
in_credited_pass lines = record lines { credited = in_new_pass lines.credited }

-- whether each that owed when the round of credit began was visited
abbrev pub is_over : Lines → Bool
is_over lines = (lines.light_left == 0) && (lines.heavy_left == 0)

-- if it is over, the next round begins
abbrev pub in_round : Lines → Lines
in_round lines =
    if is_over lines then record lines {
      round = min (2 ^ 64 - 1) (lines.round + 1);
      light_left = length lines.light.waiting;
      heavy_left = length lines.heavy.waiting;
    } else lines

-- a pass of those who owe begins
abbrev pub in_owing_pass : Lines → Lines
in_owing_pass lines =
    in_round (record lines { light = in_new_pass lines.light; heavy = in_new_pass lines.heavy })

-- the first of those with credit is visited
abbrev pub without_credited : Lines → Lines
without_credited lines = record lines { credited = without_first lines.credited }

-- the first of those with such a debt is visited
abbrev pub without_owing : Debt → Lines → Lines
without_owing Light lines = record lines {
  light = without_first lines.light;
  light_left = lines.light_left - 1;
}
without_owing Heavy lines = record lines {
  heavy = without_first lines.heavy;
  heavy_left = lines.heavy_left - 1;
}

-- those with such a debt who were not visited in the round
abbrev pub unserved : Debt → Lines → List ℕ
unserved Light lines = take lines.light_left lines.light.waiting
unserved Heavy lines = take lines.heavy_left lines.heavy.waiting

-- how the logic encodes the lines
abbrev pub lines_code : Coded Lines
lines_code = code_by (Line × (Line × (Line × (ℕ × (ℕ × ℕ)))))
    (coded× line_code (coded× line_code (coded× line_code
    (coded× coded_ℕ (coded× coded_ℕ coded_ℕ)))))
    (λ lines. (
      lines.credited,
      (
        lines.light,
        (
          lines.heavy,
          (lines.round, (lines.light_left, lines.heavy_left)),
        ),
      ),
    ))
    (λ p. record {
      credited = p.0;
      light = p.1.0;
      heavy = p.1.1.0;
      round = p.1.1.1.0;
      light_left = p.1.1.1.1.0;
      heavy_left = p.1.1.1.1.1;
    })
    (λ _. refl)
