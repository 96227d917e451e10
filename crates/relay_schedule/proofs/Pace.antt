-- The pace of a link's output, over many turns.
use Rattle.std.proofs.Common.{◌≡◌, ℕ, List, [], ◌∷◌, Bool, true, false, not, ◌+◌, ◌-◌, ◌*◌}
use Rattle.std.proofs.Common.{◌<◌, ◌≤◌, max, nat_lt, arith, refl, cond, ap}
use Rattle.std.proofs.Common.{◌∙◌}
use Rattle.std.proofs.lemmas.Bool.Decides.{nat_tests}
use Rattle.relay_schedule.specs.Output.{sixteenth, loaded, is_over_due, Turn, after_turn}
use Rattle.relay_schedule.specs.Output.{after_turns, taken_in, AreFrom, IsPaced}
use Rattle.relay_schedule.specs.declared.output.LinkOutput.{LinkOutput}

-- bytes are less than a sixteenth, rounded up, if sixteen times as many are less than all
pub sixteenth_most : (unsent taken : ℕ) → unsent ≤ 16 * taken → sixteenth unsent ≤ taken
sixteenth_most unsent taken enough = omega (arith, enough)

pub sixteenth_least : (unsent taken : ℕ) → 16 * taken < unsent → taken < sixteenth unsent
sixteenth_least unsent taken little = omega (arith, little)

-- a turn that takes less than is due, and one that takes as much
paced_on : (output : LinkOutput) (drawn taken : ℕ) → IsPaced output → taken < output.due
    → output.due - taken ≤ sixteenth (loaded output drawn - taken)
paced_on output drawn taken is little =
    let fits = is.fits in
    let most = is.most in
    omega (arith, fits, most, little)

pub paced_after : (turn : Turn) (output : LinkOutput) → IsPaced output
    → IsPaced (after_turn turn output)
paced_after turn output is = go (nat_lt turn.taken output.due) refl
  where
    go : (goes_on : Bool) → nat_lt turn.taken output.due ≡ goes_on → IsPaced (record {
      unsent = loaded output turn.drawn - turn.taken;
      held = max output.held (loaded output turn.drawn);
      began = cond goes_on output.began turn.second;
      due = cond goes_on (output.due - turn.taken)
          (sixteenth (loaded output turn.drawn - turn.taken));
    })
    go true known =
        let little : turn.taken < output.due = grind (arith, nat_tests, known) in
        record {
          fits = omega arith;
          some = λ waits. omega (arith, little);
          most = paced_on output turn.drawn turn.taken is little;
        }
    go false known = record {
      fits = omega arith;
      some = λ waits. omega (arith, waits);
      most = omega arith;
    }

-- the present stretch began in this second or later, if the last one did and the turns were
began_from : (from : ℕ) (turns : List Turn) (output : LinkOutput) → AreFrom from turns
    → from ≤ output.began
    → from ≤ (after_turns turns output).began
unfolding AreFrom after_turns
began_from from [] output are began = began
began_from from (turn ∷ turns) output are began =
    began_from from turns (after_turn turn output) are.1
    (go (nat_lt turn.taken output.due))
  where
    go : (goes_on : Bool) → from ≤ cond goes_on output.began turn.second
    go true = began
    go false = are.0

-- so it did if they took what was due
took_due : (from : ℕ) (turns : List Turn) (output : LinkOutput) → IsPaced output
    → AreFrom from turns
    → output.due ≤ taken_in turns
    → 0 < (after_turns turns output).unsent
    → from ≤ (after_turns turns output).began
unfolding AreFrom after_turns taken_in
took_due from [] output is are enough waits =
    let due = is.some waits in
    absurd (omega (arith, due, enough))
took_due from (turn ∷ turns) output is are enough waits =
    go (nat_lt turn.taken output.due) refl
    (λ still. took_due from turns (after_turn turn output) (paced_after turn output is) are.1 still
    waits)
    (λ anew. began_from from turns (after_turn turn output) are.1 anew)
  where
    go : (goes_on : Bool) → nat_lt turn.taken output.due ≡ goes_on
        → ((after_turn turn output).due ≤ taken_in turns
        → from ≤ (after_turns turns (after_turn turn output)).began)
        → (from ≤ (after_turn turn output).began
        → from ≤ (after_turns turns (after_turn turn output)).began)
        → from ≤ (after_turns turns (after_turn turn output)).began
    go true known rest anew = rest (rw known (omega (arith, enough)))
    go false known rest anew = anew (rw known are.0)

-- a link of which a sixteenth was taken lately of what was unsent before
pub not_over_due : (before : LinkOutput) (turns : List Turn) (from second patience : ℕ)
    → IsPaced before
    → AreFrom from turns
    → before.unsent ≤ 16 * taken_in turns
    → 0 < (after_turns turns before).unsent
    → 0 < patience
    → second < from + patience
    → nat_lt (second - (after_turns turns before).began) patience ≡ true
not_over_due before turns from second patience is are enough waits some soon =
    let most = is.most in
    let began = took_due from turns before is are
    (omega (arith, most, sixteenth_most before.unsent (taken_in turns) enough)) waits in
    grind (arith, nat_tests, began, some, soon)

-- the stretch goes on while less is taken than is due
stretch_goes_on : (turns : List Turn) (output : LinkOutput) → IsPaced output
    → taken_in turns < output.due
    → ((after_turns turns output).began ≡ output.began) × (0 < (after_turns turns output).unsent)
unfolding after_turns taken_in
stretch_goes_on [] output is little =
    let most = is.most in
    (refl, omega (arith, most, little))
stretch_goes_on (turn ∷ turns) output is little =
    let known : nat_lt turn.taken output.due ≡ true = grind (arith, nat_tests, little) in
    let still : taken_in turns < (after_turn turn output).due = rw known (omega (arith, little)) in
    let rest = stretch_goes_on turns (after_turn turn output) (paced_after turn output is) still in
    (rest.0 ∙ ap (λ b. cond b output.began turn.second) known, rest.1)

pub over_due_by_age : (begin : LinkOutput) (turns : List Turn) (second patience : ℕ)
    → IsPaced begin
    → begin.due ≡ sixteenth begin.unsent
    → 16 * taken_in turns < begin.unsent
    → is_over_due (after_turns turns begin) second patience
    ≡ not (nat_lt (second - begin.began) patience)
over_due_by_age begin turns second patience is due little =
    let less = sixteenth_least begin.unsent (taken_in turns) little in
    let goes_on = stretch_goes_on turns begin is (omega (arith, less, due)) in
    let waits : nat_lt 0 (after_turns turns begin).unsent ≡ true =
    let some = goes_on.1 in grind (arith, nat_tests, some) in
    rw (waits, goes_on.0) refl
