-- The lines read so far were answered, and their answers were written.
use Rattle.std.proofs.Common.{◌≡◌, ◌≤◌, ℕ, List, length, All}
use Rattle.std.specs.Io.KnownBytes.{Appends, prepend_known}
use Rattle.relay_script.specs.declared.input.TheConstants.{MAX_LINE}
use Rattle.relay_script.specs.Respond.{Runs, TakesLines}
use Rattle.relay_script.proofs.run.run_lines.Given as goal

abbrev pub invariant-loop-before : goal.invariant-loop-before
invariant-loop-before g l = (lines : List (List ℕ)) × (written : List ℕ)
    × Runs g.S.Respond.answers l.initial.state lines l.state written
    × TakesLines (g.R.Read.remaining l.initial.reader)
    (prepend_known l.lines (g.R.Read.remaining l.reader)) lines
    × Appends (g.W.Write.contents l.initial.writer) (g.W.Write.contents l.writer) written
    × (length lines ≡ l.before)
    × All (λ line. length line ≤ MAX_LINE) lines
