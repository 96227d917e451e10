-- The line so far has no line feed, is within the limit, and precedes the bytes that are not yet
-- read.
use Rattle.std.proofs.Common.{◌≤◌, ◌+◌, ◌-◌, vec_len}
use Rattle.std.specs.Io.KnownBytes.{Consumes, prepend_known}
use Rattle.relay_script.specs.Lines.{HasNoBreak}
use Rattle.relay_script.specs.declared.input.TheConstants.{MAX_LINE}
use Rattle.relay_script.proofs.input.next_line.Given as goal

abbrev pub invariant-parts : goal.invariant-parts
invariant-parts g l = record {
  fits : vec_len l.line ≤ MAX_LINE;
  within_line : HasNoBreak l.line.items;
  front : Consumes (prepend_known l.initial.lines (g.R.Read.remaining l.initial.reader))
      (prepend_known l.lines (g.R.Read.remaining l.reader)) l.line.items;
}

abbrev pub decreases-parts : goal.decreases-parts
decreases-parts g l = MAX_LINE + 1 - vec_len l.line
