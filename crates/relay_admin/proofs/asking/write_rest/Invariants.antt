-- The text that is written, with the text that is left behind it, stays.
use Rattle.std.proofs.Common.{◌≡◌, ◌++◌, length}
use Rattle.json.specs.Print.{ArePrintable}
use Rattle.relay_admin.proofs.asking.write_rest.Given as goal

abbrev pub invariant-loop-token : goal.invariant-loop-token
invariant-loop-token l = record {
  tokens : l.out.tokens ++ l.reader ≡ l.initial.out.tokens ++ l.initial.reader;
  before : l.out.before ≡ l.initial.out.before;
  printable : ArePrintable l.reader;
}

abbrev pub decreases-loop-token : goal.decreases-loop-token
decreases-loop-token l = length l.reader
