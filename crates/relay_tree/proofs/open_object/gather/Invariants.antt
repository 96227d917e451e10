use Rattle.std.proofs.Common.{◌≡◌, List, ◌++◌}
use Rattle.relay_tree.proofs.ReadLemmas.{Read, EachRead}
use Rattle.relay_tree.proofs.open_object.gather.Given as goal

abbrev pub invariant-loop-name : goal.invariant-loop-name
invariant-loop-name l = record {
  done : List Read;
  all : l.fn.found.entries ≡ done ++ l.name-iterator;
  each : EachRead done l.members.entries;
}
