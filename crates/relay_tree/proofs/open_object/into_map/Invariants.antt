use Rattle.std.proofs.Common.{◌≡◌, List, ◌++◌, length, map, String, Global}
use Rattle.std.specs.Vec.Iter.{into_iter_items, into_iter_len}
use Rattle.relay_tree.specs.Document.{Document}
use Rattle.relay_tree.specs.Reading.{as_read}
use Rattle.relay_tree.proofs.open_object.into_map.Given as goal

abbrev pub invariant-loop-name : goal.invariant-loop-name
invariant-loop-name l = record {
  done : List (String Global × Document);
  all : l.fn.members.entries ≡ done ++ into_iter_items l.name-iterator;
  len : into_iter_len l.name-iterator ≡ length (into_iter_items l.name-iterator);
  found : l.found.entries ≡ map as_read done;
}
