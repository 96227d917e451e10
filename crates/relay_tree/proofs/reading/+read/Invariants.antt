use Rattle.std.proofs.Common.{◌≡◌, ℕ, ◌+◌, ◌*◌, ◌≤◌, List, length, option_map}
use Rattle.json.specs.Json.{items, members, value, parse_map}
use Rattle.serde_json.specs.Data.{Data, Members, no_members}
use Rattle.serde_json.specs.Read.{of_items, of_members, converted}
use Rattle.relay_tree.specs.Reading.{AreRead, members_read}
use Rattle.relay_tree.proofs.ReadLemmas.{before, trees_of}
use Rattle.relay_tree.proofs.reading.+read.Given as goal

abbrev pub decreases-read_tree : goal.decreases-read_tree
decreases-read_tree l = 2 * l.depth

abbrev pub decreases-read_items : goal.decreases-read_items
decreases-read_items l = 2 * l.depth + 1

abbrev pub decreases-read_members : goal.decreases-read_members
decreases-read_members l = 2 * l.depth + 1

abbrev pub invariant-read_items-items : goal.invariant-read_items-items
invariant-read_items-items l = record {
  turns : ℕ;
  enough : length l.reader ≤ turns;
  done : List Data;
  rest : converted of_items (items (value l.depth) (length l.initial.reader) l.initial.reader)
      ≡ parse_map (before done) (converted of_items (items (value l.depth) turns l.reader));
  shorter : length l.reader ≤ length l.initial.reader;
  trees : trees_of done ≡ option_map (λ v. v.items) l.found;
}

abbrev pub decreases-read_items-items : goal.decreases-read_items-items
decreases-read_items-items l = length l.reader

abbrev pub invariant-read_members-members : goal.invariant-read_members-members
invariant-read_members-members l = record {
  turns : ℕ;
  enough : length l.reader ≤ turns;
  done : Members;
  rest : converted (λ ms. of_members ms no_members)
      (members (value l.depth) (length l.initial.reader) l.initial.reader)
      ≡ converted (λ ms. of_members ms done) (members (value l.depth) turns l.reader);
  shorter : length l.reader ≤ length l.initial.reader;
  read : AreRead done (members_read l.object);
}

abbrev pub decreases-read_members-members : goal.decreases-read_members-members
decreases-read_members-members l = length l.reader
