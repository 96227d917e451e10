use Rattle.std.proofs.Common.{◌≡◌, ◌++◌, flat_map, string_bytes, encode_utf8_all}
use Rattle.relay_pointer.specs.Spelling.{escaped}
use Rattle.relay_pointer.proofs.text.push_escaped.Given as goal

abbrev pub invariant-loop-character : goal.invariant-loop-character
invariant-loop-character l = record {
  next : (goal.iterator-loop-character).can_next l.character-iterator;
  finite : (goal.iterator-loop-character).is_finite l.character-iterator;
  so_far : string_bytes l.text ≡ string_bytes l.fn.text
      ++ flat_map escaped (encode_utf8_all l.yielded);
}
