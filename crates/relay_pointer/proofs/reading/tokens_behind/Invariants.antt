use Rattle.std.proofs.Common.{◌≡◌, ◌++◌, ◌==◌, length, drop}
use Rattle.std.specs.List.{slice_split}
use Rattle.std.specs.Option.{option_map}
use Rattle.relay_pointer.specs.Path.{path_of}
use Rattle.relay_pointer.specs.Spelling.{tokens_of}
use Rattle.relay_pointer.proofs.reading.tokens_behind.Given as goal

abbrev pub invariant-loop-part : goal.invariant-loop-part
invariant-loop-part l = record {
  next : (goal.iterator-loop-part).can_next l.part-iterator;
  finite : (goal.iterator-loop-part).is_finite l.part-iterator;
  rest : tokens_of (slice_split (λ b. b == 47) l.fn.written)
      ≡ option_map (λ ts. path_of l.tokens.items ++ ts)
      (tokens_of (drop (length l.yielded) (slice_split (λ b. b == 47) l.fn.written)));
}
