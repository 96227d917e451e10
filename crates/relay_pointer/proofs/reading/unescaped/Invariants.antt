use Rattle.std.proofs.Common.{◌≡◌, ◌++◌, length, string_bytes}
use denote.Text.{Utf8}
use denote.Shadow.{shadow}
use Rattle.std.specs.Option.{option_map}
use Rattle.relay_pointer.specs.Spelling.{unescaped}
use Rattle.relay_pointer.proofs.reading.unescaped.Given as goal

abbrev pub invariant-loop-plain : goal.invariant-loop-plain
invariant-loop-plain l =
    record {
      utf8 : shadow (Utf8 l.rest);
      rest : unescaped l.written
          ≡ option_map (λ t. string_bytes l.token ++ t) (unescaped l.rest);
    }

abbrev pub decreases-loop-plain : goal.decreases-loop-plain
decreases-loop-plain l = length l.rest
