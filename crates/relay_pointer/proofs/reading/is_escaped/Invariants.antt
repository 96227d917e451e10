use Rattle.std.proofs.Common.{◌≡◌, length}
use denote.Text.{Utf8}
use denote.Shadow.{shadow}
use Rattle.relay_pointer.specs.Spelling.{is_escaped}
use Rattle.relay_pointer.proofs.reading.is_escaped.Given as goal

abbrev pub invariant-loop-behind : goal.invariant-loop-behind
invariant-loop-behind l =
    record { utf8 : shadow (Utf8 l.rest); rest : is_escaped l.text ≡ is_escaped l.rest }

abbrev pub decreases-loop-behind : goal.decreases-loop-behind
decreases-loop-behind l = length l.rest
