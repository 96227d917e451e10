-- The texts so far are copied, in their order.
use Rattle.std.proofs.Common.{◌≡◌, take, map, string_bytes}
use Rattle.relay_options.proofs.values.owned.Given as goal

abbrev pub invariant-loop-text : goal.invariant-loop-text
invariant-loop-text l =
    map string_bytes l.owned.items ≡ map (λ text. text.now) (take l.text-index l.texts)
