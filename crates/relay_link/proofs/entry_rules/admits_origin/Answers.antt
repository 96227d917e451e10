-- The names are tried in their order.
use Rattle.std.proofs.Common.{◌≡◌, ◌==◌, rules, tests, length, false, string_bytes}
use Rattle.std.specs.Prelude.{bytes_eq}
use Rattle.std.proofs.lemmas.Iterator.{YieldsList-from_slice}
use Rattle.std.proofs.lemmas.Iterator.Search.{any_from_yields_List}
use Rattle.relay_link.proofs.entry_rules.admits_origin.Goals as goal

pub returns-else-is_empty : goal.returns-else-is_empty
returns-else-is_empty c =
    let found =
    any_from_yields_List (λ name. bytes_eq (string_bytes name) c.in-Some.origin.now) _ _ _
    c.any.ensures.ran (YieldsList-from_slice c.args.names.now c.iter.ensures.rest)
    (λ x b q k. search (rules, tests)) in
    let some : (length c.args.names.now == 0) ≡ false = search rules in
    rw (c.in-Some.is, some) found
