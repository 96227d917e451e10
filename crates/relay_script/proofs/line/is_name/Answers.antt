-- The length is in range, and each byte is a letter or digit.
use Rattle.std.proofs.Common.{rules, tests, arith, ◌≡◌, length, true, ◌∙◌, sym, ap, nat_le, ◌&&◌}
use Rattle.std.proofs.lemmas.Bool.Decides.{nat_tests}
use Rattle.std.specs.List.{list_all}
use Rattle.std.specs.Char.{is_ascii_alphanumeric}
use Rattle.std.proofs.lemmas.Iterator.{YieldsList-from_slice}
use Rattle.std.proofs.lemmas.Iterator.Search.{all_from_yields_List}
use Rattle.relay_script.specs.declared.line.TheConstants.{MAX_NAME}
use Rattle.relay_script.proofs.line.is_name.Goals as goal

pub returns : goal.returns
returns c =
    let s = c.args.name.now in
    let all : c.all.result ≡ list_all is_ascii_alphanumeric s =
    all_from_yields_List is_ascii_alphanumeric _ _ c.all.result c.all.ensures.ran
    (YieldsList-from_slice s cc) (λ x b q k. search (rules, tests)) in
    let some : nat_le 1 (length s) ≡ true = grind (arith, nat_tests) in
    let few : nat_le (length s) MAX_NAME ≡ true = grind (arith, nat_tests) in
    all ∙ sym (ap (λ t. t && nat_le (length s) MAX_NAME && list_all is_ascii_alphanumeric s) some
    ∙ ap (λ t. t && list_all is_ascii_alphanumeric s) few)
