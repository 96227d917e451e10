-- The value stands between three prefixes and a suffix.
use Rattle.std.proofs.Common.{ℕ, List, codes, sym, decimal}
use Rattle.relay_admin.proofs.Prefixes.{behind_is, never_behind}
use Rattle.relay_admin.proofs.Snapshots.{same_rest, shown}
use Rattle.relay_admin.proofs.asking.shown_value.Goals as goal

abbrev first : List ℕ
first = codes "{\"kind\":\"snapshot\",\"rev\":"

abbrev third : List ℕ
third = codes ",\"view\":[["

pub returns-in_default : goal.returns-in_default
returns-in_default c = λ value e.
    never_behind first c.args.text.now _ (sym c.in_default.ensures) e

pub returns-in_default-behind : goal.returns-in_default-behind
returns-in_default-behind c = λ value e.
    let none = rw c.format.ensures.text at c.in_default-behind.ensures in
    let number = behind_is first c.args.text.now c.in-Some.number.now (sym c.in-Some.ensures) in
    never_behind (decimal c.args.rev) c.in-Some.number.now _ (sym none)
    (same_rest first c.args.text.now c.in-Some.number.now _ number e)

pub returns-in_default-behind-2 : goal.returns-in_default-behind-2
returns-in_default-behind-2 c = λ value e.
    let digits = rw c.format.ensures.text at c.in-Some-behind.ensures in
    let number = behind_is first c.args.text.now c.in-Some.number.now (sym c.in-Some.ensures) in
    let view =
    behind_is (decimal c.args.rev) c.in-Some.number.now c.in-Some-behind.view.now (sym digits) in
    never_behind third c.in-Some-behind.view.now _ (sym c.in_default-behind-2.ensures)
    (same_rest (decimal c.args.rev) c.in-Some.number.now c.in-Some-behind.view.now _ view
    (same_rest first c.args.text.now c.in-Some.number.now _ number e))

pub returns : goal.returns
returns c =
    let digits = rw c.format.ensures.text at c.in-Some-behind.ensures in
    let number = behind_is first c.args.text.now c.in-Some.number.now (sym c.in-Some.ensures) in
    let view =
    behind_is (decimal c.args.rev) c.in-Some.number.now c.in-Some-behind.view.now (sym digits) in
    let value =
    behind_is third c.in-Some-behind.view.now c.in-Some-behind-2.value.now
    (sym c.in-Some-behind-2.ensures) in
    shown first (decimal c.args.rev) third (codes "]]}") c.args.text.now c.in-Some.number.now
    c.in-Some-behind.view.now c.in-Some-behind-2.value.now number view value c.before-2.result
    c.before-2.ensures
