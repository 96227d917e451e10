use Rattle.std.proofs.Common.{◌≡◌, ◌∙◌, Some, ap, sym}
use Rattle.relay_tree.specs.Part.{list_len}
use Rattle.relay_keeping.proofs.Whole.{only_item}
use Rattle.relay_keeping.proofs.client.only_item.Goals as goal

pub returns-in-Some-eq1 : goal.returns-in-Some-eq1
returns-in-Some-eq1 c =
    let one : list_len c.args.list.now ≡ Some 1 =
    ap list_len (sym c.list.view_is) ∙ sym c.list_len.ensures.len ∙ c.in-Some-eq1.is
    ∙ ap Some c.in-Some-eq1.field-0-test in
    only_item c.args.list.now c.item.result one c.item.ensures
