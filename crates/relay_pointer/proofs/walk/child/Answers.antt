use Rattle.std.proofs.Common.{◌≡◌, ◌^◌, ◌<◌, Some, length, ap, ◌∙◌, arith}
use Rattle.relay_tree.specs.Part.{list_len}
use Rattle.relay_tree.proofs.Elements.{items_length-items_of}
use Rattle.relay_pointer.proofs.Walks.{child-number}
use Rattle.relay_pointer.proofs.walk.child.Goals as goal

pub returns-in_ok-index_of-in-List : goal.returns-in_ok-index_of-in-List
returns-in_ok-index_of-in-List c =
    let items = c.in-List.field-0 in
    let long : list_len c.args.tree.now ≡ Some (length items.items) =
    rw (← c.tree.view_is, c.in-List.is) (ap Some (items_length-items_of items.items)) in
    let ok = items.ok in
    let few : length items.items < 2 ^ 64 = omega (arith, items.small, ok.0, ok.1) in
    c.item.ensures
    ∙ child-number c.args.tree.now c.args.token.now c.in_ok-index_of-in-List.field-0
    (length items.items) long few c.in_ok-index_of-in-List.ensures
