use Rattle.std.proofs.Common.{◌≡◌, arith}
use Rattle.relay_tree.specs.Document.{list, items_of}
use Rattle.relay_tree.proofs.Elements.{items_length-items_of}
use Rattle.relay_apply.proofs.sliding.slide_in.Goals as goal

pub returns-in-List-clause-few : goal.returns-in-List-clause-few
returns-in-List-clause-few c = λ ds here.
    let v = c.in-List.items in
    let whole : list (items_of v.items) ≡ list ds = rw c.in-List.is at here in
    let same : items_of v.items ≡ ds = cc in
    rw (← same) (omega (arith, items_length-items_of v.items, c.slide_item.ensures.few))
