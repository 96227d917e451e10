use Rattle.std.proofs.Common.{◌<◌, ◌≤◌, length, refl, sym, arith}
use Rattle.std.proofs.lemmas.Option.{slice_get_past, slice_get_read}
use Rattle.relay_tree.proofs.Elements.{slice_get-items_of}
use Rattle.relay_tree.proofs.tree.Tree.item.Goals as goal

pub returns-then-index-len : goal.returns-then-index-len
returns-then-index-len c =
    let xs = c.in-List.items.items in
    let within : c.args.index < length xs =
    omega (arith, c.if-index-len.true, c.len.ensures, c.in-List.items.ok) in
    rw (← c.self.view_is, c.in-List.is, ← slice_get-items_of, c.tree.ensures)
    (sym (slice_get_read xs
    (length xs) c.args.index c.index.result.now refl within c.index.ensures))

pub returns-else-index-len : goal.returns-else-index-len
returns-else-index-len c =
    let xs = c.in-List.items.items in
    let past : length xs ≤ c.args.index =
    omega (arith, c.if-index-len.false, c.len.ensures, c.in-List.items.ok) in
    rw (← c.self.view_is, c.in-List.is, ← slice_get-items_of)
    (sym (slice_get_past xs c.args.index past))
