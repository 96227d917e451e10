use Rattle.std.proofs.Common.{Ok, sym, ap, ◌∙◌, arith}
use Rattle.relay_apply.proofs.Contained.{named, element_taken, element_drops}
use Rattle.relay_apply.proofs.container.drop_item.Goals as goal
use Rattle.relay_pointer.proofs.Indexes.{index_is}

pub remove-element-requires : goal.remove-element-requires
remove-element-requires c =
    let v = c.args.items.now in
    let ok = v.ok in
    let small = v.small in
    let m = named v.items c.args.token.now c.requires in
    let same =
    index_is v.items c.args.token.now c.unwrap-index.result (omega arith)
    (sym c.unwrap-index.ensures ∙ c.index_of.ensures) m in
    omega (arith, ok.0, same, m.within)

pub returns-clause-value : goal.returns-clause-value
returns-clause-value c =
    let v = c.args.items.now in
    let ok = v.ok in
    let small = v.small in
    let m = named v.items c.args.token.now c.requires in
    let i = c.unwrap-index.result in
    let same =
    index_is v.items c.args.token.now i (omega arith) (sym c.unwrap-index.ensures
    ∙ c.index_of.ensures) m in
    element_taken v.items c.args.token.now i c.remove-element.result m same
    c.remove-element.ensures.value ∙ ap Ok (sym c.into_tree.ensures)

pub returns-clause-rest : goal.returns-clause-rest
returns-clause-rest c =
    let v = c.args.items.now in
    let ok = v.ok in
    let small = v.small in
    let m = named v.items c.args.token.now c.requires in
    let same =
    index_is v.items c.args.token.now c.unwrap-index.result (omega arith)
    (sym c.unwrap-index.ensures ∙ c.index_of.ensures) m in
    rw (
      c.trim.ensures,
      c.remove-element.ensures.items,
      same,
    ) (element_drops v.items c.args.token.now m)
