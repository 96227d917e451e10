use Rattle.std.proofs.Common.{◌<◌, ◌≤◌, Ok, length, sym, ap, ◌∙◌, arith}
use Rattle.relay_tree.specs.Document.{items_of}
use Rattle.relay_tree.specs.Each.{each_from}
use Rattle.relay_tree.proofs.Elements.{items_length-items_of}
use Rattle.relay_patch.specs.Form.{op_at}
use Rattle.relay_patch.proofs.Forms.{few, many}
use Rattle.relay_patch.proofs.patch.Patch.from_owned.Goals as goal

pub returns-then-len-limits-clause-err : goal.returns-then-len-limits-clause-err
returns-then-len-limits-clause-err c is_refused =
    let items = c.in-List.items in
    let ok = items.ok in
    let limits = c.args.limits in
    let long : limits.ops < length items.items = grind (arith, ok.0) in
    rw (← c.tree.view_is, c.in-List.is) (many limits.ops limits.tokens items.items long)

pub returns-in-Ok-clause-ok : goal.returns-in-Ok-clause-ok
returns-in-Ok-clause-ok c =
    let items = c.in-List.items in
    let ok = items.ok in
    let limits = c.args.limits in
    let short : length items.items ≤ limits.ops = grind (arith, ok.0) in
    let here = ap (λ xs. each_from (op_at limits.tokens) 0 (items_of xs))
    (ap (λ v. v.items) (sym c.in-List.items-is)) in
    rw (← c.tree.view_is, c.in-List.is)
    (few limits.ops limits.tokens items.items short ∙ here ∙ c.in-Ok.ensures.ok
    ∙ ap Ok (sym c.from_ops.ensures))

pub returns-in-Err-clause-err : goal.returns-in-Err-clause-err
returns-in-Err-clause-err c is_refused =
    let items = c.in-List.items in
    let ok = items.ok in
    let limits = c.args.limits in
    let short : length items.items ≤ limits.ops = grind (arith, ok.0) in
    let here = ap (λ xs. each_from (op_at limits.tokens) 0 (items_of xs))
    (ap (λ v. v.items) (sym c.in-List.items-is)) in
    rw (← c.tree.view_is, c.in-List.is)
    (few limits.ops limits.tokens items.items short ∙ here ∙ c.in-Err.ensures.err is_refused)

pub returns-in-Err-clause-memory : goal.returns-in-Err-clause-memory
returns-in-Err-clause-memory c is_memory =
    let items = c.in-List.items in
    let ok = items.ok in
    let limits = c.args.limits in
    let short : length items.items ≤ limits.ops = grind (arith, ok.0) in
    rw (← c.tree.view_is, c.in-List.is, items_length-items_of items.items) short
