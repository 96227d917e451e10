use Rattle.std.proofs.Common.{◌<◌, ◌≤◌, Ok, length, sym, ap, ◌∙◌, arith}
use Rattle.relay_view.specs.declared.view.TheConstants.{MAX_SLOTS}
use Rattle.relay_view.proofs.Reading.{few, many, short}
use Rattle.relay_view.proofs.view.View.read.Goals as goal

pub returns-then-len-gt-MAX_SLOTS-clause-err : goal.returns-then-len-gt-MAX_SLOTS-clause-err
returns-then-len-gt-MAX_SLOTS-clause-err c is_refused =
    let items = c.in-List.items in
    let ok = items.ok in
    let long : MAX_SLOTS < length items.items =
    omega (arith, ok.0, c.len.ensures, c.if-len-gt-MAX_SLOTS.true) in
    rw (← c.tree.view_is, c.in-List.is) (many items.items long)

pub returns-in-Ok-clause-ok : goal.returns-in-Ok-clause-ok
returns-in-Ok-clause-ok c =
    let items = c.in-List.items in
    let ok = items.ok in
    let short : length items.items ≤ MAX_SLOTS =
    omega (arith, ok.0, c.len.ensures, c.if-len-gt-MAX_SLOTS.false) in
    rw (← c.tree.view_is, c.in-List.is)
    (few items.items short ∙ c.in-Ok.ensures.ok ∙ ap Ok (sym c.of_slots.ensures))

pub returns-in-Err-clause-err : goal.returns-in-Err-clause-err
returns-in-Err-clause-err c is_refused =
    let items = c.in-List.items in
    let ok = items.ok in
    let short : length items.items ≤ MAX_SLOTS =
    omega (arith, ok.0, c.len.ensures, c.if-len-gt-MAX_SLOTS.false) in
    rw (← c.tree.view_is, c.in-List.is) (few items.items short ∙ c.in-Err.ensures.err is_refused)

pub returns-in-Err-clause-no_memory : goal.returns-in-Err-clause-no_memory
returns-in-Err-clause-no_memory c is_no_memory =
    let items = c.in-List.items in
    let ok = items.ok in
    let few_items : length items.items ≤ MAX_SLOTS =
    omega (arith, ok.0, c.len.ensures, c.if-len-gt-MAX_SLOTS.false) in
    rw (← c.tree.view_is, c.in-List.is) (short items.items few_items)
