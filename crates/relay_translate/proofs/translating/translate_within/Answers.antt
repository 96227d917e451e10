use Rattle.std.proofs.Common.{◌++◌, ◌+◌, Bor, map, drop, refl, sym, ap, ◌∙◌, append_assoc}
use Rattle.std.proofs.Common.{option_map}
use Rattle.relay_patch.specs.declared.change.Change.{Change}
use Rattle.relay_translate.specs.Translate.{local, local_from, slot_ops}
use Rattle.relay_translate.proofs.Weights.{further_ops, paid_further, paid_no_further}
use Rattle.relay_translate.proofs.translating.translate_within.Goals as goal

pub returns-in-None : goal.returns-in-None
returns-in-None c =
    let changes = map (λ (x : Bor Change). x.now) c.args.changes.now in
    let now = c.args.now.now in
    let slots = c.slots-slot-items.result.now in
    let n = c.loop-number.number in
    let more = further_ops changes now slots n c.slot-item.result c.loop-number-test.true
    c.slot-item.is in
    let none = paid_no_further (local_from n changes now (drop n slots))
    (slot_ops n c.slot-item.result changes now)
    (local_from (n + 1) changes now (drop (n + 1) slots)) c.loop-number.left more
    (sym c.in_ok-rest.ensures.left ∙ c.in-None.is) in
    sym (ap (option_map (λ o. local changes now c.args.view.now))
    (sym c.loop-number.invariant.1 ∙ none))

pub loop-number-preserved : goal.loop-number-preserved
loop-number-preserved c =
    let changes = map (λ (x : Bor Change). x.now) c.args.changes.now in
    let now = c.args.now.now in
    let slots = c.slots-slot-items.result.now in
    let n = c.loop-number.number in
    let done = slot_ops n c.slot-item.result changes now in
    let rest = local_from (n + 1) changes now (drop (n + 1) slots) in
    let more = further_ops changes now slots n c.slot-item.result c.loop-number-test.true
    c.slot-item.is in
    let pushed = c.in_ok-rest.ensures.pushed (rw c.in-Some.is refl) in (
      ap (λ ops. ops ++ rest) pushed
          ∙ (append_assoc c.loop-number.ops.items done rest
          ∙ (ap (λ ops. c.loop-number.ops.items ++ ops) (sym more) ∙ c.loop-number.invariant.0)),
      paid_further
          (local_from n changes now (drop n slots)) done rest c.loop-number.left c.in-Some.rest more
          (sym c.in_ok-rest.ensures.left ∙ c.in-Some.is) ∙ c.loop-number.invariant.1,
    )
