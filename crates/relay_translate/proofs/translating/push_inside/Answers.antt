use Rattle.std.proofs.Common.{ℕ, ◌+◌, List, ◌++◌, map, drop, flat_map, refl, sym, ap, ◌∙◌}
use Rattle.std.proofs.Common.{append_assoc}
use Rattle.relay_patch.specs.declared.op.Op.{Op}
use Rattle.relay_translate.specs.Translate.{slot_op}
use Rattle.relay_translate.proofs.Weights.{further_changes, paid_further, paid_no_further}
use Rattle.relay_translate.proofs.translating.push_inside.Goals as goal

pub returns-in-None-clause-left : goal.returns-in-None-clause-left
returns-in-None-clause-left c =
    let op = slot_op c.args.site.now.number
    (record { pointer = c.args.site.now.pointer.now; kind = c.args.kind }) in
    let changes = c.args.changes.now in
    let n = c.loop-change.change-index in
    let more = further_changes op changes n c.change-item.result c.loop-change-test.true
    c.change-item.is in
    let further : ℕ → List Op = λ n. flat_map op (map (λ c. c.now) (drop n changes)) in
    let none = paid_no_further (further n) (op c.change-item.result.now)
    (further (n + 1)) c.loop-change.left more (sym c.in_ok-rest.ensures.left ∙ c.in-None.is) in
    sym none ∙ c.loop-change.invariant.1

pub loop-change-preserved : goal.loop-change-preserved
loop-change-preserved c =
    let op = slot_op c.args.site.now.number
    (record { pointer = c.args.site.now.pointer.now; kind = c.args.kind }) in
    let changes = c.args.changes.now in
    let n = c.loop-change.change-index in
    let done = op c.change-item.result.now in
    let further : ℕ → List Op = λ n. flat_map op (map (λ c. c.now) (drop n changes)) in
    let more = further_changes op changes n c.change-item.result c.loop-change-test.true
    c.change-item.is in
    let pushed = c.in_ok-rest.ensures.pushed (rw c.in-Some.is refl) in (
      ap (λ ops. ops ++ further (n + 1)) pushed
          ∙ (append_assoc c.loop-change.ops.items done (further (n + 1))
          ∙ (ap (λ ops. c.loop-change.ops.items ++ ops) (sym more) ∙ c.loop-change.invariant.0)),
      paid_further (further n) done (further (n + 1)) c.loop-change.left c.in-Some.rest more
          (sym c.in_ok-rest.ensures.left ∙ c.in-Some.is) ∙ c.loop-change.invariant.1,
    )
