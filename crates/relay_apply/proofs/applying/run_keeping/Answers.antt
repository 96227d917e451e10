use Rattle.std.proofs.Common.{sym, ◌∙◌, arith}
use Rattle.relay_apply.proofs.Folds.{after_more, done_next}
use Rattle.relay_apply.proofs.applying.run_keeping.Goals as goal

pub loop-at-preserved : goal.loop-at-preserved
loop-at-preserved c =
    let ops = c.args.ops.now in
    let at = c.loop-at.at in
    let op = c.index-ops-at.result in
    let d = c.loop-at.tree in
    let e = c.perform.new.tree in
    let before = c.loop-at.done.changes.items in
    let now = c.in-Ok.done.changes.items in
    let inside = c.loop-at-test.true in
    let is = c.index-ops-at.is in
    let passes = c.in-Ok.ensures.document in
    let m = c.loop-at.invariant in
    let next =
    done_next c.args.bounds op d e ops at c.args.tree.now before inside is m.reached
    m.changes passes in
    record {
      onward =
          sym (after_more ops at op c.args.bounds d e before now inside is passes
          c.in-Ok.ensures.changes) ∙ m.onward;
      reached = next.0;
      changes = c.in-Ok.ensures.changes ∙ next.1;
      paid = c.in-Ok.ensures.paid;
      known = c.in-Ok.ensures.known;
      weighed = λ _. c.in-Ok.ensures.weighed;
      back = λ more. c.in-Ok.ensures.back (omega arith) ∙ m.back inside;
    }
