use Rattle.std.proofs.Common.{◌≡◌, [], subst, ◌∙◌}
use Rattle.std.proofs.Math.Seq.{get_or-append_seam}
use Rattle.relay_patch.specs.Change.{Makes}
use Rattle.relay_apply.proofs.Spent.{paid_more, paid_afforded}
use Rattle.relay_apply.proofs.steps.make_paid.Goals as goal

pub returns-in-Err-clause-refused : goal.returns-in-Err-clause-refused
returns-in-Err-clause-refused c = λ other.
    let r = c.in-Err.ensures.refused other in
    let seam =
    get_or-append_seam c.args.done.changes.items c.args.change [] c.index-change.result.now
    in
    let last : c.index-change.result.now ≡ c.args.change =
    c.index-change.ensures
    ∙ rw (
      c.in_ok-next.ensures.changes,
      c.len-index.ensures,
      c.args.done.changes.ok.0,
    ) seam in
    let judged =
    paid_afforded c.args.bounds c.args.done.changes.items c.args.change c.args.done.left
    c.in_ok-next.next.left r.0 c.requires.paid c.in_ok-next.ensures.paid in
    (r.0, subst (λ change. Makes c.args.tree.now change r.0) last r.1, judged ∙ r.2)

pub returns-clause-paid : goal.returns-clause-paid
returns-clause-paid c =
    rw c.in_ok-next.ensures.changes
    (paid_more c.args.done.changes.items c.args.change c.args.bounds.changes c.args.done.left
    c.in_ok-next.next.left c.requires.paid c.in_ok-next.ensures.paid)
