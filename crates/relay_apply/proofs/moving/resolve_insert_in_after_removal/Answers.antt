use Rattle.std.proofs.Common.{Ok, sym, ap, ◌∙◌}
use Rattle.relay_apply.specs.declared.insert_target.InsertTarget.TheVariants.{Item}
use Rattle.relay_patch.specs.Walk.{then_do}
use Rattle.relay_apply.proofs.Drops.{resolve_insert_in-shorter, resolve_insert_in-fewer}
use Rattle.relay_apply.proofs.moving.resolve_insert_in_after_removal.Goals as goal

pub returns-in-Ok-clause-insert_target : goal.returns-in-Ok-clause-insert_target
returns-in-Ok-clause-insert_target c =
    λ rest dropped. ap (λ r. then_do r (λ i. Ok (Item i))) c.in-Ok.ensures.is
    ∙ resolve_insert_in-shorter c.args.container.now c.in-Some.length c.saturating_sub.result
    c.args.gone.now c.args.token.now rest
    (sym (rw c.container.view_is at c.in-Some.ensures.len)) c.saturating_sub.ensures dropped

pub returns-in-Err-clause-insert_target : goal.returns-in-Err-clause-insert_target
returns-in-Err-clause-insert_target c =
    λ rest dropped. ap (λ r. then_do r (λ i. Ok (Item i))) c.in-Err.ensures.is
    ∙ resolve_insert_in-shorter c.args.container.now c.in-Some.length c.saturating_sub.result
    c.args.gone.now c.args.token.now rest
    (sym (rw c.container.view_is at c.in-Some.ensures.len)) c.saturating_sub.ensures dropped

pub returns-in-None-clause-insert_target : goal.returns-in-None-clause-insert_target
returns-in-None-clause-insert_target c =
    λ rest dropped. c.resolve_insert_in.ensures.insert_target
    ∙ resolve_insert_in-fewer c.args.container.now c.args.gone.now c.args.token.now rest
    (sym (rw c.container.view_is at c.in-None.ensures.len)) c.requires dropped
