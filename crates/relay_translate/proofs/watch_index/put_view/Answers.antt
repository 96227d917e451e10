use Rattle.std.proofs.Common.{◌∙◌, Some, None, take, sym, subst}
use Rattle.relay_translate.specs.SlotIndex.{Joins, Leaves, watches_of}
use Rattle.relay_translate.proofs.Standing.{leaves_none}
use Rattle.relay_translate.proofs.Watched.{put_copy, index_replaced, index_stays}
use Rattle.relay_translate.proofs.watch_index.put_view.Goals as goal

pub returns-in-Err-clause-index : goal.returns-in-Err-clause-index
returns-in-Err-clause-index c =
    let old = c.args.slots.now in
    let between = c.enter.new.index in
    let session = c.args.session in
    let some = c.in-Err.ensures.err in
    index_stays old between c.withdraw.new.slots
    (watches_of c.args.views.now) session some.0 c.args.view.now c.requires.index
    (subst (λ slots. Joins old between session (take some.0 slots)) c.slots.ensures some.1)
    c.withdraw.ensures.left

pub returns-in-Ok-Some-clause-views : goal.returns-in-Ok-Some-clause-views
returns-in-Ok-Some-clause-views c =
    put_copy c.args.views.now c.insert.new.self c.args.session c.in_ok-copy.copy c.args.view.now
    c.in_ok-copy.ensures c.in-Ok-Some.ensures.updates

pub returns-in-Ok-Some-clause-index : goal.returns-in-Ok-Some-clause-index
returns-in-Ok-Some-clause-index c =
    let between = c.enter.new.index in
    let new = c.leave.new.index in
    let session = c.args.session in
    let former = c.in-Ok-Some.former in
    index_replaced c.args.views.now c.insert.new.self session c.in_ok-copy.copy c.args.view.now
    c.in_ok-copy.ensures c.in-Ok-Some.ensures.updates (Some former)
    (sym c.in-Ok-Some.field-0-is ∙ c.in-Ok-Some.ensures.old)
    c.args.slots.now between new c.slots.result.now c.slots.ensures c.requires.index
    c.in_default.ensures.ok
    (subst (λ slots. Leaves between new session former slots) c.slots-in-Ok-Some-2.ensures
    (subst (λ slots. Leaves between new session slots c.slots-in-Ok-Some-2.result.now)
    c.slots-in-Ok-Some.ensures c.leave.ensures.left))

pub returns-in-Ok-None-clause-views : goal.returns-in-Ok-None-clause-views
returns-in-Ok-None-clause-views c =
    put_copy c.args.views.now c.insert.new.self c.args.session c.in_ok-copy.copy c.args.view.now
    c.in_ok-copy.ensures c.in-Ok-None.ensures.updates

pub returns-in-Ok-None-clause-index : goal.returns-in-Ok-None-clause-index
returns-in-Ok-None-clause-index c =
    let between = c.enter.new.index in
    index_replaced c.args.views.now c.insert.new.self c.args.session c.in_ok-copy.copy
    c.args.view.now c.in_ok-copy.ensures c.in-Ok-None.ensures.updates None
    (sym c.in-Ok-None.field-0-is ∙ c.in-Ok-None.ensures.old)
    c.args.slots.now between between c.slots.result.now c.slots.ensures c.requires.index
    c.in_default.ensures.ok (leaves_none between c.args.session c.args.view.now)
