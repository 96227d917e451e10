use Rattle.std.proofs.Common.{◌≡◌, ◌<◌, length, take, arith, false}
use Rattle.std.proofs.lemmas.List.{take_all}
use Rattle.relay_hub.specs.Telling.{is_one_of, views_of}
use Rattle.relay_hub.proofs.NextAudience.{next_within, none_yet, one_more}
use Rattle.relay_hub.proofs.Visited.{audience_at, view_fresh, views_more}
use Rattle.relay_hub.proofs.broadcast.tell_all.Goals as goal

pub loop-audience-init : goal.loop-audience-init
loop-audience-init c =
    none_yet c.args.room.now c.args.audiences.now c.args.telling.now c.args.sessions.now
    c.requires.agree

pub tell-short-requires-clause-ordered : goal.tell-short-requires-clause-ordered
tell-short-requires-clause-ordered c = c.loop-audience.invariant.agree.rising

pub tell-short-requires-clause-agree : goal.tell-short-requires-clause-agree
tell-short-requires-clause-agree c =
    audience_at c.args.audiences.now c.loop-audience.sessions c.loop-audience.invariant.agree
    c.requires.exact c.loop-audience.audience-index c.audience-item.result
    (omega (arith, c.loop-audience-test.true)) c.audience-item.is

-- none before it has its view
fresh : (c : goal.After-sessions-1)
    → is_one_of (views_of (take c.loop-audience.audience-index c.args.audiences.now))
    c.audience-item.result.view ≡ false
fresh c =
    rw (← c.audience-item.is) at
    (view_fresh c.args.audiences.now c.loop-audience.audience-index c.audience-item.result
    c.requires.apart.views (omega (arith, c.loop-audience-test.true)))

pub overflow_add-short : goal.overflow_add-short
overflow_add-short c =
    let l = c.loop-audience in
    let few =
    next_within c.args.room.now c.args.audiences.now c.args.telling.now c.args.sessions.now
    c.requires.room c.requires.reaches c.requires.exact l.telling c.tell-short.new.telling
    (views_of (take l.audience-index c.args.audiences.now)) c.audience-item.result.view
    l.sessions c.tell-short.new.sessions l.short c.tell-short.result l.invariant (fresh c)
    c.tell-short.ensures.notified in
    omega (arith, few)

pub loop-audience-preserved : goal.loop-audience-preserved
loop-audience-preserved c =
    let l = c.loop-audience in
    let within : l.audience-index < length c.args.audiences.now =
    omega (arith, c.loop-audience-test.true) in
    rw (views_more c.args.audiences.now l.audience-index c.audience-item.result within)
    (rw (← c.audience-item.is) (one_more c.args.room.now c.args.audiences.now
    c.args.telling.now c.args.sessions.now c.requires.room c.requires.reaches c.requires.exact
    l.telling c.tell-short.new.telling (views_of (take l.audience-index c.args.audiences.now))
    c.audience-item.result.view l.sessions c.tell-short.new.sessions l.short
    c.tell-short.result l.invariant (fresh c) c.tell-short.ensures.notified
    c.tell-short.ensures.most c.tell-short.ensures.told))

pub returns-clause-notified : goal.returns-clause-notified
returns-clause-notified c = λ d changes since leads.
    rw (take_all c.loop-audience.audience-index c.args.audiences.now
    (omega (arith, c.loop-audience-test.false))) at
    (c.loop-audience.invariant.notified d changes since leads)

pub returns-clause-told : goal.returns-clause-told
returns-clause-told c = c.loop-audience.invariant.told
