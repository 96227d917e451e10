use Rattle.std.proofs.Common.{◌≡◌, ◌∙◌, ◌<◌, length, take, get_or, sym, ap, arith, None}
use Rattle.std.proofs.Common.{Some, option_copied, rules}
use Rattle.std.proofs.lemmas.List.{take_all}
use Rattle.relay_audience.specs.Audiences.{numbered}
use Rattle.relay_audience.proofs.Laws.{rising_from}
use Rattle.relay_hub.specs.Telling.{named, views_of}
use Rattle.relay_hub.proofs.Giving.{not_before}
use Rattle.relay_hub.proofs.NextAudience.{next_within, none_yet, one_more}
use Rattle.relay_hub.proofs.Visited.{audience_with, named_fresh, named_more, named_none}
use Rattle.relay_hub.proofs.broadcast.tell_those.Goals as goal
use Rattle.relay_hub.proofs.broadcast.tell_those.Goals.{in-Some, in_default}

pub loop-number-init : goal.loop-number-init
loop-number-init c =
    none_yet c.args.room.now c.args.audiences.now c.args.telling.now c.args.sessions.now
    c.requires.agree

pub tell-short-requires-clause-ordered : goal.tell-short-requires-clause-ordered
tell-short-requires-clause-ordered c = c.loop-number.invariant.agree.rising

pub tell-short-requires-clause-agree : goal.tell-short-requires-clause-agree
tell-short-requires-clause-agree c =
    audience_with c.args.audiences.now c.loop-number.sessions c.loop-number.invariant.agree
    c.requires.exact (get_or c.args.numbers.now c.loop-number.number-index 0)
    c.in-Some.audience.now (sym c.audience.ensures ∙ ap option_copied c.in-Some.is)

pub overflow_add-short : goal.overflow_add-short
overflow_add-short c =
    let l = c.loop-number in
    let ns = c.args.numbers.now in
    let k = l.number-index in
    let a = c.in-Some.audience.now in
    let within : k < length ns = omega (arith, c.loop-number-test.true) in
    let fresh =
    named_fresh c.args.audiences.now (get_or ns k 0) a (take k ns) c.requires.apart.views
    (sym c.audience.ensures ∙ ap option_copied c.in-Some.is)
    (not_before ns k 0 (rising_from ns c.requires.rising) within) in
    let few =
    next_within c.args.room.now c.args.audiences.now c.args.telling.now c.args.sessions.now
    c.requires.room c.requires.reaches c.requires.exact l.telling c.tell-short.new.telling
    (views_of (named c.args.audiences.now (take k ns))) a.view l.sessions
    c.tell-short.new.sessions l.short c.tell-short.result l.invariant fresh
    c.tell-short.ensures.notified in
    omega (arith, few)

pub loop-number-preserved : goal.loop-number-preserved
loop-number-preserved c =
    let l = c.loop-number in
    let audiences = c.args.audiences.now in
    let ns = c.args.numbers.now in
    let k = l.number-index in
    let within : k < length ns = omega (arith, c.loop-number-test.true) in
    elim c.match-audience.branch [
      | in-Some w ↦
          let a = w.in-Some.audience.now in
          let at : numbered (get_or ns k 0) audiences ≡ Some a =
          sym c.audience.ensures ∙ ap option_copied w.in-Some.is in
          let fresh =
          named_fresh audiences (get_or ns k 0) a (take k ns) c.requires.apart.views at
          (not_before ns k 0 (rising_from ns c.requires.rising) within) in
          rw (w.sessions-is, w.telling-is, w.short-is)
          (rw (named_more audiences ns k 0 a within at) (one_more c.args.room.now audiences
          c.args.telling.now c.args.sessions.now c.requires.room c.requires.reaches
          c.requires.exact l.telling w.tell-short.new.telling
          (views_of (named audiences (take k ns))) a.view l.sessions w.tell-short.new.sessions
          l.short w.tell-short.result l.invariant fresh w.tell-short.ensures.notified
          w.tell-short.ensures.most w.tell-short.ensures.told))
      | in_default w ↦
          let none : c.audience.result ≡ None = search rules in
          rw (w.sessions-is, w.telling-is, w.short-is)
          (rw (named_none audiences ns k 0 within (sym c.audience.ensures
          ∙ ap option_copied none)) l.invariant)
    ]

pub returns-clause-notified : goal.returns-clause-notified
returns-clause-notified c = λ d changes since leads.
    rw (take_all c.loop-number.number-index c.args.numbers.now
    (omega (arith, c.loop-number-test.false))) at
    (c.loop-number.invariant.notified d changes since leads)

pub returns-clause-told : goal.returns-clause-told
returns-clause-told c = c.loop-number.invariant.told
