use Rattle.std.proofs.Common.{◌≡◌, ◌+◌, ◌<◌, length, true, false, rules, refl, sym, ◌∙◌, arith}
use Rattle.std.proofs.Common.{is_err, get_or, take, option_copied, position, Some}
use Rattle.std.proofs.lemmas.List.{take_all}
use Rattle.relay_hub.specs.State.{is_number}
use Rattle.relay_hub.proofs.Giving.{given_none, given_absent, given_more, next_watches}
use Rattle.relay_hub.proofs.Rising.{once_rising, same_rises}
use Rattle.relay_hub.proofs.Sessions.{found_at, not_found}
use Rattle.relay_hub.proofs.broadcast.give.Goals as goal
use Rattle.relay_hub.proofs.broadcast.give.Goals.{in-Some+then-is_err, in-Some+else-is_err}
use Rattle.relay_hub.proofs.broadcast.give.Goals.{in_default}

pub loop-number-init : goal.loop-number-init
loop-number-init c = record {
  given = given_none (option_copied c.args.update) c.args.numbers.now c.args.sessions.now;
  count = omega arith;
}

pub position_of-requires : goal.position_of-requires
position_of-requires c =
    same_rises c.args.sessions.now c.loop-number.sessions c.loop-number.invariant.given.same
    c.requires.ordered

pub give_one-requires : goal.give_one-requires
give_one-requires c =
    let l = c.loop-number in
    let s = get_or c.args.numbers.now l.number-index 0 in
    let z = c.index-sessions-index.result in
    let at : position (is_number s) l.sessions ≡ Some c.in-Some.index =
    sym c.position_of.ensures ∙ c.in-Some.is in
    next_watches (option_copied c.args.update) c.args.numbers.now c.args.sessions.now
    l.number-index 0 (omega (arith, c.loop-number-test.true)) c.requires.rising l.sessions l.short
    l.invariant.given c.requires.watch (get_or l.sessions c.in-Some.index z)
    (found_at l.sessions s c.in-Some.index at z)

pub overflow_add-short : goal.overflow_add-short
overflow_add-short c = omega (arith, c.loop-number.invariant.count, c.loop-number-test.true)

pub loop-number-preserved : goal.loop-number-preserved
loop-number-preserved c =
    let l = c.loop-number in
    let u = option_copied c.args.update in
    let ns = c.args.numbers.now in
    let xs = c.args.sessions.now in
    let ys = l.sessions in
    let k = l.number-index in
    let s = get_or ns k 0 in
    let within : k < length ns = omega (arith, c.loop-number-test.true) in
    let once = once_rising xs c.requires.ordered in
    elim c.match-position_of.branch [
      | in-Some+then-is_err w ↦
          let z = w.index-sessions-index.result in
          let i = w.in-Some.index in
          let at : position (is_number s) ys ≡ Some i = sym c.position_of.ensures ∙ w.in-Some.is in
          let short : is_err w.give_one.result ≡ true = search rules in
          rw (w.sessions-is, w.short-is) (record {
            given =
                given_more u ns xs k 0 within c.requires.rising ys l.short l.invariant.given i
                (get_or ys i z) w.give_one.new.session (is_err w.give_one.result) once at
                (found_at ys s i at z) w.give_one.ensures.given (l.short + 1) (rw short refl);
            count = omega (arith, l.invariant.count);
          })
      | in-Some+else-is_err w ↦
          let z = w.index-sessions-index.result in
          let i = w.in-Some.index in
          let at : position (is_number s) ys ≡ Some i = sym c.position_of.ensures ∙ w.in-Some.is in
          let given : is_err w.give_one.result ≡ false = search rules in
          rw (w.sessions-is, w.short-is) (record {
            given =
                given_more u ns xs k 0 within c.requires.rising ys l.short l.invariant.given i
                (get_or ys i z) w.give_one.new.session (is_err w.give_one.result) once at
                (found_at ys s i at z) w.give_one.ensures.given l.short
                (rw given (omega arith));
            count = omega (arith, l.invariant.count);
          })
      | in_default w ↦
          rw (w.sessions-is, w.short-is) (record {
            given =
                given_absent u ns xs k 0 within c.requires.rising ys l.short l.invariant.given
                (not_found ys s (search rules));
            count = omega (arith, l.invariant.count);
          })
    ]

pub returns : goal.returns
returns c =
    let l = c.loop-number in
    let all : take l.number-index c.args.numbers.now ≡ c.args.numbers.now =
    take_all l.number-index c.args.numbers.now (omega (arith, c.loop-number-test.false)) in
    rw all at l.invariant.given
