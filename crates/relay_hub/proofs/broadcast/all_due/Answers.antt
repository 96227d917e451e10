use Rattle.std.proofs.Common.{◌≡◌, ◌<◌, true, Some, None, length, get_or, position, rules, sym}
use Rattle.std.proofs.Common.{◌∙◌, arith}
use Rattle.std.proofs.lemmas.List.{take_all}
use Rattle.relay_hub.specs.State.{is_number, session_in}
use Rattle.relay_hub.proofs.Giving.{due_more}
use Rattle.relay_hub.proofs.Sessions.{not_found, same_session}
use Rattle.relay_hub.proofs.broadcast.all_due.Goals as goal
use Rattle.relay_hub.proofs.broadcast.all_due.Goals.{in-Some+else-not-is_due, in_default}

pub loop-number-init : goal.loop-number-init
loop-number-init c = λ t x among there. absurd (cc among)

pub loop-number-preserved : goal.loop-number-preserved
loop-number-preserved c =
    let l = c.loop-number in
    let ns = c.args.numbers.now in
    let xs = c.args.sessions.now in
    let s = get_or ns l.number-index 0 in
    let within : l.number-index < length ns = omega (arith, c.loop-number-test.true) in
    due_more ns l.number-index 0 within xs l.invariant (λ x there.
    elim c.match-position_of.branch [
      | in-Some+else-not-is_due w ↦
          let z = w.index-sessions-index.result in
          let at : position (is_number s) xs ≡ Some w.in-Some.index =
          sym c.position_of.ensures ∙ w.in-Some.is in
          let due : (get_or xs w.in-Some.index z).outbox.due ≡ true = search rules in
          rw (same_session xs s w.in-Some.index at z x there) at due
      | in_default w ↦
          let none : session_in xs s ≡ None = not_found xs s (search rules) in
          absurd (cc (none, there))
    ])

pub returns : goal.returns
returns c = λ is t x among there.
    c.loop-number.invariant t x
    (rw (take_all c.loop-number.number-index c.args.numbers.now
    (omega (arith, c.loop-number-test.false))) among) there
