use Rattle.std.proofs.Common.{refl, ap}
use Rattle.relay_hub.specs.Session.{Session, drawn}
use Rattle.relay_hub.specs.State.{room_sessions, numbers}
use Rattle.relay_hub.proofs.Callers.{unwritten, written_only, written_numbers}
use Rattle.relay_hub.proofs.requests.draw.Goals as goal

pub returns-in-Ok-clause-step : goal.returns-in-Ok-clause-step
returns-in-Ok-clause-step c =
    let x = c.session_mut.result.now in
    let there = c.session_mut.ensures.found in
    let only =
    written_only c.args.sessions.now c.find-caller.result c.find-caller.ensures.index x
    there (drawn x) refl in
    rw (
      ← c.find-caller.ensures.number,
      there,
    ) (rw c.in-Ok.ensures.ok (
      c.in-Ok.ensures.text,
      (refl, only),
      c.in-Ok.ensures.reads_back,
    ))

pub returns-in-Ok-clause-numbers : goal.returns-in-Ok-clause-numbers
returns-in-Ok-clause-numbers c =
    let x = c.session_mut.result.now in
    let there = c.session_mut.ensures.found in
    let number = ap (λ (y : Session). y.number) c.in-Ok.ensures.ok in
    written_numbers c.args.sessions.now c.find-caller.result c.find-caller.ensures.index x there
    c.draw.new.self number

pub returns-in-Err-clause-step : goal.returns-in-Err-clause-step
returns-in-Err-clause-step c =
    let x = c.session_mut.result.now in
    let there = c.session_mut.ensures.found in
    let same =
    unwritten c.args.sessions.now c.find-caller.result c.find-caller.ensures.index x there
    in
    rw c.in-Err.ensures.err (ap (λ xs. room_sessions c.args.room.now xs) same)

pub returns-in-Err-clause-numbers : goal.returns-in-Err-clause-numbers
returns-in-Err-clause-numbers c =
    let x = c.session_mut.result.now in
    let there = c.session_mut.ensures.found in
    let same =
    unwritten c.args.sessions.now c.find-caller.result c.find-caller.ensures.index x there
    in
    rw c.in-Err.ensures.err (ap (λ xs. numbers xs) same)

pub returns-in-Err-clause-no_memory : goal.returns-in-Err-clause-no_memory
returns-in-Err-clause-no_memory c =
    λ e. rw (← c.find-caller.ensures.number, c.session_mut.ensures.found) c.in-Err.ensures.no_memory
