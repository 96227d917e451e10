-- A receive that has an answer is the one event, and draws nothing.
use Rattle.std.proofs.Common.{refl}
use Rattle.relay_hub.specs.declared.event.Answer.TheVariants.{Heard, NoSession}
use Rattle.relay_hub.specs.declared.event.Event.TheVariants.{Receive}
use Rattle.relay_link.proofs.Following.{follows_same, follows_one}
use Rattle.relay_link.proofs.Telling.{drew_same, drew_one}
use Rattle.relay_link.proofs.events.receive.Goals as goal
use Rattle.relay_link.proofs.events.receive.Goals.{in-Ok, in-Err-NoSession}

pub returns-in-Err-NoMemory-clause-follows : goal.returns-in-Err-NoMemory-clause-follows
returns-in-Err-NoMemory-clause-follows c =
    let same = rw c.in-Err-NoMemory.field-0-is at c.in-Err-NoMemory.ensures.step in
    follows_same _ _ _ _ _ _ same refl refl

pub returns-in-Err-NoMemory-clause-drew : goal.returns-in-Err-NoMemory-clause-drew
returns-in-Err-NoMemory-clause-drew c =
    let same = rw c.in-Err-NoMemory.field-0-is at c.in-Err-NoMemory.ensures.step in
    drew_same _ _ _ _ _ same refl

pub returns-clause-follows : goal.returns-clause-follows
returns-clause-follows c = elim c.match-receive.branch [
  | in-Ok w ↦ follows_one _ _ _ _ _ (Receive c.args.session c.as_str.result.now)
      (Heard w.in-Ok.field-0) (rw c.as_str.ensures c.note.ensures) refl w.in-Ok.ensures.step
  | in-Err-NoSession w ↦
      let step = rw w.in-Err-NoSession.field-0-is at w.in-Err-NoSession.ensures.step in
      follows_one _ _ _ _ _ (Receive c.args.session c.as_str.result.now) NoSession
      (rw c.as_str.ensures c.note.ensures) refl step
]

pub returns-clause-drew : goal.returns-clause-drew
returns-clause-drew c = elim c.match-receive.branch [
  | in-Ok w ↦ drew_one _ _ _ _ _ (Receive c.args.session c.as_str.result.now)
      (Heard w.in-Ok.field-0) (rw c.as_str.ensures c.note.ensures) refl w.in-Ok.ensures.step tt
  | in-Err-NoSession w ↦
      let step = rw w.in-Err-NoSession.field-0-is at w.in-Err-NoSession.ensures.step in
      drew_one _ _ _ _ _ (Receive c.args.session c.as_str.result.now) NoSession
      (rw c.as_str.ensures c.note.ensures) refl step tt
]
