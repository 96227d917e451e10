-- A draw that has an answer is the one event, and gives the text of that answer.
use Rattle.std.proofs.Common.{refl, sym, subst, ◌∙◌, IsUtf8}
use Rattle.std.specs.List.{AllByRecursion}
use Rattle.relay_hub.specs.declared.event.Answer.TheVariants.{Drawn, NoSession}
use Rattle.relay_link.specs.Follows.{given}
use Rattle.relay_link.proofs.Following.{follows_same, follows_one}
use Rattle.relay_link.proofs.Stopping.{nothing_left, nobody_left}
use Rattle.relay_link.proofs.Telling.{drew_same, drew_one}
use Rattle.relay_link.proofs.events.draw.Goals as goal
use Rattle.relay_link.proofs.events.draw.Goals.{in-Ok, in-Err-NoSession}

pub returns-in-Err-NoMemory-clause-follows : goal.returns-in-Err-NoMemory-clause-follows
returns-in-Err-NoMemory-clause-follows c =
    let same = rw c.in-Err-NoMemory.field-0-is at c.in-Err-NoMemory.ensures.step in
    follows_same _ _ _ _ _ _ same refl refl

pub returns-in-Err-NoMemory-clause-drew_none : goal.returns-in-Err-NoMemory-clause-drew_none
returns-in-Err-NoMemory-clause-drew_none c =
    let same = rw c.in-Err-NoMemory.field-0-is at c.in-Err-NoMemory.ensures.step in
    drew_same _ _ _ _ _ same refl

pub returns-clause-follows : goal.returns-clause-follows
returns-clause-follows c = elim c.match-draw.branch [
  | in-Ok w ↦ follows_one _ _ _ _ _ _ (Drawn w.in-Ok.text)
      c.note_draw.ensures.event refl w.in-Ok.ensures.step
  | in-Err-NoSession w ↦
      let step = rw w.in-Err-NoSession.field-0-is at w.in-Err-NoSession.ensures.step in
      follows_one _ _ _ _ _ _ NoSession c.note_draw.ensures.event refl step
]

pub returns-clause-drew : goal.returns-clause-drew
returns-clause-drew c = elim c.match-draw.branch [
  | in-Ok w ↦
      let utf8 : AllByRecursion IsUtf8 (given w.in-Ok.text) =
      subst (λ t. AllByRecursion IsUtf8 (given t)) (c.as_ref.ensures.value ∙ w.text-is)
      c.note_draw.ensures.utf8 in
      rw w.text-is
      (drew_one _ _ _ _ _ _ (Drawn w.in-Ok.text) c.note_draw.ensures.event refl
      w.in-Ok.ensures.step utf8)
  | in-Err-NoSession w ↦
      let step = rw w.in-Err-NoSession.field-0-is at w.in-Err-NoSession.ensures.step in
      rw w.text-is (drew_one _ _ _ _ _ _ NoSession c.note_draw.ensures.event refl step tt)
]

pub returns-clause-empty : goal.returns-clause-empty
returns-clause-empty c = elim c.match-draw.branch [
  | in-Ok w ↦ λ none.
      nothing_left c.args.hub.now c.draw.new.self c.args.session
      (rw (sym w.text-is ∙ none) at w.in-Ok.ensures.step)
  | in-Err-NoSession w ↦ λ none.
      let step = rw w.in-Err-NoSession.field-0-is at w.in-Err-NoSession.ensures.step in
      nobody_left c.args.hub.now c.draw.new.self c.args.session step
]
