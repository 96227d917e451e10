-- If the link no longer has its session, one of the events closed it.
use Rattle.std.proofs.Common.{◌≡◌, ◌∙◌, min, Some, ap, rules, subst, subst₂}
use Rattle.relay_link.specs.Asks.{Receives}
use Rattle.relay_link.specs.Adds.{texts_of}
use Rattle.relay_link.specs.BinaryAnswered.{BinaryAnsweredIfOpen}
use Rattle.relay_link.specs.EntryRules.{denial}
use Rattle.relay_link.specs.Hears.{PassesTexts}
use Rattle.relay_link.specs.Replies.{Replies}
use Rattle.relay_link.specs.Stage.{session_of, IsSound}
use Rattle.relay_link.specs.Stops.{StopsIfOpen}
use Rattle.relay_link.specs.declared.link.TheConstants.{MAX_DRAWS}
use Rattle.relay_link.proofs.Closed.{closed}
use Rattle.relay_link.proofs.Following.{follows_as, follows_from}
use Rattle.relay_link.proofs.link.Link.take_turn.Goals as goal

pub returns-clause-turns : goal.returns-clause-turns
returns-clause-turns g c = record {
  follows =
      follows_from g.S.Read.remaining _ _ (c.replace-state.ensures.value
      ∙ c.self.view_is) (search rules);
  received = subst (λ state.
      Receives g.S.Read.remaining state c.advance-next.result.state) (c.replace-state.ensures.value
      ∙ c.self.view_is) c.advance-next.ensures.received;
  few = search rules;
  heard = search rules;
  passes =
      rw (c.into_events.ensures ∙ c.take_turned_away.ensures) (subst₂ (λ state events.
      PassesTexts g.S.Read.remaining (texts_of c.args.phase) c.args.hub.now state
      c.advance-next.result.state events c.advance-next.new.events) (c.replace-state.ensures.value
      ∙ c.self.view_is) c.in_ok-events.ensures c.advance-next.ensures.passes);
  drew = search rules;
  stop =
      rw (c.into_events.ensures ∙ c.take_turned_away.ensures) (subst₂ (λ state events.
      StopsIfOpen state c.advance-next.result.state c.advance-next.result.stop
      (min c.args.draws MAX_DRAWS) c.advance-next.new.hub events c.advance-next.new.events)
      (c.replace-state.ensures.value ∙ c.self.view_is) c.in_ok-events.ensures
      (search rules));
  closed = λ s had gone.
      let was : session_of c.replace-state.result ≡ Some s =
      ap session_of (c.replace-state.ensures.value ∙ c.self.view_is) ∙ had in
      rw (c.into_events.ensures ∙ c.take_turned_away.ensures)
      (closed c.advance-next.ensures.follows s was gone);
  over = search rules;
  stage = search rules;
  cause = search rules;
  patient = search rules;
  silent = search rules;
  sound = subst (λ state. IsSound state → IsSound c.advance-next.result.state)
      (c.replace-state.ensures.value ∙ c.self.view_is) c.advance-next.ensures.sound;
  gone = search rules;
}

pub returns-clause-replies : goal.returns-clause-replies
returns-clause-replies g c =
    subst (λ state.
    Replies g.S.Read.remaining g.S.Write.contents (denial c.args.rules.now c.args.hub.now) state
    c.advance-next.result.state)
    (c.replace-state.ensures.value ∙ c.self.view_is) c.advance-next.ensures.replies

pub returns-clause-binary : goal.returns-clause-binary
returns-clause-binary g c =
    subst (λ state.
    BinaryAnsweredIfOpen g.S.Write.contents state c.advance-next.result.state
    c.advance-next.result.cause)
    (c.replace-state.ensures.value ∙ c.self.view_is) c.advance-next.ensures.binary

pub returns-clause-entrance : goal.returns-clause-entrance
returns-clause-entrance g c =
    follows_as _ _ (c.replace-state.ensures.value ∙ c.self.view_is) (search rules)
