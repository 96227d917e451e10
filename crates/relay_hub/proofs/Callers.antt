-- The session of a caller, borrowed and then written: it alone changes, and the audiences agree if
-- it is in that of its view.
use Rattle.std.proofs.Common.{◌≡◌, List, Some, slice_set, sym, ◌∙◌, ap, subst}
use Rattle.relay_audience.specs.Audiences.{view_of, ChangesViewOf}
use Rattle.relay_audience.specs.declared.audience.Audience.{Audience}
use Rattle.relay_hub.specs.Call.{ChangesBy}
use Rattle.relay_hub.specs.Caller.{IsCaller}
use Rattle.relay_hub.specs.Session.{Session}
use Rattle.relay_hub.specs.State.{numbers, session_in}
use Rattle.relay_hub.specs.Step.{OnlyAt}
use Rattle.relay_hub.specs.Told.{ChangesToldAnd}
use Rattle.relay_hub.specs.Watched.{AreAudiencesOf}
use Rattle.relay_hub.specs.declared.caller.Caller.{Caller}
use Rattle.relay_hub.specs.declared.told.Told.{Told}
use Rattle.relay_hub.proofs.Lists.{slice_set_same}
use Rattle.relay_hub.proofs.Rising.{numbers_set, same_rises}
use Rattle.relay_hub.proofs.Sessions.{found, same_session, set_only}
use Rattle.relay_hub.proofs.Untold.{only_told}
use Rattle.relay_hub.proofs.Watching.{shown, only_agrees, unchanged_view}

-- the session x of the caller, as it was
module _ (xs : List Session) (caller : Caller) (at : IsCaller xs caller) (x : Session)
    (there : session_in xs caller.number ≡ Some x) where
  pub unwritten : slice_set xs caller.index x ≡ xs
  unwritten =
      slice_set_same xs caller.index x (sym (found xs caller.number caller.index at) ∙ there)

  -- the view that its audience has is its own
  pub watched_by : (audiences : List Audience) → AreAudiencesOf audiences xs
      → view_of caller.number audiences ≡ x.view
  watched_by audiences h = h.agrees caller.number ∙ ap shown there

  -- and as it is now
  module _ (y : Session) (keeps : y.number ≡ x.number) where
    pub written_only : OnlyAt caller.number (Some y) xs (slice_set xs caller.index y)
    written_only = set_only xs caller.number caller.index x y at there keeps

    pub written_numbers : numbers (slice_set xs caller.index y) ≡ numbers xs
    written_numbers =
        numbers_set xs caller.index y x (keeps
        ∙ ap (λ (z : Session).
        z.number) (sym (same_session xs caller.number caller.index at x x there)))

    pub written_told : (told : Told)
        → ChangesToldAnd caller.number told xs (slice_set xs caller.index y)
    written_told told = only_told caller.number told xs (slice_set xs caller.index y) y written_only

    -- what a function makes of it
    pub written_by : (f : Session → Session) → y ≡ f x
        → ChangesBy caller.number f xs (slice_set xs caller.index y)
    written_by f is = λ z e.
        let same : Some x ≡ Some z = sym there ∙ e in
        let one : x ≡ z = cc in
        subst (λ u. OnlyAt caller.number (Some u) xs (slice_set xs caller.index y)) (is
        ∙ ap f one) written_only

    module _ (old new : List Audience) (h : AreAudiencesOf old xs) where
      -- the audiences have its view
      pub written_agrees : ChangesViewOf caller.number y.view old new
          → AreAudiencesOf new (slice_set xs caller.index y)
      written_agrees changes =
          only_agrees old new xs (slice_set xs caller.index y) caller.number (Some y) written_only
          (same_rises xs (slice_set xs caller.index y) written_numbers h.rising) changes h

    -- it watches as before
    pub written_same : (audiences : List Audience) → AreAudiencesOf audiences xs
        → y.view ≡ x.view → AreAudiencesOf audiences (slice_set xs caller.index y)
    written_same audiences h same =
        written_agrees audiences audiences h
        (unchanged_view audiences caller.number y.view (watched_by audiences h ∙ sym same))
