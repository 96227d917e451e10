-- Wills of an earlier run that a later one does, one after another.
use Rattle.std.proofs.Common.{◌≡◌, ◌∙◌, ◌+◌, ℕ, List, [], ◌∷◌, ◌++◌, map, take, slice_get, Some}
use Rattle.std.proofs.Common.{ap, subst, sym, refl}
use Rattle.std.proofs.lemmas.List.{map-append, take_more}
use Rattle.std.proofs.lemmas.Option.{get_or_from_slice_get, slice_get_within}
use Rattle.relay_access.specs.declared.access.Access.TheVariants.{ReadWrite}
use Rattle.relay_hub.specs.Call.{followed, stops, steps}
use Rattle.relay_hub.specs.State.{State}
use Rattle.relay_hub.specs.Step.{Step}
use Rattle.relay_hub.specs.declared.config.HubConfig.{HubConfig}
use Rattle.relay_hub.specs.declared.event.Answer.TheVariants.{Opened, Heard, Closed, WillDone}
use Rattle.relay_hub.specs.declared.event.Event.TheVariants.{Open, Receive, Close, DoWill}
use Rattle.relay_hub.specs.declared.event.Heard.TheVariants.{Answered}
use Rattle.relay_hub.specs.declared.event.Opening.{Opening}
use Rattle.relay_hub.proofs.Stands.{runs_stand}
use Rattle.relay_store.specs.Kept.{Kept, Will}
use Rattle.relay_keeping.specs.Keeper.{Keeper}
use Rattle.relay_keeping.specs.LeftWills.{AreDone, IsDone, kept_will, will_answers, will_events}
use Rattle.relay_keeping.specs.Stood.{StandsBehind, Stood}
use Rattle.relay_keeping.specs.declared.left_wills.LeftWill.{LeftWill}
use Rattle.relay_keeping.proofs.Steps.{run_behind}

-- four steps do a will
pub done_by : (will : Will) (o : Opening) (heard done : ℕ) (old opened left closed new : State)
    → Step old (Open will.room ReadWrite) (Opened o) opened
    → Step opened (Receive o.session will.text) (Heard (Answered heard)) left
    → Step left (Close o.session) Closed closed → Step closed DoWill (WillDone done) new
    → IsDone will old new
done_by will o heard done old opened left closed new opens receives closes does = record {
  opening = o;
  heard = heard;
  done = done;
  run = steps _ _ _ _ _ _ _ opens (steps _ _ _ _ _ _ _ receives
      (steps _ _ _ _ _ _ _ closes (steps _ _ _ _ _ _ _ does (stops new []))));
}

done_last : (wills : List Will) (last : Will) (old mid new : State) → AreDone wills old mid
    → IsDone last mid new → AreDone (wills ++ last ∷ []) old new
done_last [] last old mid new done one =
    (new, subst (λ hub. IsDone last hub new) done one, refl)
done_last (will ∷ wills) last old mid new (next, first, rest) one =
    (next, first, done_last wills last next mid new rest one)

-- one more will is done
pub done_more : (entries : List (ℕ × LeftWill)) (i : ℕ) (e : ℕ × LeftWill) (old mid new : State)
    → slice_get entries i ≡ Some e → AreDone (map kept_will (take i entries)) old mid
    → IsDone (kept_will e) mid new → AreDone (map kept_will (take (i + 1) entries)) old new
done_more entries i e old mid new at done one =
    let more : map kept_will (take (i + 1) entries)
    ≡ map kept_will (take i entries) ++ kept_will e ∷ [] =
    ap (map kept_will) (take_more entries i e (slice_get_within entries i e at)
    ∙ ap (λ e. take i entries ++ e ∷ []) (get_or_from_slice_get entries i e e at))
    ∙ map-append kept_will (take i entries) (e ∷ []) in
    subst (λ wills. AreDone wills old new) (sym more)
    (done_last (map kept_will (take i entries)) (kept_will e) old mid new done one)

-- a hub that stands for a log stands for one once the wills are done
pub stood_done : (b : HubConfig) (wills : List Will) (old new : State) → AreDone wills old new
    → Stood b old → Stood b new
stood_done b [] old new done stood = subst (Stood b) (sym done) stood
stood_done b (will ∷ wills) old new (mid, first, rest) stood =
    stood_done b wills mid new rest
    (record { log = _; stands = runs_stand b stood.log stood.stands first.run })

-- and what was behind it is behind it still
pub behind_done : {K : Type 0} (kept : K → Kept) (b : HubConfig) (keeper : Keeper K)
    (wills : List Will) (old new : State) → AreDone wills old new
    → StandsBehind kept b keeper old → StandsBehind kept b keeper new
behind_done kept b keeper [] old new done was = subst (StandsBehind kept b keeper) (sym done) was
behind_done kept b keeper (will ∷ wills) old new (mid, first, rest) was =
    behind_done kept b keeper wills mid new rest (record {
      log = followed was.log (will_events first.opening.session will)
          (will_answers first.opening first.heard first.done);
      stands = runs_stand b was.log was.stands first.run;
      behind = run_behind was.log (kept keeper.store) keeper.noted keeper.floor old _ _ mid
          first.run was.behind;
    })
