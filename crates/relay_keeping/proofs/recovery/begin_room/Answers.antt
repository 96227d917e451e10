use Rattle.std.proofs.Common.{◌∙◌, Some, ap, refl, sym}
use Rattle.std.proofs.lemmas.Result.{on_ok_weaker}
use Rattle.relay_room.specs.Room.{begun}
use Rattle.relay_keeping.specs.Mirrored.{seen_whole}
use Rattle.relay_keeping.proofs.Begun.{begun_anew}
use Rattle.relay_keeping.proofs.recovery.begin_room.Goals as goal

pub returns-clause-begun : goal.returns-clause-begun
returns-clause-begun c = λ place.
    let old = c.args.hub.now in
    let document = c.in_ok-document.document in
    on_ok_weaker c.adopt.result (λ anew. record {
      made = begun document c.in-Some.revision old.config.history;
      adds = begun_anew old c.open_and_close.new.hub c.adopt.new.hub c.args.name.now _
          c.in-Some.revision document place (c.in_ok-begun.ensures.begun place) anew;
      sees = c.in-Some.ensures
          ∙ ap (λ d. Some (c.in-Some.revision, seen_whole d)) (sym c.in_ok-document.ensures);
      held = refl;
    }) c.adopt.ensures.anew
