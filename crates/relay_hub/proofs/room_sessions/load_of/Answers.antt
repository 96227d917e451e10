use Rattle.std.proofs.Common.{◌∙◌, length, refl, ap}
use Rattle.std.proofs.lemmas.Option.{slice_get_read}
use Rattle.relay_tree.specs.Document.{saturated}
use Rattle.relay_hub.specs.Load.{bounded_weight}
use Rattle.relay_hub.specs.Session.{Session}
use Rattle.relay_hub.proofs.Loads.{saturated_more}
use Rattle.relay_hub.proofs.room_sessions.load_of.Goals as goal

pub loop-session-preserved : goal.loop-session-preserved
loop-session-preserved c =
    let l = c.loop-session in
    let sessions = c.args.sessions.now in
    let at =
    slice_get_read sessions (length sessions) l.session-index c.session-item.result refl
    c.loop-session-test.true c.session-item.is in
    c.saturating_add-load.ensures
    ∙ saturated_more (λ (x : Session). bounded_weight x.budget x.outbox) sessions l.session-index
    c.session-item.result l.load c.load.result at l.invariant (ap saturated c.load.ensures.weight)
