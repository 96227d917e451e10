use Rattle.std.proofs.Common.{◌∙◌, map, sym, ap, Bor}
use Rattle.std.specs.List.{list_any}
use Rattle.std.specs.FinMap as fin
use Rattle.relay_patch.specs.declared.change.Change.{Change}
use Rattle.relay_translate.specs.Watches.{is_touched, slots_of}
use Rattle.relay_translate.specs.SlotIndex.{watches_of}
use Rattle.relay_translate.proofs.Gained.{found_exactly}
use Rattle.relay_translate.proofs.Untold.{untold}
use Rattle.relay_translate.proofs.watch_index.WatchIndex.touched.Goals as goal

pub returns-clause-rising : goal.returns-clause-rising
returns-clause-rising c = c.in_order.ensures.rising

pub returns-clause-exact : goal.returns-clause-exact
returns-clause-exact c = λ s.
    let test = is_touched (map (λ (x : Bor Change). x.now) c.args.changes.now) in
    let found = c.in_ok-sessions_touched.ensures in
    c.in_order.ensures.same s
    ∙ found_exactly test c.self.inside.slots
    (watches_of c.self.inside.views) c.in_ok-sessions_touched.field-0.items c.self.invariant.0
    found s
    ∙ ap (λ m. list_any test (slots_of (fin.get m s))) c.self.view_is

pub returns-clause-others : goal.returns-clause-others
returns-clause-others c = λ s now absent.
    let changes = map (λ (x : Bor Change). x.now) c.args.changes.now in
    let test = is_touched changes in
    let found = c.in_ok-sessions_touched.ensures in
    let exact =
    c.in_order.ensures.same s
    ∙ found_exactly test c.self.inside.slots
    (watches_of c.self.inside.views) c.in_ok-sessions_touched.field-0.items c.self.invariant.0
    found s
    ∙ ap (λ m. list_any test (slots_of (fin.get m s))) c.self.view_is in
    untold 0 changes now (slots_of (fin.get c.args.self.now s)) (sym exact ∙ absent)
