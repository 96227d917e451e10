use Rattle.std.proofs.Common.{◌≡◌, ◌≤◌, ◌+◌, ◌||◌, ◌∙◌, length, take, sym, ap, arith, Bool}
use Rattle.std.specs.List.{list_any}
use Rattle.std.proofs.lemmas.List.Folds.{list_any_more}
use Rattle.relay_view.specs.declared.slot.Slot.{Slot}
use Rattle.relay_translate.proofs.Tokens.{path_of-length}
use Rattle.relay_translate.proofs.Watched.{within_more}
use Rattle.relay_translate.proofs.watch_index.depth_of.Goals as goal

pub loop-slot-preserved : goal.loop-slot-preserved
loop-slot-preserved c =
    let slots = c.slots-slot-items.result.now in
    let i = c.loop-slot.slot-index in
    let slot = c.slot-item.result in
    let next : (p : Slot → Bool)
    → list_any p (take (i + 1) slots) ≡ (list_any p (take i slots) || p slot) =
    λ p. list_any_more p slots i slot c.loop-slot-test.true
    ∙ ap (λ x. list_any p (take i slots) || p x) (sym c.slot-item.is) in
    let long : length c.tokens.result.now ≡ length slot.pointer =
    path_of-length c.tokens.result.now ∙ ap length c.tokens.ensures in
    let le : c.loop-slot.deepest ≤ c.max-deepest.result = grind arith in
    let fits : length slot.pointer ≤ c.max-deepest.result = grind arith in
    within_more c.loop-slot.deepest c.max-deepest.result (take i slots)
    (take (i + 1) slots) slot next le fits c.loop-slot.invariant
