use Rattle.std.proofs.Common.{◌≡◌, ◌≤◌, length, take, map, ap, ◌∙◌, arith}
use Rattle.std.proofs.lemmas.List.{take_all}
use Rattle.relay_tree.specs.Document.{list, items_of}
use Rattle.relay_view.specs.View.{slot}
use Rattle.relay_view.proofs.Slots.{slots-map}
use Rattle.relay_view.proofs.view.View.of.Goals as goal

pub returns : goal.returns
returns c =
    let pointers = c.slots-slot-items.result.now in
    let past : length pointers ≤ c.loop-slot.slot-index = grind arith in
    let whole : take c.loop-slot.slot-index pointers ≡ pointers = take_all _ pointers past in
    let d = c.args.document.now in
    c.from.ensures
    ∙ ap (λ ds. list (items_of ds))
    (c.loop-slot.invariant ∙ ap (map (λ s. slot s d)) (whole ∙ c.slots-slot-items.ensures))
    ∙ ap list (slots-map c.args.self.now d)
