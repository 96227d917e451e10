use Rattle.std.proofs.Common.{◌≡◌, ◌≤◌, [], ◌∷◌, ◌++◌, length, map, ap, ◌∙◌, subst, arith, rules}
use Rattle.std.proofs.lemmas.Result.{on_ok_weaker}
use Rattle.json.specs.Token.{begin_array}
use Rattle.relay_tree.specs.Document.{list, items_of}
use Rattle.relay_tree.specs.Text.{tokens_of, ReadsBack}
use Rattle.relay_tree.proofs.Writing.{writes_all, all_back}
use Rattle.relay_view.specs.View.{slot, view}
use Rattle.relay_view.proofs.Slots.{slots-map}
use Rattle.relay_view.proofs.view.View.write.Goals as goal

same : (c : goal.After-end_array)
    → list (items_of (map (λ s. slot s c.args.document.now) c.slots-slot-items.result.now))
    ≡ view c.args.self.now c.args.document.now
same c =
    let d = c.args.document.now in
    ap (λ slots. list (items_of (map (λ s. slot s d) slots))) c.slots-slot-items.ensures
    ∙ ap list (slots-map c.args.self.now d)

pub returns-clause-tokens : goal.returns-clause-tokens
returns-clause-tokens c =
    let slots = c.slots-slot-items.result.now in
    let old = c.args.out.now.tokens in
    let past : length slots ≤ c.loop-slot.slot-index = grind arith in
    let start : c.begin_array.new.self.tokens ≡ old ++ begin_array ∷ [] = search rules in
    on_ok_weaker c.end_array.result
    (λ e. writes_all
    (λ s. slot s c.args.document.now) slots c.loop-slot.slot-index old past start
    c.loop-slot.invariant.each e ∙ ap (λ d. old ++ tokens_of d) (same c)) c.end_array.ensures.ok

pub returns-clause-reads_back : goal.returns-clause-reads_back
returns-clause-reads_back c =
    let slots = c.slots-slot-items.result.now in
    let past : length slots ≤ c.loop-slot.slot-index = grind arith in
    on_ok_weaker c.end_array.result
    (λ e. subst ReadsBack (same c)
    (all_back (λ s. slot s c.args.document.now) slots c.loop-slot.slot-index past
    c.loop-slot.invariant.each)) c.end_array.ensures.ok
