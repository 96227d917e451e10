use Rattle.std.proofs.Common.{◌∙◌, ◌≤◌, ap, arith, get_or, length, map, subst}
use Rattle.std.proofs.lemmas.List.{take_all}
use Rattle.relay_store.specs.Kept.{begun, committed}
use Rattle.relay_store.specs.Texts.{owned}
use Rattle.relay_keeping.specs.Clients.{AreClientsOf}
use Rattle.relay_keeping.proofs.Changes.{with_one_more}
use Rattle.relay_keeping.proofs.clients.Clients.of.Goals as goal

pub loop-change-preserved : goal.loop-change-preserved
loop-change-preserved c = λ epoch.
    let i = c.loop-change.change-index in
    let change = c.change-item.result in
    let items = c.deref-change-items.ensures.value in
    with_one_more (λ kept. AreClientsOf kept c.note.new.self) owned (begun epoch)
    c.args.changes.now.items i change _
    (omega (arith, c.loop-change-test.true, ap length items))
    (c.change-item.is ∙ ap (λ xs. get_or xs i change) items) c.borrow.ensures
    (c.in_ok-note.ensures _ (c.loop-change.invariant epoch))

pub returns : goal.returns
returns c = λ epoch.
    let changes = c.args.changes.now.items in
    let i = c.loop-change.change-index in
    let all : length changes ≤ i =
    omega (arith, c.loop-change-test.false, ap length c.deref-change-items.ensures.value) in
    subst (λ front. AreClientsOf (committed (begun epoch) (map owned front)) c.loop-change.clients)
    (take_all i changes all) (c.loop-change.invariant epoch)
