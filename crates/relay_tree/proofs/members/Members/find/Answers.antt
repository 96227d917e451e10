use Rattle.std.proofs.Common.{rules}
use Rattle.std.proofs.lemmas.Fn.{always_returns_same}
use Rattle.relay_tree.specs.Document.{Document}
use Rattle.relay_tree.specs.Entries.{order_to}
use Rattle.relay_tree.proofs.Finding.{sought}
use Rattle.relay_tree.proofs.members.Members.find.Goals as goal

-- the closure compares an entry's name with the one that is sought, and the slice is the entries
pub returns-clause-place : goal.returns-clause-place
returns-clause-place c =
    let facts = c.binary_search_by.ensures in
    let place = facts.position (order_to {V = Document} c.args.name.now)
    (always_returns_same _ _ _ (λ a v f' k. search rules)) in
    rw (← c.self.view_is, ← c.deref.ensures.value)
    (sought c.args.name.now _ _ (rw c.deref.ensures.value c.self.invariant) facts.bound place)
