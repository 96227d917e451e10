-- The value of a node after a mutable borrow of one of its parts ends.
use Rattle.std.specs.Prelude.{Option}
use Rattle.std.specs.Borrow.{MutBor, Fml}
use Rattle.relay_tree.specs.Document.{Document}
use Rattle.relay_tree.specs.Lending.{LendsPart}
use Rattle.relay_tree.specs.declared.tree.Node.{Node}
use Rattle.relay_pointer.specs.Index.{Token}
use Rattle.relay_pointer.specs.Path.{with_child}

-- a node ends as its document with what was written as the part that the token names; it is
-- unchanged if the token names none
abbrev pub LendsChild : MutBor Node → Token → Option (MutBor Document) → Fml
LendsChild s t r = LendsPart (λ d. with_child d t) s r
