use Rattle.std.proofs.Common.{Some, ap, arith}
use Rattle.relay_tree.proofs.Elements.{items_length-items_of}
use Rattle.relay_tree.proofs.tree.Node.list_len.Goals as goal

pub returns-in-List-clause-len : goal.returns-in-List-clause-len
returns-in-List-clause-len c =
    rw (c.in-List.is, items_length-items_of) (ap Some (omega (arith, c.in-List.items.ok.0)))
