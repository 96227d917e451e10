use Rattle.std.proofs.Common.{[], sym, subst}
use Rattle.relay_audience.specs.Table.{keys, IsKeyed}
use Rattle.relay_audience.proofs.Tables.{keyed_none}
use Rattle.relay_audience.proofs.table.AudienceTable.new.Goals as goal

pub returns-clause-table : goal.returns-clause-table
returns-clause-table c =
    subst (λ xs. IsKeyed (keys xs) c.new-2.result c.new-3.result) (sym c.new.ensures.items)
    (subst (IsKeyed [] c.new-2.result) (sym c.new-3.ensures)
    (keyed_none c.new-2.result c.new-2.ensures.empty))
