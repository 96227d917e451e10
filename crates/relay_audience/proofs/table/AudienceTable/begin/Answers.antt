use Rattle.std.proofs.Common.{◌≡◌, ◌∙◌, ap, sym, subst}
use Rattle.std.specs.FinMap as fin
use Rattle.relay_audience.specs.Audiences.{next_number}
use Rattle.relay_audience.specs.Table.{keys}
use Rattle.relay_audience.proofs.KeyLists.{AreBefore}
use Rattle.relay_audience.proofs.Places.{next_after}
use Rattle.relay_audience.proofs.Tables.{keyed_begun, keyed_undone}
use Rattle.relay_audience.proofs.table.AudienceTable.begin.Goals as goal

pub returns-in-Ok-clause-table : goal.returns-in-Ok-clause-table
returns-in-Ok-clause-table c =
    let xs = c.args.self.now.list.items in
    let n = c.in_ok-number.number in
    let is : n ≡ next_number xs =
    c.in_ok-number.ensures ∙ ap next_number c.as_slice.ensures.value in
    let before : AreBefore n (keys xs) =
    subst (λ m. AreBefore m (keys xs)) (sym is) (next_after xs) in
    keyed_begun xs c.reserve.new.self.items c.push_reserved.new.self.items
    (record { number = n; view = c.in_ok-share.field-0; sessions = c.in_ok-of.field-0 })
    c.args.self.now.places c.insert.new.self c.args.self.now.index c.put.new.self c.args.view
    c.requires.table before c.requires.fresh c.in_ok-share.ensures c.in_ok-reserve.ensures.items
    c.push_reserved.ensures.items
    (c.in_ok-put.ensures.ok ∙ ap (fin.insert c.args.self.now.index n) c.get.ensures)
    c.in-Ok.ensures.updates

pub returns-in-Err-clause-table : goal.returns-in-Err-clause-table
returns-in-Err-clause-table c =
    let xs = c.args.self.now.list.items in
    let n = c.in_ok-number.number in
    let is : n ≡ next_number xs =
    c.in_ok-number.ensures ∙ ap next_number c.as_slice.ensures.value in
    let before : AreBefore n (keys xs) =
    subst (λ m. AreBefore m (keys xs)) (sym is) (next_after xs) in
    keyed_undone xs c.reserve.new.self.items c.args.self.now.places c.insert.new.self
    c.args.self.now.index c.put.new.self c.take_out.new.self n c.args.view c.requires.table before
    c.in_ok-reserve.ensures.items
    (c.in_ok-put.ensures.ok ∙ ap (fin.insert c.args.self.now.index n) c.get.ensures)
    c.in-Err.ensures.err c.take_out.ensures
