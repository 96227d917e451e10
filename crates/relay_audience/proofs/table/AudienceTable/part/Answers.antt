use Rattle.std.proofs.Common.{◌≡◌, ◌∙◌, ap, sym, subst, cond}
use Rattle.relay_audience.specs.Table.{dropped, keys, IsKeyed}
use Rattle.relay_audience.proofs.Places.{parted_none, parted_there, place_found}
use Rattle.relay_audience.proofs.Tables.{keyed_drop}
use Rattle.relay_audience.proofs.table.AudienceTable.part.Goals as goal

pub returns-in_default-clause-list : goal.returns-in_default-clause-list
returns-in_default-clause-list c =
    parted_none c.args.session c.args.view.now c.args.self.now.list.items
    (sym (c.requires.by_view c.args.view.now)
    ∙ (sym c.get.ensures.value ∙ sym c.in_default.ensures))

pub leave_at-requires-clause-there : goal.leave_at-requires-clause-there
leave_at-requires-clause-there c =
    place_found c.args.view.now c.in-Some.number c.args.self.now.list.items
    (sym (c.in-Some.ensures ∙ (c.get.ensures.value ∙ c.requires.by_view c.args.view.now)))

pub returns-then-leave_at-clause-list : goal.returns-then-leave_at-clause-list
returns-then-leave_at-clause-list c =
    c.leave_at.ensures.list
    ∙ parted_there c.in-Some.number c.args.session c.args.view.now c.args.self.now.list.items
    c.requires.order
    (sym (c.in-Some.ensures ∙ (c.get.ensures.value ∙ c.requires.by_view c.args.view.now)))

pub returns-then-leave_at-clause-table : goal.returns-then-leave_at-clause-table
returns-then-leave_at-clause-table c =
    let ks = keys c.args.self.now.list.items in
    let n = c.in-Some.number in
    let gone : keys c.leave_at.new.list.items ≡ dropped n ks =
    c.leave_at.ensures.gone ∙ ap (λ b. cond b (dropped n ks) ks) c.if-leave_at.true in
    subst (λ new. IsKeyed new c.remove.new.self c.take_out.new.self) (sym gone)
    (subst (IsKeyed (dropped n ks) c.remove.new.self) (sym c.take_out.ensures)
    (keyed_drop ks c.args.self.now.places c.args.self.now.index c.requires n c.args.view.now
    c.remove.new.self
    (sym (c.in-Some.ensures ∙ (c.get.ensures.value ∙ c.requires.by_view c.args.view.now)))
    c.remove.ensures.updates))

pub returns-else-leave_at-clause-list : goal.returns-else-leave_at-clause-list
returns-else-leave_at-clause-list c =
    c.leave_at.ensures.list
    ∙ parted_there c.in-Some.number c.args.session c.args.view.now c.args.self.now.list.items
    c.requires.order
    (sym (c.in-Some.ensures ∙ (c.get.ensures.value ∙ c.requires.by_view c.args.view.now)))
