use Rattle.std.proofs.Common.{◌≡◌, ◌∙◌, ap, sym, subst, Some, None}
use Rattle.relay_audience.specs.Audiences.{view_of, without, AreFilled, ChangesViewOf}
use Rattle.relay_audience.specs.Audiences.{EachSessionOnce}
use Rattle.relay_audience.proofs.Laws.{without_only}
use Rattle.relay_audience.proofs.Partings.{filled_parted, once_parted, without_parted}
use Rattle.relay_audience.proofs.audiences.Audiences.unwatch.Goals as goal

pub invariant_of-self : goal.invariant_of-self
invariant_of-self c =
    let s = c.args.session in
    let v = c.args.view.now in
    let xs = c.self.inside.table.list.items in (
      c.part.ensures.table,
      subst AreFilled (sym c.part.ensures.list) (filled_parted s v xs c.self.invariant.1),
      subst EachSessionOnce (sym c.part.ensures.list) (once_parted s v xs c.self.invariant.2),
    )

pub returns-clause-left : goal.returns-clause-left
returns-clause-left c =
    let s = c.args.session in
    let v = c.args.view.now in
    let xs = c.self.inside.table.list.items in
    let is = c.self.invariant in
    let watches : view_of s xs ≡ Some v = ap (view_of s) c.self.view_is ∙ c.requires in
    c.part.ensures.list
    ∙ sym (without_parted s v xs is.1 is.2 is.0.once watches)
    ∙ ap (without s) c.self.view_is

pub returns-clause-only : goal.returns-clause-only
returns-clause-only c =
    subst (ChangesViewOf c.args.session None c.args.self.now) (sym (returns-clause-left c))
    (without_only c.args.session c.args.self.now)
