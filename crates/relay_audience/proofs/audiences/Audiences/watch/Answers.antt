use Rattle.std.proofs.Common.{◌≡◌, ◌∙◌, ap, sym, subst, refl, Some, None, Bool, true, false}
use Rattle.std.proofs.lemmas.Bool.{false≢true}
use Rattle.std.specs.Option.{option_copied}
use Rattle.std.proofs.lemmas.Result.{IfOk-weaker, on_ok_weaker}
use Rattle.relay_audience.specs.ViewOrder.{same_view}
use Rattle.relay_audience.specs.Audiences.{joined, next_number, view_of, watched, AreFilled}
use Rattle.relay_audience.specs.Audiences.{ChangesViewOf, EachSessionOnce}
use Rattle.relay_audience.specs.Table.{parted}
use Rattle.relay_audience.proofs.Partings.{filled_joined, filled_next, once_joined, once_next}
use Rattle.relay_audience.proofs.Partings.{watched_first, watched_next, watched_same}
use Rattle.relay_audience.proofs.Laws.{watched_only}
use Rattle.relay_audience.proofs.Tables.{either_outcome}
use Rattle.relay_audience.proofs.Views.{view_is}
use Rattle.relay_audience.proofs.audiences.Audiences.watch.Goals as goal

pub invariant_of-self-in_default : goal.invariant_of-self-in_default
invariant_of-self-in_default c =
    let s = c.args.session in
    let v = c.in_ok-new.field-0 in
    let xs = c.self.inside.table.list.items in
    let is = c.self.invariant in
    let none : view_of s xs ≡ None =
    ap (view_of s) c.self.view_is ∙ (c.requires ∙ ap option_copied c.in_default.is) in (
      c.join.ensures.table,
      either_outcome c.join.result (λ new. subst AreFilled (sym new)
          (filled_joined (next_number xs) s v xs is.1)) (λ new. subst AreFilled (sym new) is.1)
          c.join.ensures.ok c.join.ensures.err,
      either_outcome c.join.result (λ new. subst EachSessionOnce (sym new)
          (once_joined (next_number xs) s v xs none is.2))
          (λ new. subst EachSessionOnce (sym new) is.2) c.join.ensures.ok c.join.ensures.err,
    )

pub returns-in_default-clause-ok : goal.returns-in_default-clause-ok
returns-in_default-clause-ok c =
    let s = c.args.session in
    let xs = c.self.inside.table.list.items in
    let is = c.self.invariant in
    let none : view_of s xs ≡ None =
    ap (view_of s) c.self.view_is ∙ (c.requires ∙ ap option_copied c.in_default.is) in
    on_ok_weaker c.join.result
    (λ new. new ∙ ap (λ v. joined (next_number xs) s v xs) c.in_ok-new.ensures
    ∙ watched_first s c.args.view xs is.1 none ∙ ap (watched s c.args.view) c.self.view_is)
    c.join.ensures.ok

pub returns-in_default-clause-only : goal.returns-in_default-clause-only
returns-in_default-clause-only c =
    let s = c.args.session in
    let v = c.args.view in
    on_ok_weaker c.join.result
    (λ new. subst (ChangesViewOf s (Some v) c.args.self.now) (sym new)
    (watched_only s v c.args.self.now)) (returns-in_default-clause-ok c)

pub returns-then-same-clause-ok : goal.returns-then-same-clause-ok
returns-then-same-clause-ok c =
    let u = c.in-Some.former.now in
    let watches : view_of c.args.session c.args.self.now ≡ Some u =
    c.requires ∙ ap option_copied c.in-Some.is in
    let same : u ≡ c.args.view = sym c.get.ensures ∙ c.same.ensures.0 c.if-same.true in
    IfOk-weaker c.share.result (λ shared. shared ≡ u)
    (λ shared. c.args.self.now ≡ watched c.args.session c.args.view c.args.self.now)
    (λ shared h. watched_same c.args.session u c.args.view c.args.self.now watches same)
    c.share.ensures

former_is : (c : goal.After-part)
    → view_of c.args.session c.self.inside.table.list.items ≡ Some c.in-Some.former.now
former_is c =
    ap (view_of c.args.session) c.self.view_is ∙ (c.requires ∙ ap option_copied c.in-Some.is)

former_other : (c : goal.After-part) → same_view c.in-Some.former.now c.args.view ≡ false
former_other c =
    go (same_view c.in-Some.former.now c.args.view) refl
  where
    go : (b : Bool) → same_view c.in-Some.former.now c.args.view ≡ b → b ≡ false
    go true is =
        absurd (false≢true (sym c.if-same.false
        ∙ c.same.ensures.1 (c.get.ensures ∙ view_is c.in-Some.former.now c.args.view is)))
    go false is = refl

joined_is : (c : goal.After-part) → c.join-2.new.self.list.items
    ≡ joined (next_number c.self.inside.table.list.items) c.args.session c.args.view
    c.self.inside.table.list.items
joined_is c =
    let xs = c.self.inside.table.list.items in
    c.in_ok-view-2.ensures.ok
    ∙ ap (λ v. joined (next_number xs) c.args.session v xs) c.in_ok-view.ensures

pub invariant_of-self-2 : goal.invariant_of-self-2
invariant_of-self-2 c =
    let s = c.args.session in
    let xs = c.self.inside.table.list.items in
    let is = c.self.invariant in
    let next = c.part.ensures.list ∙ ap (parted s c.in-Some.former.now) (joined_is c) in (
      c.part.ensures.table,
      subst AreFilled (sym next) (filled_next s c.args.view xs is.1 is.2 is.0.once
          c.in-Some.former.now (former_is c) (former_other c)),
      subst EachSessionOnce (sym next) (once_next s c.args.view xs is.1 is.2 is.0.once
          c.in-Some.former.now (former_is c) (former_other c)),
    )

pub returns-clause-ok : goal.returns-clause-ok
returns-clause-ok c =
    let s = c.args.session in
    let xs = c.self.inside.table.list.items in
    let is = c.self.invariant in
    c.part.ensures.list ∙ ap (parted s c.in-Some.former.now) (joined_is c)
    ∙ watched_next s c.args.view xs is.1 is.2 is.0.once c.in-Some.former.now (former_is c)
    (former_other c)
    ∙ ap (watched s c.args.view) c.self.view_is

pub returns-clause-only : goal.returns-clause-only
returns-clause-only c =
    let s = c.args.session in
    let v = c.args.view in
    subst (ChangesViewOf s (Some v) c.args.self.now) (sym (returns-clause-ok c))
    (watched_only s v c.args.self.now)
