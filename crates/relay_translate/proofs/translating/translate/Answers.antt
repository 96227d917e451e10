use Rattle.std.proofs.Common.{◌≡◌, map, sym, subst, Bor, arith}
use Rattle.std.proofs.lemmas.Grind.{common_steps}
use Rattle.relay_patch.specs.declared.change.Change.{Change}
use Rattle.relay_translate.specs.Local.{LeavesApart, FollowsInside, ReplacesReset}
use Rattle.relay_translate.specs.Sizes.{FitsWith}
use Rattle.relay_translate.specs.Translate.{LeadsViews, local}
use Rattle.relay_translate.proofs.Local.{leaves_apart, follows_inside, replaces_reset}
use Rattle.relay_translate.proofs.Sizes.{fits_with_changes}
use Rattle.relay_translate.proofs.Slots.{translation}
use Rattle.relay_translate.proofs.translating.translate.Goals as goal

made : (c : goal.In-Some)
    → c.in-Some.patch
    ≡ local (map (λ (x : Bor Change). x.now) c.args.changes.now) c.args.now.now c.args.view.now
made c = grind (arith, common_steps)

pub returns-clause-apart : goal.returns-clause-apart
returns-clause-apart c =
    let changes = map (λ (x : Bor Change). x.now) c.args.changes.now in
    subst (LeavesApart changes c.args.view.now) (sym (made c))
    (leaves_apart changes c.args.now.now c.args.view.now)

pub returns-clause-inside : goal.returns-clause-inside
returns-clause-inside c =
    let changes = map (λ (x : Bor Change). x.now) c.args.changes.now in
    subst (FollowsInside changes c.args.view.now) (sym (made c))
    (follows_inside changes c.args.now.now c.args.view.now)

pub returns-clause-reset : goal.returns-clause-reset
returns-clause-reset c =
    let changes = map (λ (x : Bor Change). x.now) c.args.changes.now in
    subst (ReplacesReset changes c.args.now.now c.args.view.now) (sym (made c))
    (replaces_reset changes c.args.now.now c.args.view.now)

pub returns-clause-leads : goal.returns-clause-leads
returns-clause-leads c =
    let changes = map (λ (x : Bor Change). x.now) c.args.changes.now in
    subst (LeadsViews changes c.args.now.now c.args.view.now) (sym (made c))
    (translation changes c.args.now.now c.args.view.now)

pub returns-clause-sizes : goal.returns-clause-sizes
returns-clause-sizes c =
    let changes = map (λ (x : Bor Change). x.now) c.args.changes.now in
    subst (FitsWith changes c.args.now.now) (sym (made c))
    (fits_with_changes changes c.args.now.now c.args.view.now)
