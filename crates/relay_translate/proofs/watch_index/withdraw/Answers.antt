use Rattle.std.proofs.Common.{◌≡◌, ◌∙◌, Some, None, [], sym, ap, subst}
use Rattle.std.specs.FinMap as fin
use Rattle.std.specs.Option.{option_copied}
use Rattle.relay_translate.specs.Watches.{slots_of}
use Rattle.relay_translate.specs.SlotIndex.{Leaves, watches_of}
use Rattle.relay_translate.proofs.Watched.{get_seen}
use Rattle.relay_translate.proofs.watch_index.withdraw.Goals as goal

pub returns-in-Some-clause-left : goal.returns-in-Some-clause-left
returns-in-Some-clause-left c =
    let session = c.args.session in
    let kept : fin.get (watches_of c.args.views.now) session ≡ Some c.in-Some.kept.now =
    get_seen c.args.views.now session ∙ sym c.get.ensures.value
    ∙ ap option_copied c.in-Some.is in
    subst (λ slots. Leaves c.args.slots.now c.leave.new.index session c.args.view.now slots)
    (c.slots-in-Some.ensures ∙ sym (ap slots_of kept))
    (subst (λ slots. Leaves c.args.slots.now c.leave.new.index session slots
    c.slots-in-Some.result.now) c.slots.ensures c.leave.ensures.left)

pub returns-in-None-clause-left : goal.returns-in-None-clause-left
returns-in-None-clause-left c =
    let session = c.args.session in
    let none : fin.get (watches_of c.args.views.now) session ≡ None =
    get_seen c.args.views.now session ∙ sym c.get.ensures.value
    ∙ ap option_copied c.in-None.is in
    subst (λ slots. Leaves c.args.slots.now c.leave-in-None.new.index session c.args.view.now slots)
    (sym (ap slots_of none))
    (subst (λ slots. Leaves c.args.slots.now c.leave-in-None.new.index session slots [])
    c.slots-in-None.ensures c.leave-in-None.ensures.left)
