use Rattle.std.proofs.Common.{◌∙◌, Some, [], sym, ap, subst}
use Rattle.std.specs.FinMap as fin
use Rattle.relay_translate.specs.SlotIndex.{IsIndex, Leaves, watches_of}
use Rattle.relay_translate.proofs.Watched.{get_seen, index_left, left, within_left}
use Rattle.relay_translate.proofs.watch_index.WatchIndex.take_out.Goals as goal

pub invariant_of-self : goal.invariant_of-self
invariant_of-self c =
    let views = c.self.inside.views in
    let slots = c.self.inside.slots in
    let new = c.leave.new.index in
    let session = c.args.session in
    let is =
    index_left slots new (watches_of views) session (Some c.in-Some.view)
    (get_seen views session ∙ sym c.in-Some.ensures.value) c.self.invariant.0
    (subst (λ list. Leaves slots new session list []) c.slots.ensures c.leave.ensures.left) in (
      subst (IsIndex new) (sym (left views c.remove.new.self session c.remove.ensures.updates)) is,
      within_left slots new
          (watches_of views) session c.self.inside.deepest c.self.invariant.0 is c.self.invariant.1,
      c.leave.ensures.watched,
    )

pub returns-in-Some : goal.returns-in-Some
returns-in-Some c =
    left c.self.inside.views c.remove.new.self c.args.session c.remove.ensures.updates
    ∙ ap (λ m. fin.remove m c.args.session) c.self.view_is

pub returns-in_default : goal.returns-in_default
returns-in_default c =
    left c.self.inside.views c.remove.new.self c.args.session c.remove.ensures.updates
    ∙ ap (λ m. fin.remove m c.args.session) c.self.view_is
