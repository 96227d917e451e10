use Rattle.std.proofs.Common.{sym, subst, ◌∷◌, []}
use Rattle.relay_translate.specs.SlotIndex.{EachIsWatched, Leaves}
use Rattle.std.proofs.lemmas.Bool.Decides.{when_true, when_false}
use Rattle.relay_translate.proofs.Standing.{leaves_written, leaves_removed, leaves_nobody}
use Rattle.relay_translate.proofs.Standing.{new_written}
use Rattle.relay_translate.proofs.EachWatched.{each_written, each_removed}
use Rattle.relay_translate.proofs.slot_index.leave_slot.Goals as goal

pub returns-in_default-clause-left : goal.returns-in_default-clause-left
returns-in_default-clause-left c =
    subst (λ new. Leaves c.args.index.now new c.args.session (c.args.slot.now ∷ []) [])
    (sym c.get_mut.follows.holds-at-none)
    (leaves_nobody c.tokens-tokens.result.now c.args.slot.now c.tokens-tokens.ensures
    c.args.index.now c.args.session c.in_default.ensures.value)

pub returns-then-is_empty-clause-left : goal.returns-then-is_empty-clause-left
returns-then-is_empty-clause-left c =
    let ts = c.tokens-tokens.result.now in
    let slot = c.args.slot.now in
    let at = c.tokens-tokens.ensures in
    let old = c.args.index.now in
    let watchers = c.remove.new.self in
    let between = c.get_mut.follows.lender watchers in
    let written = (c.get_mut.follows.holds watchers).0 in
    let left = leaves_written ts slot at old between c.in-Some.watchers.now watchers
    c.in-Some.ensures.value written c.args.session c.remove.ensures in
    leaves_removed ts slot at old between c.remove-then-is_empty.new.self c.args.session watchers
    left
    (new_written ts slot at old between c.in-Some.watchers.now watchers c.in-Some.ensures.value
    written)
    (when_true _ _ c.if-is_empty.true c.is_empty.ensures) c.remove-then-is_empty.ensures.entries
    c.remove-then-is_empty.ensures.updates.1

pub returns-else-is_empty-clause-left : goal.returns-else-is_empty-clause-left
returns-else-is_empty-clause-left c =
    let watchers = c.remove.new.self in
    leaves_written c.tokens-tokens.result.now c.args.slot.now c.tokens-tokens.ensures
    c.args.index.now
    (c.get_mut.follows.lender watchers) c.in-Some.watchers.now watchers c.in-Some.ensures.value
    (c.get_mut.follows.holds watchers).0 c.args.session c.remove.ensures

pub returns-in_default-clause-watched : goal.returns-in_default-clause-watched
returns-in_default-clause-watched c =
    subst EachIsWatched (sym c.get_mut.follows.holds-at-none) c.requires.watched

pub returns-then-is_empty-clause-watched : goal.returns-then-is_empty-clause-watched
returns-then-is_empty-clause-watched c =
    let watchers = c.remove.new.self in
    each_removed c.args.index.now c.requires.watched
    (c.get_mut.follows.lender watchers) c.remove-then-is_empty.new.self _ watchers
    (c.get_mut.follows.holds watchers).0 c.remove-then-is_empty.ensures.entries

pub returns-else-is_empty-clause-watched : goal.returns-else-is_empty-clause-watched
returns-else-is_empty-clause-watched c =
    let watchers = c.remove.new.self in
    each_written c.args.index.now c.requires.watched (c.get_mut.follows.lender watchers) _ watchers
    (c.get_mut.follows.holds watchers).0 (when_false _ _ c.if-is_empty.false c.is_empty.ensures)
