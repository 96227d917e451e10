use Rattle.std.proofs.Common.{◌∙◌, ap, ◌||◌, ◌&&◌, ◌==◌}
use Rattle.std.specs.BTreeMap.{insert_entry}
use Rattle.std.proofs.lemmas.Result.{on_ok_weaker, on_err_weaker}
use Rattle.relay_translate.specs.SlotIndex.{SlotIndex, same_kind}
use Rattle.relay_translate.proofs.Keys.{against}
use Rattle.relay_translate.proofs.Standing.{joins_written, same_written, joins_inserted}
use Rattle.relay_translate.proofs.EachWatched.{joined_watches, insert_watches, found_watches}
use Rattle.relay_translate.proofs.EachWatched.{each_same, each_written, each_inserted}
use Rattle.relay_translate.proofs.slot_index.enter_slot.Goals as goal

pub returns-in-Some-clause-ok : goal.returns-in-Some-clause-ok
returns-in-Some-clause-ok c =
    let new = c.get_mut.follows.lender c.insert.new.self in
    on_ok_weaker c.insert.result
    (joins_written c.tokens-tokens.result.now c.args.slot.now c.tokens-tokens.ensures
    c.args.index.now new c.in-Some.watchers.now c.insert.new.self c.in-Some.ensures.value
    (c.get_mut.follows.holds c.insert.new.self).0 c.args.session)
    c.insert.ensures.ok

pub returns-in-Some-clause-err : goal.returns-in-Some-clause-err
returns-in-Some-clause-err c =
    let new = c.get_mut.follows.lender c.insert.new.self in
    on_err_weaker c.insert.result
    (same_written c.tokens-tokens.result.now c.args.slot.now c.tokens-tokens.ensures
    c.args.index.now new c.in-Some.watchers.now c.insert.new.self c.in-Some.ensures.value
    (c.get_mut.follows.holds c.insert.new.self).0)
    c.insert.ensures.err

pub returns-clause-ok : goal.returns-clause-ok
returns-clause-ok c =
    joins_inserted c.tokens-tokens.result.now c.args.slot.now c.tokens-tokens.ensures
    c.args.index.now c.insert-3.new.self c.in_ok-copy_tokens.field-0 c.insert-2.new.self
    c.args.session c.in_ok-copy_tokens.ensures c.in_default.ensures.value
    (c.in_ok-insert-2.ensures.entries
    ∙ ap (λ (m : SlotIndex). insert_entry
    (λ a b. against a.items b) m.entries c.in_ok-copy_tokens.field-0 c.insert-2.new.self)
    c.get_mut.follows.holds-at-none) c.in_ok-insert-2.ensures.updates.1
    (λ kind s. c.in_ok-insert.ensures.ok kind s
    ∙ ap (λ b. b || (same_kind kind c.args.slot.now.kind && (s == c.args.session)))
    (c.new-watchers.ensures kind s))

pub returns-in-Some-clause-watched : goal.returns-in-Some-clause-watched
returns-in-Some-clause-watched c =
    let old = c.args.index.now in
    let new = c.get_mut.follows.lender c.insert.new.self in
    let before = c.in-Some.watchers.now in
    let after = c.insert.new.self in
    each_written old c.requires.watched new _ after (c.get_mut.follows.holds after).0
    (insert_watches before after c.args.slot.now.kind c.args.session c.insert.result
    c.insert.ensures.ok c.insert.ensures.err
    (found_watches old c.requires.watched before c.in-Some.ensures.member))

pub returns-clause-watched : goal.returns-clause-watched
returns-clause-watched c =
    let kind = c.args.slot.now.kind in
    let before = c.new-watchers.result in
    let after = c.insert-2.new.self in
    let index = c.args.index.now in
    each_inserted index c.requires.watched c.insert-3.new.self c.in_ok-copy_tokens.field-0 after
    (c.in_ok-insert-2.ensures.entries
    ∙ ap (λ (m : SlotIndex). insert_entry
    (λ a b. against a.items b) m.entries c.in_ok-copy_tokens.field-0 after)
    c.get_mut.follows.holds-at-none)
    (joined_watches before after kind c.args.session c.in_ok-insert.ensures.ok)

pub returns-in_err-insert-clause-watched : goal.returns-in_err-insert-clause-watched
returns-in_err-insert-clause-watched c =
    each_same c.args.index.now c.requires.watched c.get_mut.follows.lender-at-none
    (ap (λ (m : SlotIndex). m.entries) c.get_mut.follows.holds-at-none)

pub returns-in_err-copy_tokens-clause-watched : goal.returns-in_err-copy_tokens-clause-watched
returns-in_err-copy_tokens-clause-watched c =
    each_same c.args.index.now c.requires.watched c.get_mut.follows.lender-at-none
    (ap (λ (m : SlotIndex). m.entries) c.get_mut.follows.holds-at-none)

pub returns-in_err-insert-2-clause-watched : goal.returns-in_err-insert-2-clause-watched
returns-in_err-insert-2-clause-watched c =
    each_same c.args.index.now c.requires.watched c.insert-3.new.self
    (c.in_err-insert-2.ensures.err
    ∙ ap (λ (m : SlotIndex). m.entries) c.get_mut.follows.holds-at-none)
