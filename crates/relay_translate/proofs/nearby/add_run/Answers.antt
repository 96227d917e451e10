use Rattle.std.proofs.Common.{◌≡◌, ◌∙◌, false, refl, sym, ap, subst, string_eq}
use Rattle.std.specs.List.{starts_with}
use Rattle.relay_pointer.specs.Path.{path_of, is_prefix}
use Rattle.relay_pointer.proofs.Prefixes.{starts_with-is_prefix}
use Rattle.relay_translate.proofs.Runs.{Told, Walked, walk_begins, walked_more, walked_all}
use Rattle.relay_translate.proofs.Runs.{walked_end}
use Rattle.relay_translate.proofs.nearby.add_run.Goals as goal

pub loop-pointer-init : goal.loop-pointer-init
loop-pointer-init c =
    let change = c.args.change.now in
    let path = path_of c.args.first.now.items in
    let index = c.args.index.now in
    let old = c.args.sessions.now.items in
    let range = c.range-pointer-items.ensures in
    subst (λ run. Walked change path index run old old)
    (sym c.into_iter-pointer-iterator.ensures.into_iter_gives)
    (walk_begins change path index c.args.first.now c.range-pointer-items.result old refl
    (range.between tt) range.ordered (range.in_range tt).0)

pub loop-pointer-preserved : goal.loop-pointer-preserved
loop-pointer-preserved c =
    let new = c.add_told.new.sessions.items in
    walked_more c.loop-pointer.invariant
    (c.in-Some.pointer.now, c.in-Some.watchers.now) c.next.new.self c.in-Some.ensures.steps new
    (subst (λ ts. Told c.args.change.now
    (path_of ts) c.in-Some.watchers.now c.loop-pointer.sessions.items new)
    c.as_slice-in-loop-pointer.ensures.value c.in_ok-add_told.ensures)

pub returns-in-None : goal.returns-in-None
returns-in-None c = walked_end c.loop-pointer.invariant c.in-None.ensures.steps.0

pub returns-then-not-starts_with : goal.returns-then-not-starts_with
returns-then-not-starts_with c =
    let first = c.args.first.now.items in
    let pointer = c.in-Some.pointer.now in
    let begins : is_prefix (path_of first) (path_of pointer.items) ≡ false =
    sym (starts_with-is_prefix pointer.items first)
    ∙ ap (λ ts. starts_with string_eq ts first) (sym c.deref.ensures.value)
    ∙ ap (starts_with string_eq c.deref.result.now) (sym c.as_slice.ensures.value)
    ∙ sym c.starts_with.ensures.value ∙ c.if-not-starts_with.true in
    walked_all c.loop-pointer.invariant
    (pointer, c.in-Some.watchers.now) c.next.new.self c.in-Some.ensures.steps begins
