use Rattle.std.proofs.Common.{◌∙◌, ◌≡◌, ◌+◌, suc, Ok, Err, length, refl, sym, ap, subst, append-nil}
use Rattle.std.proofs.Common.{arith, vec_len}
use Rattle.std.specs.Vec.Iter.{into_iter_items, into_iter_len}
use Rattle.std.proofs.lemmas.List.{nil_from_length}
use Rattle.relay_tree.specs.Document.{items_of}
use Rattle.relay_tree.specs.Each.{each_from}
use Rattle.relay_tree.proofs.Each.{behind, behind_none, read_more}
use Rattle.relay_patch.specs.Form.{op_at}
use Rattle.relay_patch.proofs.form.reading.ops_of.Goals as goal

pub loop-item-init : goal.loop-item-init
loop-item-init c =
    let given = c.into_iter-item-iterator.ensures.into_iter_gives in
    let vector = c.in-Ok.ensures in
    let long = c.args.items.ok.0 in
    let counted : into_iter_len c.into_iter-item-iterator.result
    ≡ length (into_iter_items c.into_iter-item-iterator.result) =
    given.1 ∙ long ∙ ap length (sym given.0) in
    let none = vector.len in
    let room = vector.capacity in
    let same = ap length given.0 in
    record {
      read = rw (vector.items, vector.len, given.0)
          (behind_none (each_from (op_at c.args.tokens) 0 (items_of c.args.items.items)));
      len =
          counted;
      room = grind (arith, none, room, same, long);
    }

pub push_reserved-requires : goal.push_reserved-requires
push_reserved-requires c =
    grind (arith, ap length c.in-Some.ensures.steps.0, c.loop-item.invariant.room)

pub returns-in-Err-clause-err : goal.returns-in-Err-clause-err
returns-in-Err-clause-err c is_refused =
    let l = c.loop-item in
    let refused =
    subst (λ n. op_at c.args.tokens n c.in-Some.item ≡ Err c.in-Err.fault)
    c.len-in-loop-item.ensures
    (sym (ap (op_at c.args.tokens c.len-in-loop-item.result) c.into_tree.ensures)
    ∙ c.in-Err.ensures.err is_refused) in
    let here = ap
    (λ xs. behind l.ops.items (each_from (op_at c.args.tokens) (vec_len l.ops) (items_of xs)))
    c.in-Some.ensures.steps.0 in
    sym l.invariant.read ∙ here ∙ rw refused refl

pub loop-item-preserved : goal.loop-item-preserved
loop-item-preserved c =
    let l = c.loop-item in
    let steps = c.in-Some.ensures.steps in
    let pushed = c.push_reserved.ensures in
    let left = into_iter_items c.next.new.self in
    let found = subst
    (λ n. op_at c.args.tokens n c.in-Some.item ≡ Ok c.in-Ok-op_at.op) c.len-in-loop-item.ensures
    (sym (ap (op_at c.args.tokens c.len-in-loop-item.result) c.into_tree.ensures)
    ∙ c.in-Ok-op_at.ensures.ok) in
    let more = read_more (op_at c.args.tokens) (vec_len l.ops) c.in-Some.item
    (items_of left) l.ops.items c.in-Ok-op_at.op found in
    let here = ap
    (λ xs. behind l.ops.items (each_from (op_at c.args.tokens) (vec_len l.ops) (items_of xs)))
    steps.0 in
    let longer = ap length steps.0 in
    let room = l.invariant.room in
    let over : into_iter_len c.next.new.self + 1 ≡ suc (length left) =
    steps.1 ∙ l.invariant.len ∙ longer in
    record {
      read = rw (pushed.items, pushed.len) (more ∙ sym here ∙ l.invariant.read);
      len = omega (arith, over);
      room = grind (arith, longer, room);
    }

pub returns-clause-ok : goal.returns-clause-ok
returns-clause-ok c =
    let l = c.loop-item in
    let none = nil_from_length (into_iter_items l.item-iterator)
    (sym l.invariant.len ∙ c.in-None.ensures.steps.0) in
    sym l.invariant.read ∙ rw none (ap Ok (append-nil l.ops.items))
