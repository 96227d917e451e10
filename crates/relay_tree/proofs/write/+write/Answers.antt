use Rattle.std.proofs.Common.{◌≡◌, [], ◌∷◌, ◌++◌, string_bytes, sym, ap, ◌∙◌, subst, append_assoc}
use Rattle.std.proofs.Common.{append-nil, arith, rules}
use Rattle.std.proofs.lemmas.List.{nil_from_length}
use Rattle.std.proofs.lemmas.Result.{on_ok_weaker}
use Rattle.json.specs.Token.{begin_array, begin_object, key}
use Rattle.relay_tree.specs.Document.{weight, items_of, items_weight, members_weight}
use Rattle.relay_tree.specs.Seen.{members_of}
use Rattle.relay_tree.specs.Text.{ReadsBack}
use Rattle.relay_tree.proofs.Named.{Entry}
use Rattle.relay_tree.proofs.Texts.{whole_back, list_back, object_back}
use Rattle.relay_tree.proofs.Weights.{item_weighs, member_weighs}
use Rattle.relay_tree.proofs.Writing.{WritesEach, WritesMembers, writes_more, list_ends}
use Rattle.relay_tree.proofs.Writing.{writes_member, object_ends}
use Rattle.relay_tree.proofs.write.+write.Goals as goal

pub write_tree-returns-in-Whole-clause-reads_back :
    goal.write_tree-returns-in-Whole-clause-reads_back
write_tree-returns-in-Whole-clause-reads_back t c =
    let back : ReadsBack c.args.tree.now =
    rw (← c.tree.view_is, c.in-Whole.is) (whole_back c.in-Whole.number (search rules)) in
    on_ok_weaker c.i64.result (λ e. back) c.i64.ensures.ok

pub write_list-write_tree-requires : goal.write_list-write_tree-requires
write_list-write_tree-requires t c =
    let done = c.loop-item.invariant.done in
    let x = c.in-Some.item.now in
    let left = c.next.new.self.rest.now in
    let all : c.args.items.now.items ≡ done ++ x ∷ left =
    c.loop-item.invariant.all ∙ ap (λ ds. done ++ ds) c.in-Some.ensures.steps in
    let whole = ap (λ ds. items_weight (items_of ds)) all in
    (omega (arith, item_weighs done x left, whole, ap weight c.tree.ensures), tt)

pub write_list-loop-item-preserved : goal.write_list-loop-item-preserved
write_list-loop-item-preserved t c =
    let l = c.loop-item in
    let x = c.in-Some.item.now in
    let left = c.next.new.self.rest.now in
    let written = c.in_ok-write_tree.ensures in
    record {
      before = search rules;
      done = l.invariant.done ++ x ∷ [];
      all = l.invariant.all ∙ ap (λ ds. l.invariant.done ++ ds) c.in-Some.ensures.steps
          ∙ sym (append_assoc l.invariant.done (x ∷ []) left);
      each = writes_more l.invariant.done x l.invariant.each (rw c.tree.ensures at written.tokens)
          (rw c.tree.ensures at written.reads_back);
    }

pub write_list-returns-clause-tokens : goal.write_list-returns-clause-tokens
write_list-returns-clause-tokens t c =
    let done = c.loop-item.invariant.done in
    let all : done ≡ c.args.items.now.items =
    sym (c.loop-item.invariant.all
    ∙ ap (λ ds. done ++ ds)
    (nil_from_length (c.loop-item.item-iterator.rest.now) c.in-None.ensures.steps.0)
    ∙ append-nil done) in
    let start : c.begin_array.new.self.tokens ≡ c.args.out.now.tokens ++ begin_array ∷ [] =
    search rules in
    let each = subst
    (λ ds. WritesEach ds c.begin_array.new.self.tokens c.loop-item.out.tokens) all
    c.loop-item.invariant.each in
    on_ok_weaker c.end_array.result
    (λ e. list_ends c.args.items.now.items c.args.out.now.tokens start each e)
    c.end_array.ensures.ok

pub write_list-returns-clause-reads_back : goal.write_list-returns-clause-reads_back
write_list-returns-clause-reads_back t c =
    let done = c.loop-item.invariant.done in
    let all : done ≡ c.args.items.now.items =
    sym (c.loop-item.invariant.all
    ∙ ap (λ ds. done ++ ds)
    (nil_from_length (c.loop-item.item-iterator.rest.now) c.in-None.ensures.steps.0)
    ∙ append-nil done) in
    let each = subst
    (λ ds. WritesEach ds c.begin_array.new.self.tokens c.loop-item.out.tokens) all
    c.loop-item.invariant.each in
    on_ok_weaker c.end_array.result
    (λ e. list_back c.args.items.now.items each.back) c.end_array.ensures.ok

pub write_object-write_tree-requires : goal.write_object-write_tree-requires
write_object-write_tree-requires t c =
    let done = c.loop-name.invariant.done in
    let e : Entry = c.in-Some.field-0.now in
    let left = c.next.new.self.rest.now in
    let all : c.args.members.now.entries ≡ done ++ e ∷ left =
    c.loop-name.invariant.all ∙ ap (λ es. done ++ es) c.in-Some.ensures.steps in
    let whole = ap (λ es. members_weight (members_of es)) all in
    (omega (arith, member_weighs done e left, whole), tt)

pub write_object-loop-name-preserved : goal.write_object-loop-name-preserved
write_object-loop-name-preserved t c =
    let l = c.loop-name in
    let e : Entry = c.in-Some.field-0.now in
    let left = c.next.new.self.rest.now in
    let named : c.key.new.self.tokens ≡ l.out.tokens ++ key (string_bytes c.in-Some.field-0.now.0)
    ∷ [] = search rules in
    let written = c.in_ok-write_tree.ensures in
    record {
      before = search rules;
      done = l.invariant.done ++ e ∷ [];
      all = l.invariant.all ∙ ap (λ es. l.invariant.done ++ es) c.in-Some.ensures.steps
          ∙ sym (append_assoc l.invariant.done (e ∷ []) left);
      each = writes_member l.invariant.done e l.invariant.each named written.tokens
          written.reads_back;
    }

pub write_object-returns-clause-tokens : goal.write_object-returns-clause-tokens
write_object-returns-clause-tokens t c =
    let done = c.loop-name.invariant.done in
    let all : done ≡ c.args.members.now.entries =
    sym (c.loop-name.invariant.all
    ∙ ap (λ es. done ++ es)
    (nil_from_length c.loop-name.name-iterator.rest.now c.in-None.ensures.steps.0)
    ∙ append-nil done) in
    let start : c.begin_object.new.self.tokens ≡ c.args.out.now.tokens ++ begin_object ∷ [] =
    search rules in
    let each = subst
    (λ es. WritesMembers es c.begin_object.new.self.tokens c.loop-name.out.tokens) all
    c.loop-name.invariant.each in
    on_ok_weaker c.end_object.result
    (λ e. object_ends c.args.members.now.entries c.args.out.now.tokens start each e)
    c.end_object.ensures.ok

pub write_object-returns-clause-reads_back : goal.write_object-returns-clause-reads_back
write_object-returns-clause-reads_back t c =
    let done = c.loop-name.invariant.done in
    let all : done ≡ c.args.members.now.entries =
    sym (c.loop-name.invariant.all
    ∙ ap (λ es. done ++ es)
    (nil_from_length c.loop-name.name-iterator.rest.now c.in-None.ensures.steps.0)
    ∙ append-nil done) in
    let each = subst
    (λ es. WritesMembers es c.begin_object.new.self.tokens c.loop-name.out.tokens) all
    c.loop-name.invariant.each in
    on_ok_weaker c.end_object.result
    (λ e. object_back c.args.members.now.entries c.iter-name-items.ensures.ascending each.back)
    c.end_object.ensures.ok
