use Rattle.std.proofs.Common.{◌≡◌, ◌+◌, suc, [], ◌∷◌, ◌++◌, Some, length, map, string_cmp, sym, ap}
use Rattle.std.proofs.Common.{◌∙◌, subst, append_assoc, append-nil, arith}
use Rattle.std.proofs.lemmas.List.{nil_from_length}
use Rattle.std.specs.BTreeMap.{insert_entry}
use Rattle.std.specs.Vec.Iter.{into_iter_items, into_iter_len}
use Rattle.relay_tree.specs.Entries.{IsAscending}
use Rattle.relay_tree.specs.Reading.{as_read}
use Rattle.relay_tree.proofs.ReadLemmas.{read_behind}
use Rattle.relay_tree.proofs.open_object.into_map.Goals as goal

pub loop-name-init : goal.loop-name-init
loop-name-init c =
    let given = c.into_iter-name-iterator.ensures.into_iter_gives in
    record {
      done = [];
      all = sym (given.0 ∙ c.into_entries-name-items.ensures.entries);
      len = given.1 ∙ c.into_entries-name-items.result.ok.0 ∙ ap length (sym given.0);
      found = c.new-found.ensures.empty;
    }

pub loop-name-preserved : goal.loop-name-preserved
loop-name-preserved c =
    let l = c.loop-name in
    let done = l.invariant.done in
    let name = c.in-Some.name in
    let value = c.in-Some.value in
    let left = into_iter_items c.next.new.self in
    let steps = c.in-Some.ensures.steps in
    let all : c.args.members.entries ≡ done ++ (name, value) ∷ left =
    l.invariant.all ∙ ap (λ es. done ++ es) steps.0 in
    let ascending = subst IsAscending all c.into_entries-name-items.ensures.ascending in
    let over : into_iter_len c.next.new.self + 1 ≡ suc (length left) =
    steps.1 ∙ l.invariant.len ∙ ap length steps.0 in
    record {
      done = done ++ (name, value) ∷ [];
      all = all ∙ sym (append_assoc done ((name, value) ∷ []) left);
      len = omega (arith, over);
      found = c.in_ok-found.ensures
          ∙ ap (λ es. insert_entry string_cmp es name (Some value)) l.invariant.found
          ∙ read_behind done name value left ascending;
    }

pub returns : goal.returns
returns c =
    let l = c.loop-name in
    let done = l.invariant.done in
    let none = nil_from_length (into_iter_items l.name-iterator)
    (sym l.invariant.len ∙ c.in-None.ensures.steps.0) in
    let whole = l.invariant.all ∙ ap (λ es. done ++ es) none ∙ append-nil done in
    l.invariant.found ∙ ap (map as_read) (sym whole)
