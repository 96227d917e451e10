use Rattle.std.proofs.Common.{◌≡◌, [], ◌∷◌, ◌++◌, Some, string_cmp, sym, ap, ◌∙◌, subst}
use Rattle.std.proofs.Common.{append_assoc, append-nil}
use Rattle.std.specs.List.Sorted.{IsStrictlySortedBy}
use Rattle.std.specs.Map.{keys_of}
use Rattle.relay_tree.specs.Reading.{AreRead}
use Rattle.relay_tree.proofs.ReadLemmas.{Read, EachRead, none_left, members_read, no_members_read}
use Rattle.relay_tree.proofs.ReadLemmas.{read_last, insert_last}
use Rattle.relay_tree.proofs.open_object.gather.Goals as goal

pub returns-in_default : goal.returns-in_default
returns-in_default c = λ ms are_read.
    let l = c.loop-name in
    let done = l.invariant.done in
    let left = c.next.new.self in
    let none = none_left c.in-Some.value c.in_default.not-Some in
    let all = l.invariant.all ∙ ap (λ es. done ++ es) c.in-Some.ensures.steps
    ∙ ap (λ t. done ++ (c.in-Some.name, t) ∷ left) none in
    no_members_read ms done c.in-Some.name left (subst (AreRead ms) all are_read)

pub loop-name-preserved : goal.loop-name-preserved
loop-name-preserved c =
    let l = c.loop-name in
    let done = l.invariant.done in
    let name = c.in-Some.name in
    let d = c.in-Some-value.value in
    let v : Read = (name, Some d) in
    let left = c.next.new.self in
    let all : c.args.found.entries ≡ done ++ v ∷ left =
    l.invariant.all ∙ ap (λ es. done ++ es) c.in-Some.ensures.steps
    ∙ ap (λ t. done ++ (name, t) ∷ left) c.in-Some-value.is in
    let ordered = c.into_iter-name-iterator.ensures.into_iter_gives.5 in
    let sorted = subst (λ es. IsStrictlySortedBy string_cmp (keys_of es)) all ordered in
    let last = insert_last done l.members.entries name (Some d) left d l.invariant.each sorted in
    let grown = read_last done l.members.entries name d l.invariant.each in
    record {
      done = done ++ v ∷ [];
      all = all ∙ sym (append_assoc done (v ∷ []) left);
      each = subst (EachRead (done ++ v ∷ [])) (sym (c.in_ok-insert.ensures.entries ∙ last)) grown;
    }

pub returns : goal.returns
returns c = λ ms are_read.
    let l = c.loop-name in
    let done = l.invariant.done in
    let whole = l.invariant.all ∙ ap (λ es. done ++ es) c.in-None.ensures.steps.0
    ∙ append-nil done in
    members_read ms done l.members.entries (subst (AreRead ms) whole are_read) l.invariant.each
