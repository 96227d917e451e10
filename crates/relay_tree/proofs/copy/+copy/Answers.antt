use Rattle.std.proofs.Common.{◌≡◌, [], ◌∷◌, ◌++◌, string_bytes, string_cmp, sym, ap, ◌∙◌, subst}
use Rattle.std.proofs.Common.{append_assoc, arith}
use Rattle.std.specs.List.Sorted.{IsStrictlySortedBy}
use Rattle.std.specs.Map.{keys_of}
use Rattle.relay_tree.specs.Document.{weight, items_of, items_weight, members_weight}
use Rattle.relay_tree.specs.Seen.{members_of}
use Rattle.relay_tree.proofs.Weights.{item_weighs, member_weighs}
use Rattle.relay_tree.proofs.Named.{Entry, members_of-insert_entry, add_member-last}
use Rattle.relay_tree.proofs.copy.+copy.Goals as goal

pub copy_items-copy_tree-requires : goal.copy_items-copy_tree-requires
copy_items-copy_tree-requires t c =
    let x = c.in-Some.item.now in
    let left = c.next.new.self.rest.now in
    let all : c.args.items.now.items ≡ c.loop-item.copies.items ++ x ∷ left =
    c.loop-item.invariant ∙ ap (λ ds. c.loop-item.copies.items ++ ds) c.in-Some.ensures.steps in
    let whole = ap (λ ds. items_weight (items_of ds)) all in (
      omega (arith, item_weighs c.loop-item.copies.items x left, whole, ap weight c.tree.ensures),
      tt,
    )

pub copy_members-copy_tree-requires : goal.copy_members-copy_tree-requires
copy_members-copy_tree-requires t c =
    let done = c.loop-name.invariant.0 in
    let e : Entry = c.in-Some.field-0.now in
    let left = c.next.new.self.rest.now in
    let all : c.args.members.now.entries ≡ done ++ e ∷ left =
    c.loop-name.invariant.1 ∙ ap (λ es. done ++ es) c.in-Some.ensures.steps in
    let whole = ap (λ es. members_weight (members_of es)) all in
    (omega (arith, member_weighs done e left, whole), tt)

pub copy_members-loop-name-preserved : goal.copy_members-loop-name-preserved
copy_members-loop-name-preserved t c =
    let l = c.loop-name in
    let done = l.invariant.0 in
    let e : Entry = c.in-Some.field-0.now in
    let left = c.next.new.self.rest.now in
    let all : c.args.members.now.entries ≡ done ++ e ∷ left =
    l.invariant.1 ∙ ap (λ es. done ++ es) c.in-Some.ensures.steps in
    let last = add_member-last done e left
    (subst (λ es. IsStrictlySortedBy string_cmp (keys_of es)) all
    c.iter-name-items.ensures.ascending) in
    let named : string_bytes c.in_ok-name.name ≡ string_bytes e.0 = c.in_ok-name.ensures.cases in (
      done ++ e ∷ [],
      all ∙ sym (append_assoc done (e ∷ []) left),
      ap members_of c.in_ok-insert.ensures.entries
          ∙ members_of-insert_entry l.copies.entries c.in_ok-name.name c.in_ok-copy_tree.field-0
          ∙ rw (named, c.in_ok-copy_tree.ensures, l.invariant.2) last,
    )
