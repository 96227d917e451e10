use Rattle.std.proofs.Common.{◌≡◌, ◌<◌, ◌≤◌, length, Some, refl, sym, ap, ◌∙◌, arith}
use Rattle.std.proofs.lemmas.Option.{slice_get_past, slice_get_read}
use Rattle.relay_tree.specs.Document.{list}
use Rattle.relay_tree.proofs.Elements.{slice_get-items_of, items_of-slice_set}
use Rattle.relay_tree.proofs.Parts.{is_list, no_item}
use Rattle.relay_tree.proofs.tree.Node.item_mut.Goals as goal

pub returns-then-index-len : goal.returns-then-index-len
returns-then-index-len c =
    let v = c.in-Some.items.now in
    let i = c.args.index in
    let whole : c.args.self.now ≡ _ = is_list c.args.self.now v c.in-Some.ensures.value in
    let within : i < length v.items = omega (arith, c.if-index-len.true, c.len.ensures, v.ok) in
    let there = sym
    (slice_get_read v.items
    (length v.items) i c.index_mut.result.now refl within c.index_mut.ensures.value)
    ∙ slice_get-items_of v.items i in
    rw whole (
      (refl, λ w. ap list (items_of-slice_set v.items i w), refl),
      record { writes_back = tt; value = ap Some c.tree_mut.ensures.value ∙ there },
    )

pub returns-else-index-len : goal.returns-else-index-len
returns-else-index-len c =
    let v = c.in-Some.items.now in
    let i = c.args.index in
    let whole : c.args.self.now ≡ _ = is_list c.args.self.now v c.in-Some.ensures.value in
    let past : length v.items ≤ i = omega (arith, c.if-index-len.false, c.len.ensures, v.ok) in
    rw whole (
      (refl, λ w. tt, refl),
      record {
        writes_back = tt;
        value = sym (slice_get_past v.items i past)
            ∙ slice_get-items_of v.items i;
      },
    )

pub returns-in-None : goal.returns-in-None
returns-in-None c = (
  (refl, λ w. tt, refl),
  record {
    writes_back = tt;
    value = no_item c.args.self.now c.args.index c.in-None.ensures.value;
  },
)
