use Rattle.std.proofs.Common.{◌≡◌, ◌<◌, Some, length, get_or, sym, ◌∙◌, arith}
use Rattle.std.specs.List.{insert}
use Rattle.std.proofs.lemmas.Option.{slice_get-get_or}
use Rattle.relay_tree.specs.Document.{null, items_of}
use Rattle.relay_tree.proofs.Elements.{items_length-items_of}
use Rattle.relay_apply.proofs.Slides.{slides_nowhere, slides}
use Rattle.relay_apply.proofs.sliding.slide_item.Goals as goal

pub returns-then-max-len-clause-slid : goal.returns-then-max-len-clause-slid
returns-then-max-len-clause-slid c =
    let v = c.args.items.now in
    let ok = v.ok in
    let long = items_length-items_of v.items in
    sym (slides_nowhere (items_of v.items) c.args.from c.args.to (omega (
      arith,
      long,
      ok.0,
      c.len.ensures,
      c.if-max-len.true,
      c.max.ensures,
    )))

pub returns-clause-slid : goal.returns-clause-slid
returns-clause-slid c =
    let v = c.args.items.now in
    let xs = v.items in
    let ok = v.ok in
    let from = c.args.from in
    let to = c.args.to in
    let e = c.remove-element.result in
    let there : from < length xs =
    omega (arith, ok.0, c.len.ensures, c.if-max-len.false, c.max.ensures) in
    let within : to < length xs =
    omega (arith, ok.0, c.len.ensures, c.if-max-len.false, c.max.ensures) in
    let taken : Some (get_or xs from e) ≡ Some (get_or xs from null) =
    sym (slice_get-get_or xs from e there) ∙ slice_get-get_or xs from null there in
    let found : get_or xs from e ≡ get_or xs from null = cc in
    let is : e ≡ get_or xs from null = c.remove-element.ensures.value ∙ found in
    let whole : c.insert.new.self.items ≡ insert c.remove-element.new.self.items to e =
    rw c.unwrap.ensures at c.insert.ensures.items in
    rw (whole, c.remove-element.ensures.items, is) (slides xs from to there within)
