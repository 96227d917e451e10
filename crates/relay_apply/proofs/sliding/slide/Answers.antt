use Rattle.std.proofs.Common.{ap, ◌∙◌}
use Rattle.relay_patch.specs.Place.{front}
use Rattle.relay_apply.proofs.Slides.{slides_so}
use Rattle.relay_apply.proofs.sliding.slide.Goals as goal

pub returns-clause-made : goal.returns-clause-made
returns-clause-made c = λ v next moves.
    let here = c.in_ok-list.ensures ∙ ap front c.tokens.ensures in
    let low = rw c.tokens-2.ensures at c.index_at-from.ensures in
    let high = rw c.tokens-3.ensures at c.index_at-to.ensures in
    (slides_so c.args.from.now c.args.to.now c.args.tree.now v next c.slide_at.new.tree
    c.in_ok-list.list c.index_at-from.result c.index_at-to.result c.requires.list moves here
    low high c.slide_at.ensures.few c.slide_at.ensures.slid).0

pub returns-clause-back : goal.returns-clause-back
returns-clause-back c =
    let m = c.requires.moves in
    let here = c.in_ok-list.ensures ∙ ap front c.tokens.ensures in
    let low = rw c.tokens-2.ensures at c.index_at-from.ensures in
    let high = rw c.tokens-3.ensures at c.index_at-to.ensures in
    (slides_so c.args.from.now c.args.to.now c.args.tree.now m.0 m.1 c.slide_at.new.tree
    c.in_ok-list.list c.index_at-from.result c.index_at-to.result c.requires.list m.2 here low
    high c.slide_at.ensures.few c.slide_at.ensures.slid).1
