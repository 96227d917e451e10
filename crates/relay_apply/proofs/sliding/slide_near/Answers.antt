use Rattle.std.proofs.Common.{◌≡◌, ◌+◌, ◌-◌, suc, max, ◌∙◌, arith}
use Rattle.relay_apply.proofs.Slides.{moved_up, moved_down, slides}
use Rattle.relay_apply.proofs.sliding.slide_near.Goals as goal

pub loop-index-preserved : goal.loop-index-preserved
loop-index-preserved c =
    let xs = c.args.items.now.items in
    let from = c.args.from in
    let index = c.loop-index.index in
    let long = c.args.items.now.ok.0 in
    let next : index + 1 ≡ suc index = omega arith in
    let up =
    moved_up xs from index (omega (arith, long, c.requires.from_in_bounds)) (omega (
      arith,
      long,
      c.requires.to_in_bounds,
      c.loop-index-test.true,
    )) in (
      rw (c.swap.ensures.items, c.loop-index.invariant.0, next) up,
      c.swap.ensures.len ∙ c.loop-index.invariant.1,
      omega (arith, c.loop-index-test.true),
    )

pub loop-index-2-init : goal.loop-index-2-init
loop-index-2-init c =
    let come : c.loop-index.index ≡ max c.args.from c.args.to =
    omega (
      arith,
      c.loop-index-test.false,
      c.loop-index.auto.index,
      c.loop-index.invariant.2,
    ) in
    (rw (← come) c.loop-index.invariant.0, c.loop-index.invariant.1)

pub loop-index-2-preserved : goal.loop-index-2-preserved
loop-index-2-preserved c =
    let xs = c.args.items.now.items in
    let from = c.args.from in
    let to = c.args.to in
    let at = c.loop-index-2.index in
    let long = c.args.items.now.ok.0 in
    let down = c.loop-index-2-test.true in
    let first = c.loop-index-2.auto.index in
    let last : max at to ≡ suc (at - 1) = omega (arith, down) in
    let next : max (at - 1) to ≡ at - 1 = omega (arith, down) in
    let beside : at - 1 + 1 ≡ suc (at - 1) = omega (arith, down) in
    let step =
    moved_down xs from (at - 1) (omega (arith, long, c.requires.from_in_bounds))
    (omega (arith, long, c.requires.from_in_bounds, down, first)) in (
      rw (
        c.swap-in-loop-index-2.ensures.items,
        c.loop-index-2.invariant.0,
        last,
        next,
        beside,
      ) step,
      c.swap-in-loop-index-2.ensures.len ∙ c.loop-index-2.invariant.1,
    )

pub returns : goal.returns
returns c =
    let xs = c.args.items.now.items in
    let long = c.args.items.now.ok.0 in
    let come : max c.loop-index-2.index c.args.to ≡ c.args.to =
    omega (arith, c.loop-index-2-test.false) in
    rw (
      c.loop-index-2.invariant.0,
      come,
    ) (slides xs c.args.from c.args.to (omega (arith, long, c.requires.from_in_bounds))
    (omega (arith, long, c.requires.to_in_bounds)))
