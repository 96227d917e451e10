use Rattle.std.proofs.Common.{◌≡◌, length, subst, arith}
use Rattle.std.proofs.lemmas.Result.{on_ok_weaker}
use Rattle.relay_pointer.specs.Path.{path_of, is_prefix}
use Rattle.relay_translate.specs.SlotIndex.{Gains, is_above}
use Rattle.relay_translate.proofs.Tokens.{path_of-length}
use Rattle.relay_translate.proofs.Gained.{gains_either}
use Rattle.relay_translate.proofs.nearby.add_near.Goals as goal

pub returns : goal.returns
returns c =
    let tokens = c.args.path.now in
    let path = path_of tokens in
    let change = c.args.change.now in
    let index = c.args.index.now in
    let old = c.args.sessions.now.items in
    let between = c.loop-depth.sessions.items in
    let new = c.add_below.new.sessions.items in
    let end = c.loop-depth-test.false in
    let all : c.loop-depth.depth ≡ length path =
    omega (arith, end, c.loop-depth.auto.depth-end, path_of-length tokens) in
    on_ok_weaker c.add_below.result
    (gains_either (is_above (length path) path) (is_prefix path) change index old between new
    (subst (λ n. Gains (is_above n path) change index old between) all c.loop-depth.invariant))
    c.add_below.ensures
