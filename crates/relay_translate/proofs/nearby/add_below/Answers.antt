use Rattle.std.proofs.lemmas.Result.{on_ok_weaker}
use Rattle.std.proofs.Common.{subst, arith}
use Rattle.relay_pointer.specs.Path.{path_of, is_prefix}
use Rattle.relay_translate.specs.SlotIndex.{Gains}
use Rattle.relay_translate.proofs.Tokens.{path_of-length}
use Rattle.relay_translate.proofs.Keys.{key_path}
use Rattle.relay_translate.proofs.Gained.{gains_beyond}
use Rattle.relay_translate.proofs.nearby.add_below.Goals as goal

pub returns-in-Some : goal.returns-in-Some
returns-in-Some c =
    on_ok_weaker c.add_run.result
    (subst (λ path. Gains
    (is_prefix path) c.args.change.now c.args.index.now c.args.sessions.now.items
    c.add_run.new.sessions.items)
    (key_path c.args.path.now c.in-Some.first.now c.in-Some.ensures.same_key))
    c.add_run.ensures

pub returns-then-path-deepest : goal.returns-then-path-deepest
returns-then-path-deepest c =
    let path = c.args.path.now in
    gains_beyond c.args.change.now
    (path_of path) c.args.deepest c.args.index.now c.args.sessions.now.items c.requires
    (omega (arith, c.if-path-deepest.true, path_of-length path))
