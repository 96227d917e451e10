use Rattle.std.proofs.Common.{◌≡◌, ◌∙◌, ◌-◌, take, ap, arith}
use Rattle.relay_pointer.specs.Path.{path_of}
use Rattle.relay_translate.proofs.Tokens.{path_of-take}
use Rattle.relay_translate.proofs.nearby.first_tokens.Goals as goal

pub returns-in-Some : goal.returns-in-Some
returns-in-Some c =
    let tokens = c.args.path.now in
    let whole : c.args.depth - 0 ≡ c.args.depth = omega arith in
    ap path_of (c.in-Some.ensures.lookup.0.2 ∙ ap (λ n. take n tokens) whole)
    ∙ path_of-take c.args.depth tokens
