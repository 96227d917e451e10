use Rattle.std.proofs.Common.{◌∙◌, ◌≤◌, drop, length, sym, ap, arith}
use Rattle.relay_pointer.specs.Path.{path_of}
use Rattle.relay_translate.proofs.Tokens.{path_of-past, path_of-range}
use Rattle.relay_translate.proofs.site.tokens_behind.Goals as goal

pub returns-in-Some : goal.returns-in-Some
returns-in-Some c =
    let tokens = c.tokens.result.now in
    let range = c.in-Some.ensures.lookup.0 in
    ap path_of range.2 ∙ path_of-range c.args.count tokens range.0
    ∙ ap (drop c.args.count) c.tokens.ensures

pub returns-in-None : goal.returns-in-None
returns-in-None c =
    let tokens = c.tokens.result.now in
    let past : length tokens ≤ c.args.count = grind arith in
    sym (path_of-past c.args.count tokens past) ∙ ap (drop c.args.count) c.tokens.ensures
