-- The unread bytes after `count` were consumed.
use Rattle.std.proofs.Common.{drop, sym, ap, ◌∙◌, arith, length-take}
use Rattle.relay_script.proofs.LineLemmas.{window_rest}
use Rattle.relay_script.proofs.input.LineReader.advance.Goals as goal

pub returns : goal.returns
returns c =
    let s = c.self.inside in
    let few = rw (← c.self.view_is) at c.requires in
    sym (window_rest s.start s.end c.args.count s.bytes (omega (arith, simp length-take at few)))
    ∙ ap (drop c.args.count) c.self.view_is
