-- The parts that `split_once` finds stand before and behind the first mark.
use Rattle.std.proofs.Common.{◌∙◌, sym, ap, arith, take_all, Some}
use Rattle.relay_admin.proofs.Cuts.{until-first, after-first, after-none}
use Rattle.relay_admin.proofs.cut.cut.Goals as goal

pub returns-in-Some-clause-before : goal.returns-in-Some-clause-before
returns-in-Some-clause-before c =
    let (front, rest, within) = c.in-Some.ensures.byte c.requires (λ w o finds. finds) in
    front ∙ sym (until-first c.args.mark c.args.text.now)

pub returns-in-Some-clause-behind : goal.returns-in-Some-clause-behind
returns-in-Some-clause-behind c =
    let (front, rest, within) = c.in-Some.ensures.byte c.requires (λ w o finds. finds) in
    ap Some rest ∙ sym (after-first c.args.mark c.args.text.now within)

pub returns-in-None-clause-before : goal.returns-in-None-clause-before
returns-in-None-clause-before c =
    let none = c.in-None.ensures.byte c.requires (λ w o finds. finds) in
    sym (until-first c.args.mark c.args.text.now
    ∙ take_all _ c.args.text.now (omega (arith, none)))

pub returns-in-None-clause-behind : goal.returns-in-None-clause-behind
returns-in-None-clause-behind c =
    let none = c.in-None.ensures.byte c.requires (λ w o finds. finds) in
    sym (after-none c.args.mark c.args.text.now none)
