use Rattle.std.proofs.Common.{◌-◌, length, take, sym, ap, ◌∙◌}
use Rattle.relay_pointer.specs.Path.{path_of}
use Rattle.relay_pointer.specs.Index.{index_of}
use Rattle.relay_pointer.proofs.Tokens.{tokens_back}
use Rattle.relay_patch.specs.Place.{last_of}
use Rattle.relay_patch.proofs.Sites.{last_of-append}
use Rattle.relay_apply.proofs.Slides.{no_last}
use Rattle.relay_apply.proofs.sliding.index_at.Goals as goal

pub returns-in-empty : goal.returns-in-empty
returns-in-empty c = λ i named few. absurd (no_last c.args.path.now i c.in-empty.len_below named)

pub returns-in-len1-up : goal.returns-in-len1-up
returns-in-len1-up c =
    let path = c.args.path.now in
    let is = tokens_back path c.last-item.result c.in-len1-up.len_at_least c.last-item.is in
    let last = c.as_str.ensures.value
    ∙ sym (ap last_of is ∙ last_of-append (path_of (take (length path - 1) path)) _) in
    λ i named few. c.index_or_zero.ensures i (ap index_of last ∙ named) few
