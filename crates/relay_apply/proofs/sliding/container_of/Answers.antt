use Rattle.std.proofs.Common.{◌≡◌, ◌-◌, length, take, sym, ap, ◌∙◌, subst, IfOk}
use Rattle.relay_pointer.specs.Path.{path_of}
use Rattle.relay_pointer.proofs.Tokens.{tokens_last}
use Rattle.relay_patch.specs.Place.{front}
use Rattle.relay_patch.proofs.Sites.{front-append}
use Rattle.relay_apply.proofs.sliding.container_of.Goals as goal

pub returns : goal.returns
returns c =
    let path = c.args.path.now in
    let end = tokens_last path c.in-len1-up.len_at_least in
    let here = sym (ap front end.1 ∙ front-append (path_of (take (length path - 1) path)) end.0) in
    subst (λ container. IfOk c.copied.result (λ made. made ≡ container)) here c.copied.ensures
