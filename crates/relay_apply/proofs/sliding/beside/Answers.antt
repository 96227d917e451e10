use Rattle.std.proofs.Common.{◌-◌, length, take, sym, ◌∙◌}
use Rattle.relay_pointer.specs.Path.{path_of}
use Rattle.relay_pointer.proofs.Tokens.{tokens_last}
use Rattle.relay_patch.proofs.Sites.{beside-append}
use Rattle.relay_apply.proofs.sliding.beside.Goals as goal

pub returns : goal.returns
returns c =
    let path = c.args.path.now in
    let other = c.args.other.now in
    let a = tokens_last path c.in-len1-up.len_at_least in
    let b = tokens_last other c.in-len1-up-other.len_at_least in
    c.same_path.ensures ∙ rw (
      a.1,
      b.1,
    ) (sym (beside-append (path_of (take (length path - 1) path))
    (path_of (take (length other - 1) other)) a.0 b.0))
