use Rattle.std.proofs.Common.{◌-◌, length, take, sym, ◌∙◌}
use Rattle.relay_pointer.specs.Path.{path_of}
use Rattle.relay_patch.specs.Walk.{walk}
use Rattle.relay_apply.proofs.Stays.{comes_back, goes_elsewhere, other_end}
use Rattle.relay_apply.proofs.moving.stays.Goals as goal
use Rattle.relay_pointer.proofs.Tokens.{tokens_back}
use Rattle.relay_pointer.proofs.Prefixes.{other_parent}

pub returns-then-same_path-clause-place : goal.returns-then-same_path-clause-place
returns-then-same_path-clause-place c =
    let from = c.args.from.now in
    let path = c.args.path.now in
    let is = tokens_back from c.token-item.result c.in-len1-up.len_at_least c.token-item.is in
    let goes = tokens_back path c.last-item.result c.in-len1-up-path.len_at_least c.last-item.is in
    λ rest dropped. rw (c.deref.ensures, c.deref-then-same_path.ensures) at c.is_same_end.ensures
    ∙ comes_back (path_of from) (path_of path) _ _ _ _ c.args.tree.now is goes
    (sym c.same_path.ensures ∙ c.if-same_path.true) rest dropped

pub returns-then-same_path-clause-elsewhere : goal.returns-then-same_path-clause-elsewhere
returns-then-same_path-clause-elsewhere c =
    let from = c.args.from.now in
    let path = c.args.path.now in
    let is = tokens_back from c.token-item.result c.in-len1-up.len_at_least c.token-item.is in
    let goes = tokens_back path c.last-item.result c.in-len1-up-path.len_at_least c.last-item.is in
    λ other.
    other_end (path_of from) (path_of path) _ _ _ _
    (walk c.args.tree.now (path_of (take (length from - 1) from))) is goes
    (sym (rw (c.deref.ensures, c.deref-then-same_path.ensures) at c.is_same_end.ensures)
    ∙ other)

pub returns-else-same_path-clause-place : goal.returns-else-same_path-clause-place
returns-else-same_path-clause-place c =
    let from = c.args.from.now in
    let path = c.args.path.now in
    let is = tokens_back from c.token-item.result c.in-len1-up.len_at_least c.token-item.is in
    let goes = tokens_back path c.last-item.result c.in-len1-up-path.len_at_least c.last-item.is in
    λ rest dropped. c.if-same_path.false
    ∙ goes_elsewhere (path_of from) (path_of path) _ _ _ _ c.args.tree.now is goes
    (sym c.same_path.ensures ∙ c.if-same_path.false) rest

pub returns-else-same_path-clause-elsewhere : goal.returns-else-same_path-clause-elsewhere
returns-else-same_path-clause-elsewhere c =
    let from = c.args.from.now in
    let path = c.args.path.now in
    let is = tokens_back from c.token-item.result c.in-len1-up.len_at_least c.token-item.is in
    let goes = tokens_back path c.last-item.result c.in-len1-up-path.len_at_least c.last-item.is in
    λ _. other_parent (path_of from) (path_of path) _ _ _ _ is goes (sym c.same_path.ensures
    ∙ c.if-same_path.false)
