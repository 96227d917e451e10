use Rattle.std.proofs.Common.{true, vec_capacity}
use Rattle.relay_pointer.specs.Path.{path_of}
use Rattle.relay_pointer.proofs.Tokens.{tokens_back}
use Rattle.relay_patch.proofs.Carried.{drops_plainly, drops_so}
use Rattle.relay_apply.proofs.Reinserted.{item_again}
use Rattle.relay_apply.proofs.reinsertion.remove_item_with_undo.Goals as goal

pub remove_at-value-requires : goal.remove_at-value-requires
remove_at-value-requires c = drops_plainly true (path_of c.args.path.now) c.args.tree.now c.requires

pub returns-clause-made : goal.returns-clause-made
returns-clause-made c =
    drops_so true (path_of c.args.path.now) c.args.tree.now c.remove_at-value.new.tree c.requires
    c.remove_at-value.ensures.rest

pub returns-clause-back : goal.returns-clause-back
returns-clause-back c =
    let d = c.args.tree.now in
    let path = c.args.path.now in
    let is = tokens_back path c.last-item.result c.in-len1-up.len_at_least c.last-item.is in
    let here = c.in_ok-list.ensures in
    let left = c.remove_at-value.new.tree in
    let at_it = rw c.as_str.ensures.value at c.index_or_zero-index.ensures in
    rw here (item_again (path_of path) _ _ d left c.remove_at-value.result c.length_at.result
    c.index_or_zero-index.result (vec_capacity c.in_ok-spare.spare) is (returns-clause-made c)
    c.remove_at-value.ensures.value c.length_at.type_inv c.length_at.ensures
    c.in_ok-spare.ensures.exact at_it)
