use Rattle.std.proofs.Common.{◌≡◌, false, string_bytes}
use Rattle.relay_pointer.specs.Path.{path_of}
use Rattle.relay_pointer.proofs.Tokens.{tokens_back}
use Rattle.relay_patch.proofs.Carried.{drops_plainly, drops_so}
use Rattle.relay_apply.proofs.Reinserted.{member_again}
use Rattle.relay_apply.proofs.reinsertion.remove_member_with_undo.Goals as goal

pub remove_at-value-requires : goal.remove_at-value-requires
remove_at-value-requires c =
    drops_plainly false (path_of c.args.path.now) c.args.tree.now c.requires

pub returns-clause-made : goal.returns-clause-made
returns-clause-made c =
    drops_so false (path_of c.args.path.now) c.args.tree.now c.remove_at-value.new.tree c.requires
    c.remove_at-value.ensures.rest

pub returns-clause-back : goal.returns-clause-back
returns-clause-back c =
    let d = c.args.tree.now in
    let path = c.args.path.now in
    let is = tokens_back path c.last-item.result c.in-len1-up.len_at_least c.last-item.is in
    let here = c.in_ok-object.ensures in
    let left = c.remove_at-value.new.tree in
    let named : string_bytes c.in_ok-name.name ≡ string_bytes c.last-item.result =
    c.in_ok-name.ensures.cases in
    rw (here, named) (member_again (path_of path) _ _ d left c.remove_at-value.result
    c.members_at.result c.in_ok-spare.spare.capacity is (returns-clause-made c)
    c.remove_at-value.ensures.value c.members_at.ensures.len c.members_at.ensures.ordered
    c.in_ok-spare.ensures.1)
