use Rattle.std.proofs.Common.{◌≡◌, ◌≤◌, Ok, length, subst, arith, IfOk, IfErr}
use Rattle.relay_proto.specs.Request.{IsRefusedAs}
use Rattle.relay_proto.specs.declared.reading.TheConstants.{MAX_REQUEST}
use Rattle.relay_proto.proofs.Requests.{asks_as_its_tree}
use Rattle.relay_proto.proofs.request.Request.read_with.Goals as goal

pub returns-clause-ok : goal.returns-clause-ok
returns-clause-ok c =
    let short : length c.args.text.now ≤ MAX_REQUEST = grind arith in
    let asks = asks_as_its_tree c.args.text.now c.in-Ok.tree _ short c.in-Ok.ensures.ok
    c.in-Ok.tree-is in
    subst (λ r. IfOk c.of_tree.result (λ request. r ≡ Ok request)) asks c.of_tree.ensures.ok

pub returns-clause-refused : goal.returns-clause-refused
returns-clause-refused c =
    let short : length c.args.text.now ≤ MAX_REQUEST = grind arith in
    let asks = asks_as_its_tree c.args.text.now c.in-Ok.tree _ short c.in-Ok.ensures.ok
    c.in-Ok.tree-is in
    subst (λ r. IfErr c.of_tree.result (λ fault. IsRefusedAs fault r)) asks
    c.of_tree.ensures.refused
