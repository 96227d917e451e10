-- The verdict on the head found is the verdict on the head; where no head can come, none is there.
use Rattle.std.proofs.Common.{◌≡◌, rules, arith, length}
use Rattle.std.proofs.lemmas.Result.{IfOk-weaker}
use Rattle.relay_http_head.proofs.Heads.{holds-whole, none_from_never}
use Rattle.relay_admin.specs.declared.reading.TheConstants.{MAX_HEAD, MAX_HEAD_FIELDS}
use Rattle.relay_admin.proofs.Heads.{every_head, follows_head}
use Rattle.relay_admin.proofs.reading.answered.Goals as goal

pub parse_head-requires : goal.parse_head-requires
parse_head-requires c =
    let room : length c.new-request.result.headers.now ≡ MAX_HEAD_FIELDS = search rules in
    omega (arith, room)

pub head_of-requires : goal.head_of-requires
head_of-requires c = holds-whole MAX_HEAD c.args.bytes.now _ _ c.in-Complete.ensures

pub returns-in-Complete-clause-head : goal.returns-in-Complete-clause-head
returns-in-Complete-clause-head c =
    IfOk-weaker c.answer.result _ _ (λ answer same.
    every_head c.args.bytes.now answer c.head_of.result c.head_of.ensures same)
    c.answer.ensures.verdict

pub returns-in-Complete-clause-body : goal.returns-in-Complete-clause-body
returns-in-Complete-clause-body c =
    IfOk-weaker c.answer.result _ _ (λ answer has.
    follows_head c.args.bytes.now answer _ _ c.in-Complete.ensures has) c.answer.ensures.head

pub returns-clause-head : goal.returns-clause-head
returns-clause-head c =
    λ head rest reads. absurd (none_from_never _ c.in-Invalid.ensures head rest reads)
