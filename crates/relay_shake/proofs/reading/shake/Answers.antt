-- The verdict on the head found is the verdict on the head; past the limit it is 431; and where no
-- head can come, none is there.
use Rattle.std.proofs.Common.{◌≡◌, rules, arith, length, inl, sym, subst}
use Rattle.std.proofs.lemmas.Result.{IfOk-weaker}
use Rattle.relay_http_head.proofs.Heads.{holds-whole, none_from_never}
use Rattle.relay_shake.specs.Shaken.{Shows}
use Rattle.relay_shake.specs.declared.reading.TheConstants.{MAX_HEAD, MAX_HEAD_FIELDS}
use Rattle.relay_shake.proofs.Heads.{every_head, past_limit}
use Rattle.relay_shake.proofs.reading.shake.Goals as goal

pub parse_head-requires : goal.parse_head-requires
parse_head-requires c =
    let room : length c.new-request.result.headers.now ≡ MAX_HEAD_FIELDS = search rules in
    omega (arith, room)

pub head_of-requires : goal.head_of-requires
head_of-requires c = holds-whole MAX_HEAD c.args.bytes.now _ _ c.in-Complete.ensures

pub returns-in-Complete-clause-head : goal.returns-in-Complete-clause-head
returns-in-Complete-clause-head c =
    IfOk-weaker c.answer.result _ _ (λ answer shows.
    every_head c.args.bytes.now answer c.head_of.result c.head_of.ensures shows)
    c.answer.ensures

pub returns-in-TooLong-clause-no_head : goal.returns-in-TooLong-clause-no_head
returns-in-TooLong-clause-no_head c =
    let (none, unfinished, long) = c.in-TooLong.ensures in
    IfOk-weaker c.refused.result _ _
    (λ answer shows none.
    inl (unfinished, subst (Shows answer) (sym (past_limit c.args.bytes.now long)) shows))
    c.refused.ensures

pub returns-clause-head : goal.returns-clause-head
returns-clause-head c =
    IfOk-weaker c.refused-in-Invalid.result _ _ (λ answer shows head rest reads.
    absurd (none_from_never _ c.in-Invalid.ensures head rest reads))
    c.refused-in-Invalid.ensures
