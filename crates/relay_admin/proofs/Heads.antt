-- Lemmas on the answers to the heads that bytes begin with.
use Rattle.std.proofs.Common.{◌≡◌, ℕ, List, length, ◌∙◌, ap, subst}
use Rattle.httparse.specs.Borrowed.{HoldsSomeRequest}
use Rattle.httparse.specs.Grammar.{print_request}
use Rattle.httparse.specs.declared.borrowed.Request.{Request}
use Rattle.httparse.proofs.GrammarLemmas.{request_unique}
use Rattle.relay_http_head.specs.Parsing.{parts, IsHead}
use Rattle.relay_http_head.specs.declared.head.Head.{Head}
use Rattle.relay_http_head.proofs.Heads.{the_head}
use Rattle.relay_admin.specs.Asked.{AnswersHead, HasHead, FollowsHead}
use Rattle.relay_admin.specs.Judged.{verdict_told}
use Rattle.relay_admin.specs.Verdict.{verdict_on, window}
use Rattle.relay_admin.specs.declared.answer.Ask.{Ask}
use Rattle.relay_admin.specs.declared.reading.TheConstants.{MAX_HEAD}

-- the verdict on the head found is the verdict on every head that the bytes begin with
pub every_head : (bytes : List ℕ) (answer : Ask) (found : Head) → IsHead bytes found
    → verdict_told answer ≡ verdict_on (parts found) → AnswersHead bytes answer
every_head bytes answer found is same =
    λ head rest reads. same ∙ ap verdict_on (the_head MAX_HEAD bytes found is head rest reads)

-- a head of as many bytes as the head found is followed by the body
pub follows_head : (bytes : List ℕ) (answer : Ask) (request : Request) (len : ℕ)
    → HoldsSomeRequest (window bytes) request len → HasHead len answer → FollowsHead bytes answer
follows_head bytes answer request len (found, holds) has = λ head rest reads.
    let same = request_unique (window bytes) found head _ rest holds.reads reads in
    subst (λ n. HasHead n answer) (holds.len_is ∙ ap (λ h. length (print_request h)) same.0) has
