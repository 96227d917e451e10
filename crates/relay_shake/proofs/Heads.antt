-- Lemmas on the answers to the heads that bytes begin with.
use Rattle.std.proofs.Common.{◌≡◌, ℕ, ◌<◌, List, length, subst, arith}
use Rattle.std.proofs.lemmas.Bool.Decides.{nat_tests}
use Rattle.relay_http_head.specs.Parsing.{parts, IsHead}
use Rattle.relay_http_head.specs.declared.head.Head.{Head}
use Rattle.relay_http_head.proofs.Heads.{the_head}
use Rattle.relay_shake.specs.declared.reading.TheConstants.{MAX_HEAD}
use Rattle.relay_shake.specs.declared.answer.Shake.{Shake}
use Rattle.relay_shake.specs.Handshake.{refuse, verdict_before_head, verdict_on}
use Rattle.relay_shake.specs.Shaken.{Shows, AnswersHead}

-- the verdict on the head found is the verdict on every head that the bytes begin with
pub every_head : (bytes : List ℕ) (answer : Shake) (found : Head) → IsHead bytes found
    → Shows answer (verdict_on (parts found)) → AnswersHead bytes answer
every_head bytes answer found is shows = λ head rest reads.
    subst (λ p. Shows answer (verdict_on p)) (the_head MAX_HEAD bytes found is head rest reads)
    shows

-- past the limit the verdict is 431
pub past_limit : (bytes : List ℕ) → MAX_HEAD < length bytes → verdict_before_head bytes ≡ refuse 431
past_limit bytes long = grind (arith, nat_tests)
