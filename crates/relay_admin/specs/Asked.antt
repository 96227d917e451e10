-- The answer to the bytes received so far.
use Rattle.std.specs.Prelude.{◌≡◌, ◌⊎◌, ⊤, ℕ, List, length}
use Rattle.httparse.specs.Grammar.{RequestHead, ReadsRequest, HasNoRequest, NeverHasRequest}
use Rattle.httparse.specs.Grammar.{MayBecomeRequest, print_request}
use Rattle.relay_admin.specs.Judged.{verdict_told}
use Rattle.relay_admin.specs.Verdict.{refuse, verdict_of, verdict_before_head, window}
use Rattle.relay_admin.specs.declared.answer.Ask.{Ask}
use Rattle.relay_admin.specs.declared.answer.Ask.TheVariants as ask
use Rattle.relay_admin.specs.declared.admin_fault.AdminFault.TheVariants.{NoHead}

-- if the window begins with a head: the verdict on it
abbrev pub AnswersHead : List ℕ → Ask → Type 0
AnswersHead bytes answer =
    (head : RequestHead) (rest : List ℕ) → ReadsRequest (window bytes) head rest
    → verdict_told answer ≡ verdict_of head

-- if there is no head: the verdict before a head, only if one can still come or the bytes end in a
-- target; or `NoHead`, only if none can come
abbrev pub AnswersNoHead : List ℕ → Ask → Type 0
AnswersNoHead bytes answer =
    HasNoRequest (window bytes)
    → (MayBecomeRequest (window bytes) × (verdict_told answer ≡ verdict_before_head bytes))
    ⊎ (NeverHasRequest (window bytes) × (verdict_told answer ≡ refuse NoHead))

-- of an edit: that its head has so many bytes
abbrev pub HasHead : ℕ → Ask → Type 0
HasHead len (ask.Edit edit) = edit.head ≡ len
HasHead len _ = ⊤

-- if the window begins with a head: the body of an edit begins behind it
abbrev pub FollowsHead : List ℕ → Ask → Type 0
FollowsHead bytes answer =
    (head : RequestHead) (rest : List ℕ) → ReadsRequest (window bytes) head rest
    → HasHead (length (print_request head)) answer
