-- The head with which bytes begin: it stays so while more is received, and it is what the answer to
-- the bytes says.
use Rattle.std.proofs.Common.{◌≡◌, ◌⊎◌, inl, inr, ℕ, ◌+◌, ◌-◌, ◌<◌, ◌≤◌, List, ◌++◌, length, take}
use Rattle.std.proofs.Common.{drop, append-nil, refl, sym, ap, subst, ◌∙◌, arith, nat_lt}
use Rattle.std.proofs.Common.{length-append, if◌then◌else◌, true, false}
use Rattle.std.proofs.lemmas.Bool.{cases_lt}
use Rattle.std.proofs.lemmas.List.{take-append-drop, take-append-le, take_all, take_at}
use Rattle.std.proofs.Math.Seq.{take-append-add}
use Rattle.httparse.proofs.GrammarLemmas.{ReadsRequest-append, request_prefix_free}
use Rattle.httparse.specs.Grammar.{RequestHead, ReadsRequest, HasNoRequest, print_request}
use Rattle.relay_admin.specs.Judged.{verdict_told}
use Rattle.relay_admin.specs.Route.{Asked}
use Rattle.relay_admin.specs.Verdict as verdict
use Rattle.relay_admin.specs.Verdict.{accept, verdict_before_head, window}
use Rattle.relay_admin.specs.declared.admin_fault.AdminFault.TheVariants.{TooLong}
use Rattle.relay_admin.specs.declared.answer.Ask.{Ask}
use Rattle.relay_admin.specs.declared.reading.TheConstants.{MAX_HEAD}
use Rattle.relay_operator.specs.Request.{Answers, BeginsWith}

-- ---- more bytes

take_more_of : (n : ℕ) (xs ys : List ℕ) → take n (xs ++ ys) ≡ take n xs ++ take (n - length xs) ys
take_more_of n xs ys = by_length (cases_lt (length xs) n)
  where
    by_length : (length xs < n) ⊎ (n ≤ length xs)
        → take n (xs ++ ys) ≡ take n xs ++ take (n - length xs) ys
    by_length (inl beyond) =
        let left : ℕ = n - length xs in
        let all : n ≡ length xs + left = omega arith in
        ap (λ m. take m (xs ++ ys)) all ∙ take-append-add xs ys left
        ∙ ap (λ l. l ++ take left ys) (sym (take_all n xs (omega arith)))
    by_length (inr within) =
        let none : 0 ≡ n - length xs = omega arith in
        take-append-le n xs ys within ∙ sym (append-nil (take n xs))
        ∙ ap (λ m. take n xs ++ take m ys) none

-- a text that begins with as many bytes as a head has
begins_so : (bytes more printed rest : List ℕ) → bytes ++ more ≡ printed ++ rest
    → length printed ≤ length bytes → bytes ≡ printed ++ drop (length printed) bytes
begins_so bytes more printed rest same long =
    let n : ℕ = length printed in
    sym (take-append-drop n bytes)
    ∙ ap (λ l. l ++ drop n bytes)
    (sym (take-append-le n bytes more long) ∙ ap (take n) same ∙ take_at printed rest n refl)

module _ (Says : RequestHead → Type 0) where
  -- bytes that begin with a head do so if more follow
  grows : (bytes more : List ℕ) → (HasNoRequest bytes → ⊥)
      → ((head : RequestHead) (rest : List ℕ) → ReadsRequest bytes head rest → Says head)
      → (head : RequestHead) (rest : List ℕ) → ReadsRequest (bytes ++ more) head rest → Says head
  grows bytes more has says head rest reads =
      by_length (cases_lt (length bytes) (length (print_request head)))
    where
      by_length : (length bytes < length (print_request head))
          ⊎ (length (print_request head) ≤ length bytes) → Says head
      by_length (inr within) =
          says head (drop (length (print_request head)) bytes)
          (reads.0, begins_so bytes more (print_request head) rest reads.1 within)
      by_length (inl beyond) =
          absurd (has (λ first behind is.
          let same = (request_prefix_free bytes more first head behind rest is reads).0 in
          let long = ap length is.1 ∙ length-append (print_request first) behind in
          let whole = ap (λ h. length (print_request h)) same in
          omega (arith, beyond, long, whole)))

  pub begins_more : (bytes more : List ℕ) → BeginsWith Says bytes
      → BeginsWith Says (bytes ++ more)
  begins_more bytes more begins =
      let extra : List ℕ = take (MAX_HEAD - length bytes) more in
      let same : window (bytes ++ more) ≡ window bytes ++ extra =
      take_more_of MAX_HEAD bytes more in
      record {
        has_head = λ none.
            begins.has_head (λ head rest reads. none head (rest ++ extra)
            (subst (λ w. ReadsRequest w head (rest ++ extra)) (sym same)
            (ReadsRequest-append (window bytes) head rest extra reads)));
        says = λ head rest reads.
            grows (window bytes) extra begins.has_head begins.says head rest
            (subst (λ w. ReadsRequest w head rest) same reads);
      }

-- ---- the answer

-- the answer to an unfinished head accepts nothing
accepts_no_part : (asked : Asked) (bytes : List ℕ) → accept asked ≡ verdict_before_head bytes → ⊥
accepts_no_part asked bytes same =
    elim (nat_lt MAX_HEAD (length bytes))
    as (λ long. accept asked ≡ (if long then verdict.refuse TooLong else verdict.more) → ⊥)
    [ true ↦ λ e. cc e | false ↦ λ e. cc e ] same

-- bytes whose answer accepts something begin with a head
pub has_head : (bytes : List ℕ) (answer : Ask) (asked : Asked) → Answers bytes answer
    → verdict_told answer ≡ accept asked → HasNoRequest (window bytes) → ⊥
has_head bytes answer asked is accepts none =
    elim (is.no_head none) [
      | inl unfinished ↦ accepts_no_part asked bytes (sym accepts ∙ unfinished.1)
      | inr never ↦ cc (never.1, accepts)
    ]
