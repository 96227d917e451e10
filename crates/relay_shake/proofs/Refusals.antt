-- Lemmas on the statuses of refusals.
use Rattle.std.proofs.Common.{◌≡◌, ℕ, ◌++◌, ◌∷◌, Bool, true, false, refl, sym, subst, eqb-true}
use Rattle.std.proofs.Common.{unwrap_or, [], List, Option, Some, None, option_map, append_assoc, ap}
use Rattle.std.proofs.Common.{◌∙◌, Result, Ok, Err, ◌==◌, ◌||◌, IsTrue, IsSome}
use Rattle.std.specs.Result.{OkIff}
use denote.Ref.{Bor}
use Rattle.http.specs.StatusCode.{code_digits, reason_phrase}
use Rattle.relay_shake.specs.Replies.{is_refusal, status_text}

one_more : (P : ℕ → Type 0) (n status : ℕ) (other : Bool) → P n → (IsTrue other → P status)
    → IsTrue (other || status == n) → P status
one_more P n status true here later h = later refl
one_more P n status false here later h = subst P (sym (eqb-true status n h)) here

-- a property of every refusal status
pub by_status : (P : ℕ → Type 0) → P 400 → P 403 → P 404 → P 405 → P 426 → P 431 → P 503
    → (status : ℕ) → IsTrue (is_refusal status) → P status
by_status P a b c d e f g status h =
    one_more P 503 status _ g
    (one_more P 431 status _ f
    (one_more P 426 status _ e (one_more P 405 status _ d (one_more P 404 status _ c
    (one_more P 403 status _ b (λ first. subst P (sym (eqb-true status 400 first)) a)))))) h

-- each status has a phrase
pub has_phrase : (phrase : Option (Bor (List ℕ))) (status : ℕ) → IsTrue (is_refusal status)
    → option_map (λ b. b.now) phrase ≡ reason_phrase status → IsSome phrase
has_phrase None status h e =
    subst IsSome (sym e) (by_status (λ s.
    IsSome (reason_phrase s)) refl refl refl refl refl refl refl status h)
has_phrase (Some b) status h e = refl

-- the digits and the phrase, with a space between them
pub spelled : (phrase : List ℕ) (status : ℕ) → IsTrue (is_refusal status)
    → Some phrase ≡ reason_phrase status → code_digits status ++ 32 ∷ phrase ≡ status_text status
spelled phrase status h e =
    ap (λ o. code_digits status ++ 32 ∷ unwrap_or o []) e
    ∙ by_status (λ s. code_digits s ++ 32 ∷ unwrap_or (reason_phrase s) []
    ≡ status_text s) refl refl refl refl refl refl refl status h

-- three pieces appended to a list
pub joined : (old digits phrase text : List ℕ) → digits ++ 32 ∷ phrase ≡ text
    → ((old ++ digits) ++ 32 ∷ []) ++ phrase ≡ old ++ text
joined old digits phrase text e = simp append_assoc (ap (λ t. old ++ t) e)

-- the value if a fact holds
pub value-from_OkIff : {T E : Type 0} (P : Type 0) (r : Result T E) (v x : T) → OkIff r P v
    → r ≡ Ok x → x ≡ v
value-from_OkIff P (Ok y) v x here e = let same : y ≡ x = cc in sym same ∙ here.1
value-from_OkIff P (Err y) v x none e = absurd (cc)
