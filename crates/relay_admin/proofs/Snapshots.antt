-- The bytes that stand between the parts of a text.
use Rattle.std.proofs.Common.{◌≡◌, ◌≢◌, ℕ, List, ◌++◌, Option, Some, None, sym, ◌∙◌, ap}
use Rattle.std.proofs.Common.{MatchOption}
use denote.Ref.{Bor}
use Rattle.std.proofs.lemmas.List.{append_cancel_left}

-- what is found behind a prefix is all that stands there
pub same_rest : (prefix text rest other : List ℕ) → text ≡ prefix ++ rest → text ≡ prefix ++ other
    → rest ≡ other
same_rest prefix text rest other found e = append_cancel_left prefix rest other (sym found ∙ e)

-- what three prefixes leave, without what stands at its end
pub shown : (first second third last text one two three : List ℕ) → text ≡ first ++ one
    → one ≡ second ++ two → two ≡ third ++ three → (found : Option (Bor (List ℕ)))
    → MatchOption found ((front : List ℕ) → three ≢ front ++ last)
    (λ front. three ≡ front.now ++ last)
    → MatchOption found ((value : List ℕ)
    → text ≢ first ++ (second ++ (third ++ (value ++ last))))
    (λ value. text ≡ first ++ (second ++ (third ++ (value.now ++ last))))
shown first second third last text one two three a b d None none =
    λ value e.
    none value
    (same_rest third two three _ d
    (same_rest second one two _ b (same_rest first text one _ a e)))
shown first second third last text one two three a b d (Some value) is =
    a ∙ ap (λ r. first ++ r) (b ∙ ap (λ r. second ++ r) (d ∙ ap (λ r. third ++ r) is))
