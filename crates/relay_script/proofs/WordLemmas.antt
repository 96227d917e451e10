-- Lemmas about the texts of answers.
use Rattle.std.proofs.Common.{◌≡◌, ◌≢◌, ℕ, zero, suc, List, ◌++◌, codes, decimal, refl}
use Rattle.relay_hub.specs.declared.event.Answer.TheVariants.{Heard}
use Rattle.relay_hub.specs.declared.event.Heard.TheVariants.{Answered}
use Rattle.relay_script.specs.Words.{answer_text}

-- the answer for a text that was answered, when some outboxes folded because memory ran out
pub short_text : (name : List ℕ) (short : ℕ) → short ≢ 0
    → answer_text name (Heard (Answered short))
    ≡ name ++ (codes " answered short " ++ (decimal short ++ codes "\n"))
short_text name zero h = absurd (h refl)
short_text name (suc n) h = refl
