-- The tokens of a JSON text can be written, one after another.
use Rattle.std.proofs.Common.{◌≡◌, ℕ, List, [], ◌∷◌, ◌++◌, append_assoc, ◌∙◌, ap, Option, Some}
use Rattle.std.proofs.Common.{None, refl, sym, subst, IsSome}
use Rattle.json.specs.Json.{Json, document}
use Rattle.json.specs.Lex.{tokens}
use Rattle.json.specs.Print.{ArePrintable}
use Rattle.json.specs.Token.{Token}
use Rattle.json.proofs.Numbered.{document-HasNumbers}
use Rattle.json.proofs.Printed.Trees.{ArePrintable-json_tokens}
use Rattle.json.proofs.Unique.Spelling.{tokens-document}

pub document_printable : (text : List ℕ) → IsSome (document text) → ArePrintable (tokens text)
document_printable text some = by_value (document text) refl some
  where
    by_value : (found : Option Json) → document text ≡ found → IsSome found
        → ArePrintable (tokens text)
    by_value (Some j) e some =
        subst ArePrintable (sym (tokens-document text j e))
        (ArePrintable-json_tokens j (document-HasNumbers text j e))
    by_value None e some = absurd (cc)

-- a token that goes from what is left to what is written leaves both together as they were
pub moved : (out grown left next all : List Token) (t : Token) → grown ≡ out ++ t ∷ []
    → left ≡ t ∷ next → out ++ left ≡ all → grown ++ next ≡ all
moved out grown left next all t a b e =
    ap (λ l. l ++ next) a ∙ append_assoc out (t ∷ []) next ∙ ap (λ l. out ++ l) (sym b) ∙ e
