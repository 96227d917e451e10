-- The text of a document reads back as the document if its numbers are written as numbers.
use Rattle.std.proofs.Common.{◌≡◌, ◌≤◌, Some, Result, Ok, Err, IfOk, sym, ap, ◌∙◌}
use Rattle.json.specs.Lex.{tokens}
use Rattle.json.specs.Tree.{HasNumbers}
use Rattle.json.proofs.Printed.Tokens.{tokens-print}
use Rattle.json.proofs.Printed.Trees.{ArePrintable-json_tokens}
use Rattle.serde_json.specs.Data.{depth}
use Rattle.serde_json.specs.Read.{max_depth}
use Rattle.serde_json.specs.Written.{outline}
use Rattle.relay_tree.specs.Document.{Document}
use Rattle.relay_tree.specs.Text.{data_of, tree_of_text, tokens_of, text_of, ReadsBack}
use Rattle.relay_tree.proofs.Texts.{print-tokens_of, text_back}

pub record Reads (d : Document) : Type 0 where
  pub numbers : HasNumbers (outline (data_of d))
  pub back : ReadsBack d

pub text_reads : (d : Document) → Reads d → depth (data_of d) ≤ max_depth
    → tree_of_text (text_of d) ≡ Some d
text_reads d r shallow =
    let printed =
    ap tokens (sym (print-tokens_of d))
    ∙ tokens-print (tokens_of d) (ArePrintable-json_tokens (outline (data_of d)) r.numbers) in
    text_back (text_of d) d printed r.back shallow

-- what two clauses say of a result together
pub if_both : {A E : Type 0} {P Q S : A → Type 0} (r : Result A E) → IfOk r P → IfOk r Q
    → ((a : A) → P a → Q a → S a) → IfOk r S
if_both (Ok a) p q f = f a p q
if_both (Err e) p q f = tt
