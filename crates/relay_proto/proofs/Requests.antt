-- A text that is not too long reads as the request of its tree.
use Rattle.std.proofs.Common.{◌≡◌, ◌≤◌, ℕ, List, Option, Some, None, option_and_then, length, false}
use Rattle.std.proofs.Common.{nat_lt, refl, sym, ap, ◌∙◌, arith}
use Rattle.std.proofs.lemmas.Bool.Decides.{nat_tests}
use Rattle.serde_json.specs.Data.{Data}
use Rattle.serde_json.specs.Read as json
use Rattle.relay_tree.specs.Document.{Document}
use Rattle.relay_tree.specs.Text.{tree_of, tree_of_text}
use Rattle.relay_proto.specs.Request.{request_of_text, request_of_json, request_of}
use Rattle.relay_proto.specs.declared.reading.TheConstants.{MAX_REQUEST}

pub asks_as_its_tree : (s : List ℕ) (d e : Document) → length s ≤ MAX_REQUEST
    → tree_of_text s ≡ Some d → e ≡ d → request_of e ≡ request_of_text s
asks_as_its_tree s d e short is same =
    let few : nat_lt MAX_REQUEST (length s) ≡ false = grind (arith, nat_tests) in
    rw few (ap request_of same ∙ sym (go (json.read s) is))
  where
    go : (o : Option Data) → option_and_then tree_of o ≡ Some d → request_of_json o ≡ request_of d
    go None h = cc
    go (Some value) h = rw h refl
