-- A document as the data that `serde_json` reads, and as the tokens that are written for it.
use Rattle.std.specs.Prelude.{◌≡◌, ◌≢◌, ℕ, List, Option, Some, None, option_map, option_and_then}
use Rattle.json.specs.Token.{Token}
use Rattle.json.specs.Tree.{json_tokens}
use Rattle.serde_json.specs.Data as json_data
use Rattle.serde_json.specs.Find.{of_integer, as_i64}
use Rattle.serde_json.specs.Read as json
use Rattle.serde_json.specs.Written.{outline, compact_text}
use Rattle.relay_tree.specs.Document.{Document, null, truth, whole, text, list, object, Items}
use Rattle.relay_tree.specs.Document.{no_items, item, Members, no_members, member}

abbrev mutual
  pub data_of : Document → json_data.Data
  data_of null = json_data.null
  data_of (truth b) = json_data.boolean b
  data_of (whole z) = json_data.number (of_integer z)
  data_of (text s) = json_data.string s
  data_of (list ds) = json_data.array (items_data ds)
  data_of (object ms) = json_data.object (members_data ms)

  pub items_data : Items → json_data.Items
  items_data no_items = json_data.no_items
  items_data (item d ds) = json_data.item (data_of d) (items_data ds)

  pub members_data : Members → json_data.Members
  members_data no_members = json_data.no_members
  members_data (member k d ms) = json_data.member k (data_of d) (members_data ms)

-- the document of the data; `None` if a number is not whole or does not fit in 64 bits with a sign
abbrev mutual
  pub tree_of : json_data.Data → Option Document
  tree_of json_data.null = Some null
  tree_of (json_data.boolean b) = Some (truth b)
  tree_of (json_data.number n) = option_map whole (as_i64 n)
  tree_of (json_data.string s) = Some (text s)
  tree_of (json_data.array ds) = option_map list (items_tree ds)
  tree_of (json_data.object ms) = option_map object (members_tree ms)

  pub items_tree : json_data.Items → Option Items
  items_tree json_data.no_items = Some no_items
  items_tree (json_data.item d ds) =
      option_and_then (λ e. option_map (item e) (items_tree ds)) (tree_of d)

  pub members_tree : json_data.Members → Option Members
  members_tree json_data.no_members = Some no_members
  members_tree (json_data.member k d ms) =
      option_and_then (λ e. option_map (member k e) (members_tree ms)) (tree_of d)

-- the document that a text reads as; `None` if the text is not JSON or `tree_of` refuses a number
abbrev pub tree_of_text : List ℕ → Option Document
tree_of_text s = option_and_then tree_of (json.read s)

-- the text is JSON, and one of its numbers is not whole or does not fit in 64 bits with a sign
abbrev pub IsNumberFault : List ℕ → Type 0
IsNumberFault s = (json.read s ≢ None) × (tree_of_text s ≡ None)

-- the compact text of a document
abbrev pub text_of : Document → List ℕ
text_of d = compact_text (data_of d)

-- the tokens of that text
abbrev pub tokens_of : Document → List Token
tokens_of d = json_tokens (outline (data_of d))

-- the outline of the document reads back as its data, and the data as the document
pub record ReadsBack (d : Document) : Type 0 where
  pub written : json.of_json (outline (data_of d)) ≡ Some (data_of d)
  pub read : tree_of (data_of d) ≡ Some d
