-- The text of a slot.
use Rattle.std.specs.Prelude.{List, [], Option, Some, None}
use Rattle.json.specs.Token.{Token}
use Rattle.relay_tree.specs.Document.{Document}
use Rattle.relay_tree.specs.Text.{tokens_of}

-- the tokens between the brackets: those of the value that is shown, or none
abbrev pub shown_tokens : Option Document → List Token
shown_tokens None = []
shown_tokens (Some v) = tokens_of v
