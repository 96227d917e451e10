-- The answers of a follower to the lines of an input.
use Rattle.std.specs.Prelude.{◌≡◌, ℕ, List, [], ◌∷◌, ◌++◌, codes, Option, Some, None}
use Rattle.std.specs.Str.{IsUtf8}
use Rattle.relay_follow.specs.Hearing.{as_client, told, hear_fault}
use Rattle.relay_follow.specs.declared.fault.HearFault.{HearFault}
use Rattle.relay_follow.specs.declared.fault.HearFault.TheVariants.{NotMessage, NoMemory}
use Rattle.relay_tree.specs.Document.{Document}
use Rattle.relay_script.specs.Words.{hear_word, view_text}

-- A text is applied; or it is refused with its first fault, or out of memory, and the follower
-- holds what it held before. Bytes that are not UTF-8 are `NotMessage`.
abbrev pub Takes : Option (ℕ × Document) → List ℕ → Option HearFault → Option (ℕ × Document)
    → Type 0
Takes held text None next =
    IsUtf8 text × (hear_fault held text ≡ None)
    × (told (as_client held) text ≡ Some (as_client next))
Takes held text (Some NoMemory) next = (next ≡ held) × IsUtf8 text
Takes held text (Some fault) next =
    (next ≡ held) × (IsUtf8 text → hear_fault held text ≡ Some fault)
    × ((IsUtf8 text → ⊥) → fault ≡ NotMessage)

abbrev pub taken_text : Option HearFault → Option (ℕ × Document) → List ℕ
taken_text None next = view_text (codes "held") next
taken_text (Some fault) next = codes "off " ++ (hear_word fault ++ codes "\n")

-- An empty line has no answer and changes nothing. No answer depends on the line's number.
abbrev pub Answers : Option (ℕ × Document) → ℕ → List ℕ → Option (ℕ × Document) → List ℕ → Type 0
Answers held number [] next answer = (next ≡ held) × (answer ≡ [])
Answers held number (b ∷ text) next answer =
    (fault : Option HearFault) × Takes held (b ∷ text) fault next × (answer ≡ taken_text fault next)
