-- The text of a pointer (RFC 6901, section 3): each token after a `/`, with `~` written `~0` and
-- `/` written `~1`.
use Rattle.std.specs.Prelude.{◌≡◌, ℕ, List, [], ◌∷◌, ◌==◌, Bool, true, false, ◌&&◌, ◌||◌}
use Rattle.std.specs.Prelude.{if◌then◌else◌, Option, Some, None, option_map, option_and_then}
use Rattle.std.specs.Prelude.{flat_map}
use Rattle.std.specs.List.{slice_split}
use Rattle.relay_pointer.specs.Index.{Token}
use Rattle.relay_pointer.specs.Path.{Path}

-- a byte of a token as it is written in the text
abbrev pub escaped : ℕ → List ℕ
escaped b = if b == 126 then 126 ∷ 48 ∷ [] else (if b == 47 then 126 ∷ 49 ∷ [] else b ∷ [])

-- a `/` followed by a token as it is written
abbrev pub spelled : Token → List ℕ
spelled t = 47 ∷ flat_map escaped t

-- the one text of a path
abbrev pub spelling : Path → List ℕ
spelling path = flat_map spelled path

-- the text spells the path; each text spells at most one path
abbrev pub Spells : List ℕ → Path → Type 0
Spells text path = text ≡ spelling path

-- the text spells no path
abbrev pub SpellsNone : List ℕ → Type 0
SpellsNone text = (path : Path) → Spells text path → ⊥

-- the byte that an escape stands for, given the byte after its `~`
abbrev pub escape : ℕ → Option ℕ
escape b = if b == 48 then Some 126 else (if b == 49 then Some 47 else None)

-- the token that a text without a `/` spells, if each `~` in it begins an escape
abbrev mutual
  pub unescaped : List ℕ → Option Token
  unescaped [] = Some []
  unescaped (b ∷ bs) = if b == 126 then after_tilde bs else option_map (λ t. b ∷ t) (unescaped bs)

  pub after_tilde : List ℕ → Option Token
  after_tilde [] = None
  after_tilde (b ∷ bs) = option_and_then (λ e. option_map (λ t. e ∷ t) (unescaped bs)) (escape b)

-- the token followed by the path, if both are there
abbrev pub begun : Option Token → Option Path → Option Path
begun o path = option_and_then (λ t. option_map (λ p. t ∷ p) path) o

-- the tokens that texts spell, if each of them spells one
abbrev pub tokens_of : List (List ℕ) → Option Path
tokens_of [] = Some []
tokens_of (part ∷ parts) = begun (unescaped part) (tokens_of parts)

-- the path that a text spells, if it spells one: the empty text spells the root, and each `/`
-- begins a token
unfoldable pub path_of_text : List ℕ → Option Path
path_of_text [] = Some []
path_of_text (b ∷ bs) = if b == 47 then tokens_of (slice_split (λ c. c == 47) bs) else None

-- whether each `~` is followed by `0` or `1`
abbrev pub begins_escape : List ℕ → Bool
begins_escape [] = false
begins_escape (b ∷ bs) = b == 48 || b == 49

abbrev pub is_escaped : List ℕ → Bool
is_escaped [] = true
is_escaped (b ∷ bs) = if b == 126 then begins_escape bs && is_escaped bs else is_escaped bs
