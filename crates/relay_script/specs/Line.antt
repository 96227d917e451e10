-- The lines of a script: `NAME WORD` or `NAME WORD REST`, with single spaces.
use Rattle.std.specs.Prelude.{◌≡◌, ℕ, List, [], ◌∷◌, length, Bool, true, false, ◌&&◌, ◌==◌, nat_eq}
use Rattle.std.specs.Prelude.{nat_le, nat_lt, bytes_eq, codes, Option, Some, None, if◌then◌else◌}
use Rattle.std.specs.Char.{is_ascii_alphanumeric}
use Rattle.std.specs.List.{list_all, position_or_len, before_first, after_first}
use Rattle.std.specs.Str.{IsUtf8}
use Rattle.relay_access.specs.declared.access.Access.{Access}
use Rattle.relay_access.specs.declared.access.Access.TheVariants.{ReadWrite, ReadOnly}
use Rattle.relay_script.specs.declared.line.Command.{Command}
use Rattle.relay_script.specs.declared.line.Command.TheVariants as command
use Rattle.relay_script.specs.declared.line.Line.{Line}
use Rattle.relay_script.specs.declared.line.TheConstants.{MAX_NAME}
use Rattle.relay_script.specs.declared.line.Line.TheVariants as line

-- the command for a name
pub data Act : Type 0 where
  opens : List ℕ → Access → Act
  says : List ℕ → Act
  draws : Act
  closes : Act
  shows : Act
  tells : Act

-- the form of a line: blank, for an empty line or a comment; unknown; or a command for a name
pub data Form : Type 0 where
  blank : Form
  unknown : Form
  named : List ℕ → Act → Form

abbrev pub is_space : ℕ → Bool
is_space b = nat_eq b 32

abbrev pub is_slash : ℕ → Bool
is_slash b = nat_eq b 47

abbrev pub has_slash : List ℕ → Bool
has_slash s = nat_lt (position_or_len is_slash s) (length s)

abbrev pub has_space : List ℕ → Bool
has_space s = nat_lt (position_or_len is_space s) (length s)

-- 1 to `MAX_NAME` bytes, each an ASCII letter or digit
abbrev pub is_name : List ℕ → Bool
is_name s = nat_le 1 (length s) && nat_le (length s) MAX_NAME && list_all is_ascii_alphanumeric s

-- the command of a word that stands alone, and of one that is followed by more

abbrev pub alone : List ℕ → Option Act
alone word =
    if bytes_eq word (codes "draw") then Some draws else
    if bytes_eq word (codes "close") then Some closes else
    if bytes_eq word (codes "held") then Some shows else
    if bytes_eq word (codes "truth") then Some tells else None

-- the opening of a session: of `ROOM`, or of `ROOM/watch` to watch only
abbrev pub opening_of : List ℕ → Act
opening_of target =
    if has_slash target && bytes_eq (after_first is_slash target) (codes "watch")
    then opens (before_first is_slash target) ReadOnly else opens target ReadWrite

abbrev pub with_rest : List ℕ → List ℕ → Option Act
with_rest word rest =
    if bytes_eq word (codes "open") then Some (opening_of rest) else
    if bytes_eq word (codes "say") then Some (says rest) else None

abbrev pub act_in : List ℕ → Option Act
act_in s =
    if has_space s then with_rest (before_first is_space s) (after_first is_space s) else alone s

abbrev pub named_form : List ℕ → Option Act → Form
named_form name (Some act) = named name act
named_form name None = unknown

-- the form of a text that is not blank
abbrev pub form_of : List ℕ → Form
form_of s =
    if has_space s then (if is_name (before_first is_space s)
    then named_form (before_first is_space s) (act_in (after_first is_space s)) else unknown)
    else unknown

-- the form of bytes that are not blank: `unknown` if they are not UTF-8
pub record IsForm (s : List ℕ) (form : Form) : Type 0 where
  pub text : IsUtf8 s → form ≡ form_of s
  pub other : (IsUtf8 s → ⊥) → form ≡ unknown

-- the form of a line: `blank` if it is empty or begins with `#`
abbrev pub LineBegins : Bool → List ℕ → Form → Type 0
LineBegins true s form = form ≡ blank
LineBegins false s form = IsForm s form

abbrev pub LineIs : List ℕ → Form → Type 0
LineIs [] form = form ≡ blank
LineIs (b ∷ s) form = LineBegins (b == 35) (b ∷ s) form

-- the code's types as plain data

abbrev pub act_of : Command → Act
act_of (command.Open room access) = opens room.now access
act_of (command.Say text) = says text.now
act_of command.Draw = draws
act_of command.Close = closes
act_of command.Held = shows
act_of command.Truth = tells

abbrev pub shown : Line → Form
shown line.Blank = blank
shown line.Unknown = unknown
shown (line.Named name a) = named name.now (act_of a)
