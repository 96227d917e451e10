-- The output of a server: a line with the port that it listens on, and, at its end, one with the
-- number of rounds that it ran.
use Rattle.std.specs.Prelude.{ℕ, List, ◌++◌, codes, decimal}

-- a line of a word and a number
abbrev pub line_of : List ℕ → ℕ → List ℕ
line_of word number = word ++ (codes " " ++ (decimal number ++ codes "\n"))

abbrev pub listening_text : ℕ → List ℕ
listening_text port = line_of (codes "listening") port

abbrev pub turns_text : ℕ → List ℕ
turns_text rounds = line_of (codes "turns") rounds

abbrev pub served_text : ℕ → ℕ → List ℕ
served_text port rounds = listening_text port ++ turns_text rounds
