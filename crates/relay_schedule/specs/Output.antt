-- The output that a link holds, and the pace at which its stream has to take it.
use Rattle.std.specs.Prelude.{ℕ, ◌+◌, ◌-◌, ◌/◌, ◌^◌, ◌<◌, ◌≤◌, ◌&&◌, max, min, nat_lt, not, Bool}
use Rattle.std.specs.Prelude.{if◌then◌else◌, List, [], ◌∷◌, ⊤}
use Rattle.std.specs.Int.{div_ceil}
use Rattle.relay_schedule.specs.declared.output.LinkOutput.{LinkOutput}

-- the part of so many unsent bytes that has to be taken in a stretch: a sixteenth, rounded up
abbrev pub sixteenth : ℕ → ℕ
sixteenth unsent = div_ceil unsent 16

-- what waits once so many bytes more were drawn, before the stream takes any
abbrev pub loaded : LinkOutput → ℕ → ℕ
loaded output drawn = min (2 ^ 64 - 1) (output.unsent + drawn)

-- the second in which the present stretch began, after a turn of this second in which the stream
-- took so many bytes: a stretch begins once what was due in the last one is taken
abbrev pub began : LinkOutput → ℕ → ℕ → ℕ
began output taken second = if nat_lt taken output.due then output.began else second

-- what has still to be taken in the present stretch, after a turn that left so many bytes unsent
abbrev pub due_after : LinkOutput → ℕ → ℕ → ℕ
due_after output taken unsent =
    if nat_lt taken output.due then output.due - taken else sixteenth unsent

-- output waits, and what is due in the stretch was not taken for as long as there is patience
abbrev pub is_over_due : LinkOutput → ℕ → ℕ → Bool
is_over_due output second patience =
    nat_lt 0 output.unsent && not (nat_lt (second - output.began) patience)

-- what all links may hold without the reserve, which is a quarter of a limit
abbrev pub limit_without_reserve : ℕ → ℕ
limit_without_reserve most = most - most / 4

-- a turn: the bytes that it drew and those that the stream took, and its second
pub record Turn : Type 0 where
  pub drawn : ℕ
  pub taken : ℕ
  pub second : ℕ

-- the output after a turn, and after several
abbrev pub after_turn : Turn → LinkOutput → LinkOutput
after_turn turn output = record {
  unsent = loaded output turn.drawn - turn.taken;
  held = max output.held (loaded output turn.drawn);
  began = began output turn.taken turn.second;
  due = due_after output turn.taken (loaded output turn.drawn - turn.taken);
}

unfoldable pub after_turns : List Turn → LinkOutput → LinkOutput
after_turns [] output = output
after_turns (turn ∷ turns) output = after_turns turns (after_turn turn output)

-- the bytes that the stream took in these turns
unfoldable pub taken_in : List Turn → ℕ
taken_in [] = 0
taken_in (turn ∷ turns) = turn.taken + taken_in turns

-- each of these turns was in this second or later
unfoldable pub AreFrom : ℕ → List Turn → Type 0
AreFrom second [] = ⊤
AreFrom second (turn ∷ turns) = (second ≤ turn.second) × AreFrom second turns

-- an output as turns leave it: while some waits, some is due, and no more than a sixteenth of it
pub record IsPaced (output : LinkOutput) : Type 0 where
  pub fits : output.unsent < 2 ^ 64
  pub some : 0 < output.unsent → 0 < output.due
  pub most : output.due ≤ sixteenth output.unsent
