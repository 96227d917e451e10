-- The number of events that a turn makes.
use Rattle.std.specs.Prelude.{ℕ, ◌+◌, ◌≤◌, Bool, true, false, List, length, count_by}
use Rattle.relay_hub.specs.declared.event.Event.{Event}
use Rattle.relay_hub.specs.declared.event.Event.TheVariants.{Receive, Draw}
use Rattle.relay_link.specs.declared.turn_phase.TurnPhase.{TurnPhase}
use Rattle.relay_link.specs.declared.turn_phase.TurnPhase.TheVariants.{Read, Write, Both}

abbrev pub is_receive : Event → Bool
is_receive (Receive s text) = true
is_receive _ = false

abbrev pub is_draw : Event → Bool
is_draw (Draw s) = true
is_draw _ = false

-- how many of the events pass a text to the hub, and how many are draws
abbrev pub receives : List Event → ℕ
receives events = count_by is_receive events

abbrev pub draws : List Event → ℕ
draws events = count_by is_draw events

-- the maximum number of texts that a turn passes to the hub
abbrev pub texts_of : TurnPhase → ℕ
texts_of Read = 1
texts_of Write = 0
texts_of Both = 1

-- From `before` to `after` the list grows by at most `all` events, with at most `in_of` receives
-- and `out_of` draws among them.
pub record Adds (all in_of out_of : ℕ) (before after : List Event) : Type 0 where
  pub events : length after ≤ length before + all
  pub receives_of : receives after ≤ receives before + in_of
  pub draws_of : draws after ≤ draws before + out_of
