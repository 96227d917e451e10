-- The wills that are kept, and a hub in which a later run has done them.
use Rattle.std.specs.Prelude.{◌≡◌, ℕ, ◌-◌, ◌^◌, nat_eq, List, [], ◌∷◌, map, string_bytes}
use Rattle.std.specs.Prelude.{find, option_map}
use Rattle.std.specs.List.{AllByRecursion, IsDistinct}
use Rattle.std.specs.Map.{keys_of}
use Rattle.relay_access.specs.declared.access.Access.TheVariants.{ReadWrite}
use Rattle.relay_hub.specs.Call.{Runs}
use Rattle.relay_hub.specs.State.{State}
use Rattle.relay_hub.specs.declared.event.Answer.{Answer}
use Rattle.relay_hub.specs.declared.event.Answer.TheVariants.{Opened, Heard, Closed, WillDone}
use Rattle.relay_hub.specs.declared.event.Event.{Event}
use Rattle.relay_hub.specs.declared.event.Event.TheVariants.{Open, Receive, Close, DoWill}
use Rattle.relay_hub.specs.declared.event.Heard.TheVariants.{Answered}
use Rattle.relay_hub.specs.declared.event.Opening.{Opening}
use Rattle.relay_store.specs.Kept.{Kept, Will}
use Rattle.relay_keeping.specs.Begun.{IsBare}
use Rattle.relay_keeping.specs.Mirrored.{Mirrors}
use Rattle.relay_keeping.specs.Wills.{NotedWills, noted_number}
use Rattle.relay_keeping.specs.declared.left_wills.LeftWill.{LeftWill}
use Rattle.relay_keeping.specs.declared.left_wills.LeftWills.{LeftWills}

-- a will, by the number of its session
abbrev pub kept_will : ℕ × LeftWill → Will
kept_will entry = record {
  session = entry.0;
  room = string_bytes entry.1.room;
  text = string_bytes entry.1.text;
}

-- these are the wills that are kept, in their order, each of another session
pub record AreLeft (kept : Kept) (left : LeftWills) : Type 0 where
  pub wills : map kept_will left.wills.entries ≡ kept.wills
  pub apart : IsDistinct nat_eq (keys_of left.wills.entries)

-- these wills are noted, and no others, each under the number that may be any
abbrev pub AreNotedAsEarlier : List Will → NotedWills → Type 0
AreNotedAsEarlier wills noted = (session : ℕ) → noted_number noted session
    ≡ option_map (λ will. 2 ^ 64 - 1) (find (λ will. nat_eq will.session session) wills)

-- the events by which a session of a later run does a will, and their answers

abbrev pub will_events : ℕ → Will → List Event
will_events s will = Open will.room ReadWrite ∷ Receive s will.text ∷ Close s ∷ DoWill ∷ []

abbrev pub will_answers : Opening → ℕ → ℕ → List Answer
will_answers opening heard done =
    Opened opening ∷ Heard (Answered heard) ∷ Closed ∷ WillDone done ∷ []

-- a will is done: a session opens in its room, leaves it again and ends, and of the wills that wait
-- the oldest is done. The two numbers are those of outboxes that folded
pub record IsDone (will : Will) (old new : State) : Type 0 where
  pub opening : Opening
  pub heard : ℕ
  pub done : ℕ
  pub run : Runs old (will_events opening.session will) (will_answers opening heard done) new

-- these wills are done, one after another
abbrev pub AreDone : List Will → State → State → Type 0
AreDone [] old new = new ≡ old
AreDone (will ∷ wills) old new = (mid : State) × IsDone will old mid × AreDone wills mid new

-- the hub began with the rooms that are kept, in which nobody was, and then did the wills
pub record IsTakenUp (kept : Kept) (hub : State) : Type 0 where
  pub begun : State
  pub mirrors : Mirrors kept begun
  pub bare : AllByRecursion IsBare begun.rooms
  pub done : AreDone kept.wills begun hub
