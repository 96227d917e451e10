-- The will that an open session has left, as a store asks for it.
use Rattle.std.specs.Prelude.{ℕ, List, Option, option_and_then, slice_get}
use Rattle.relay_patch.specs.declared.op.Op.{Op}
use Rattle.relay_hub.specs.Session.{Session}
use Rattle.relay_hub.specs.State.{State}
use Rattle.relay_hub.specs.declared.session_will.SessionWill.{SessionWill}

-- the number of the session, how many wills it has left so far, and its will, which may be empty
pub record HeldWill : Type 0 where
  pub session : ℕ
  pub number : ℕ
  pub patch : List Op

abbrev pub held_will : Session → HeldWill
held_will x = record { session = x.number; number = x.will_number; patch = x.will }

-- the same as the code holds it
abbrev pub shown_will : SessionWill → HeldWill
shown_will w = record { session = w.session; number = w.number; patch = w.patch.now }

-- the session at a place among those of the room at an index
abbrev pub session_at : State → ℕ → ℕ → Option Session
session_at hub index place =
    option_and_then (λ room. slice_get room.1.sessions place) (slice_get hub.rooms index)
