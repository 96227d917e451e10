-- The events that are the admin port's, and what is known of that port.
use Rattle.std.specs.Prelude.{Bool, false, ◌==◌, ◌||◌, not, ◌≡◌, ◌⊎◌, All, List, [], ◌∷◌, ◌++◌}
use Rattle.std.specs.Prelude.{filter}
use Rattle.relay_readiness.specs.declared.admin_readiness.AdminReadiness.{AdminReadiness}
use Rattle.relay_readiness.specs.declared.admin_readiness.TheConstants.{ADMIN_LISTENER}
use Rattle.relay_readiness.specs.declared.admin_readiness.TheConstants.{ADMIN_STREAM}
use Rattle.relay_readiness.specs.declared.readiness.ReadyEvent.{ReadyEvent}
use Rattle.relay_readiness.specs.declared.readiness.ReadyEvent.TheVariants.{Stream, Second}

-- whether an event is the admin port's: one of its listener, or of a connection to it
abbrev pub is_admin : ReadyEvent → Bool
is_admin (Stream key ready) = (key == ADMIN_LISTENER) || (key == ADMIN_STREAM)
is_admin event = false

-- those of other sockets, in their order
abbrev pub without_admin : List ReadyEvent → List ReadyEvent
without_admin events = filter (λ event. not (is_admin event)) events

-- none is the admin port's
abbrev pub NoneIsAdmin : List ReadyEvent → Type 0
NoneIsAdmin events = All (λ event. is_admin event ≡ false) events

-- the events are as before, or tell that a second has passed too
abbrev pub MayTellSecond : List ReadyEvent → List ReadyEvent → Type 0
MayTellSecond old new = (new ≡ old) ⊎ (new ≡ old ++ Second ∷ [])

module _ {R C : Type 0} where
  -- whether there is an admin port
  abbrev pub has_port : AdminReadiness R C → Bool
  has_port readiness = readiness.has_port

  -- whether the admin port may have work
  abbrev pub is_ready : AdminReadiness R C → Bool
  is_ready readiness = readiness.is_ready

  -- the same readiness, but for whether the admin port may have work
  abbrev pub with_ready : Bool → AdminReadiness R C → AdminReadiness R C
  with_ready ready readiness = record readiness { is_ready = ready }
