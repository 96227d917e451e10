-- The audiences that a room keeps of its sessions.
use Rattle.std.specs.Prelude.{ℕ, ◌≡◌, List, Option, option_and_then}
use Rattle.relay_audience.specs.Audiences.{view_of}
use Rattle.relay_audience.specs.declared.audience.Audience.{Audience}
use Rattle.relay_view.specs.View.{View}
use Rattle.relay_hub.specs.Session.{Session}
use Rattle.relay_hub.specs.State.{IsRising, session_in}

-- the view of session t, if the session is there and watches
abbrev pub view_in : List Session → ℕ → Option View
view_in sessions t = option_and_then (λ x. x.view) (session_in sessions t)

-- The invariant of each room's sessions and audiences: the sessions are in the order in which they
-- were opened, so that their numbers rise, and each that watches is in the audience of its view.
pub record AreAudiencesOf (audiences : List Audience) (sessions : List Session) : Type 0 where
  pub rising : IsRising sessions
  pub agrees : (t : ℕ) → view_of t audiences ≡ view_in sessions t
