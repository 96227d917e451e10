-- A visit of a server's hub, by a caller that has no connection.
use Rattle.std.specs.Prelude.{ℕ, List}
use Rattle.relay_hub.specs.State.{State}
use Rattle.relay_link.specs.Visits.{Visits}
use Rattle.relay_link.specs.declared.visit.Visit.{Visit}
use Rattle.relay_access.specs.declared.access.Access.{Access}

-- the visit was made of this hub: a room of it, with an access and a text to say
abbrev pub Visited : List ℕ → Access → List ℕ → State → Visit → Type 0
Visited room access text hub visit = (next : State) × Visits room access text hub next visit
