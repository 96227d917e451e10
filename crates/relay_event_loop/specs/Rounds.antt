-- The promise of a server's rounds: the hub goes on standing for a log, and each open session is
-- that of exactly one connection.
use Rattle.std.specs.Prelude.{ℕ, ◌≡◌, List, Option, Some, IsSome}
use Rattle.relay_hub.specs.Log.{Log}
use Rattle.relay_hub.specs.Stands.{StandsFor, EachHoldsPresent, EachIsAtNamed}
use Rattle.relay_hub.specs.State.{State, IsHub, index_of}
use Rattle.relay_hub.specs.declared.config.HubConfig.{HubConfig}
use Rattle.relay_event_loop.specs.Advances.{Links, links_of, Sessions, sessions_in, Advances}
use Rattle.relay_event_loop.specs.Advances.{with_turns}
use Rattle.relay_event_loop.specs.Ready.{left_of, contents_of}
use Rattle.relay_event_loop.specs.declared.server.Server.{Server}

pub record OneEach (hub : State) (sessions : Sessions) : Type 0 where
  -- the session of a connection is open
  pub opened : (key s : ℕ) → sessions key ≡ Some s → IsSome (index_of hub s)
  -- no two connections have the same one
  pub once : (key other s : ℕ) → sessions key ≡ Some s → sessions other ≡ Some s → key ≡ other
  -- an open session has a connection
  pub all : (s : ℕ) → IsSome (index_of hub s) → (key : ℕ) × (sessions key ≡ Some s)

-- a hub as each is, whose open sessions are each that of exactly one connection
abbrev pub Connected : State → Sessions → Type 0
Connected hub sessions = IsHub hub × OneEach hub sessions

-- From one hub, with its connections' links, to another. The log that the hub stands for grows by
-- the entries of the links' events, of visits, and of those of the house.
pub record Rounds {S : Type 0} (remaining contents : S → Option (List ℕ)) (hub : State)
    (old : Links S) (next : State) (new : Links S) : Type 0 where
  pub advances : Advances remaining contents hub old next new
  pub stands : (b : HubConfig) (E : Log) → StandsFor b E hub
      → StandsFor b (with_turns advances E) next
  -- each client that watches holds exactly its view of the present document, once it has applied
  -- what was drawn for it and what waits
  pub exact : (b : HubConfig) (E : Log) → StandsFor b E hub
      → EachHoldsPresent b (with_turns advances E) next
  pub each : (b : HubConfig) (E : Log) → StandsFor b E hub
      → EachIsAtNamed b (with_turns advances E) next
  pub connected : Connected hub (sessions_in old) → Connected next (sessions_in new)

-- the same of two servers
abbrev pub RoundsOf : {S R : Type 0} → (S → Option (List ℕ)) → (S → Option (List ℕ))
    → Server S R → Server S R → Type 0
RoundsOf remaining contents old new =
    Rounds (left_of remaining) (contents_of contents) old.hub (links_of old.connections) new.hub
    (links_of new.connections)

-- each open session of a server's hub is that of exactly one of its connections
abbrev pub ConnectedOf : {S R : Type 0} → Server S R → Type 0
ConnectedOf server = Connected server.hub (sessions_in (links_of server.connections))
