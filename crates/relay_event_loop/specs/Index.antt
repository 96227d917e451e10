-- The index of the sessions of a server's connections.
use Rattle.std.specs.Prelude.{◌≡◌, ◌⊎◌, ℕ, nat_eq, Option, Some}
use Rattle.indexmap.specs.IndexMap.{get}
use Rattle.relay_event_loop.specs.Advances.{links_of, sessions_in}
use Rattle.relay_event_loop.specs.declared.server.Server.{Server}

-- the key of the connection that has a session, as the index gives it
abbrev pub indexed : {S R : Type 0} → Server S R → ℕ → Option ℕ
indexed server s = get nat_eq server.sessions s

-- the index gives what it gave before, and at most for the session of the connection at this key
-- that key
abbrev pub GainsOwn : {S R : Type 0} → ℕ → Server S R → Server S R → Type 0
GainsOwn key old new = (s other : ℕ) → indexed new s ≡ Some other
    → (indexed old s ≡ Some other)
    ⊎ ((other ≡ key) × (sessions_in (links_of new.connections) key ≡ Some s))
