-- The parts of a server that are counted: its connections and its rounds; and whether the hub
-- accepts a request of a connection.
use Rattle.std.specs.Prelude.{ℕ, ◌+◌, ◌-◌, ◌/◌, ◌^◌, min, max, Bool, true, Option, Some, None}
use Rattle.std.specs.Prelude.{List}
use Rattle.std.specs.Global.{Global}
use Rattle.std.specs.declared.string.String.{String}
use Rattle.relay_admin.specs.declared.commits.Commits.{Commits}
use Rattle.relay_hub.specs.State.{State, session_of}
use Rattle.relay_hub.specs.Queries.{may_hear}
use Rattle.slab.specs.Slab.{slab_len}
use Rattle.relay_link.specs.declared.entrance.Entrance.{Entrance}
use Rattle.relay_event_loop.specs.declared.server.Server.{Server}

abbrev pub connections_of : {S R : Type 0} → Server S R → ℕ
connections_of s = slab_len s.connections

-- how many connections a server may hold
abbrev pub limit_of : {S R : Type 0} → Server S R → ℕ
limit_of s = s.max_connections

-- how many rounds a server has made
abbrev pub made_by : {S R : Type 0} → Server S R → ℕ
made_by s = s.rounds

-- nobody is told what is not kept
abbrev pub tells_kept : {S R : Type 0} → Server S R → Bool
tells_kept s = s.tells_kept

-- nothing can be kept any more
abbrev pub is_lost : {S R : Type 0} → Server S R → Bool
is_lost s = s.is_lost

-- the count of rounds after so many more; it stops at 2 ^ 64 - 1
abbrev pub made_after : {S R : Type 0} → ℕ → Server S R → ℕ
made_after rounds s = min (2 ^ 64 - 1) (made_by s + rounds)

-- the rooms in which clients may enter
abbrev pub entrance_of : {S R : Type 0} → Server S R → Entrance
entrance_of s = s.rules.entrance

-- the origins whose pages may enter
abbrev pub origins_of : {S R : Type 0} → Server S R → List (String Global)
origins_of s = s.rules.origins.items

-- how many connections of one address a server may hold
abbrev pub peer_limit_of : {S R : Type 0} → Server S R → ℕ
peer_limit_of s = s.max_per_peer

-- the commits that kept its rooms, and those that failed
abbrev pub commits_of : {S R : Type 0} → Server S R → Commits
commits_of s = s.commits

abbrev pub hub_of : {S R : Type 0} → Server S R → State
hub_of s = s.hub

-- so many for a number of sessions: a quarter more, and at least 64 more
abbrev pub connection_limit : ℕ → ℕ
connection_limit sessions = min (2 ^ 64 - 1) (sessions + max (sessions / 4) 64)

-- whether the hub has space for a reply to a link with this session; a link without a session needs
-- none
abbrev pub has_space : State → Option ℕ → Bool
has_space hub (Some s) = may_hear (session_of hub s)
has_space hub None = true
