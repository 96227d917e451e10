-- The numbers that an operator sees of a server: those of its hub, and those of its view.
use Rattle.std.specs.Prelude.{◌≡◌, ℕ, ◌+◌, ◌-◌, ◌^◌, List, length, map, sum_by, take}
use Rattle.relay_admin.specs.declared.metrics.Metrics.{Metrics}
use Rattle.relay_hub.specs.Queries.{rooms_weight}
use Rattle.relay_hub.specs.State.{State}
use Rattle.relay_hub.specs.Summary.{Summary, summary_of}
use Rattle.relay_tree.specs.Document.{saturated}
use Rattle.relay_operator.specs.declared.admin_view.AdminView.{AdminView}
use Rattle.relay_operator.specs.declared.admin_view.Totals.{Totals}
use Rattle.relay_operator.specs.declared.counters.Counters.{Counters}

-- what is seen of each room that has an index, in order; that is each room, since no machine holds
-- so many that an index does not count them
abbrev pub rooms_seen : State → List Summary
rooms_seen hub = map summary_of (take (2 ^ 64 - 1) hub.rooms)

-- a number of each room, summed over all of them, or the largest number if the sum is larger
abbrev pub sum_over : List Summary → (Summary → ℕ) → ℕ
sum_over rooms number = saturated (sum_by number rooms)

-- how many rooms there are, and the sums over them
abbrev pub totals_of : List Summary → Totals
totals_of rooms = record {
  rooms = saturated (length rooms);
  sessions = sum_over rooms (λ r. r.sessions);
  weight = sum_over rooms (λ r. r.weight);
  history = sum_over rooms (λ r. r.history);
}

-- the same with one more room
abbrev pub with_room : Summary → Totals → Totals
with_room room totals = record {
  rooms = saturated (totals.rooms + 1);
  sessions = saturated (totals.sessions + room.sessions);
  weight = saturated (totals.weight + room.weight);
  history = saturated (totals.history + room.history);
}

-- The numbers of a view. Of the edits that were accepted, of the messages that were drawn and of
-- what the work cost, no contract of the hub speaks.
pub record AreNumbers (view : AdminView) (counters : Counters) (m : Metrics) : Type 0 where
  -- the hub's rooms
  pub rooms : m.rooms ≡ saturated (length (rooms_seen view.hub.now))
  pub sessions : m.sessions ≡ sum_over (rooms_seen view.hub.now) (λ r. r.sessions)
  pub weight : m.weight ≡ sum_over (rooms_seen view.hub.now) (λ r. r.weight)
  pub history_weight : m.history_weight ≡ sum_over (rooms_seen view.hub.now) (λ r. r.history)
  -- what waits for its sessions
  pub waiting_weight : m.waiting_weight ≡ saturated (rooms_weight view.hub.now.rooms)
  -- its limits
  pub max_rooms : m.max_rooms ≡ view.hub.now.config.rooms
  pub max_sessions : m.max_sessions ≡ view.hub.now.config.sessions
  -- what its server says
  pub connections : m.connections ≡ view.connections
  pub max_connections : m.max_connections ≡ view.max_connections
  pub wills : m.wills ≡ view.wills
  pub rounds : m.rounds ≡ view.rounds
  pub longest_round : m.longest_round ≡ view.longest_round
  pub commits : m.commits ≡ view.commits
  -- what is counted of its log
  pub opened : m.opened ≡ counters.opened
  pub rejected : m.rejected ≡ counters.rejected
  pub refused : m.refused ≡ counters.refused
  pub ended : m.ended ≡ counters.ended
  pub shed : m.shed ≡ counters.shed
