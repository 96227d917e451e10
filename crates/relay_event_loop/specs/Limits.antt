-- The limits of a server besides that on connections: how far it reads a room ahead, how much
-- output its links hold, and whether it forgets rooms.
use Rattle.std.specs.Prelude.{ℕ, ◌-◌, ◌/◌, ◌^◌, max, Bool}
use Rattle.relay_tree.specs.declared.budget.Budget.{Budget}
use Rattle.relay_tree.specs.declared.budget.Budget.TheVariants.{Unbounded, Left}
use Rattle.relay_hub.specs.declared.config.HubConfig.{HubConfig}
use Rattle.relay_schedule.specs.ReadAhead.{ReadAheads}
use Rattle.relay_schedule.specs.declared.read_ahead.ReadAheadLimits.{ReadAheadLimits}
use Rattle.relay_event_loop.specs.declared.server.Server.{Server}

-- half of the weight that may wait for a session, at least 1; without a bound there is none
abbrev pub read_ahead_bytes : Budget → ℕ
read_ahead_bytes (Left weight) = max (weight / 2) 1
read_ahead_bytes Unbounded = 2 ^ 64 - 1

-- a room is read ahead by half of what may wait for a session, and by one text at least
abbrev pub read_ahead_limits : HubConfig → ReadAheadLimits
read_ahead_limits config = record {
  texts = max (config.max_waiting_patches / 2) 1;
  bytes = read_ahead_bytes config.waiting_weight;
}

-- what each room was said
abbrev pub rooms_of : {S R : Type 0} → Server S R → ReadAheads
rooms_of s = s.rooms

-- how many bytes of output its links may hold together
abbrev pub output_limit_of : {S R : Type 0} → Server S R → ℕ
output_limit_of s = s.output.most

-- whether the server forgets rooms
abbrev pub forgets_rooms : {S R : Type 0} → Server S R → Bool
forgets_rooms s = s.vacancies.is_enabled
