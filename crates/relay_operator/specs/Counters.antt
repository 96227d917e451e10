-- The numbers that an operator is told of a server's log, and how they change.
use Rattle.std.specs.Prelude.{ℕ, ◌+◌, ◌-◌, ◌/◌, ◌^◌, min, nat_lt, Bool, false, Option, Some, None}
use Rattle.std.specs.Duration.{as_nanos}
use Rattle.std.specs.declared.time.Duration.{Duration}
use Rattle.relay_operator.specs.declared.counters.Counters.{Counters}
use Rattle.relay_operator.specs.declared.counters.TheConstants.{SHORT}

-- the whole seconds from one time to another, none if that is not later
abbrev pub seconds_between : Duration → Duration → ℕ
seconds_between earlier now = (as_nanos now - as_nanos earlier) / 1_000_000_000

-- the present round begins at a time
abbrev pub begun : Duration → Counters → Counters
begun now counters = record counters { now = now }

-- one more entry of the log says that memory was refused, and the last one came in the present
-- round
abbrev pub with_shed : Counters → Counters
with_shed counters = record counters {
  shed = min (counters.shed + 1) (2 ^ 64 - 1);
  last_shed = Some counters.now;
}

-- whether a time is less than a minute before another
abbrev pub is_recent : Option Duration → Duration → Bool
is_recent (Some earlier) now = nat_lt (seconds_between earlier now) SHORT
is_recent None now = false

-- whether the last such entry is of the last minute before the present round
abbrev pub is_short_of_memory : Counters → Bool
is_short_of_memory counters = is_recent counters.last_shed counters.now
