-- The messages that sessions drew, counted by kind.
use Rattle.std.specs.Prelude.{ℕ, ◌+◌, ◌-◌, ◌^◌, min}
use Rattle.relay_hub.specs.declared.message_counts.SnapshotCause.{SnapshotCause}
use Rattle.relay_hub.specs.declared.message_counts.SnapshotCause.TheVariants as cause
use Rattle.relay_hub.specs.declared.message_counts.SnapshotCounts.{SnapshotCounts}

-- one more, as far as 64 bits count
abbrev pub next : ℕ → ℕ
next count = min (2 ^ 64 - 1) (count + 1)

-- before any was drawn
abbrev pub no_snapshots : SnapshotCounts
no_snapshots = record { watch = 0; resume = 0; edit = 0; patches = 0; weight = 0; memory = 0 }

-- one more snapshot, by what made it due
abbrev pub with_snapshot : SnapshotCause → SnapshotCounts → SnapshotCounts
with_snapshot cause.Watch counts = record counts { watch = next counts.watch }
with_snapshot cause.Resume counts = record counts { resume = next counts.resume }
with_snapshot cause.Edit counts = record counts { edit = next counts.edit }
with_snapshot cause.Patches counts = record counts { patches = next counts.patches }
with_snapshot cause.Weight counts = record counts { weight = next counts.weight }
with_snapshot cause.Memory counts = record counts { memory = next counts.memory }
