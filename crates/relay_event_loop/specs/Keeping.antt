-- Keeping before telling: the words of a keeper, and of a server that tells only what is kept.
use Rattle.std.specs.Prelude.{◌≡◌, ◌⊎◌, ◌≤◌, ◌++◌, ℕ, length}
use Rattle.relay_admin.specs.Commits.{with_commit, with_failure}
use Rattle.relay_admin.specs.declared.commits.Commits.{Commits}
use Rattle.relay_hub.specs.Log.{Log}
use Rattle.relay_hub.specs.Shed.{shed}
use Rattle.relay_hub.specs.Stands.{StandsFor}
use Rattle.relay_hub.specs.State.{State}
use Rattle.relay_hub.specs.declared.config.HubConfig.{HubConfig}
use Rattle.relay_event_loop.specs.declared.room_keeper.Keeping.{Keeping}
use Rattle.relay_event_loop.specs.declared.room_keeper.Keeping.TheVariants.{Done, Unchanged}
use Rattle.relay_event_loop.specs.declared.room_keeper.Keeping.TheVariants.{Later, Lost}

-- a hub that stands for a log became the other one: its log grew by these entries, and neither the
-- number of its rooms nor its floor fell
pub record Became (log : Log) (old : State) (more : Log) (new : State) : Type 0 where
  pub config : HubConfig
  pub stood : StandsFor config log old
  pub stands : StandsFor config (more ++ log) new
  pub rooms : length old.rooms ≤ length new.rooms
  pub floor : old.floor ≤ new.floor

-- a keeper that had kept what this hub was has now kept the hub as it is
abbrev pub HasCaughtUp : {K : Type 0} → (K → Log → State → Type 0) → K → K → State → Type 0
HasCaughtUp has_kept old new hub = (log more : Log) (was : State) → has_kept old log was
    → Became log was more hub → has_kept new (more ++ log) hub

-- nobody was told: the hub is as it was, or gave memory back
abbrev pub IsUntold : State → State → Type 0
IsUntold old new = (new ≡ old) ⊎ (new ≡ shed old)

-- the counts of commits after one more call of a keeper, which took so many microseconds; one that
-- had no memory failed, and one that had nothing to keep was no commit
abbrev pub counted : Keeping → ℕ → Commits → Commits
counted Done micros commits = with_commit micros commits
counted Unchanged micros commits = commits
counted Later micros commits = with_failure commits
counted Lost micros commits = with_failure commits
