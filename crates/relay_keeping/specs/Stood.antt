-- A hub that stands for a log.
use Rattle.relay_hub.specs.Log.{Log}
use Rattle.relay_hub.specs.Stands.{StandsFor}
use Rattle.relay_hub.specs.State.{State}
use Rattle.relay_hub.specs.declared.config.HubConfig.{HubConfig}
use Rattle.relay_keeping.specs.Keeper.{Keeper}
use Rattle.relay_keeping.specs.Trailing.{IsBehind}
use Rattle.relay_store.specs.Kept.{Kept}

-- the hub stands for some log, with this configuration
pub record Stood (b : HubConfig) (hub : State) : Type 0 where
  pub log : Log
  pub stands : StandsFor b log hub

-- calls led from one hub to the other: each log that the first stands for grew to one that the
-- second stands for
pub record Called (old new : State) : Type 0 where
  pub logged : Log → Log
  pub stands : (b : HubConfig) (E : Log) → StandsFor b E old → StandsFor b (logged E) new

-- the hub stands for some log, with this configuration, and what is kept and noted is behind it
pub record StandsBehind {K : Type 0} (kept : K → Kept) (b : HubConfig) (keeper : Keeper K)
    (hub : State) : Type 0 where
  pub log : Log
  pub stands : StandsFor b log hub
  pub behind : IsBehind kept log keeper hub
