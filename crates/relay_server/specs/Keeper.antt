-- The rooms of a server in its store.
use Rattle.std.specs.Prelude.{◌≡◌, ℕ}
use Rattle.relay_event_loop.specs.declared.room_keeper.Keeping.{Keeping}
use Rattle.relay_event_loop.specs.declared.room_keeper.Keeping.TheVariants as keeping
use Rattle.relay_hub.specs.Log.{Log}
use Rattle.relay_hub.specs.Stands.{StandsFor}
use Rattle.relay_hub.specs.State.{State}
use Rattle.relay_hub.specs.declared.config.HubConfig.{HubConfig}
use Rattle.relay_keeping.specs.Keeper.{Keeper}
use Rattle.relay_keeping.specs.Mirrored.{Mirrors}
use Rattle.relay_keeping.specs.Trailing.{IsBehind}
use Rattle.relay_keeping.specs.Stood.{Stood}
use Rattle.relay_server.specs.Config.{with_epoch}
use Rattle.relay_keeping.specs.declared.kept.Kept.{Kept as Outcome}
use Rattle.relay_keeping.specs.declared.kept.Kept.TheVariants.{Committed, Unchanged}
use Rattle.relay_store.specs.Kept.{Kept}

-- the rooms that the store keeps are those of the hub, which stands for this log
pub record IsKeptAs {K : Type 0} (kept : K → Kept) (rooms : Keeper K) (log : Log)
    (hub : State) : Type 0 where
  pub mirrors : Mirrors (kept rooms.store) hub
  pub behind : IsBehind kept log rooms hub

-- the same, as long as the disk has returned what was written
abbrev pub HasKept : {K : Type 0} → (K → Kept) → (K → Type 0) → Keeper K → Log → State → Type 0
HasKept kept is_clean rooms log hub = is_clean rooms.store → IsKeptAs kept rooms log hub

-- what a call that kept the rooms comes to for a server
abbrev pub keeping_of : Outcome → Keeping
keeping_of Committed = keeping.Done
keeping_of Unchanged = keeping.Unchanged

-- the hub stands for a log, with this configuration, and a server of this keeper may begin with it
pub record Begins {K : Type 0} (may_begin : K → Log → State → Type 0) (b : HubConfig) (keeper : K)
    (hub : State) : Type 0 where
  pub log : Log
  pub stands : StandsFor b log hub
  pub may : may_begin keeper log hub

-- the hub stands for a log, with this configuration but for the epoch, which is that of what the
-- store keeps
pub record StandsAsKept {K : Type 0} (kept : K → Kept) (is_clean : K → Type 0) (b : HubConfig)
    (store : K) (hub : State) : Type 0 where
  pub epoch : ℕ
  pub stood : Stood (with_epoch epoch b) hub
  pub same : is_clean store → epoch ≡ (kept store).epoch
