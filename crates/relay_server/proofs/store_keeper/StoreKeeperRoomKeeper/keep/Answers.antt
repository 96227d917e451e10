-- The store was behind the hub, whose log grew since, and now it mirrors it.
use Rattle.std.proofs.Common.{◌++◌}
use Rattle.relay_event_loop.specs.Keeping.{HasCaughtUp}
use Rattle.relay_hub.specs.Log.{Log}
use Rattle.relay_hub.specs.Stands.{StandsFor}
use Rattle.relay_hub.specs.State.{State}
use Rattle.relay_hub.specs.declared.config.HubConfig.{HubConfig}
use Rattle.relay_keeping.proofs.Steps.{log_behind}
use Rattle.relay_keeping.specs.Keeper.{Keeper}
use Rattle.relay_keeping.specs.Mirrored.{Mirrors}
use Rattle.relay_keeping.specs.Trailing.{IsBehind}
use Rattle.relay_server.specs.Keeper.{HasKept}
use Rattle.relay_store.specs.Kept.{Kept}
use Rattle.relay_server.proofs.store_keeper.StoreKeeperRoomKeeper.keep.Goals as goal

caught_up : {K : Type 0} (kept : K → Kept) (is_clean : K → Type 0) (old new : Keeper K)
    (hub : State) → (is_clean new.store → is_clean old.store)
    → ((b : HubConfig) (E : Log) → StandsFor b E hub → IsBehind kept E old hub
    → is_clean new.store → Mirrors (kept new.store) hub)
    → ((b : HubConfig) (E : Log) → StandsFor b E hub → IsBehind kept E old hub
    → is_clean new.store → IsBehind kept E new hub)
    → HasCaughtUp (HasKept kept is_clean) old new hub
caught_up kept is_clean old new hub cleaner mirrors behind = λ log more was had became clean.
    let held = had (cleaner clean) in
    let trails = log_behind log more _ _ _ was hub became.rooms became.floor held.behind in
    record {
      mirrors = mirrors became.config (more ++ log) became.stands trails clean;
      behind = behind became.config (more ++ log) became.stands trails clean;
    }

pub returns-in-Ok : goal.returns-in-Ok
returns-in-Ok g c = record {
  kept = λ done.
      caught_up g.K.Keeps.kept g.K.Keeps.is_clean _ _ c.args.hub.now c.in-Ok.ensures.clean
      c.in-Ok.ensures.mirrors c.in-Ok.ensures.behind;
  unchanged = λ same.
      caught_up g.K.Keeps.kept g.K.Keeps.is_clean _ _ c.args.hub.now c.in-Ok.ensures.clean
      c.in-Ok.ensures.mirrors c.in-Ok.ensures.behind;
}
