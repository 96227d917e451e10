-- Lemmas about the rooms of a server in its store.
use Rattle.std.proofs.Common.{◌≡◌, ◌∙◌, List, [], ℕ, ap, refl, subst, sym, IfOk, Result, Ok, Err}
use Rattle.relay_hub.specs.Log.{Log}
use Rattle.relay_hub.specs.Stands.{StandsFor}
use Rattle.relay_hub.specs.declared.config.HubConfig.{HubConfig}
use Rattle.relay_keeping.specs.Mirrored.{Mirrors}
use Rattle.relay_keeping.specs.Trailing.{IsBehind}
use Rattle.relay_keeping.specs.declared.recovery.Recovered.{Recovered}
use Rattle.relay_store.proofs.Laws.{epoch_committed}
use Rattle.relay_store.specs.Kept.{Kept, begun, committed}
use Rattle.relay_store.specs.declared.change.Change.{Change}
use Rattle.relay_store.specs.declared.fault.StoreFault.{StoreFault}
use Rattle.relay_hub.specs.State.{State}
use Rattle.relay_keeping.specs.Keeper.{Keeper}
use Rattle.relay_keeping.specs.Stood.{StandsBehind, Stood}
use Rattle.relay_server.specs.Config.{with_epoch}
use Rattle.relay_server.proofs.ServeLemmas.{stood_read}
use Rattle.relay_server.specs.Keeper.{Begins, HasKept, StandsAsKept}

-- a hub that was made of what an open found in a store, and was kept again, is kept there
pub kept_at_first : {K : Type 0} (kept : K → Kept) (is_clean : K → Type 0) (b : HubConfig)
    (store : K) (found : Kept) (taken : Recovered K) (again : Result (Recovered K) StoreFault)
    → (is_clean store → kept store ≡ found) → taken.rooms.store ≡ store
    → (kept store ≡ found → StandsBehind kept b taken.rooms taken.hub)
    → IfOk again (λ t. is_clean t.rooms.store → is_clean taken.rooms.store)
    → (StandsBehind kept b taken.rooms taken.hub
    → IfOk again (λ t. is_clean t.rooms.store → Mirrors (kept t.rooms.store) t.hub))
    → (StandsBehind kept b taken.rooms taken.hub → IfOk again (λ t. is_clean t.rooms.store
    → (c : HubConfig) (log : Log) → StandsFor c log t.hub → IsBehind kept log t.rooms t.hub))
    → IfOk again (λ t. (c : HubConfig) (log : Log) → StandsFor c log t.hub
    → HasKept kept is_clean t.rooms log t.hub)
kept_at_first kept is_clean b store found taken (Ok t) finds same behind was_clean mirrors stays =
    λ c log stands clean.
    let was = behind (finds (subst is_clean same (was_clean clean))) in
    record { mirrors = mirrors was clean; behind = stays was clean c log stands }
kept_at_first kept is_clean b store found taken (Err fault) finds same behind was_clean mirrors
    stays =
    tt

-- such a hub stands for a log as before, and has the epoch of what is kept
pub stood_at_first : {K : Type 0} (kept : K → Kept) (is_clean : K → Type 0) (store : K)
    (epoch : ℕ) (changes : List (Change (List ℕ))) (b : HubConfig) (taken : Recovered K)
    (again : Result (Recovered K) StoreFault)
    → (is_clean store → kept store ≡ committed (begun epoch) changes)
    → taken.rooms.store ≡ store → Stood (with_epoch epoch b) taken.hub
    → IfOk again (λ t. t.hub ≡ taken.hub)
    → IfOk again (λ t. is_clean t.rooms.store → is_clean taken.rooms.store)
    → IfOk again (λ t. is_clean t.rooms.store
    → (kept t.rooms.store).epoch ≡ (kept taken.rooms.store).epoch)
    → IfOk again (λ t. StandsAsKept kept is_clean b t.rooms.store t.hub)
stood_at_first kept is_clean store epoch changes b taken (Ok t) finds same stood hub was_clean
    stays =
    record {
      epoch = epoch;
      stood = subst (Stood (with_epoch epoch b)) (sym hub) stood;
      same = λ clean. sym (stays clean ∙ ap (λ k. (kept k).epoch) same
          ∙ ap (λ (k : Kept). k.epoch) (finds (subst is_clean same (was_clean clean)))
          ∙ epoch_committed (begun epoch) changes);
    }
stood_at_first kept is_clean store epoch changes b taken (Err fault) finds same stood hub was_clean
    stays =
    tt

-- a server that keeps nothing begins with a hub on which nothing was called
pub begun_anew : {K : Type 0} {b : HubConfig} {hub : State} (keeper : K) → StandsFor b [] hub
    → Begins (λ _ log _. log ≡ []) b keeper hub
begun_anew keeper stands = record { log = []; stands = stands; may = refl }

-- a hub begins with the configuration that it has
pub begun_own : {K : Type 0} {may_begin : K → Log → State → Type 0} {b : HubConfig} {hub : State}
    (keeper : K) → Begins may_begin b keeper hub → Begins may_begin hub.config keeper hub
begun_own {may_begin = may_begin} {hub = hub} keeper begins =
    subst (λ c. Begins may_begin c keeper hub) (sym begins.stands.config) begins

-- a hub that begins stands for a log
pub begun_stood : {K : Type 0} {may_begin : K → Log → State → Type 0} {b : HubConfig} {hub : State}
    {keeper : K} → Begins may_begin b keeper hub → Stood b hub
begun_stood begins = record { log = begins.log; stands = begins.stands }

-- a server of a store begins with a hub whose rooms that store has
pub begun_as_kept : {K S : Type 0} (rooms_of : S → Keeper K) (kept : K → Kept)
    (is_clean : K → Type 0) (c : HubConfig) (hub : State) (rooms : Keeper K) (keeper : S)
    (epoch : ℕ) → rooms_of keeper ≡ rooms → Stood (with_epoch epoch c) hub
    → ((b : HubConfig) (log : Log) → StandsFor b log hub → HasKept kept is_clean rooms log hub)
    → Begins (λ k log h. HasKept kept is_clean (rooms_of k) log h) (with_epoch hub.config.epoch c)
    keeper hub
begun_as_kept rooms_of kept is_clean c hub rooms keeper epoch same stood is =
    let read = stood_read c epoch stood in
    record {
      log = read.log;
      stands = read.stands;
      may = subst (λ r. HasKept kept is_clean r read.log hub) (sym same)
          (is (with_epoch hub.config.epoch c) read.log read.stands);
    }
