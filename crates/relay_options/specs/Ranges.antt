-- The ranges of the options' numbers, that their origins are such, and that a file has a name.
use Rattle.std.specs.Prelude.{ℕ, ◌≡◌, ◌≤◌, ◌≢◌, ⊤, Bool, true, List, Option, Some, None}
use Rattle.std.specs.Prelude.{length, map, option_map, string_bytes}
use Rattle.std.specs.List.{list_all}
use Rattle.clap.specs.Words.{Text}
use Rattle.relay_options.specs.Origin.{is_origin}
use Rattle.relay_options.specs.declared.job.Job.{Job}
use Rattle.relay_options.specs.declared.job.Job.TheVariants.{Script, Loop, Follow, Serve, Store}
use Rattle.relay_options.specs.declared.settings.Settings.{Settings}
use Rattle.relay_options.specs.declared.store_job.StoreJob.{StoreJob}
use Rattle.relay_limits.specs.declared.TheConstants.{MAX_COUNT, MAX_REVISIONS, MAX_ROOMS}
use Rattle.relay_limits.specs.declared.TheConstants.{MAX_SESSIONS, MAX_WAITING_PATCHES}
use Rattle.relay_options.specs.declared.settings.TheConstants.{MAX_OUTPUT_MIB, MAX_PER_PEER}
use Rattle.relay_options.specs.declared.settings.TheConstants.{MAX_PORT, MAX_ROUNDS}
use Rattle.relay_options.specs.declared.settings.TheConstants.{MAX_WEIGHT_LIMIT}

-- a limit of a weight, if there is one, is in range
abbrev pub IsLimit : Option ℕ → Type 0
IsLimit None = ⊤
IsLimit (Some limit) = limit ≤ MAX_WEIGHT_LIMIT

-- settings that are in range for a hub
pub record AreSettings (settings : Settings) : Type 0 where
  pub some_history : 1 ≤ settings.history
  pub history : settings.history ≤ MAX_REVISIONS
  pub some_waiting_patches : 1 ≤ settings.max_waiting_patches
  pub max_waiting_patches : settings.max_waiting_patches ≤ MAX_WAITING_PATCHES
  pub some_rooms : 1 ≤ settings.rooms
  pub rooms : settings.rooms ≤ MAX_ROOMS
  pub some_sessions : 1 ≤ settings.sessions
  pub sessions : settings.sessions ≤ MAX_SESSIONS
  pub epoch : settings.epoch ≤ MAX_COUNT
  pub history_weight : IsLimit settings.history_weight
  pub waiting_weight : IsLimit settings.waiting_weight
  pub telling_weight : IsLimit settings.telling_weight
  pub view_weight : IsLimit settings.view_weight

-- the port of an operator, if there is one, is a port of its own
abbrev pub IsAdmin : ℕ → Option ℕ → Type 0
IsAdmin port None = ⊤
IsAdmin port (Some admin) = (1 ≤ admin) × (admin ≤ MAX_PORT) × (admin ≢ port)

-- a server that begins closed has an operator, who can open it
abbrev pub CanBeOpened : Bool → Option ℕ → Type 0
CanBeOpened true None = ⊥
CanBeOpened _ _ = ⊤

-- a limit of the connections of one address, if there is one, is in range
abbrev pub IsPerPeer : Option ℕ → Type 0
IsPerPeer None = ⊤
IsPerPeer (Some most) = (1 ≤ most) × (most ≤ MAX_PER_PEER)

-- the file of a store, if there is one, has a name
abbrev pub IsStore : Option Text → Type 0
IsStore None = ⊤
IsStore (Some name) = 1 ≤ length name

-- the file of a tool's store has a name
abbrev pub HasFile : StoreJob → Type 0
HasFile job = IsStore (Some (string_bytes job.file))

-- each of the texts is an origin
abbrev pub AreOrigins : List Text → Type 0
AreOrigins texts = list_all is_origin texts ≡ true

-- a job whose numbers are all in range, whose origins are such, and whose file has a name
abbrev pub IsPossible : Job → Type 0
IsPossible (Script settings) = AreSettings settings
IsPossible (Loop settings) = AreSettings settings
IsPossible Follow = ⊤
IsPossible (Serve listen port admin rounds log forget_rooms closed output_mib origins per_peer
    store settings) =
    (port ≤ MAX_PORT) × IsAdmin port admin × CanBeOpened closed admin
    × (1 ≤ rounds) × (rounds ≤ MAX_ROUNDS) × (1 ≤ output_mib) × (output_mib ≤ MAX_OUTPUT_MIB)
    × AreOrigins (map string_bytes origins.items) × IsPerPeer per_peer
    × IsStore (option_map string_bytes store) × AreSettings settings
IsPossible (Store job) = HasFile job
