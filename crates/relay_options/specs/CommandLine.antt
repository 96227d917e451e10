-- The meaning of the command line: its commands and options, their defaults, and the job that the
-- words ask for.
use Rattle.std.specs.Prelude.{ℕ, ◌≡◌, ◌≢◌, ◌&&◌, ◌^◌, ◌⊎◌, ⊤, Bool, true, false, List, [], ◌∷◌}
use Rattle.std.specs.Prelude.{Option, Some, None, option_and_then, if◌then◌else◌, codes, length}
use Rattle.std.specs.Prelude.{map, nat_lt, option_map, string_bytes, unwrap_or}
use Rattle.std.specs.Option.{option_or}
use Rattle.std.specs.List.{list_all}
use Rattle.std.specs.Char.{digit_value}
use Rattle.std.specs.Net.Grammar.{IsIpText}
use Rattle.std.specs.Str.Parse.{digits_value, without_leading_plus}
use Rattle.std.specs.declared.net.ip_addr.IpAddr.{IpAddr}
use Rattle.clap.specs.Words.{App, IsAmong, Kinds, Row, Rule, Text, all_of, fault_of, first_of}
use Rattle.clap.specs.Words.{new_app, new_rule, one_of, subcommand_of, with_rule, with_subcommand}
use Rattle.clap.specs.declared.builder.ArgAction.TheVariants.{Append, Set, SetTrue}
use Rattle.clap.specs.declared.builder.ValueParser.TheVariants.{Unsigned}
use Rattle.clap.specs.declared.error.ErrorKind.{ErrorKind}
use Rattle.clap.specs.declared.error.ErrorKind.TheVariants.{DisplayHelp, DisplayVersion}
use Rattle.clap.specs.declared.error.ErrorKind.TheVariants.{OutOfMemory}
use Rattle.relay_options.specs.declared.job.Job.{Job}
use Rattle.relay_options.specs.declared.job.Job.TheVariants.{Script, Loop, Follow, Serve, Store}
use Rattle.relay_options.specs.declared.job.Stop.{Stop}
use Rattle.relay_options.specs.declared.job.Stop.TheVariants.{Help, Misuse, NoMemory}
use Rattle.relay_options.specs.declared.settings.Settings.{Settings}
use Rattle.relay_options.specs.declared.store_job.StoreJob.{StoreJob}
use Rattle.relay_options.specs.declared.store_job.StoreTool.{StoreTool}
use Rattle.relay_options.specs.declared.store_job.StoreTool.TheVariants as tool
use Rattle.relay_limits.specs.declared.TheConstants.{DEFAULT_REVISIONS, DEFAULT_ROOMS}
use Rattle.relay_limits.specs.declared.TheConstants.{DEFAULT_SESSIONS, DEFAULT_WAITING_PATCHES}
use Rattle.relay_limits.specs.declared.TheConstants.{MAX_COUNT, MAX_REVISIONS, MAX_ROOMS}
use Rattle.relay_limits.specs.declared.TheConstants.{MAX_SESSIONS, MAX_WAITING_PATCHES}
use Rattle.relay_options.specs.declared.settings.TheConstants.{MAX_OUTPUT_MIB, MAX_PER_PEER}
use Rattle.relay_options.specs.declared.settings.TheConstants.{MAX_PORT, MAX_ROUNDS}
use Rattle.relay_options.specs.declared.settings.TheConstants.{MAX_WEIGHT_LIMIT}

-- ---- the options, by name, least and most number, and default

-- an option that takes a number
abbrev pub number_option : Text → ℕ → ℕ → List Text → Rule
number_option name least most default = record (new_rule name) {
  long = Some name;
  action = Some Set;
  value_names = 1;
  parser = Some (Unsigned least most);
  defaults = default;
}

abbrev pub history_option : Rule
history_option = number_option (codes "history") 1 MAX_REVISIONS (codes "64" ∷ [])

abbrev pub outbox_option : Rule
outbox_option = number_option (codes "outbox") 1 MAX_WAITING_PATCHES (codes "32" ∷ [])

abbrev pub rooms_option : Rule
rooms_option = number_option (codes "rooms") 1 MAX_ROOMS (codes "64" ∷ [])

abbrev pub sessions_option : Rule
sessions_option = number_option (codes "sessions") 1 MAX_SESSIONS (codes "256" ∷ [])

abbrev pub epoch_option : List Text → Rule
epoch_option = number_option (codes "epoch") 0 MAX_COUNT

abbrev pub history_weight_option : List Text → Rule
history_weight_option = number_option (codes "max-history-weight") 0 MAX_WEIGHT_LIMIT

abbrev pub waiting_weight_option : List Text → Rule
waiting_weight_option = number_option (codes "max-waiting-weight") 0 MAX_WEIGHT_LIMIT

abbrev pub telling_weight_option : List Text → Rule
telling_weight_option = number_option (codes "max-telling-weight") 0 MAX_WEIGHT_LIMIT

abbrev pub view_weight_option : List Text → Rule
view_weight_option = number_option (codes "max-view-weight") 0 MAX_WEIGHT_LIMIT

-- an option that takes an address, as a text
abbrev pub listen_option : Rule
listen_option = record (new_rule (codes "listen")) {
  long = Some (codes "listen");
  action = Some Set;
  value_names = 1;
  defaults = codes "127.0.0.1" ∷ [];
}

abbrev pub port_option : Rule
port_option = record (number_option (codes "port") 0 MAX_PORT []) { required = true }

abbrev pub admin_option : Rule
admin_option = number_option (codes "admin") 1 MAX_PORT []

abbrev pub rounds_option : Rule
rounds_option = number_option (codes "turns") 1 MAX_ROUNDS (codes "1000000000000" ∷ [])

abbrev pub output_option : Rule
output_option = number_option (codes "max-output-mib") 1 MAX_OUTPUT_MIB (codes "256" ∷ [])

abbrev pub per_peer_option : Rule
per_peer_option = number_option (codes "per-peer") 1 MAX_PER_PEER []

-- an option that takes a text, and may be given several times
abbrev pub origin_option : Rule
origin_option = record (new_rule (codes "origin")) {
  long = Some (codes "origin");
  action = Some Append;
  value_names = 1;
}

-- an option that takes the name of a file
abbrev pub store_option : Rule
store_option = record (new_rule (codes "store")) {
  long = Some (codes "store");
  action = Some Set;
  value_names = 1;
}

-- the same, for a job that needs one
abbrev pub file_option : Rule
file_option = record store_option { required = true }

-- arguments without a name: the tool for a store, and the room that it is for

abbrev pub tool_argument : Rule
tool_argument = record (new_rule (codes "tool")) { value_names = 1; required = true }

abbrev pub room_argument : Rule
room_argument = record (new_rule (codes "room")) { value_names = 1 }

-- flags: they take no value

abbrev pub log_option : Rule
log_option = record (new_rule (codes "log")) { long = Some (codes "log"); action = Some SetTrue }

abbrev pub forget_rooms_option : Rule
forget_rooms_option =
    record (new_rule (codes "forget-rooms"))
    { long = Some (codes "forget-rooms"); action = Some SetTrue }

abbrev pub closed_option : Rule
closed_option =
    record (new_rule (codes "closed")) { long = Some (codes "closed"); action = Some SetTrue }

-- ---- the commands

abbrev pub with_settings : App → App
with_settings command = with_rule (with_rule (with_rule (with_rule command history_option)
    outbox_option) rooms_option) sessions_option

abbrev pub with_weights : List Text → List Text → List Text → List Text → App → App
with_weights history waiting telling view command =
    with_rule (with_rule (with_rule (with_rule command
    (history_weight_option history)) (waiting_weight_option waiting))
    (telling_weight_option telling)) (view_weight_option view)

-- a job that runs a script: its epoch is 1, and its weights have no bounds
abbrev pub with_script_options : App → App
with_script_options command = with_weights [] [] [] [] (with_rule (with_settings command)
    (epoch_option (codes "1" ∷ [])))

abbrev pub scripted : Text → App
scripted name = with_script_options (new_app name)

-- a server: its epoch has no default, and its weights have bounds
abbrev pub with_server_options : App → App
with_server_options command =
    with_rule (with_rule (with_rule (with_rule (with_rule (with_rule (with_rule (with_rule
    (with_rule (with_rule (with_rule (with_weights
    (codes "262144" ∷ []) (codes "65536" ∷ []) (codes "1048576" ∷ []) (codes "16384" ∷ [])
    (with_rule (with_settings command) (epoch_option [])))
    listen_option) port_option) admin_option) rounds_option) log_option) forget_rooms_option)
    closed_option) output_option) origin_option) per_peer_option) store_option

abbrev pub served : Text → App
served name = with_server_options (new_app name)

-- a tool for a store
abbrev pub with_store_options : App → App
with_store_options command =
    with_rule (with_rule (with_rule command tool_argument) room_argument) file_option

abbrev pub storing : Text → App
storing name = with_store_options (new_app name)

-- `--version` shows a version
abbrev pub with_version : App → App
with_version command = record command { top = record command.top { has_version = true } }

abbrev pub relay_command : App
relay_command = with_subcommand (with_subcommand (with_subcommand (with_subcommand (with_subcommand
    (with_version (new_app (codes "relay"))) (scripted (codes "script")).top)
    (scripted (codes "loop")).top) (new_app (codes "follow")).top) (served (codes "serve")).top)
    (storing (codes "store")).top

-- ---- what the matches of a command hold

-- the number that a text writes: decimal digits, a plus before them or not, below 2^64
unfoldable pub number_of_text : Text → Option ℕ
number_of_text text =
    let digits = without_leading_plus text in
    if nat_lt 0 (length digits) && list_all (λ d. nat_lt (digit_value d) 10) digits
    && nat_lt (digits_value 10 digits) (2 ^ 64) then Some (digits_value 10 digits) else None

-- the number under an option's name, from the words or from its default
unfoldable pub number_in : Text → List Row → Option ℕ
number_in name rows = option_and_then number_of_text (one_of name rows)

-- the text under an option's name, from the words or its default, writes this IPv4 or IPv6 address
pub record IsAddressIn (name : Text) (rows : List Row) (address : IpAddr) : Type 0 where
  pub text : Text
  pub given : one_of name rows ≡ Some text
  pub writes : IsIpText text address

-- the text under an option's name, from the words or from its default
abbrev pub text_in : Text → List Row → Option Text
text_in = first_of

-- the texts under an option's name, in the order of the words; none if they do not name it
abbrev pub texts_in : Text → List Row → List Text
texts_in name rows = unwrap_or (all_of name rows) []

-- a flag is set where `true` stands under its name, as it does if the words name it
pub record IsFlagIn (name : Text) (rows : List Row) (set : Bool) : Type 0 where
  pub named : one_of name rows ≡ Some (codes "true") → set ≡ true
  pub not_named : one_of name rows ≡ Some (codes "false") → set ≡ false
  pub unknown : one_of name rows ≡ None → set ≡ false

-- ---- the job

-- The settings that the options give. `other` is the epoch without `--epoch`, if there is one.
pub record AreSettingsOf (rows : List Row) (other : Option ℕ) (settings : Settings) : Type 0 where
  pub history : number_in (codes "history") rows ≡ Some settings.history
  pub outbox : number_in (codes "outbox") rows ≡ Some settings.max_waiting_patches
  pub rooms : number_in (codes "rooms") rows ≡ Some settings.rooms
  pub sessions : number_in (codes "sessions") rows ≡ Some settings.sessions
  pub epoch : option_or (number_in (codes "epoch") rows) other ≡ Some settings.epoch
  pub history_weight : number_in (codes "max-history-weight") rows ≡ settings.history_weight
  pub waiting_weight : number_in (codes "max-waiting-weight") rows ≡ settings.waiting_weight
  pub telling_weight : number_in (codes "max-telling-weight") rows ≡ settings.telling_weight
  pub view_weight : number_in (codes "max-view-weight") rows ≡ settings.view_weight

-- the settings without a subcommand: those of `relay script` without options
abbrev pub plain_settings : Settings
plain_settings = record {
  history = DEFAULT_REVISIONS;
  max_waiting_patches = DEFAULT_WAITING_PATCHES;
  rooms = DEFAULT_ROOMS;
  sessions = DEFAULT_SESSIONS;
  epoch = 1;
  history_weight = None;
  waiting_weight = None;
  telling_weight = None;
  view_weight = None;
}

-- a store has an epoch of its own, so the words give none beside it
abbrev pub HasOneEpoch : List Row → Option Text → Type 0
HasOneEpoch rows None = ⊤
HasOneEpoch rows (Some store) = number_in (codes "epoch") rows ≡ None

-- the tool of this name, with the room that it is for, if it is for one
abbrev pub IsToolOf : Option Text → Option Text → StoreTool → Type 0
IsToolOf name room tool.List = (name ≡ Some (codes "list")) × (room ≡ None)
IsToolOf name room (tool.Show shown) =
    (name ≡ Some (codes "show")) × (room ≡ Some (string_bytes shown))
IsToolOf name room tool.Export = (name ≡ Some (codes "export")) × (room ≡ None)
IsToolOf name room tool.Import = (name ≡ Some (codes "import")) × (room ≡ None)

-- the tool and the file that the words name
pub record IsStoreJobIn (rows : List Row) (job : StoreJob) : Type 0 where
  pub file : text_in (codes "store") rows ≡ Some (string_bytes job.file)
  pub tool : IsToolOf (text_in (codes "tool") rows) (text_in (codes "room") rows) job.tool

-- the job that a subcommand and its options ask for; `now` is the time, if the clock can be read
abbrev pub IsJobOf : Text → List Row → Option ℕ → Job → Type 0
IsJobOf name rows now (Script settings) = (name ≡ codes "script") × AreSettingsOf rows None settings
IsJobOf name rows now (Loop settings) = (name ≡ codes "loop") × AreSettingsOf rows None settings
IsJobOf name rows now Follow = name ≡ codes "follow"
IsJobOf name rows now (Serve listen port admin rounds log forget_rooms closed output_mib origins
    per_peer store settings) =
    (name ≡ codes "serve") × IsAddressIn (codes "listen") rows listen
    × (number_in (codes "port") rows ≡ Some port) × (number_in (codes "admin") rows ≡ admin)
    × (number_in (codes "turns") rows ≡ Some rounds) × IsFlagIn (codes "log") rows log
    × IsFlagIn (codes "forget-rooms") rows forget_rooms × IsFlagIn (codes "closed") rows closed
    × (number_in (codes "max-output-mib") rows ≡ Some output_mib)
    × (map string_bytes origins.items ≡ texts_in (codes "origin") rows)
    × (number_in (codes "per-peer") rows ≡ per_peer)
    × (text_in (codes "store") rows ≡ option_map string_bytes store)
    × HasOneEpoch rows (option_map string_bytes store) × AreSettingsOf rows now settings
IsJobOf name rows now (Store job) = (name ≡ codes "store") × IsStoreJobIn rows job

-- the same for what the words name, if they name a subcommand
abbrev pub IsChosenBy : Option (Text × List Row) → Option ℕ → Job → Type 0
IsChosenBy None now job = job ≡ Script plain_settings
IsChosenBy (Some named) now job = IsJobOf named.0 named.1 now job

-- the words, of which the first is the program's name, ask for this job
abbrev pub AskFor : List Text → Option ℕ → Job → Type 0
AskFor words now job = IsChosenBy (subcommand_of relay_command words) now job

-- ---- why there is no job

-- the kinds of what `clap` finds in the words that is no job: help, the version, and what is wrong;
-- none if it finds nothing
abbrev pub faults_of : List Text → Kinds
faults_of words = fault_of relay_command words

-- something is wrong: a kind other than help and the version
abbrev pub HasMistake : Kinds → Type 0
HasMistake kinds =
    (kind : ErrorKind) × IsAmong kind kinds × (kind ≢ DisplayHelp) × (kind ≢ DisplayVersion)

-- A text for standard output comes only if the words ask for help or the version. One for standard
-- error comes only if `clap` finds something wrong, or finds nothing and a check of this crate
-- fails.
abbrev pub StopsAt : Kinds → Stop → Type 0
StopsAt kinds (Help text) = IsAmong DisplayHelp kinds ⊎ IsAmong DisplayVersion kinds
StopsAt kinds (Misuse text) = (kinds ≡ []) ⊎ HasMistake kinds
StopsAt kinds NoMemory = ⊤

-- the reason that an error of this kind gives
abbrev pub StopsBy : ErrorKind → Stop → Type 0
StopsBy kind (Help text) = (kind ≡ DisplayHelp) ⊎ (kind ≡ DisplayVersion)
StopsBy kind (Misuse text) =
    (kind ≢ OutOfMemory) × (kind ≢ DisplayHelp) × (kind ≢ DisplayVersion)
StopsBy kind NoMemory = ⊤

-- a reason for standard error, or that memory ran out
abbrev pub IsNoHelp : Stop → Type 0
IsNoHelp (Help text) = ⊥
IsNoHelp _ = ⊤
