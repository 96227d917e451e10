-- The configuration of a job's hub.
use Rattle.std.specs.Prelude.{ℕ}
use Rattle.relay_hub.specs.Config.{bounded_by}
use Rattle.relay_hub.specs.declared.config.HubConfig.{HubConfig}
use Rattle.relay_script.specs.declared.script.TheConstants.{FIRST_SESSION}
use Rattle.relay_options.specs.declared.settings.Settings.{Settings}

-- the hub configuration for some settings, with the number of the first session
abbrev pub config_of : Settings → HubConfig
config_of settings = record {
  epoch = settings.epoch;
  first = FIRST_SESSION;
  rooms = settings.rooms;
  sessions = settings.sessions;
  history = settings.history;
  max_waiting_patches = settings.max_waiting_patches;
  history_weight = bounded_by settings.history_weight;
  waiting_weight = bounded_by settings.waiting_weight;
  telling_weight = bounded_by settings.telling_weight;
  view_weight = bounded_by settings.view_weight;
}

-- the same configuration with another epoch
abbrev pub with_epoch : ℕ → HubConfig → HubConfig
with_epoch epoch config = record config { epoch = epoch }
