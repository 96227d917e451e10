-- The settings that the options allow are within the hub's own limits.
use Rattle.std.proofs.Common.{inl, inr, arith}
use Rattle.relay_options.specs.Ranges.{AreSettings}
use Rattle.relay_options.specs.declared.settings.Settings.{Settings}
use Rattle.relay_hub.specs.Queries.{BadLimits}
use Rattle.relay_server.specs.Config.{config_of}

pub settings_fit : (settings : Settings) → AreSettings settings → BadLimits (config_of settings) → ⊥
settings_fit settings fit (inl epoch) = omega (arith, epoch, fit.epoch)
settings_fit settings fit (inr (inl first)) = omega (arith, first)
settings_fit settings fit (inr (inr (inl none))) = omega (arith, none, fit.some_history)
settings_fit settings fit (inr (inr (inr (inl more)))) = omega (arith, more, fit.history)
settings_fit settings fit (inr (inr (inr (inr (inl none))))) =
    omega (arith, none, fit.some_waiting_patches)
settings_fit settings fit (inr (inr (inr (inr (inr (inl more)))))) =
    omega (arith, more, fit.max_waiting_patches)
settings_fit settings fit (inr (inr (inr (inr (inr (inr (inl none))))))) =
    omega (arith, none, fit.some_rooms)
settings_fit settings fit (inr (inr (inr (inr (inr (inr (inr (inl more)))))))) =
    omega (arith, more, fit.rooms)
settings_fit settings fit (inr (inr (inr (inr (inr (inr (inr (inr (inl none))))))))) =
    omega (arith, none, fit.some_sessions)
settings_fit settings fit (inr (inr (inr (inr (inr (inr (inr (inr (inr more))))))))) =
    omega (arith, more, fit.sessions)
