-- The ranges of a configuration: a number is out of its range, or the configuration is one.
use Rattle.std.proofs.Common.{◌<◌, ◌⊎◌, inl, inr, arith}
use Rattle.relay_limits.specs.declared.TheConstants.{MAX_COUNT, MAX_REVISIONS, MAX_ROOMS}
use Rattle.relay_limits.specs.declared.TheConstants.{MAX_SESSIONS, MAX_WAITING_PATCHES}
use Rattle.relay_hub.specs.Queries.{BadLimits}
use Rattle.relay_hub.specs.State.{IsConfig}
use Rattle.relay_hub.specs.declared.config.HubConfig.{HubConfig}

pub bad_counts : (config : HubConfig) → (MAX_COUNT < config.epoch) ⊎ (MAX_COUNT < config.first)
    → BadLimits config
bad_counts config (inl h) = inl h
bad_counts config (inr h) = inr (inl h)

pub bad_history : (config : HubConfig) → (config.history < 1) ⊎ (MAX_REVISIONS < config.history)
    → BadLimits config
bad_history config (inl h) = inr (inr (inl h))
bad_history config (inr h) = inr (inr (inr (inl h)))

pub bad_waiting : (config : HubConfig)
    → (config.max_waiting_patches < 1) ⊎ (MAX_WAITING_PATCHES < config.max_waiting_patches)
    → BadLimits config
bad_waiting config (inl h) = inr (inr (inr (inr (inl h))))
bad_waiting config (inr h) = inr (inr (inr (inr (inr (inl h)))))

pub bad_rooms : (config : HubConfig) → (config.rooms < 1) ⊎ (MAX_ROOMS < config.rooms)
    → BadLimits config
bad_rooms config (inl h) = inr (inr (inr (inr (inr (inr (inl h))))))
bad_rooms config (inr h) = inr (inr (inr (inr (inr (inr (inr (inl h)))))))

pub bad_sessions : (config : HubConfig) → (config.sessions < 1) ⊎ (MAX_SESSIONS < config.sessions)
    → BadLimits config
bad_sessions config (inl h) = inr (inr (inr (inr (inr (inr (inr (inr (inl h))))))))
bad_sessions config (inr h) = inr (inr (inr (inr (inr (inr (inr (inr (inr h))))))))

pub none_bad : (config : HubConfig) → IsConfig config → BadLimits config → ⊥
none_bad config is (inl h) = absurd (omega (arith, h, is.counts.0))
none_bad config is (inr (inl h)) = absurd (omega (arith, h, is.counts.1))
none_bad config is (inr (inr (inl h))) = absurd (omega (arith, h, is.history.0))
none_bad config is (inr (inr (inr (inl h)))) = absurd (omega (arith, h, is.history.1))
none_bad config is (inr (inr (inr (inr (inl h))))) =
    absurd (omega (arith, h, is.max_waiting_patches.0))
none_bad config is (inr (inr (inr (inr (inr (inl h)))))) =
    absurd (omega (arith, h, is.max_waiting_patches.1))
none_bad config is (inr (inr (inr (inr (inr (inr (inl h))))))) =
    absurd (omega (arith, h, is.rooms.0))
none_bad config is (inr (inr (inr (inr (inr (inr (inr (inl h)))))))) =
    absurd (omega (arith, h, is.rooms.1))
none_bad config is (inr (inr (inr (inr (inr (inr (inr (inr (inl h))))))))) =
    absurd (omega (arith, h, is.sessions.0))
none_bad config is (inr (inr (inr (inr (inr (inr (inr (inr (inr h))))))))) =
    absurd (omega (arith, h, is.sessions.1))
