-- A budget as the logic stores it, and the configuration of a hub.
use Rattle.std.specs.Prelude.{◌≡◌, ℕ, Option, Some, None, refl}
use Rattle.std.specs.Coded.{Coded, code_by, coded×, coded_ℕ, coded_option}
use Rattle.relay_tree.specs.declared.budget.Budget.{Budget}
use Rattle.relay_tree.specs.declared.budget.Budget.TheVariants.{Unbounded, Left}
use Rattle.relay_hub.specs.declared.config.HubConfig.{HubConfig}

-- the bound, if there is one
abbrev pub bound_of : Budget → Option ℕ
bound_of Unbounded = None
bound_of (Left n) = Some n

abbrev pub bounded_by : Option ℕ → Budget
bounded_by None = Unbounded
bounded_by (Some n) = Left n

pub bounded : (b : Budget) → bounded_by (bound_of b) ≡ b
bounded Unbounded = refl
bounded (Left n) = refl

abbrev pub budget_code : Coded Budget
budget_code = code_by (Option ℕ) (coded_option coded_ℕ) bound_of bounded_by bounded

abbrev pub config_code : Coded HubConfig
config_code = code_by (ℕ × (ℕ × (ℕ × (ℕ × (ℕ × (ℕ × (Budget × (Budget × (Budget × Budget)))))))))
    (coded× coded_ℕ (coded× coded_ℕ
    (coded× coded_ℕ (coded× coded_ℕ
    (coded× coded_ℕ (coded× coded_ℕ
    (coded× budget_code (coded× budget_code
    (coded× budget_code budget_code)))))))))
    (λ c. (
      c.epoch,
      (
        c.first,
        (
          c.rooms,
          (
            c.sessions,
            (
              c.history,
              (
                c.max_waiting_patches,
                (
                  c.history_weight,
                  (
                    c.waiting_weight,
                    (c.telling_weight, c.view_weight),
                  ),
                ),
              ),
            ),
          ),
        ),
      ),
    ))
    (λ p. record {
      epoch = p.0;
      first = p.1.0;
      rooms = p.1.1.0;
      sessions = p.1.1.1.0;
      history = p.1.1.1.1.0;
      max_waiting_patches = p.1.1.1.1.1.0;
      history_weight = p.1.1.1.1.1.1.0;
      waiting_weight = p.1.1.1.1.1.1.1.0;
      telling_weight = p.1.1.1.1.1.1.1.1.0;
      view_weight = p.1.1.1.1.1.1.1.1.1;
    })
    (λ _. refl)
