-- A history trimmed to the newest revisions that together weigh no more than a budget.
use Rattle.std.specs.Prelude.{ℕ, ◌+◌, ◌*◌, min, length, List, [], ◌∷◌, Some, None}
use Rattle.std.specs.List.{sum_by}
use Rattle.relay_limits.specs.declared.TheConstants.{MAX_COUNT}
use Rattle.relay_tree.specs.declared.budget.Budget.{Budget}
use Rattle.relay_tree.specs.Budget.{paid}
use Rattle.relay_patch.specs.declared.change.Change.{Change}
use Rattle.relay_patch.specs.Weight.{changes_weight}
use Rattle.relay_history.specs.History.{Past}
use Rattle.relay_history.specs.declared.revision.TheConstants.{CHANGE_WEIGHT}

-- the weight of a revision: CHANGE_WEIGHT for each of its changes, and that of their paths and
-- values; or MAX_COUNT if that is more, so that the sum of all held ones fits in 64 bits
abbrev pub revision_weight : List Change → ℕ
revision_weight revision = min (CHANGE_WEIGHT * length revision + changes_weight revision) MAX_COUNT

-- what the held revisions weigh together
abbrev pub history_weight : Past → ℕ
history_weight past = sum_by revision_weight past.changes

-- the newest revisions that a budget pays for, up to the first that it does not
abbrev pub afforded : Budget → List (List Change) → List (List Change)
afforded budget [] = []
afforded budget (newest ∷ older) =
    elim (paid (revision_weight newest) budget)
    [ Some left ↦ newest ∷ afforded left older | None ↦ [] ]

-- the history with only those revisions
abbrev pub trimmed : Budget → Past → Past
trimmed budget past = record past { changes = afforded budget past.changes }
