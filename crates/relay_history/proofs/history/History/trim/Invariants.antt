use Rattle.std.proofs.Common.{◌≡◌, length}
use Rattle.relay_history.specs.Trimmed.{trimmed}
use Rattle.relay_history.proofs.history.History.trim.Given as goal

-- what the budget pays for stays the same
abbrev pub invariant-loop-budget : goal.invariant-loop-budget
invariant-loop-budget l = trimmed l.budget l.self ≡ trimmed l.budget l.initial.self

abbrev pub decreases-loop-budget : goal.decreases-loop-budget
decreases-loop-budget l = length l.self.changes
