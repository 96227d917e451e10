-- The remainder of a budget after a cost is paid from it.
use Rattle.std.specs.Prelude.{ℕ, ◌-◌, Option, Some, None, nat_le, if◌then◌else◌}
pub use Rattle.relay_tree.specs.declared.budget.Budget.{Budget}
pub use Rattle.relay_tree.specs.declared.budget.Budget.TheVariants.{Unbounded, Left}

-- n less the cost; `None` if n is smaller than the cost
abbrev pub left_of : ℕ → ℕ → Option ℕ
left_of cost n = if nat_le cost n then Some (n - cost) else None

-- the budget less the cost; `None` if the budget is smaller than the cost
abbrev pub paid : ℕ → Budget → Option Budget
paid cost Unbounded = Some Unbounded
paid cost (Left n) = if nat_le cost n then Some (Left (n - cost)) else None
