-- The weight of the patches that wait in an outbox, counted beside it.
use Rattle.std.specs.Prelude.{ℕ, ◌≡◌, ◌≤◌, List}
use Rattle.relay_outbox.specs.Outbox.{Contents}
use Rattle.relay_patch.specs.declared.op.Op.{Op}
use Rattle.relay_proto.specs.declared.reply.Reply.{Reply}
use Rattle.relay_tree.specs.declared.budget.Budget.{Budget}
use Rattle.relay_tree.specs.declared.budget.Budget.TheVariants.{Unbounded, Left}
use Rattle.relay_hub.specs.Session.{patches_weight}

-- the load is what the waiting patches weigh, and is within the budget; without a bound nothing is
-- counted
abbrev pub IsLoad : Budget → ℕ → Contents Reply (ℕ × List Op) → Type 0
IsLoad Unbounded load contents = load ≡ 0
IsLoad (Left most) load contents = (load ≡ patches_weight contents.patches) × (load ≤ most)

-- what the patches weigh that wait in an outbox, as far as that is bounded
abbrev pub bounded_weight : Budget → Contents Reply (ℕ × List Op) → ℕ
bounded_weight Unbounded contents = 0
bounded_weight (Left most) contents = patches_weight contents.patches
