-- The weight of the patches of one edit together: an update is made for one view after the other,
-- and each patch is paid from what those before it left.
use Rattle.std.specs.Prelude.{ℕ, ◌-◌, List, [], ◌∷◌, min, if◌then◌else◌}
use Rattle.relay_audience.specs.ViewOrder.{same_view}
use Rattle.relay_patch.specs.Weight.{ops_weight}
use Rattle.relay_room.specs.declared.catch_up.CatchUp.{CatchUp}
use Rattle.relay_room.specs.declared.catch_up.CatchUp.TheVariants.{Nothing, Patch, Snapshot}
use Rattle.relay_tree.specs.declared.budget.Budget.{Budget}
use Rattle.relay_tree.specs.declared.budget.Budget.TheVariants.{Unbounded, Left}
use Rattle.relay_view.specs.View.{View}

abbrev pub smaller : Budget → Budget → Budget
smaller Unbounded budget = budget
smaller (Left n) Unbounded = Left n
smaller (Left n) (Left m) = Left (min n m)

-- a budget less a weight
abbrev pub less : ℕ → Budget → Budget
less weight Unbounded = Unbounded
less weight (Left n) = Left (n - weight)

-- what is left after an update: a patch is paid
abbrev pub after_update : CatchUp → Budget → Budget
after_update Nothing left = left
after_update (Patch ops) left = less (ops_weight ops) left
after_update Snapshot left = left

-- the update that is made for a view when this is left
abbrev pub Making : Type 0
Making = Budget → View → CatchUp

-- what is left after updates were made for these views, in order
abbrev pub left_after : Making → Budget → List View → Budget
left_after make left [] = left
left_after make left (v ∷ made) = left_after make (after_update (make left v) left) made

-- what was left when the update for a view was made; nothing if none was
abbrev pub left_for : Making → Budget → List View → View → Budget
left_for make left [] v = Left 0
left_for make left (u ∷ made) v =
    if same_view v u then left else left_for make (after_update (make left u) left) made v

-- the update of each view, if they were made for these in order
abbrev pub update_for : Making → Budget → List View → View → CatchUp
update_for make total made v = make (left_for make total made v) v
