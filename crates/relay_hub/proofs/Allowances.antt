-- The budget that is left for each view, as an update is made for one view more.
use Rattle.std.proofs.Common.{◌≡◌, Bool, true, false, cond, ◌||◌, List, [], ◌∷◌, ◌++◌, refl}
use Rattle.relay_audience.specs.ViewOrder.{same_view}
use Rattle.relay_audience.proofs.Views.{view_itself}
use Rattle.relay_tree.specs.declared.budget.Budget.{Budget}
use Rattle.relay_view.specs.View.{View}
use Rattle.relay_hub.specs.Allowance.{Making, after_update, left_after, left_for}
use Rattle.relay_hub.specs.Telling.{is_one_of}

module _ (make : Making) where
  -- what was left for the views before is as it was
  pub left_before : (left : Budget) (made : List View) (w v : View) → is_one_of made v ≡ true
      → left_for make left (made ++ w ∷ []) v ≡ left_for make left made v
  left_before left [] w v there = cc
  left_before left (u ∷ made) w v there =
      go (same_view v u) there (left_before (after_update (make left u) left) made w v)
    where
      next : Budget
      next = after_update (make left u) left

      go : (b : Bool) → (b || is_one_of made v) ≡ true
          → (is_one_of made v ≡ true
          → left_for make next (made ++ w ∷ []) v ≡ left_for make next made v)
          → cond b left (left_for make next (made ++ w ∷ []) v)
          ≡ cond b left (left_for make next made v)
      go true is rest = refl
      go false is rest = rest is

  -- for the new one it is all that is left
  pub left_new : (left : Budget) (made : List View) (v : View) → is_one_of made v ≡ false
      → left_for make left (made ++ v ∷ []) v ≡ left_after make left made
  left_new left [] v absent = rw (view_itself v) refl
  left_new left (u ∷ made) v absent =
      go (same_view v u) absent (left_new (after_update (make left u) left) made v)
    where
      next : Budget
      next = after_update (make left u) left

      go : (b : Bool) → (b || is_one_of made v) ≡ false
          → (is_one_of made v ≡ false
          → left_for make next (made ++ v ∷ []) v ≡ left_after make next made)
          → cond b left (left_for make next (made ++ v ∷ []) v) ≡ left_after make next made
      go true is rest = cc
      go false is rest = rest is

  -- and the new one is paid
  pub left_more : (left : Budget) (made : List View) (v : View)
      → left_after make left (made ++ v ∷ [])
      ≡ after_update (make (left_after make left made) v) (left_after make left made)
  left_more left [] v = refl
  left_more left (u ∷ made) v = left_more (after_update (make left u) left) made v
