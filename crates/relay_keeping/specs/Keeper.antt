-- A store and what is noted of it, as contracts see them.
use Rattle.std.specs.Prelude.{◌≡◌, ℕ, Bool}
use Rattle.relay_keeping.specs.Noted.{Noted, noted_at}
use Rattle.relay_keeping.specs.Wills.{NotedWills}

-- the store, whether an earlier commit failed, and what is noted of each room, of the floor and of
-- the wills
pub record Keeper (K : Type 0) : Type 0 where
  pub store : K
  pub is_lost : Bool
  pub noted : Noted
  pub floor : ℕ
  pub wills : NotedWills

-- the store is as it was, and the same is noted
pub record IsUnchanged {K : Type 0} (old new : Keeper K) : Type 0 where
  pub store : new.store ≡ old.store
  pub is_lost : new.is_lost ≡ old.is_lost
  pub rooms : (index : ℕ) → noted_at new.noted index ≡ noted_at old.noted index
  pub floor : new.floor ≡ old.floor
  pub wills : new.wills ≡ old.wills
