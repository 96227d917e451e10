-- A store of trees whose log was moved into its file.
use Rattle.std.specs.Prelude.{◌≡◌, false}
use Rattle.sqlite_trees.specs.View.{View}

-- what was not committed is undone, and what was committed stays
pub record Settles (old new : View) : Type 0 where
  pub sound : new.is_broken ≡ false
  pub undone : new.trees ≡ old.committed
  pub committed : new.committed ≡ old.committed
  pub shape : old.shape ≡ old.committed_shape → new.shape ≡ old.shape
