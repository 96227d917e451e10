-- Bounds on the length of the paths of operations and changes, and on the depth of their values.
use Rattle.std.specs.Prelude.{ℕ, ◌≤◌, length}
use Rattle.relay_tree.specs.Document.{Document, depth}
use Rattle.relay_pointer.specs.Path.{Path}
use Rattle.relay_patch.specs.Patch.{Op, Add, Remove, Replace, Move, Copy, Test}
use Rattle.relay_patch.specs.Change.{Change}
use Rattle.relay_patch.specs.declared.change.Change.TheVariants as change

-- the path has at most n tokens
abbrev pub IsShort : ℕ → Path → Type 0
IsShort n path = length path ≤ n

-- the value has a depth of at most m
abbrev pub IsFlat : ℕ → Document → Type 0
IsFlat m v = depth v ≤ m

abbrev pub OpFits : ℕ → ℕ → Op → Type 0
OpFits n m (Add path v) = IsShort n path × IsFlat m v
OpFits n m (Remove path) = IsShort n path
OpFits n m (Replace path v) = IsShort n path × IsFlat m v
OpFits n m (Move from path) = IsShort n from × IsShort n path
OpFits n m (Copy from path) = IsShort n from × IsShort n path
OpFits n m (Test path v) = IsShort n path × IsFlat m v

abbrev pub ChangeFits : ℕ → ℕ → Change → Type 0
ChangeFits n m (change.Set path v) = IsShort n path × IsFlat m v
ChangeFits n m (change.AddMember path v) = IsShort n path × IsFlat m v
ChangeFits n m (change.AddItem path v) = IsShort n path × IsFlat m v
ChangeFits n m (change.DropMember path) = IsShort n path
ChangeFits n m (change.DropItem path) = IsShort n path
ChangeFits n m (change.Move from to v) = IsShort n from.path × IsShort n to.path × IsFlat m v
ChangeFits n m (change.Copy from to v) = IsShort n from × IsShort n to.path × IsFlat m v
