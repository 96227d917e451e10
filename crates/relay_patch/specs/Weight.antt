-- The weight of changes and operations: that of the values that they carry, and of their paths.
use Rattle.std.specs.Prelude.{ℕ, ◌+◌, List, [], ◌∷◌, Option, Some, None}
use Rattle.relay_tree.specs.Document.{Document, weight}
use Rattle.relay_pointer.specs.Weight.{path_weight}
use Rattle.relay_patch.specs.Measure.{part_weight}
use Rattle.relay_patch.specs.declared.change.Change.{Change}
use Rattle.relay_patch.specs.declared.change.Change.TheVariants as change
use Rattle.relay_patch.specs.declared.op.Op.{Op}
use Rattle.relay_patch.specs.declared.op.Op.TheVariants as op

abbrev pub change_weight : Change → ℕ
change_weight (change.Set path v) = path_weight path + weight v
change_weight (change.AddMember path v) = path_weight path + weight v
change_weight (change.AddItem path v) = path_weight path + weight v
change_weight (change.DropMember path) = path_weight path
change_weight (change.DropItem path) = path_weight path
change_weight (change.Move from to v) = path_weight from.path + path_weight to.path + weight v
change_weight (change.Copy from to v) = path_weight from + path_weight to.path + weight v

abbrev pub changes_weight : List Change → ℕ
changes_weight [] = 0
changes_weight (c ∷ cs) = change_weight c + changes_weight cs

-- the value that an operation carries, if any
abbrev pub carried : Op → Option Document
carried (op.Add path v) = Some v
carried (op.Remove path) = None
carried (op.Replace path v) = Some v
carried (op.Move from path) = None
carried (op.Copy from path) = None
carried (op.Test path v) = Some v

abbrev pub paths_weight : Op → ℕ
paths_weight (op.Add path v) = path_weight path
paths_weight (op.Remove path) = path_weight path
paths_weight (op.Replace path v) = path_weight path
paths_weight (op.Move from path) = path_weight from + path_weight path
paths_weight (op.Copy from path) = path_weight from + path_weight path
paths_weight (op.Test path v) = path_weight path

abbrev pub op_weight : Op → ℕ
op_weight o = part_weight (carried o) + paths_weight o

abbrev pub ops_weight : List Op → ℕ
ops_weight [] = 0
ops_weight (o ∷ ops) = op_weight o + ops_weight ops
