-- Bounds on the length of the paths and the depth of the values in a translation.
use Rattle.std.specs.Prelude.{ℕ, ◌+◌, List}
use Rattle.std.specs.List.{AllByRecursion}
use Rattle.relay_tree.specs.Document.{Document}
use Rattle.relay_view.specs.View.{View}
use Rattle.relay_patch.specs.declared.change.Change.{Change}
use Rattle.relay_patch.specs.declared.op.Op.{Op}
use Rattle.relay_patch.specs.Sizes.{IsFlat, OpFits, ChangeFits}
use Rattle.relay_translate.specs.Translate.{local}

-- Paths are at most two tokens longer than those of the changes, and values at most one level
-- deeper than those of the changes and the document.
abbrev pub FitsWith : List Change → Document → List Op → Type 0
FitsWith changes now ops =
    (n m : ℕ) → AllByRecursion (ChangeFits n m) changes → IsFlat m now
    → AllByRecursion (OpFits (n + 2) (m + 1)) ops

-- Every translation keeps these bounds.
abbrev pub FitsWithChanges : Type 0
FitsWithChanges = (changes : List Change) (now : Document) (pointers : View)
    → FitsWith changes now (local changes now pointers)
