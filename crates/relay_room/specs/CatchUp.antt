-- The update that brings the view of an earlier revision to the present one.
use Rattle.std.specs.Prelude.{◌≡◌, ⊤, ℕ, ◌+◌, List, [], ◌∷◌, Option, Some, None, Ok, nat_lt}
use Rattle.std.specs.Prelude.{if◌then◌else◌}
use Rattle.std.specs.List.{AllByRecursion}
use Rattle.relay_tree.specs.Document.{Document}
use Rattle.relay_tree.specs.declared.budget.Budget.{Budget}
use Rattle.relay_patch.specs.declared.bounds.TheConstants.Bounds.{DOCUMENT}
use Rattle.relay_patch.specs.declared.limits.TheConstants.PatchLimits.{RELAYED}
use Rattle.relay_patch.specs.declared.op.Op.{Op}
use Rattle.relay_patch.specs.Patch.{free}
use Rattle.relay_patch.specs.After.{after}
use Rattle.relay_patch.specs.Change.{Leads}
use Rattle.relay_patch.specs.Sizes.{OpFits}
use Rattle.relay_view.specs.View.{View, view}
use Rattle.relay_translate.specs.Translate.{local, afforded}
use Rattle.relay_history.specs.History.{oldest, changes_since}
use Rattle.relay_room.specs.Room.{State}
use Rattle.relay_room.specs.declared.catch_up.CatchUp.{CatchUp}
use Rattle.relay_room.specs.declared.catch_up.CatchUp.TheVariants.{Nothing, Patch, Snapshot}

-- the operations that the changes since a revision become on a view
abbrev pub missed : State → ℕ → View → List Op
missed room rev pointers = local (changes_since rev room.history) room.document pointers

-- a patch, or Nothing if it has no operation
abbrev pub patch_or_nothing : List Op → CatchUp
patch_or_nothing [] = Nothing
patch_or_nothing (op ∷ ops) = Patch (op ∷ ops)

-- the update for the view of a revision that is not above the present one
abbrev pub caught_up : State → ℕ → View → CatchUp
caught_up room rev pointers =
    if nat_lt rev (oldest room.history) then Snapshot
    else patch_or_nothing (missed room rev pointers)

-- a patch, or a snapshot in place of one that is too heavy
abbrev pub patch_or_snapshot : Option (List Op) → CatchUp
patch_or_snapshot (Some ops) = patch_or_nothing ops
patch_or_snapshot None = Snapshot

-- the same, but with a snapshot in place of a patch that weighs more than the budget
abbrev pub caught_up_within : Budget → State → ℕ → View → CatchUp
caught_up_within budget room rev pointers =
    if nat_lt rev (oldest room.history) then Snapshot
    else patch_or_snapshot (afforded budget (missed room rev pointers))

-- the update turns the view of document d into the present view; a snapshot always does
abbrev pub MakesPresent : State → View → Document → CatchUp → Type 0
MakesPresent room pointers d Nothing = view pointers d ≡ view pointers room.document
MakesPresent room pointers d (Patch ops) =
    after (view pointers d) ops free ≡ Ok (view pointers room.document)
MakesPresent room pointers d Snapshot = ⊤

-- for every document from which the changes since the revision lead to the present one, the update
-- turns its view into the present view
abbrev pub LeadsOn : State → ℕ → View → CatchUp → Type 0
LeadsOn room rev pointers how =
    (d : Document) → Leads d (changes_since rev room.history) room.document
    → MakesPresent room pointers d how

-- an operation that is sent: its paths have at most as many tokens as a relayed patch may have, and
-- its values are at most one level deeper than a document may be
abbrev pub IsSent : Op → Type 0
IsSent op = OpFits RELAYED.tokens (DOCUMENT.depth + 1) op

-- every operation of a patch may be sent
abbrev pub Fits : CatchUp → Type 0
Fits Nothing = ⊤
Fits (Patch ops) = AllByRecursion IsSent ops
Fits Snapshot = ⊤
