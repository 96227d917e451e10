-- The fields of a history, and of an iterator over the changes after a revision, as contracts see
-- them.
use Rattle.std.specs.Prelude.{◌≡◌, ℕ, Option, Some, None, List, ◌-◌, ◌++◌, take, length}
use Rattle.std.specs.List.{sum_by}
use Rattle.relay_patch.specs.declared.change.Change.{Change}
use Rattle.relay_history.specs.History.{Past, IsHistory, in_order}
use Rattle.relay_history.specs.Trimmed.{revision_weight}
use Rattle.relay_history.specs.declared.history.History.TheInside as history
use Rattle.relay_history.specs.declared.since.Since.TheInside as since

-- the history that contracts see
abbrev pub past_of : history.Inside → Past
past_of h = record { newest = h.newest; limit = h.revisions.capacity; changes = h.revisions.items }

-- the invariant of the fields: they are a history, and `weight` is the total weight of the held
-- revisions
pub record IsKept (h : history.Inside) : Type 0 where
  pub is : IsHistory (past_of h)
  pub weighs : h.weight ≡ sum_by revision_weight h.revisions.items

-- the weight of a revision; 0 if there is none
abbrev pub weight_of : Option (List Change) → ℕ
weight_of (Some revision) = revision_weight revision
weight_of None = 0

-- the history without its oldest revision
abbrev pub without_oldest : Past → Past
without_oldest past = record past { changes = take (length past.changes - 1) past.changes }

-- the rest of the current revision, followed by the newer ones
abbrev pub left_of : since.Inside → List Change
left_of s = s.changes.now ++ in_order (take s.left s.revisions.now.items)
