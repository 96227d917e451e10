-- An update, which brings a view to a later revision, and its effect on an outbox.
use Rattle.std.specs.Prelude.{ℕ, List}
use Rattle.relay_outbox.specs.Outbox.{Contents, folded}
use Rattle.relay_patch.specs.declared.op.Op.{Op}
use Rattle.relay_proto.specs.declared.reply.ResumeOutcome.{ResumeOutcome}
use Rattle.relay_proto.specs.declared.reply.ResumeOutcome.TheVariants as how
use Rattle.relay_proto.specs.declared.reply.Reply.{Reply}
use Rattle.relay_room.specs.declared.catch_up.CatchUp.{CatchUp}
use Rattle.relay_room.specs.declared.catch_up.CatchUp.TheVariants as caught
use Rattle.relay_tree.specs.declared.budget.Budget.{Budget}
use Rattle.relay_patch.specs.Weight.{ops_weight}
use Rattle.relay_hub.specs.Allowance.{less}
use Rattle.relay_hub.specs.Session.{with_patch_within}
use Rattle.relay_hub.specs.declared.update.Update.{Update}
use Rattle.relay_hub.specs.declared.update.Update.TheVariants.{Nothing, Patch, Snapshot}

-- the update to that revision: a patch comes with it
abbrev pub update_of : ℕ → CatchUp → Update
update_of rev caught.Nothing = Nothing
update_of rev (caught.Patch ops) = Patch (rev, ops)
update_of rev caught.Snapshot = Snapshot

-- the word for it in a reply
abbrev pub word_of : Update → ResumeOutcome
word_of Nothing = how.Nothing
word_of (Patch p) = how.Patch
word_of Snapshot = how.Snapshot

-- what is left of a budget after an update was made: a patch is paid
abbrev pub left_of : Update → Budget → Budget
left_of Nothing left = left
left_of (Patch p) left = less (ops_weight p.1) left
left_of Snapshot left = left

-- an outbox after an update, if its patches may weigh as much as a budget pays for
abbrev pub heard : Budget → Update → Contents Reply (ℕ × List Op) → Contents Reply (ℕ × List Op)
heard budget Nothing contents = contents
heard budget (Patch p) contents = with_patch_within budget p contents
heard budget Snapshot contents = folded contents
