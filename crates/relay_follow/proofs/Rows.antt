-- The client after messages, by computation.
use Rattle.std.proofs.Common.{◌≡◌, pos, [], ◌∷◌, codes, refl}
use Rattle.relay_tree.specs.Document.{Document, whole, list, items_of}
use Rattle.relay_pointer.specs.Index.{index_of}
use Rattle.relay_patch.specs.declared.op.Op.TheVariants.{Remove, Replace}
use Rattle.relay_proto.specs.declared.message.Message.TheVariants.{Reply, Patch, Snapshot}
use Rattle.relay_proto.specs.declared.reply.Reply.TheVariants.{Watching}
use Rattle.relay_proto.specs.Client.{nothing, holds, lost, client, client_after}

abbrev view : Document
view = list (items_of (list (items_of (whole (pos 1) ∷ [])) ∷ []))

-- `[[1]]` at revision 1, and then patches
patch_without_view : client nothing (Patch 1 []) ≡ lost
patch_without_view = refl

patch_of_the_held_revision : client (holds 1 view) (Patch 1 []) ≡ lost
patch_of_the_held_revision = refl

patch_of_a_later_revision : client (holds 1 view) (Patch 2 []) ≡ holds 2 view
patch_of_a_later_revision = refl

patch_that_is_refused : client (holds 2 view)
    (Patch 3 (Remove (codes "0" ∷ codes "0" ∷ codes "x" ∷ []) ∷ [])) ≡ lost
unfolding index_of
patch_that_is_refused = refl

one_after_the_other : client_after nothing (Reply (Watching 1) ∷ Snapshot 1 view
    ∷ Patch 4 (Replace (codes "0" ∷ []) (list (items_of [])) ∷ []) ∷ [])
    ≡ holds 4 (list (items_of (list (items_of []) ∷ [])))
unfolding index_of
one_after_the_other = refl

snapshot_finds_the_lost : client lost (Snapshot 1 view) ≡ holds 1 view
snapshot_finds_the_lost = refl
