-- The document of each message: an object, member by member in the byte order of their names.
use Rattle.std.specs.Prelude.{ℕ, pos, List, Option, Some, None, codes}
use Rattle.relay_tree.specs.Document.{Document, null, whole, text, object, Members, no_members}
use Rattle.relay_tree.specs.Document.{member}
use Rattle.relay_patch.specs.Form.{patch_document}
use Rattle.relay_patch.specs.declared.op.Op.{Op}
use Rattle.relay_proto.specs.declared.message.Message.{Message}
use Rattle.relay_proto.specs.declared.message.Message.TheVariants as message
use Rattle.relay_proto.specs.declared.reply.Reply.{Reply}
use Rattle.relay_proto.specs.declared.reply.Reply.TheVariants as reply
use Rattle.relay_proto.specs.Words.{word_text, how_text}

abbrev pub count : ℕ → Document
count n = whole (pos n)

abbrev pub count_or_null : Option ℕ → Document
count_or_null (Some n) = count n
count_or_null None = null

-- the member `rev`, if a revision is named
abbrev pub revision_members : Option ℕ → Members
revision_members (Some rev) = member (codes "rev") (count rev) no_members
revision_members None = no_members

abbrev pub reply_members : Reply → Members
reply_members (reply.Welcome epoch rev session) =
    member (codes "epoch") (count epoch)
    (member (codes "kind") (text (codes "welcome"))
    (member (codes "rev") (count rev) (member (codes "session") (count session) no_members)))
reply_members (reply.Done id rev) =
    member (codes "id") (count id)
    (member (codes "kind") (text (codes "done")) (member (codes "rev") (count rev) no_members))
reply_members (reply.Refused id fault at rev) =
    member (codes "at") (count_or_null at)
    (member (codes "fault") (text (word_text fault))
    (member (codes "id") (count_or_null id)
    (member (codes "kind") (text (codes "refused")) (revision_members rev))))
reply_members (reply.Willing id) =
    member (codes "id") (count id) (member (codes "kind") (text (codes "willing")) no_members)
reply_members (reply.Watching id) =
    member (codes "id") (count id) (member (codes "kind") (text (codes "watching")) no_members)
reply_members (reply.Resumed id how) =
    member (codes "how") (text (how_text how))
    (member (codes "id") (count id) (member (codes "kind") (text (codes "resumed")) no_members))
reply_members (reply.Unwatched id) =
    member (codes "id") (count id) (member (codes "kind") (text (codes "unwatched")) no_members)

abbrev pub reply_document : Reply → Document
reply_document r = object (reply_members r)

-- a patch message: the operations that bring a view to the revision
abbrev pub patch_message : ℕ → List Op → Document
patch_message rev ops =
    object (member (codes "kind") (text (codes "patch"))
    (member (codes "patch") (patch_document ops) (member (codes "rev") (count rev) no_members)))

-- a snapshot message: the whole view of the revision
abbrev pub snapshot_message : ℕ → Document → Document
snapshot_message rev view =
    object (member (codes "kind") (text (codes "snapshot"))
    (member (codes "rev") (count rev) (member (codes "view") view no_members)))

abbrev pub message_document : Message → Document
message_document (message.Reply r) = reply_document r
message_document (message.Patch rev ops) = patch_message rev ops
message_document (message.Snapshot rev view) = snapshot_message rev view

-- a request that leaves a will: a patch that is done when the session has ended
abbrev pub will_request : List Op → Document
will_request ops =
    object (member (codes "do") (text (codes "will"))
    (member (codes "id") (count 1) (member (codes "patch") (patch_document ops) no_members)))
