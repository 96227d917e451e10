-- Edits with a base, and refusals with a revision, by computation.
use Rattle.std.proofs.Common.{◌≡◌, negsuc, [], codes, Some, None, Ok, Err, refl}
use Rattle.std.specs.Fmt.{digits}
use Rattle.json.specs.Print.{escape_byte}
use Rattle.relay_tree.specs.Document.{Document, null, whole, text, list, object, no_items, Members}
use Rattle.relay_tree.specs.Document.{no_members, member}
use Rattle.relay_tree.specs.Text.{text_of}
use Rattle.relay_proto.specs.Message.{count, reply_document}
use Rattle.relay_proto.specs.MessageRead.{message_of}
use Rattle.relay_proto.specs.Request.{refusal, request_of}
use Rattle.relay_proto.specs.declared.message.Message.TheVariants.{Reply}
use Rattle.relay_proto.specs.declared.reply.Reply.TheVariants.{Refused}
use Rattle.relay_proto.specs.declared.request.Request.TheVariants.{Edit, Will, Unwatch}
use Rattle.relay_proto.specs.declared.word.Word.TheVariants.{Shape, Stale}

-- Requests.

-- an edit with id 9 and an empty patch
abbrev edit : Members
edit = member (codes "do") (text (codes "edit"))
    (member (codes "id") (count 9) (member (codes "patch") (list no_items) no_members))

edit_without_base : request_of (object edit) ≡ Ok (Edit 9 None [])
edit_without_base = refl

edit_with_base : request_of (object (member (codes "base") (count 2) edit))
    ≡ Ok (Edit 9 (Some 2) [])
edit_with_base = refl

null_base : request_of (object (member (codes "base") null edit))
    ≡ Err (refusal Shape (Some 9) None)
null_base = refl

base_below_zero : request_of (object (member (codes "base") (whole (negsuc 0)) edit))
    ≡ Err (refusal Shape (Some 9) None)
base_below_zero = refl

-- a will has no base, not even null
abbrev will : Members
will = member (codes "do") (text (codes "will"))
    (member (codes "id") (count 9) (member (codes "patch") (list no_items) no_members))

empty_will : request_of (object will) ≡ Ok (Will 9 [])
empty_will = refl

will_with_null_base : request_of (object (member (codes "base") null will))
    ≡ Err (refusal Shape (Some 9) None)
will_with_null_base = refl

-- other requests ignore a base
unwatch_with_null_base : request_of
    (object (member (codes "base") null
    (member (codes "do") (text (codes "unwatch")) (member (codes "id") (count 9) no_members))))
    ≡ Ok (Unwatch 9)
unwatch_with_null_base = refl

-- Refusals.

refused_as_stale : text_of (reply_document (Refused (Some 9) Stale None (Some 2)))
    ≡ codes "{\"at\":null,\"fault\":\"stale\",\"id\":9,\"kind\":\"refused\",\"rev\":2}"
unfolding digits escape_byte
refused_as_stale = refl

refused_without_revision : text_of (reply_document (Refused (Some 9) Shape None None))
    ≡ codes "{\"at\":null,\"fault\":\"shape\",\"id\":9,\"kind\":\"refused\"}"
unfolding digits escape_byte
refused_without_revision = refl

-- a refusal of id 9 as stale, with more members
abbrev refused_with : Members → Document
refused_with ms =
    object (member (codes "at") null
    (member (codes "fault") (text (codes "stale"))
    (member (codes "id") (count 9) (member (codes "kind") (text (codes "refused")) ms))))

reads_revision : message_of (refused_with (member (codes "rev") (count 2) no_members))
    ≡ Some (Reply (Refused (Some 9) Stale None (Some 2)))
reads_revision = refl

reads_no_revision : message_of (refused_with no_members)
    ≡ Some (Reply (Refused (Some 9) Stale None None))
reads_no_revision = refl

null_revision_is_no_message : message_of (refused_with (member (codes "rev") null no_members))
    ≡ None
null_revision_is_no_message = refl
