-- The message that a text reads as: the members of its kind must have their forms, and other
-- members are ignored.
use Rattle.std.specs.Prelude.{ℕ, List, codes, bytes_eq, Bool, true, false, ◌&&◌, nat_le, Option}
use Rattle.std.specs.Prelude.{Some, None, option_map, if◌then◌else◌}
use Rattle.std.specs.Result.{result_ok}
use Rattle.relay_tree.specs.Document.{Document, null, list, Items, no_items, item}
use Rattle.relay_tree.specs.Count.{count_of, count_in}
use Rattle.relay_tree.specs.Part.{items_length, object_member, text_in}
use Rattle.relay_tree.specs.Text.{tree_of_text}
use Rattle.relay_patch.specs.Form.{patch_of}
use Rattle.relay_patch.specs.declared.limits.TheConstants.PatchLimits.{RELAYED}
use Rattle.relay_patch.specs.declared.op.Op.{Op}
use Rattle.relay_proto.specs.declared.message.Message.{Message}
use Rattle.relay_proto.specs.declared.message.Message.TheVariants as message
use Rattle.relay_proto.specs.declared.reply.ResumeOutcome.{ResumeOutcome}
use Rattle.relay_proto.specs.declared.reply.Reply.{Reply}
use Rattle.relay_proto.specs.declared.reply.Reply.TheVariants.{Welcome, Done, Refused, Willing}
use Rattle.relay_proto.specs.declared.reply.Reply.TheVariants.{Watching, Resumed, Unwatched}
use Rattle.relay_proto.specs.declared.word.Word.{Word}
use Rattle.relay_proto.specs.Optional.{optional_count_in}
use Rattle.relay_proto.specs.Words.{word_of_text, how_of_text}

-- continues with a part if it is there; else the text is no message
abbrev pub with_form : {A B : Type 0} → Option A → (A → Option B) → Option B
with_form (Some x) f = f x
with_form None f = None

-- a count or null
abbrev pub nullable_count : Document → Option (Option ℕ)
nullable_count null = Some None
nullable_count d = option_map Some (count_of d)

-- a required member that is a count or null
abbrev pub nullable_in : Document → List ℕ → Option (Option ℕ)
nullable_in d name = with_form (object_member d name) nullable_count

abbrev pub word_in : Document → Option Word
word_in d = with_form (text_in d (codes "fault")) word_of_text

abbrev pub how_in : Document → Option ResumeOutcome
how_in d = with_form (text_in d (codes "how")) how_of_text

-- Replies.

abbrev pub welcome_in : Document → Option Reply
welcome_in d =
    with_form (count_in d (codes "epoch")) (λ epoch.
    with_form (count_in d (codes "rev")) (λ rev.
    with_form (count_in d (codes "session")) (λ session. Some (Welcome epoch rev session))))

abbrev pub done_in : Document → Option Reply
done_in d = with_form (count_in d (codes "id"))
    (λ id. with_form (count_in d (codes "rev")) (λ rev. Some (Done id rev)))

abbrev pub refused_in : Document → Option Reply
refused_in d =
    with_form (nullable_in d (codes "id")) (λ id.
    with_form (word_in d) (λ fault.
    with_form (nullable_in d (codes "at")) (λ at.
    with_form (optional_count_in d (codes "rev")) (λ rev. Some (Refused id fault at rev)))))

abbrev pub willing_in : Document → Option Reply
willing_in d = with_form (count_in d (codes "id")) (λ id. Some (Willing id))

abbrev pub watching_in : Document → Option Reply
watching_in d = with_form (count_in d (codes "id")) (λ id. Some (Watching id))

abbrev pub resumed_in : Document → Option Reply
resumed_in d =
    with_form (count_in d (codes "id")) (λ id. with_form (how_in d) (λ how. Some (Resumed id how)))

abbrev pub unwatched_in : Document → Option Reply
unwatched_in d = with_form (count_in d (codes "id")) (λ id. Some (Unwatched id))

-- the reply of the given kind
abbrev pub reply_in : List ℕ → Document → Option Reply
reply_in kind d =
    if bytes_eq kind (codes "welcome") then welcome_in d else
    if bytes_eq kind (codes "done") then done_in d else
    if bytes_eq kind (codes "refused") then refused_in d else
    if bytes_eq kind (codes "willing") then willing_in d else
    if bytes_eq kind (codes "watching") then watching_in d else
    if bytes_eq kind (codes "resumed") then resumed_in d else
    if bytes_eq kind (codes "unwatched") then unwatched_in d else None

-- Patches and snapshots.

-- a slot is a list of at most one element: what the slot shows, or nothing
abbrev pub is_slot : Document → Bool
is_slot (list ds) = nat_le (items_length ds) 1
is_slot _ = false

abbrev pub are_slots : Items → Bool
are_slots no_items = true
are_slots (item d ds) = is_slot d && are_slots ds

-- a list of slots
abbrev pub is_view : Document → Bool
is_view (list ds) = are_slots ds
is_view _ = false

abbrev pub when_view : Document → Option Document
when_view d = if is_view d then Some d else None

-- a patch within the limits of relayed patches, which may have any number of operations
abbrev pub relayed_patch : Document → Option (List Op)
relayed_patch d = result_ok (patch_of RELAYED.ops RELAYED.tokens d)

abbrev pub patch_message_in : Document → Option Message
patch_message_in d =
    with_form (count_in d (codes "rev")) (λ rev.
    with_form (object_member d (codes "patch")) (λ patch.
    with_form (relayed_patch patch) (λ ops. Some (message.Patch rev ops))))

abbrev pub snapshot_in : Document → Option Message
snapshot_in d =
    with_form (count_in d (codes "rev")) (λ rev.
    with_form (object_member d (codes "view")) (λ view.
    with_form (when_view view) (λ v. Some (message.Snapshot rev v))))

-- the message of the given kind
abbrev pub message_in : List ℕ → Document → Option Message
message_in kind d =
    if bytes_eq kind (codes "patch") then patch_message_in d else
    if bytes_eq kind (codes "snapshot") then snapshot_in d
    else option_map message.Reply (reply_in kind d)

-- the message that a document reads as
abbrev pub message_of : Document → Option Message
message_of d = with_form (text_in d (codes "kind")) (λ kind. message_in kind d)

-- the message that a text reads as
abbrev pub message_of_text : List ℕ → Option Message
message_of_text s = with_form (tree_of_text s) message_of
