-- Changes of one session: of its view, its outbox and its will.
use Rattle.std.specs.Prelude.{ℕ, ◌≡◌, ◌+◌, Bool, false, length, List, [], ◌∷◌, ◌++◌, map, Option}
use Rattle.std.specs.Prelude.{Some, None, option_map, is_some, if◌then◌else◌, refl}
use Rattle.std.specs.Coded.{Coded, code_by, coded×, coded_bool, coded_ℕ, coded_list, coded_option}
use Rattle.relay_outbox.specs.Outbox.{Contents, Foremost, reply, patch, snapshot, nothing, empty}
use Rattle.relay_outbox.specs.Outbox.{with_reply, with_patch, folded, cleared, front_of}
use Rattle.relay_outbox.specs.Outbox.{without_front, contents_code}
use Rattle.relay_patch.specs.Weight.{ops_weight}
use Rattle.relay_patch.specs.declared.op.Op.{Op}
use Rattle.relay_access.specs.declared.access.Access.{Access}
use Rattle.relay_access.specs.declared.access.Access.TheVariants.{ReadWrite, ReadOnly}
use Rattle.relay_proto.specs.declared.message.Message.{Message}
use Rattle.relay_proto.specs.declared.message.Message.TheVariants as message
use Rattle.relay_proto.specs.declared.reply.ResumeOutcome.TheVariants as how
use Rattle.relay_proto.specs.declared.reply.Reply.{Reply}
use Rattle.relay_proto.specs.declared.reply.Reply.TheVariants.{Welcome, Willing, Watching, Resumed}
use Rattle.relay_proto.specs.declared.reply.Reply.TheVariants.{Unwatched}
use Rattle.relay_room.specs.Room.{State as Room, revision}
use Rattle.relay_room.specs.declared.catch_up.CatchUp.{CatchUp}
use Rattle.relay_room.specs.declared.catch_up.CatchUp.TheVariants.{Nothing, Patch, Snapshot}
use Rattle.relay_tree.specs.Budget.{paid}
use Rattle.relay_tree.specs.Document.{saturated}
use Rattle.relay_tree.specs.declared.budget.Budget.{Budget}
use Rattle.relay_view.specs.View.{View, view}
use Rattle.relay_view.specs.declared.slot.Slot.{Slot}
use Rattle.relay_hub.specs.Admitted.{may_edit}
use Rattle.relay_hub.specs.Config.{budget_code}
use Rattle.relay_hub.specs.declared.config.HubConfig.{HubConfig}
pub use Rattle.relay_hub.specs.EncodedPatch.{patch_message, message_text, ReadsBack}

-- a session: its number, what it may do, the view that it watches, if it does, its outbox, how much
-- the waiting patches may weigh, its will: the patch for when it has ended, which may be empty, and
-- how many wills it has left so far
pub record Session : Type 0 where
  pub number : ℕ
  pub access : Access
  pub view : Option View
  pub outbox : Contents Reply (ℕ × List Op)
  pub budget : Budget
  pub will : List Op
  pub will_number : ℕ

-- the session with another view and another outbox
abbrev pub session_with : Option View → Contents Reply (ℕ × List Op) → Session → Session
session_with pointers contents x = record {
  number = x.number;
  access = x.access;
  view = pointers;
  outbox = contents;
  budget = x.budget;
  will = x.will;
  will_number = x.will_number;
}

-- how many wills were left after one more, counted up to the top of 64 bits
abbrev pub next_will : ℕ → ℕ
next_will n = saturated (n + 1)

-- the session with another will, which is counted
abbrev pub with_will : List Op → Session → Session
with_will ops x = record {
  number = x.number;
  access = x.access;
  view = x.view;
  outbox = x.outbox;
  budget = x.budget;
  will = ops;
  will_number = next_will x.will_number;
}

-- The invariant of each session.
pub record IsSession (x : Session) : Type 0 where
  -- if it watches nothing, only replies wait
  pub idle : x.view ≡ None → (x.outbox.patches ≡ []) × (x.outbox.due ≡ false)

-- the session with another outbox
abbrev pub with_outbox : Contents Reply (ℕ × List Op) → Session → Session
with_outbox contents x = session_with x.view contents x

-- the session with one more reply
abbrev pub replied : Reply → Session → Session
replied r x = with_outbox (with_reply r x.outbox) x

-- a session that was just opened, in a room at that revision
abbrev pub newcomer : HubConfig → Access → ℕ → ℕ → Session
newcomer config access rev number = record {
  number = number;
  access = access;
  view = None;
  outbox = with_reply (Welcome config.epoch rev number) (empty config.max_waiting_patches);
  budget = config.waiting_weight;
  will = [];
  will_number = 0;
}

-- The weight of what waits.

-- what patches weigh together
abbrev pub patches_weight : List (ℕ × List Op) → ℕ
patches_weight [] = 0
patches_weight (p ∷ ps) = ops_weight p.1 + patches_weight ps

-- a patch is added as `with_patch` says if a budget pays for it and for all that wait; otherwise
-- the outbox folds
abbrev pub with_patch_within : Budget → ℕ × List Op → Contents Reply (ℕ × List Op)
    → Contents Reply (ℕ × List Op)
with_patch_within budget p contents =
    if is_some (paid (patches_weight contents.patches + ops_weight p.1) budget)
    then with_patch p contents else folded contents

-- the session when it leaves a will, in place of the one that it left before
abbrev pub leaves_will : ℕ → List Op → Session → Session
leaves_will id ops x = with_will ops (replied (Willing id) x)

-- the session when it begins to watch, and when it stops
abbrev pub watches : ℕ → View → Session → Session
watches id pointers x = session_with (Some pointers) (folded (with_reply (Watching id) x.outbox)) x

abbrev pub unwatches : ℕ → Session → Session
unwatches id x = session_with None (cleared (with_reply (Unwatched id) x.outbox)) x

-- the session when it resumes in a room at that revision: with nothing missed, with one patch, or
-- with a snapshot
abbrev pub resumes : ℕ → ℕ → View → CatchUp → Session → Session
resumes rev id pointers Nothing x =
    session_with (Some pointers) (cleared (with_reply (Resumed id how.Nothing) x.outbox)) x
resumes rev id pointers (Patch ops) x =
    session_with (Some pointers) (with_patch_within x.budget (
      rev,
      ops,
    ) (cleared (with_reply (Resumed id how.Patch) x.outbox))) x
resumes rev id pointers Snapshot x =
    session_with (Some pointers) (folded (with_reply (Resumed id how.Snapshot) x.outbox)) x

-- an outbox in which no snapshot is due, after an update to revision rev: it is unchanged, has one
-- more patch, or a snapshot is due
abbrev pub led_outbox : Budget → ℕ → CatchUp → Contents Reply (ℕ × List Op)
    → Contents Reply (ℕ × List Op)
led_outbox budget rev Nothing contents = contents
led_outbox budget rev (Patch ops) contents = with_patch_within budget (rev, ops) contents
led_outbox budget rev Snapshot contents = folded contents

-- any outbox: one in which a snapshot is due is unchanged, since that snapshot will show the
-- revision too
abbrev pub notified_outbox : Budget → ℕ → CatchUp → Contents Reply (ℕ × List Op)
    → Contents Reply (ℕ × List Op)
notified_outbox budget rev how contents =
    if contents.due then contents else led_outbox budget rev how contents

-- The result of a draw.

-- the snapshot of a room for a view
abbrev pub snapshot_of : Room → View → Message
snapshot_of room pointers = message.Snapshot (revision room) (view pointers room.document)

-- the front of an outbox as a message; a session without a view has no snapshot
abbrev pub message_of : Room → Option View → Foremost Reply (ℕ × List Op) → Option Message
message_of room pointers (reply r) = Some (message.Reply r)
message_of room pointers (patch p) = Some (patch_message p)
message_of room pointers snapshot = option_map (snapshot_of room) pointers
message_of room pointers nothing = None

abbrev pub front_message : Room → Session → Option Message
front_message room x = message_of room x.view (front_of x.outbox)

-- how many messages wait: the number of draws that would return a text
abbrev pub waiting : Session → ℕ
waiting x = length x.outbox.replies + length x.outbox.patches + (if x.outbox.due then 1 else 0)

-- the session after its front was drawn
abbrev pub drawn : Session → Session
drawn x = with_outbox (without_front x.outbox) x

-- the patches and the snapshot that wait, for a view
abbrev pub later : Room → View → Contents Reply (ℕ × List Op) → List Message
later room pointers contents =
    map patch_message contents.patches ++ (if contents.due then snapshot_of room pointers ∷ []
    else [])

-- how the logic stores a session

abbrev pub access_where : Bool → Access
access_where may = if may then ReadWrite else ReadOnly

pub access_kept : (a : Access) → access_where (may_edit a) ≡ a
access_kept ReadWrite = refl
access_kept ReadOnly = refl

abbrev pub access_code : Coded Access
access_code = code_by Bool coded_bool may_edit access_where access_kept

abbrev pub session_code : Coded Slot → Coded Reply → Coded Op → Coded Session
session_code slots replies ops =
    code_by
    (ℕ × (Access × (Option View × (Contents Reply (ℕ × List Op) × (Budget × (List Op × ℕ))))))
    (coded× coded_ℕ (coded× access_code (coded× (coded_option (coded_list slots))
    (coded× (contents_code replies (coded× coded_ℕ (coded_list ops)))
    (coded× budget_code (coded× (coded_list ops) coded_ℕ))))))
    (λ x. (x.number, (x.access, (x.view, (x.outbox, (x.budget, (x.will, x.will_number)))))))
    (λ p. record {
      number = p.0;
      access = p.1.0;
      view = p.1.1.0;
      outbox = p.1.1.1.0;
      budget = p.1.1.1.1.0;
      will = p.1.1.1.1.1.0;
      will_number = p.1.1.1.1.1.1;
    })
    (λ _. refl)
