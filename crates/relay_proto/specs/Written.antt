-- Messages and wills that round-trip: their members have the forms that the reader accepts, so that
-- their text reads back as the message or the will.
use Rattle.std.specs.Prelude.{◌≡◌, ℕ, ◌≤◌, List, length, Option, Some, None, true}
use Rattle.std.specs.List.{AllByRecursion}
use Rattle.serde_json.specs.Data.{depth}
use Rattle.serde_json.specs.Read.{max_depth}
use Rattle.relay_tree.specs.Count.{count_most}
use Rattle.relay_tree.specs.Text.{data_of, text_of}
use Rattle.relay_patch.specs.Sizes.{IsShort}
use Rattle.relay_patch.specs.Weight.{ops_weight}
use Rattle.relay_patch.specs.declared.limits.TheConstants.PatchLimits.{REQUEST, RELAYED}
use Rattle.relay_patch.specs.declared.op.Op.{Op}
use Rattle.relay_patch.specs.declared.op.Op.TheVariants.{Add, Remove, Replace, Move, Copy, Test}
use Rattle.relay_proto.specs.Message.{message_document, will_request}
use Rattle.relay_proto.specs.MessageRead.{is_view}
use Rattle.relay_proto.specs.declared.reading.TheConstants.{MAX_REQUEST, MAX_WILL_WEIGHT}
use Rattle.relay_proto.specs.declared.message.Message.{Message}
use Rattle.relay_proto.specs.declared.message.Message.TheVariants as message
use Rattle.relay_proto.specs.declared.reply.Reply.{Reply}
use Rattle.relay_proto.specs.declared.reply.Reply.TheVariants as reply

abbrev pub IsCount : ℕ → Type 0
IsCount n = n ≤ count_most

-- a count, or none
abbrev pub IsCountOrNull : Option ℕ → Type 0
IsCountOrNull (Some n) = IsCount n
IsCountOrNull None = Unit {0}

abbrev pub HasCounts : Reply → Type 0
HasCounts (reply.Welcome epoch rev session) = IsCount epoch × IsCount rev × IsCount session
HasCounts (reply.Done id rev) = IsCount id × IsCount rev
HasCounts (reply.Refused id fault at rev) = IsCountOrNull id × IsCountOrNull at × IsCountOrNull rev
HasCounts (reply.Willing id) = IsCount id
HasCounts (reply.Watching id) = IsCount id
HasCounts (reply.Resumed id how) = IsCount id
HasCounts (reply.Unwatched id) = IsCount id

-- each path has at most n tokens
abbrev pub HasShortPaths : ℕ → Op → Type 0
HasShortPaths n (Add path v) = IsShort n path
HasShortPaths n (Remove path) = IsShort n path
HasShortPaths n (Replace path v) = IsShort n path
HasShortPaths n (Move from path) = IsShort n from × IsShort n path
HasShortPaths n (Copy from path) = IsShort n from × IsShort n path
HasShortPaths n (Test path v) = IsShort n path

-- the members have the forms that their kind of message requires
abbrev pub HasForms : Message → Type 0
HasForms (message.Reply r) = HasCounts r
HasForms (message.Patch rev ops) = IsCount rev × AllByRecursion (HasShortPaths RELAYED.tokens) ops
HasForms (message.Snapshot rev view) = IsCount rev × (is_view view ≡ true)

-- the text nests at most 127 containers
abbrev pub IsShallow : Message → Type 0
IsShallow m = depth (data_of (message_document m)) ≤ max_depth

abbrev pub IsWritable : Message → Type 0
IsWritable m = HasForms m × IsShallow m

-- a will that a request can hold: it is within the limits of a request's patch, weighs no more than
-- a will may, and its text is no longer than a request's and nests at most 127 containers
pub record IsWritableWill (ops : List Op) : Type 0 where
  pub few : length ops ≤ REQUEST.ops
  pub short : AllByRecursion (HasShortPaths REQUEST.tokens) ops
  pub light : ops_weight ops ≤ MAX_WILL_WEIGHT
  pub shallow : depth (data_of (will_request ops)) ≤ max_depth
  pub brief : length (text_of (will_request ops)) ≤ MAX_REQUEST
