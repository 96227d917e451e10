-- The cause of a request's refusal, as replies state it.
use Rattle.std.specs.Prelude.{ℕ, Option, Some, None, option_map}
use Rattle.relay_patch.specs.declared.fault.Cause.{Cause}
use Rattle.relay_patch.specs.declared.fault.Cause.TheVariants as cause
use Rattle.relay_proto.specs.declared.refusal.Refusal.{Refusal}
use Rattle.relay_proto.specs.declared.reply.Reply.{Reply}
use Rattle.relay_proto.specs.declared.reply.Reply.TheVariants.{Refused}
use Rattle.relay_proto.specs.declared.word.Word.{Word}
use Rattle.relay_proto.specs.declared.word.Word.TheVariants as word
use Rattle.relay_room.specs.declared.fault.EditFault.{EditFault}
use Rattle.relay_room.specs.declared.fault.EditFault.TheVariants.{Exhausted, Stale, Apply}

-- the reply of a refusal
abbrev pub refused : Refusal → Reply
refused r = Refused r.id r.fault r.at None

-- the refusal of the request with that id, for that reason, at that place
abbrev pub refusal : ℕ → Word → Option ℕ → Refusal
refusal id w at = record { fault = w; id = Some id; at = at }

-- the word of a cause; out of memory is no refusal, and has none
abbrev pub cause_word : Cause → Option Word
cause_word cause.Missing = Some word.Missing
cause_word cause.NotIndex = Some word.NotIndex
cause_word cause.PastEnd = Some word.PastEnd
cause_word cause.NoContainer = Some word.NoContainer
cause_word cause.Root = Some word.Root
cause_word cause.IntoItself = Some word.IntoItself
cause_word cause.TestFailed = Some word.TestFailed
cause_word cause.TooDeep = Some word.TooDeep
cause_word cause.TooHeavy = Some word.TooHeavy
cause_word cause.NoMemory = None

-- the reply to an edit that its room refuses: with the place of the operation, if one is at fault,
-- and the present revision, if the edit is for another one
abbrev pub edit_refusal : ℕ → EditFault → Option Reply
edit_refusal id Exhausted = Some (refused (refusal id word.Exhausted None))
edit_refusal id (Stale present) = Some (Refused (Some id) word.Stale None (Some present))
edit_refusal id (Apply fault) =
    option_map (λ w. refused (refusal id w (Some fault.at))) (cause_word fault.cause)

-- the refusal of a resume from a future revision
abbrev pub future_refusal : ℕ → Refusal
future_refusal id = refusal id word.Future None
