-- The reply to a refused edit holds counts.
use Rattle.std.proofs.Common.{◌≡◌, ℕ, ◌≤◌, List, length, Option, Some, None, Err, arith, option_map}
use Rattle.relay_patch.specs.declared.bounds.TheConstants.Bounds.{DOCUMENT}
use Rattle.relay_patch.specs.declared.limits.TheConstants.PatchLimits.{REQUEST}
use Rattle.relay_patch.specs.declared.op.Op.{Op}
use Rattle.relay_patch.proofs.Places.{after-place}
use Rattle.relay_proto.specs.Written.{IsCount, IsCountOrNull, HasCounts}
use Rattle.relay_proto.specs.declared.reply.Reply.{Reply}
use Rattle.relay_proto.specs.declared.reply.Reply.TheVariants.{Refused}
use Rattle.relay_proto.specs.declared.word.Word.{Word}
use Rattle.relay_proto.specs.declared.word.Word.TheVariants as word
use Rattle.relay_room.specs.Edit.{edited}
use Rattle.relay_room.specs.Room.{State as Room, revision}
use Rattle.relay_room.specs.declared.fault.EditFault.{EditFault}
use Rattle.relay_room.specs.declared.fault.EditFault.TheVariants.{Exhausted, Stale, Apply}
use Rattle.relay_room.proofs.Edits.{edited_refused, stale_present}
use Rattle.relay_hub.specs.Refusal.{cause_word, edit_refusal, refused, refusal}

pub edit_refusal_counts : (room : Room) (id : ℕ) (base : Option ℕ) (patch : List Op)
    (fault : EditFault) (r : Reply) → IsCount id → IsCount (revision room)
    → length patch ≤ REQUEST.ops
    → edited room base patch ≡ Err fault → edit_refusal id fault ≡ Some r → HasCounts r
edit_refusal_counts room id base patch Exhausted r i last few unmade is =
    let same : refused (refusal id word.Exhausted None) ≡ r = cc in rw (← same) (i, tt, tt)
edit_refusal_counts room id base patch (Stale present) r i last few unmade is =
    let same : Refused (Some id) word.Stale None (Some present) ≡ r = cc in
    rw (← same, stale_present room base patch present unmade) (i, tt, last)
edit_refusal_counts room id base patch (Apply fault) r i last few unmade is =
    go (cause_word fault.cause) is
  where
    at : IsCountOrNull (Some fault.at)
    at =
        omega (
          arith,
          few,
          after-place room.document patch DOCUMENT fault
              (edited_refused room base patch fault unmade),
        )

    go : (w : Option Word) → option_map (λ w. refused (refusal id w (Some fault.at))) w ≡ Some r
        → HasCounts r
    go (Some w) h = let same : refused (refusal id w (Some fault.at)) ≡ r = cc in
        rw (← same) (i, at, tt)
    go None h = absurd (cc h)
