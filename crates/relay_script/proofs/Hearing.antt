-- Lemmas about the texts that a follower receives.
use Rattle.std.proofs.Common.{◌≡◌, ◌≢◌, ℕ, List, Bool, true, Option, Some, None, option_map, Result}
use Rattle.std.proofs.Common.{Ok, Err, nat_lt, if◌then◌else◌, refl, OnOk, OnErr, IfErr}
use Rattle.std.specs.Result.{result_err}
use Rattle.std.specs.Str.{IsUtf8}
use Rattle.relay_tree.specs.Document.{Document}
use Rattle.relay_patch.specs.Patch.{free}
use Rattle.relay_patch.specs.After.{after}
use Rattle.relay_patch.specs.declared.fault.ApplyFault.{ApplyFault}
use Rattle.relay_proto.specs.declared.message.Message.{Message}
use Rattle.relay_proto.specs.declared.message.Message.TheVariants.{Patch}
use Rattle.relay_proto.specs.MessageRead.{message_of_text}
use Rattle.relay_proto.specs.Client.{lost, led_to, client}
use Rattle.relay_follow.specs.Hearing.{as_client, told, apply_fault, message_fault, read_fault}
use Rattle.relay_follow.specs.Hearing.{hear_fault}
use Rattle.relay_follow.specs.declared.fault.HearFault.{HearFault}
use Rattle.relay_follow.specs.declared.fault.HearFault.TheVariants.{Order, NoMemory}
use Rattle.relay_script.specs.Follow.{Takes}

-- the client of a follower is not lost
not_lost : (next : Option (ℕ × Document)) → lost ≡ as_client next → ⊥
not_lost None e = cc
not_lost (Some held) e = cc

-- a patch that gives a next state has no fault
patched_well : (later : Bool) (rev : ℕ) (made : Result Document ApplyFault) (next : Option (ℕ
    × Document))
    → (if later then led_to rev made else lost) ≡ as_client next
    → (if later then apply_fault made else Some Order) ≡ None
patched_well true rev (Ok tree) next e = refl
patched_well _ rev _ next e = absurd (not_lost next e)

-- a message that gives a next state has no fault
followed_well : (held : Option (ℕ × Document)) (m : Message) (next : Option (ℕ × Document))
    → client (as_client held) m ≡ as_client next
    → message_fault held m ≡ None
followed_well None (Patch rev ops) next e = absurd (not_lost next e)
followed_well (Some held) (Patch rev ops) next e =
    patched_well (nat_lt held.0 rev) rev (after held.1 ops free) next e
followed_well held _ next e = refl

read_well : (held : Option (ℕ × Document)) (read : Option Message) (next : Option (ℕ × Document))
    → option_map (client (as_client held)) read ≡ Some (as_client next)
    → read_fault held read ≡ None
read_well held None next e = cc
read_well held (Some m) next e = followed_well held m next (cc)

-- a text that gives a next state has no fault
pub heard_well : (held : Option (ℕ × Document)) (text : List ℕ) (next : Option (ℕ × Document))
    → told (as_client held) text ≡ Some (as_client next)
    → hear_fault held text ≡ None
heard_well held text next e = read_well held (message_of_text text) next e

-- a text that was received was applied, or was refused with its fault
pub Takes-heard : (held : Option (ℕ
    × Document)) (text : List ℕ) (r : Result (Unit {0}) HearFault) (next : Option (ℕ
    × Document)) → IsUtf8 text
    → OnOk r (told (as_client held) text ≡ Some (as_client next))
    → IfErr r (λ fault. fault ≢ NoMemory → hear_fault held text ≡ Some fault)
    → OnErr r (next ≡ held) → Takes held text (result_err r) next
Takes-heard held text (Ok u) next utf8 ok fault same = (utf8, heard_well held text next ok, ok)
Takes-heard held text (Err NoMemory) next utf8 ok fault same = (same, utf8)
Takes-heard held text _ next utf8 ok fault same =
    (same, λ _. fault (λ e. cc), λ none. absurd (none utf8))
