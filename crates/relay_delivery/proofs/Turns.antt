-- The state that a follower holds after the frames of a turn, and the causes for which it may stop
-- before their end.
use Rattle.std.proofs.Common.{◌≡◌, ◌≢◌, ℕ, Bool, true, false, List, [], ◌∷◌, ◌++◌, Option, Some}
use Rattle.std.proofs.Common.{None, Result, Ok, Err, IfErr, OnOk, refl, sym, ◌∙◌, subst, nat_lt}
use Rattle.std.proofs.Common.{if◌then◌else◌}
use Rattle.std.specs.List.{AllByRecursion}
use Rattle.std.specs.Prelude.{IsUtf8, option_map}
use Rattle.relay_follow.specs.Hearing.{as_client, told, hear_fault, read_fault, apply_fault}
use Rattle.relay_follow.specs.declared.fault.HearFault.{HearFault}
use Rattle.relay_follow.specs.declared.fault.HearFault.TheVariants.{Order}
use Rattle.relay_hub.specs.Log.{Log}
use Rattle.relay_hub.specs.State.{State}
use Rattle.relay_hub.specs.declared.config.HubConfig.{HubConfig}
use Rattle.relay_hub.specs.declared.event.Event.{Event}
use Rattle.relay_link.specs.Follows.{with_events, drawn}
use Rattle.relay_link.specs.Frames.{text_frames}
use Rattle.relay_patch.specs.After.{after}
use Rattle.relay_patch.specs.Patch.{free}
use Rattle.relay_patch.specs.declared.fault.ApplyFault.{ApplyFault}
use Rattle.relay_proto.specs.Client.{Client, lost, client, led_to}
use Rattle.relay_proto.specs.MessageRead.{message_of_text}
use Rattle.relay_proto.specs.declared.message.Message.{Message}
use Rattle.relay_proto.specs.declared.message.Message.TheVariants as message
use Rattle.relay_tree.specs.Document.{Document}
use Rattle.relay_delivery.specs.Texts.{told_all, IsFaultOf, HearsAll}
use Rattle.relay_delivery.specs.Turn.{FramedTurn, Resumes, KeepsUp, Delivered}
use Rattle.relay_delivery.specs.declared.fault.ReceiveFault.{ReceiveFault}
use Rattle.relay_delivery.specs.declared.fault.ReceiveFault.TheVariants.{NotFrames, NotUtf8}
use Rattle.relay_delivery.specs.declared.fault.ReceiveFault.TheVariants.{NotText, Refused, NoMemory}
use Rattle.relay_delivery.proofs.Drawing.{Survives, hears, survives_told, Stays, stays_turn}
use Rattle.relay_delivery.proofs.Drawing.{holds_present}

-- a follower is never lost
found : (held : Option (ℕ × Document)) → as_client held ≢ lost
found None is = cc is
found (Some held) is = cc is

-- ---- a text that a client takes

by_revision : (held : ℕ
    × Document) (rev : ℕ) (r : Result Document ApplyFault) (newer : Bool) (fault : HearFault)
    → (if newer then led_to rev r else lost) ≢ lost
    → (if newer then apply_fault r else Some Order) ≡ Some fault → ⊥
by_revision held rev (Ok tree) true fault takes refuses = cc refuses
by_revision held rev (Err e) true fault takes refuses = takes refl
by_revision held rev r false fault takes refuses = takes refl

taken : (held : Option (ℕ × Document)) (o : Option Message) (m : Client) (fault : HearFault)
    → option_map (client (as_client held)) o ≡ Some m → m ≢ lost → read_fault held o ≡ Some fault
    → ⊥
taken held None m fault told takes refuses = cc told
taken held (Some (message.Reply r)) m fault told takes refuses = cc refuses
taken held (Some (message.Snapshot rev tree)) m fault told takes refuses = cc refuses
taken None (Some (message.Patch rev ops)) m fault told takes refuses = takes (cc told)
taken (Some held) (Some (message.Patch rev ops)) m fault told takes refuses =
    let is : client (as_client (Some held)) (message.Patch rev ops) ≡ m = cc told in
    by_revision held rev (after held.1 ops free) (nat_lt held.0 rev) fault (λ l.
    takes (sym is ∙ l)) refuses

-- the texts that are left after some
survives_rest : (c m next : Client) (heard rest : List (List ℕ)) → Survives c (heard ++ rest) next
    → told_all c heard ≡ Some m → Survives m rest next
survives_rest c m next [] rest survives is =
    let start : c ≡ m = cc is in
    subst (λ x. Survives x rest next) start survives
survives_rest c m next (text ∷ heard) rest (hears {m = n} _ told found more) is =
    survives_rest n m next heard rest more (rw told at is)

takes_next : (held : Option (ℕ
    × Document)) (next : Client) (text : List ℕ) (rest : List (List ℕ)) (fault : HearFault)
    → Survives (as_client held) (text ∷ rest) next → hear_fault held text ≡ Some fault → ⊥
takes_next held next text rest fault (hears {m = m} _ told found more) refuses =
    taken held (message_of_text text) m fault told found refuses

utf8_there : (heard rest : List (List ℕ)) (text : List ℕ)
    → AllByRecursion IsUtf8 (heard ++ text ∷ rest) → IsUtf8 text
utf8_there [] rest text all = all.0
utf8_there (first ∷ heard) rest text all = utf8_there heard rest text all.1

stops_for : (now : Option (ℕ
    × Document)) (next : Client) (rest : List (List ℕ)) (text : List ℕ) (fault : ReceiveFault)
    → IsUtf8 text → Survives (as_client now) (text ∷ rest) next → IsFaultOf fault now text
    → fault ≡ NoMemory
stops_for now next rest text NoMemory utf8 survives why = refl
stops_for now next rest text NotUtf8 utf8 survives why = absurd (why utf8)
stops_for now next rest text (Refused fault) utf8 survives why =
    absurd (takes_next now next text rest fault survives why)
stops_for now next rest text NotFrames utf8 survives why = absurd why
stops_for now next rest text NotText utf8 survives why = absurd why

-- ---- a turn

module _ (b : HubConfig) (E : Log) (hub next : State) (s : ℕ) (events : List Event)
    (frames : List ℕ)
    (old new : Option (ℕ × Document)) (turn : FramedTurn s hub next events frames)
    (resumes : Resumes b E s (as_client old) turn.follows)
    (keeps : KeepsUp b E hub s (as_client old)) where
  stays : Stays b (with_events turn.follows E) next s (as_client old) (drawn turn.follows)
  stays =
      stays_turn b E s turn.after (as_client old) turn.follows refl refl resumes keeps (found old)

  pub held : told_all (as_client old) (drawn turn.follows) ≡ Some (as_client new)
      → Delivered b (with_events turn.follows E) next s (as_client new)
  held told =
      let is : stays.client_is ≡ as_client new = cc (told, survives_told stays.survives) in
      subst (Delivered b (with_events turn.follows E) next s) is
      (holds_present b (with_events turn.follows E) next s stays.client_is stays.keeps)

  pub delivers : (result : Result (Unit {0}) ReceiveFault)
      → ((texts : List (List ℕ)) → frames ≡ text_frames texts
      → HearsAll IsFaultOf old new texts result)
      → OnOk result (Delivered b (with_events turn.follows E) next s (as_client new))
  delivers (Ok u) all = held (all (drawn turn.follows) turn.frames_are).heard
  delivers (Err fault) all = tt

  pub only_memory : (result : Result (Unit {0}) ReceiveFault)
      → ((texts : List (List ℕ)) → frames ≡ text_frames texts
      → HearsAll IsFaultOf old new texts result) → IfErr result (λ fault. fault ≡ NoMemory)
  only_memory (Ok u) all = tt
  only_memory (Err fault) all =
      let stop = (all (drawn turn.follows) turn.frames_are).stopped in
      let left =
      survives_rest (as_client old) (as_client new) stays.client_is stop.heard (stop.text
      ∷ stop.rest) (subst (λ texts.
      Survives (as_client old) texts stays.client_is) stop.all stays.survives) stop.holds in
      let utf8 =
      utf8_there stop.heard stop.rest stop.text
      (subst (AllByRecursion IsUtf8) stop.all turn.utf8) in
      stops_for new stays.client_is stop.rest stop.text fault utf8 left stop.why
