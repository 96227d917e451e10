-- Draws: the text that is drawn reads as its message, which was waiting and is now received.
use Rattle.std.proofs.Common.{◌≡◌, ℕ, ◌==◌, Bool, true, false, List, [], ◌∷◌, ◌++◌, Option, Some}
use Rattle.std.proofs.Common.{None, refl, sym, ap, subst, arith, append_assoc}
use Rattle.std.specs.List.{AllByRecursion}
use Rattle.std.specs.Prelude.{⊤, option_map}
use Rattle.std.proofs.lemmas.Bool.Decides.{nat_tests}
use Rattle.relay_outbox.specs.Outbox.{contents, first_of, rest_of}
use Rattle.relay_patch.specs.declared.bounds.TheConstants.Bounds.{DOCUMENT}
use Rattle.relay_patch.specs.declared.op.Op.{Op}
use Rattle.relay_patch.proofs.Fits.{within_flat}
use Rattle.relay_view.specs.View.{View}
use Rattle.relay_proto.specs.MessageRead.{message_of_text}
use Rattle.relay_proto.specs.Written.{HasCounts}
use Rattle.relay_proto.specs.declared.message.Message.{Message}
use Rattle.relay_proto.specs.declared.message.Message.TheVariants as message
use Rattle.relay_proto.specs.declared.reply.Reply.{Reply}
use Rattle.relay_proto.proofs.Writable.{patch_is_writable, snapshot_is_writable}
use Rattle.relay_proto.proofs.Written.{reply_text_back}
use Rattle.relay_room.specs.Room.{State as Room, IsRoom, revision}
use Rattle.relay_tree.specs.Document.{Document}
use Rattle.relay_hub.specs.Log.{Log, Watching, entry, documents, view_message, hearing, watching}
use Rattle.relay_hub.specs.Session.{Session, session_with, snapshot_of, patch_message, message_of}
use Rattle.relay_hub.specs.Session.{message_text, ReadsBack, drawn, later}
use Rattle.relay_hub.specs.Stands.{PatchFits, WatchStands, Follows, StandsFor}
use Rattle.relay_hub.specs.State.{RoomSessions, State, Home}
use Rattle.relay_hub.specs.Step.{Draws, with_room}
use Rattle.relay_hub.specs.declared.config.HubConfig.{HubConfig}
use Rattle.relay_hub.specs.declared.event.Answer.TheVariants.{Drawn}
use Rattle.relay_hub.specs.declared.event.Event.TheVariants.{Draw}
use Rattle.relay_hub.proofs.Frames.{session_changes, here}
use Rattle.relay_hub.proofs.Waiting.{outbox_drawn}

-- the text reads as the message
abbrev Reads : Option Message → Type 0
Reads (Some m) = message_of_text (message_text m) ≡ Some m
Reads None = ⊤

-- the front of an outbox whose messages round-trip reads as itself
front_reads : (room : Room) (pointers : Option View) (replies : List Reply) (patches : List (ℕ
    × List Op)) (due : Bool) → IsRoom room
    → AllByRecursion HasCounts replies → AllByRecursion PatchFits patches
    → ReadsBack (message_of room pointers (first_of replies patches due))
    → Reads (message_of room pointers (first_of replies patches due))
front_reads room pointers (r ∷ replies) patches due is counts fit back = reply_text_back r counts.0
front_reads room pointers [] (p ∷ patches) due is counts fit back =
    back (patch_is_writable p.0 p.1 fit.0.0 fit.0.1)
front_reads room (Some v) [] [] true is counts fit back =
    back (snapshot_is_writable (revision room) v room.document is.history.last
    (within_flat DOCUMENT room.document room.document (omega arith) is.within))
front_reads room None [] [] true is counts fit back = tt
front_reads room pointers [] [] false is counts fit back = tt

-- what is received was waiting
hears : (ds : List Document) (w : Watching) (m : Message) (waiting : List Message)
    → Follows ds w (view_message (Some m) ++ waiting)
    → Follows ds
    (record { view = w.view; start = w.start; heard = w.heard ++ view_message (Some m) }) waiting
hears ds w m waiting h =
    let e = append_assoc w.heard (view_message (Some m)) waiting in
    record { each = rw e h.each; exactly = rw e h.exactly }

-- the watching after a message that its text reads as
abbrev after_message : Watching → Message → Option Watching
after_message w m =
    Some (record { view = w.view; start = w.start; heard = w.heard ++ view_message (Some m) })

heard_message : (w : Watching) (m : Message) → message_of_text (message_text m) ≡ Some m
    → hearing (Some (message_text m)) (Some w) ≡ after_message w m
heard_message w m reads =
    ap (λ o. Some (record { view = w.view; start = w.start; heard = w.heard ++ view_message o }))
    reads

watch_drawn : (ds : List Document) (room : Room) (x : Session) (pointers : Option View)
    (replies : List Reply) (patches : List (ℕ × List Op)) (due : Bool) (k : ℕ) (w : Option Watching)
    → Reads (message_of room pointers (first_of replies patches due))
    → WatchStands ds room (session_with pointers (contents replies patches due k) x) w
    → WatchStands ds room (session_with pointers (rest_of replies patches due k) x)
    (hearing (option_map message_text (message_of room pointers (first_of replies patches due))) w)
watch_drawn ds room x pointers (r ∷ replies) patches due k (Some w) reads h =
    let m = message.Reply r in
    subst (λ after.
    WatchStands ds room (session_with pointers (contents replies patches due k) x) after)
    (sym (heard_message w m reads))
    (h.0, hears ds w m (later room w.view (contents replies patches due k)) h.1)
watch_drawn ds room x pointers [] (p ∷ patches) due k (Some w) reads h =
    let m = patch_message p in
    subst (λ after.
    WatchStands ds room (session_with pointers (contents [] patches due k) x) after)
    (sym (heard_message w m reads))
    (h.0, hears ds w m (later room w.view (contents [] patches due k)) h.1)
watch_drawn ds room x (Some v) [] [] true k (Some w) reads h =
    let same : v ≡ w.view = cc in
    let m = snapshot_of room v in
    subst (λ after. WatchStands ds room (session_with (Some v) (contents [] [] false k) x) after)
    (sym (heard_message w m reads)) (h.0, hears ds w m [] (rw same h.1))
watch_drawn ds room x None [] [] true k (Some w) reads h = absurd (cc h.0)
watch_drawn ds room x pointers [] (p ∷ patches) due k None reads h = absurd (cc h.1)
watch_drawn ds room x pointers [] [] true k None reads h = absurd (cc h.2)
watch_drawn ds room x pointers _ _ _ k _ reads h = h

-- a draw of session s, which is open
pub draw_stands : (b : HubConfig) (E : Log) (old : State) (s : ℕ) (mine : Home old s)
    (h : RoomSessions) (text : Option (List ℕ)) → StandsFor b E old
    → Draws s (Some mine.session) (Drawn text) mine.room.room_sessions h
    → StandsFor b (entry (Draw s) (Drawn text) ∷ E) (with_room mine.room.index mine.room.name h old)
draw_stands b E old s mine h text stands step =
    let r = mine.room in
    let x = mine.session in
    let o = x.outbox in
    let at_home = here b E old s mine stands in
    let reads =
    front_reads r.room_sessions.room x.view o.replies o.patches o.due
    (stands.rooms r.index r.name r.room_sessions r.there).is at_home.1.replies
    at_home.1.patches step.2 in
    let same : (s == s) ≡ true = grind (arith, nat_tests) in
    session_changes b E (entry (Draw s) (Drawn text)) old r h stands (λ other apart.
    refl) (λ other apart. refl)
    refl refl (record { opened = refl; count = refl; rooms = λ name. refl })
    (λ other. refl)
    s (drawn x) mine.at at_home.0 step.1
    (λ t apart. let other : (s == t) ≡ false = grind (arith, nat_tests, apart) in
    (refl, rw other refl))
    (outbox_drawn b.max_waiting_patches x at_home.1)
    (rw (same, step.0) (watch_drawn (documents E r.name) r.room_sessions.room x x.view o.replies
    o.patches o.due o.max_waiting_patches (watching b E s) reads at_home.2))
