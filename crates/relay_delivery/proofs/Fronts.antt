-- A text that is drawn for a client that keeps up is a message, which does not lose the client, and
-- the client keeps up.
use Rattle.std.proofs.Common.{◌≡◌, ◌≢◌, inl, inr, ℕ, Bool, true, false, List, [], ◌∷◌, ◌++◌, Option}
use Rattle.std.proofs.Common.{Some, None, refl, sym, ◌∙◌, ap, subst, arith, append-nil, slice_get}
use Rattle.std.specs.List.{AllByRecursion}
use Rattle.std.specs.Prelude.{option_map}
use Rattle.relay_hub.specs.Log.{Log, Watching, documents, watching, view_message, hearing}
use Rattle.relay_hub.specs.Session.{Session, snapshot_of, patch_message, message_of, front_message}
use Rattle.relay_hub.specs.Session.{message_text, ReadsBack, later}
use Rattle.relay_hub.specs.Stands.{HoldsRevision, IsAtNamed, EachLeads, PatchFits, OutboxStands}
use Rattle.relay_hub.specs.Stands.{WatchStands, Follows, StandsFor}
use Rattle.relay_hub.specs.State.{State, RoomSessions, Home, index_of, session_in}
use Rattle.relay_hub.specs.Step.{Draws, InRoom, AtIndex, Step}
use Rattle.relay_hub.specs.declared.config.HubConfig.{HubConfig}
use Rattle.relay_hub.specs.declared.event.Answer.TheVariants.{Drawn}
use Rattle.relay_hub.specs.declared.event.Event.TheVariants.{Draw}
use Rattle.relay_hub.proofs.Follow.{client_after-append}
use Rattle.relay_hub.proofs.Frames.{here}
use Rattle.relay_outbox.specs.Outbox.{contents, first_of}
use Rattle.relay_patch.proofs.Fits.{within_flat}
use Rattle.relay_patch.specs.declared.bounds.TheConstants.Bounds.{DOCUMENT}
use Rattle.relay_patch.specs.declared.op.Op.{Op}
use Rattle.relay_proto.proofs.Writable.{patch_is_writable, snapshot_is_writable}
use Rattle.relay_proto.proofs.Written.{reply_text_back}
use Rattle.relay_proto.specs.Client.{Client, nothing, lost, client, client_after}
use Rattle.relay_proto.specs.MessageRead.{message_of_text}
use Rattle.relay_proto.specs.Written.{HasCounts}
use Rattle.relay_proto.specs.declared.message.Message.{Message}
use Rattle.relay_proto.specs.declared.message.Message.TheVariants as message
use Rattle.relay_proto.specs.declared.reply.Reply.{Reply}
use Rattle.relay_room.specs.Room.{State as Room, IsRoom, revision}
use Rattle.relay_tree.specs.Document.{Document}
use Rattle.relay_view.specs.View.{View, view}
use Rattle.relay_delivery.specs.Turn.{Tracks}

holds_one : (ds : List Document) (v : View) (rev : ℕ) (c : Client) → HoldsRevision ds v rev c
    → c ≢ lost
holds_one ds v rev c h is = subst (HoldsRevision ds v rev) is h

-- each of the messages leaves the client where it says
at_each : (ds : List Document) (v : View) (c : Client) (before after : List Message) (m : Message)
    → EachLeads ds v c (before ++ m ∷ after) → IsAtNamed ds v m (client (client_after c before) m)
at_each ds v c [] after m h = h.0
at_each ds v c (first ∷ before) after m h = at_each ds v (client c first) before after m h.1

-- the watching after a message
abbrev after_message : Watching → Message → Watching
after_message w m =
    record { view = w.view; start = w.start; heard = w.heard ++ view_message (Some m) }

-- the text of the message reads as it, it does not lose the client, and the client keeps up
pub record Leads (c : Client) (text : List ℕ) (o : Option Watching) : Type 0 where
  pub message : Message
  pub reads : message_of_text text ≡ Some message
  pub found : client c message ≢ lost
  pub tracks : Tracks (client c message) (hearing (Some text) o)

-- ---- the front of an outbox

leads_watch : (c : Client) (w : Watching) (m : Message) → message_of_text (message_text m) ≡ Some m
    → client c m ≢ lost → Tracks (client c m) (Some (after_message w m))
    → Leads c (message_text m) (Some w)
leads_watch c w m reads found tracks =
    let after : hearing (Some (message_text m)) (Some w) ≡ Some (after_message w m) =
    ap (λ o. Some (record { view = w.view; start = w.start; heard = w.heard ++ view_message o }))
    reads in
    record {
      message = m;
      reads = reads;
      found = found;
      tracks = subst (Tracks (client c m)) (sym after) tracks;
    }

module _ (ds : List Document) (room : Room) (is : IsRoom room) (w : Watching) (c : Client)
    (tracks : Tracks c (Some w)) (found : c ≢ lost) where
  -- a reply changes nothing
  tracks_reply : (r : Reply) → Tracks c (Some (after_message w (message.Reply r)))
  tracks_reply r =
      let same = append-nil w.heard in
      elim tracks [
        | inl held ↦ inl (held ∙ ap (client_after w.start) (sym same))
        | inr new ↦ inr (new.0, same ∙ new.1)
      ]

  one_more : (m : Message) → c ≡ client_after w.start w.heard
      → client c m ≡ client_after w.start (w.heard ++ m ∷ [])
  one_more m held = ap (λ x. client x m) held ∙ sym (client_after-append w.start w.heard (m ∷ []))

  -- a watch that starts from nothing does not begin with a patch
  no_patch : (rev : ℕ) (ops : List Op)
      → IsAtNamed ds w.view (message.Patch rev ops)
      (client (client_after w.start w.heard) (message.Patch rev ops)) → w.start ≡ nothing
      → w.heard ≡ [] → ⊥
  no_patch rev ops led start none = (rw (start, none) at led)

  tracks_patch : (rev : ℕ) (ops : List Op)
      → IsAtNamed ds w.view (message.Patch rev ops)
      (client (client_after w.start w.heard) (message.Patch rev ops))
      → (client c (message.Patch rev ops) ≢ lost)
      × Tracks (client c (message.Patch rev ops)) (Some (after_message w (message.Patch rev ops)))
  tracks_patch rev ops led =
      elim tracks [
        | inl held ↦ (
          rw held (holds_one ds w.view rev _ led),
          inl (one_more (message.Patch rev ops) held),
        )
        | inr new ↦ absurd (no_patch rev ops led new.0 new.1)
      ]

  tracks_snapshot : (rev : ℕ) (tree : Document)
      → Tracks (client c (message.Snapshot rev tree))
      (Some (after_message w (message.Snapshot rev tree)))
  tracks_snapshot rev tree =
      elim tracks [
        | inl held ↦ inl (one_more (message.Snapshot rev tree) held)
        | inr new ↦ inl (rw (new.0, new.1) refl)
      ]

  front_leads : (replies : List Reply) (patches : List (ℕ × List Op)) (due : Bool) (k : ℕ)
      → AllByRecursion HasCounts replies → AllByRecursion PatchFits patches
      → Follows ds w (later room w.view (contents replies patches due k)) → (m : Message)
      → message_of room (Some w.view) (first_of replies patches due) ≡ Some m
      → ReadsBack (Some m) → Leads c (message_text m) (Some w)
  front_leads (r ∷ replies) patches due k counts fit follows m front back =
      let same : m ≡ message.Reply r = cc front in
      rw same (leads_watch c w (message.Reply r) (reply_text_back r counts.0) found
      (tracks_reply r))
  front_leads [] (p ∷ patches) due k counts fit follows m front back =
      let same : m ≡ patch_message p = cc front in
      let reads = (rw same at back) (patch_is_writable p.0 p.1 fit.0.0 fit.0.1) in
      let led =
      at_each ds w.view w.start w.heard (later room w.view (contents [] patches due k))
      (patch_message p) follows.each in
      let goes = tracks_patch p.0 p.1 led in
      rw same (leads_watch c w (patch_message p) reads goes.0 goes.1)
  front_leads [] [] true k counts fit follows m front back =
      let same : m ≡ snapshot_of room w.view = cc front in
      let reads =
      (rw same at back) (snapshot_is_writable (revision room) w.view room.document
      is.history.last (within_flat DOCUMENT room.document room.document (omega arith)
      is.within)) in
      rw same (leads_watch c w (snapshot_of room w.view) reads (λ e.
      cc e) (tracks_snapshot (revision room) (view w.view room.document)))
  front_leads [] [] false k counts fit follows m front back = absurd (cc front)

-- for a session that watches nothing only replies wait
front_reply : (room : Room) (c : Client) (found : c
    ≢ lost) (pointers : Option View) (replies : List Reply) (patches : List (ℕ
    × List Op)) (due : Bool) → AllByRecursion HasCounts replies → patches ≡ [] → due ≡ false
    → (m : Message) → message_of room pointers (first_of replies patches due) ≡ Some m
    → Leads c (message_text m) None
front_reply room c found pointers (r ∷ replies) patches due counts none quiet m front =
    let same : m ≡ message.Reply r = cc front in
    rw same
    (record {
      message = message.Reply r;
      reads = reply_text_back r counts.0;
      found = found;
      tracks = tt;
    })
front_reply room c found pointers [] (p ∷ patches) due counts none quiet m front = absurd (cc none)
front_reply room c found pointers [] [] true counts none quiet m front = absurd (cc quiet)
front_reply room c found pointers [] [] false counts none quiet m front = absurd (cc front)

front_of_session : (ds : List Document) (room : Room) (x : Session) (most : ℕ) (c : Client)
    (o : Option Watching) (m : Message) → IsRoom room → OutboxStands most x
    → WatchStands ds room x o → Tracks c o → c ≢ lost
    → front_message room x ≡ Some m → ReadsBack (Some m) → Leads c (message_text m) o
front_of_session ds room x most c (Some w) m is outbox watched tracks found front back =
    front_leads ds room is w c tracks found x.outbox.replies x.outbox.patches x.outbox.due
    x.outbox.max_waiting_patches outbox.replies outbox.patches watched.1 m
    (rw watched.0 at front) back
front_of_session ds room x most c None m is outbox watched tracks found front back =
    front_reply room c found x.view x.outbox.replies x.outbox.patches x.outbox.due outbox.replies
    watched.1 watched.2 m front

-- ---- a draw of the session

module _ (b : HubConfig) (E : Log) (hub new : State) (s : ℕ) (c : Client) (text : List ℕ)
    (stands : StandsFor b E hub) (tracks : Tracks c (watching b E s)) (found : c ≢ lost) where
  of_front : (mine : Home hub s) (o : Option Message)
      → front_message mine.room.room_sessions.room mine.session ≡ o
      → Some text ≡ option_map message_text o → ReadsBack o
      → Leads c text (watching b E s)
  of_front mine None front is back = absurd (cc is)
  of_front mine (Some m) front is back =
      let r = mine.room in
      let at_home = here b E hub s mine stands in
      let same : text ≡ message_text m = cc is in
      rw same
      (front_of_session (documents E r.name) r.room_sessions.room mine.session
      b.max_waiting_patches c (watching b E s) m
      (stands.rooms r.index r.name r.room_sessions r.there).is
      at_home.1 at_home.2 tracks found front back)

  of_session : (index : ℕ) (name : List ℕ) (g h : RoomSessions) (o : Option Session)
      → slice_get hub.rooms index ≡ Some (name, g) → index_of hub s ≡ Some index
      → session_in g.sessions s ≡ o
      → Draws s o (Drawn (Some text)) g h → Leads c text (watching b E s)
  of_session index name g h None there at is draws = absurd draws
  of_session index name g h (Some x) there at is draws =
      of_front
      (record {
        room = record { index = index; name = name; room_sessions = g; there = there };
        session = x;
        at = at;
        is = is;
      }) (front_message g.room x) refl draws.0 draws.2

  of_room : (index : ℕ) (o : Option (List ℕ × RoomSessions)) → slice_get hub.rooms index ≡ o
      → index_of hub s ≡ Some index
      → InRoom index o hub (Drawn (Some text)) (λ g h.
      Draws s (session_in g.sessions s) (Drawn (Some text)) g h) new → Leads c text (watching b E s)
  of_room index None there at step = absurd (cc step.0)
  of_room index (Some home) there at step =
      of_session index home.0 home.1 step.0 (session_in home.1.sessions s) there at refl step.1

  of_index : (o : Option ℕ) → index_of hub s ≡ o
      → AtIndex o hub (Drawn (Some text)) (λ g h.
      Draws s (session_in g.sessions s) (Drawn (Some text)) g h) new → Leads c text (watching b E s)
  of_index None at step = absurd (cc step.0)
  of_index (Some index) at step = of_room index (slice_get hub.rooms index) refl at step

  pub drawn_leads : Step hub (Draw s) (Drawn (Some text)) new → Leads c text (watching b E s)
  drawn_leads step = of_index (index_of hub s) refl step
