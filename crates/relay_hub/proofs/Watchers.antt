-- A hub that stands for its log, for its watchers; and the changes of a refused edit.
use Rattle.std.proofs.Common.{◌≡◌, ◌≢◌, ℕ, zero, suc, ◌==◌, true, false, List, [], ◌∷◌, ◌++◌, map}
use Rattle.std.proofs.Common.{Option, Some, None, option_and_then, Ok, Err, refl, sym, ap, subst}
use Rattle.std.proofs.Common.{arith, inl, inr, slice_get, slice_set}
use Rattle.std.proofs.lemmas.Bool.Decides.{eqb_tells, nat_tests}
use Rattle.relay_patch.specs.declared.op.Op.{Op}
use Rattle.relay_view.specs.View.{View}
use Rattle.relay_proto.specs.Client.{Client, client, client_after}
use Rattle.relay_proto.specs.Request.{request_of_text}
use Rattle.relay_proto.specs.declared.message.Message.{Message}
use Rattle.relay_proto.specs.declared.refusal.Refusal.{Refusal}
use Rattle.relay_proto.specs.declared.reply.Reply.{Reply}
use Rattle.relay_proto.specs.declared.request.Request.TheVariants.{Edit}
use Rattle.relay_room.specs.Edit.{edited}
use Rattle.relay_room.specs.declared.fault.EditFault.{EditFault}
use Rattle.relay_tree.specs.Document.{Document}
use Rattle.relay_hub.specs.Log.{Log, Watching, documents, watching}
use Rattle.relay_hub.specs.Admitted.{admitted}
use Rattle.relay_hub.specs.Refusal.{refused, edit_refusal}
use Rattle.relay_hub.specs.Session.{Session, replied, later}
use Rattle.relay_hub.specs.Stands.{IsAtNamed, EachLeads, HoldsPresent, Follows, WatchStands}
use Rattle.relay_hub.specs.Stands.{StandsFor}
use Rattle.relay_hub.specs.State.{RoomSessions, State, RoomOf, Home, index_of, home_of, session_in}
use Rattle.relay_hub.specs.State.{session_of, without_sessions}
use Rattle.relay_hub.specs.Step.{OnlyAt, ChangesOnly, EditServed, Serves, Receives, with_room}
use Rattle.relay_hub.specs.Step.{InRoom, Step}
use Rattle.relay_hub.specs.Queries.{LeavesNoTrace}
use Rattle.relay_hub.specs.declared.config.HubConfig.{HubConfig}
use Rattle.relay_hub.specs.declared.event.Answer.TheVariants.{Heard}
use Rattle.relay_hub.specs.declared.event.Event.TheVariants.{Receive}
use Rattle.relay_hub.specs.declared.event.Heard.TheVariants.{Answered}
use Rattle.relay_hub.proofs.Follow.{client_after-append}
use Rattle.relay_hub.proofs.Frames.{here}
use Rattle.relay_hub.proofs.Lists.{slice_get-set, slice_get-set_other}

-- a session that has a room has it at an index
at_index : (hub : State) (s : ℕ) (home : List ℕ × RoomSessions) → home_of hub s ≡ Some home
    → (index : ℕ) × (index_of hub s ≡ Some index) × (slice_get hub.rooms index ≡ Some home)
at_index hub s home h = go (index_of hub s) refl h
  where
    go : (o : Option ℕ) → index_of hub s ≡ o
        → option_and_then (λ index. slice_get hub.rooms index) o ≡ Some home
        → (index : ℕ) × (index_of hub s ≡ Some index) × (slice_get hub.rooms index ≡ Some home)
    go (Some index) is at = (index, is, at)
    go None is at = absurd (cc at)

-- Watchers.

module _ (b : HubConfig) (E : Log) (hub : State) (s : ℕ) (name : List ℕ) (g : RoomSessions)
    (x : Session) (w : Watching) (stands : StandsFor b E hub) (there : home_of hub s
    ≡ Some (name, g))
    (is : session_in g.sessions s ≡ Some x) (watches : watching b E s ≡ Some w) where
  watcher : Follows (documents E name) w (later g.room w.view x.outbox)
  watcher =
      let p = at_index hub s (name, g) there in
      let mine : Home hub s =
      record {
        room = record { index = p.0; name = name; room_sessions = g; there = p.2 };
        session = x;
        at = p.1;
        is = is;
      } in
      let found : WatchStands (documents E name) g.room x (Some w) =
      rw watches at (here b E hub s mine stands).2 in
      found.1

  -- a client that applies what was drawn and what waits, in order, holds exactly its view of the
  -- present document
  pub exactly_held : HoldsPresent (documents E name) w.view
      (client_after w.start (w.heard ++ later g.room w.view x.outbox))
  exactly_held = watcher.exactly

  at_each : (ds : List Document) (v : View) (c : Client) (before after : List Message)
      (m : Message) → EachLeads ds v c (before ++ m ∷ after)
      → IsAtNamed ds v m (client (client_after c before) m)
  at_each ds v c [] after m h = h.0
  at_each ds v c (first ∷ before) after m h = at_each ds v (client c first) before after m h.1

  -- after each message it holds its view of the revision that the message names
  pub each_held : (before after : List Message) (m : Message)
      → w.heard ++ later g.room w.view x.outbox ≡ before ++ m ∷ after
      → IsAtNamed (documents E name) w.view m (client_after w.start (before ++ m ∷ []))
  each_held before after m split =
      rw (client_after-append w.start before (m ∷ []))
      (at_each (documents E name) w.view w.start before after m (rw split at watcher.each))

-- Refused edits.

same_rooms : (rooms : List (List ℕ
    × RoomSessions)) (index : ℕ) (name : List ℕ) (g h : RoomSessions)
    → slice_get rooms index ≡ Some (name, g) → h.room ≡ g.room
    → map without_sessions (slice_set rooms index (name, h)) ≡ map without_sessions rooms
same_rooms [] index name g h at same = refl
same_rooms (r ∷ rooms) zero name g h at same =
    let first : r ≡ (name, g) = cc in
    rw (first, same) refl
same_rooms (r ∷ rooms) (suc index) name g h at same =
    ap (λ rest. without_sessions r ∷ rest) (same_rooms rooms index name g h at same)

-- any session but s is found as before
others_found : (hub : State) (r : RoomOf hub) (h : RoomSessions) (s : ℕ) (y : Option Session)
    → OnlyAt s y r.room_sessions.sessions h.sessions
    → (t : ℕ) → s ≢ t → session_of (with_room r.index r.name h hub) t ≡ session_of hub t
others_found hub r h s y only t apart = go (index_of hub t)
  where
    found : List (List ℕ × RoomSessions) → Option ℕ → Option Session
    found rooms o =
        option_and_then (λ (home : List ℕ × RoomSessions).
        session_in home.1.sessions t) (option_and_then (λ p. slice_get rooms p) o)

    go : (o : Option ℕ) → found (slice_set hub.rooms r.index (r.name, h)) o ≡ found hub.rooms o
    go None = refl
    go (Some p) =
        elim (eqb_tells p r.index) [
          | inl same ↦
              let other : (s == t) ≡ false = grind (arith, nat_tests, apart) in
              rw (
                same.1,
                slice_get-set hub.rooms r.index (r.name, r.room_sessions) (
                  r.name,
                  h,
                ) r.there,
                r.there,
                only.found t,
                other,
              ) refl
          | inr differs ↦ rw (slice_get-set_other hub.rooms r.index p (r.name, h) differs.1) refl
        ]

-- a room in which one session alone differs
leaves_no_trace : (hub : State) (s : ℕ) (r : RoomOf hub) (h : RoomSessions) (y : Session)
    → index_of hub s ≡ Some r.index → ChangesOnly s (Some y) r.room_sessions h
    → LeavesNoTrace s y hub (with_room r.index r.name h hub)
leaves_no_trace hub s r h y at changes =
    let same : (s == s) ≡ true = grind (arith, nat_tests) in
    record {
      rooms = same_rooms hub.rooms r.index r.name r.room_sessions h r.there changes.0;
      homes = refl;
      wills = refl;
      next = refl;
      others = others_found hub r h s (Some y) changes.1;
      sender =
          rw (
            at,
            slice_get-set hub.rooms r.index (r.name, r.room_sessions) (r.name, h) r.there,
            changes.1.found s,
            same,
          ) refl;
    }

-- the effect of an answered text in the room of its sender, which is x
module _ (old new : State) (s short : ℕ) (text : List ℕ) (name : List ℕ) (g : RoomSessions)
    (x : Session) (there : home_of old s ≡ Some (name, g)) (is : session_in g.sessions s ≡ Some x)
    (step : Step old (Receive s text) (Heard (Answered short)) new) where
  done : (h : RoomSessions)
      × Serves old.config s x
      (admitted old.config.view_weight x.access (request_of_text text)) short g
      h × ((y : Session) → ChangesOnly s (Some y) g h → LeavesNoTrace s y old new)
  done =
      let p = at_index old s (name, g) there in
      let answer = Heard (Answered short) in
      let Does : RoomSessions → RoomSessions → Type 0 =
      λ g h. Receives old.config s (session_in g.sessions s) text answer g h in
      let at_home : InRoom p.0 (Some (name, g)) old answer Does new = rw (p.1, p.2) at step in
      let h = at_home.0 in
      let received : Receives old.config s (Some x) text answer g h = rw is at at_home.1 in (
        h,
        received.1,
        λ y changes.
            subst (λ hub. LeavesNoTrace s y old hub) (sym at_home.2)
            (leaves_no_trace old s
            (record { index = p.0; name = name; room_sessions = g; there = p.2 }) h y p.1
            changes),
      )

  -- a refused edit changes no room and no other session, and adds one reply to the sender's, if it
  -- is refused when it is read
  pub unread_no_trace : (r : Refusal)
      → admitted old.config.view_weight x.access (request_of_text text) ≡ Err r
      → LeavesNoTrace s (replied (refused r) x) old new
  unread_no_trace r read =
      let served : (short ≡ 0) × ChangesOnly s (Some (replied (refused r) x)) g done.0 =
      rw read at done.1 in
      done.2 (replied (refused r) x) served.1

  -- and the same if the room refuses it
  pub unmade_no_trace : (id : ℕ) (base : Option ℕ) (patch : List Op) (fault : EditFault)
      → admitted old.config.view_weight x.access (request_of_text text) ≡ Ok (Edit id base patch)
      → edited g.room base patch ≡ Err fault
      → (r : Reply) × (edit_refusal id fault ≡ Some r) × LeavesNoTrace s (replied r x) old new
  unmade_no_trace id base patch fault read unmade =
      let served : EditServed old.config s x id patch (Err fault) short g done.0 =
      rw (read, unmade) at done.1 in
      (served.1, served.2, done.2 (replied served.1 x) served.3)
