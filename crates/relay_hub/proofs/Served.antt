-- Requests, and what they leave of the hub: an accepted edit adds a document to its room and
-- notifies the watchers; any other request is answered, and leaves the documents unchanged.
use Rattle.std.proofs.Common.{◌≡◌, ◌≢◌, ℕ, ◌<◌, ◌≤◌, ◌==◌, inl, inr, Bool, true, false, List, []}
use Rattle.std.proofs.Common.{◌∷◌, ◌++◌, length, get_or, Option, Some, None, option_map, Result, Ok}
use Rattle.std.proofs.Common.{Err, refl, sym, ◌∙◌, ap, arith, slice_get, nat_lt, nat_le}
use Rattle.std.proofs.Common.{if◌then◌else◌}
use Rattle.std.specs.Result.{result_ok}
use Rattle.std.proofs.lemmas.Bool.{cases_lt}
use Rattle.std.proofs.lemmas.Bool.Decides.{nat_tests}
use Rattle.std.proofs.lemmas.Option.{slice_get-get_or, slice_get_past}
use Rattle.relay_history.specs.History.{Reaches, oldest}
use Rattle.relay_outbox.specs.Outbox.{with_reply, cleared}
use Rattle.relay_patch.specs.Change.{all_changes}
use Rattle.relay_patch.specs.declared.op.Op.{Op}
use Rattle.relay_proto.specs.Client.{nothing, holds}
use Rattle.relay_proto.specs.Request.{request_of_text}
use Rattle.relay_proto.specs.Written.{IsCount, HasCounts}
use Rattle.relay_proto.specs.declared.refusal.Refusal.{Refusal}
use Rattle.relay_proto.specs.declared.reply.ResumeOutcome.TheVariants as how
use Rattle.relay_proto.specs.declared.reply.Reply.{Reply}
use Rattle.relay_proto.specs.declared.reply.Reply.TheVariants.{Done, Willing, Watching, Resumed}
use Rattle.relay_proto.specs.declared.reply.Reply.TheVariants.{Unwatched}
use Rattle.relay_proto.specs.declared.request.Request.{Request}
use Rattle.relay_proto.specs.declared.request.Request.TheVariants.{Edit, Will, Watch, Resume}
use Rattle.relay_proto.specs.declared.request.Request.TheVariants.{Unwatch}
use Rattle.relay_room.specs.CatchUp.{caught_up_within, LeadsOn, Fits}
use Rattle.relay_room.specs.Edit.{edited}
use Rattle.relay_room.specs.Room.{State as Room, revision}
use Rattle.relay_room.specs.declared.catch_up.CatchUp.{CatchUp}
use Rattle.relay_room.specs.declared.catch_up.CatchUp.TheVariants.{Nothing, Patch, Snapshot}
use Rattle.relay_room.specs.declared.fault.EditFault.{EditFault}
use Rattle.relay_room.proofs.Missed.{caught_up_present}
use Rattle.relay_tree.specs.Document.{Document, null}
use Rattle.relay_tree.specs.declared.budget.Budget.{Budget}
use Rattle.relay_view.specs.View.{View, view}
use Rattle.relay_hub.specs.Admitted.{permitted, affordable, admitted}
use Rattle.relay_hub.specs.Log.{Log, Watching as Watched, stay_after, willed, begun, entry}
use Rattle.relay_hub.specs.Log.{home, documents, beginning, requested, asked, asked_at_home}
use Rattle.relay_hub.specs.Log.{watching}
use Rattle.relay_hub.specs.Refusal.{refused, edit_refusal, future_refusal}
use Rattle.relay_hub.specs.Session.{Session, session_with, with_will, replied, leaves_will, watches}
use Rattle.relay_hub.specs.Session.{unwatches, resumes}
use Rattle.relay_hub.specs.Stands.{RoomStands, OutboxStands, WatchStands, SessionStands, stay_of}
use Rattle.relay_hub.specs.Stands.{StandsFor}
use Rattle.relay_hub.specs.State.{RoomSessions, State, Home, session_in}
use Rattle.relay_hub.specs.Step.{ChangesOnly, EditServed, ResumeServed, with_room}
use Rattle.relay_hub.specs.declared.config.HubConfig.{HubConfig}
use Rattle.relay_hub.specs.declared.event.Answer.TheVariants.{Heard}
use Rattle.relay_hub.specs.declared.event.Event.TheVariants.{Receive}
use Rattle.relay_hub.specs.declared.event.Heard.TheVariants.{Answered}
use Rattle.relay_proto.proofs.Counts.{request_counts}
use Rattle.relay_hub.proofs.Admissions.{admitted_sent, other_sent, refused_adds, refused_wills}
use Rattle.relay_hub.proofs.Admissions.{refused_asks, refused_counts}
use Rattle.relay_hub.proofs.Cases.{by_number}
use Rattle.relay_hub.proofs.Documents.{goes_on_stands, trimmed_stands}
use Rattle.relay_hub.proofs.Edits.{same_edit, notified_session}
use Rattle.relay_hub.proofs.Follow.{Follows-snapshot, level_follows, resumed_follows}
use Rattle.relay_hub.proofs.Frames.{room_changes, session_changes, session_stands, here}
use Rattle.relay_hub.proofs.Rooms.{one_added, none_added, others_stay}
use Rattle.relay_hub.proofs.Notified.{each_notified}
use Rattle.relay_hub.proofs.Waiting.{outbox_replied, outbox_folded, outbox_cleared, outbox_patched}

-- a reply changes nothing that a watcher holds
pub watch_replied : (ds : List Document) (room : Room) (x : Session) (r : Reply)
    (w : Option Watched) → WatchStands ds room x w → WatchStands ds room (replied r x) w
watch_replied ds room x r (Some w) h = h
watch_replied ds room x r None h = h

-- nor does a will
watch_willing : (ds : List Document) (room : Room) (x : Session) (patch : List Op)
    (w : Option Watched) → WatchStands ds room x w → WatchStands ds room (with_will patch x) w
watch_willing ds room x patch (Some w) h = h
watch_willing ds room x patch None h = h

outbox_willing : (most : ℕ) (x : Session) (patch : List Op) → OutboxStands most x
    → OutboxStands most (with_will patch x)
outbox_willing most x patch h =
    record { max_waiting_patches = h.max_waiting_patches; replies = h.replies; patches = h.patches }

-- a session that watches from now on, with a snapshot due
watch_begun : {from : ℕ} (most : HubConfig) (ds : List Document) (room : Room) (v : View)
    → RoomStands most from ds room → (id : ℕ) (x : Session)
    → WatchStands ds room (watches id v x) (Some (begun v nothing))
watch_begun most ds room v h id x = (refl, Follows-snapshot most ds (begun v nothing) room h tt)

-- Resuming.

-- a resume from a revision is answered without a snapshot only if the history reaches back to that
-- revision
reached : (budget : Budget) (room : Room) (rev : ℕ) (v : View)
    → caught_up_within budget room rev v ≢ Snapshot → rev ≤ revision room → Reaches room.history rev
reached budget room rev v other past = go (nat_lt rev (oldest room.history)) refl
  where
    go : (x : Bool) → nat_lt rev (oldest room.history) ≡ x → Reaches room.history rev
    go true e = absurd (other (rw e refl))
    go false e = record { back = grind (arith, nat_tests, e); made = past }

watch_resumed : {from : ℕ} (most : HubConfig) (ds : List Document) (room : Room) (rev id : ℕ)
    (v : View) (d : Document) (up : CatchUp) (x : Session) → RoomStands most from ds room
    → slice_get ds rev ≡ Some d
    → rev ≤ revision room → caught_up_within x.budget room rev v ≡ up → LeadsOn room rev v up
    → WatchStands ds room (resumes (revision room) id v up x)
    (Some (begun v (holds rev (view v d))))
watch_resumed most ds room rev id v d Nothing x h at past is leads =
    let reach = reached x.budget room rev v (λ e. absurd (cc (is, e))) past in
    (refl, level_follows most ds v room rev d h at (leads d (h.led rev d at reach)))
watch_resumed most ds room rev id v d (Patch ops) x h at past is leads =
    let reach = reached x.budget room rev v (λ e. absurd (cc (is, e))) past in
    let earlier : rev < revision room =
    elim (cases_lt rev (revision room)) [
      | inl below ↦ below
      | inr above ↦ absurd (cc (
        is,
        caught_up_present x.budget room rev v (omega (arith, past, above)),
      ))
    ] in (
      refl,
      resumed_follows most ds v room rev d ops x.budget
          (cleared (with_reply (Resumed id how.Patch) x.outbox)) h earlier
          (leads d (h.led rev d at reach)) refl refl,
    )
watch_resumed most ds room rev id v d Snapshot x h at past is leads =
    (refl, Follows-snapshot most ds (begun v (holds rev (view v d))) room h tt)

outbox_resumed : (most rev id : ℕ) (v : View) (up : CatchUp) (x : Session) → IsCount id
    → IsCount rev → Fits up → OutboxStands most x → OutboxStands most (resumes rev id v up x)
outbox_resumed most rev id v Nothing x i r fits h =
    outbox_cleared most (replied (Resumed id how.Nothing) x) (Some v)
    (outbox_replied most x (Resumed id how.Nothing) i h)
outbox_resumed most rev id v (Patch ops) x i r fits h =
    outbox_patched most rev ops
    (session_with (Some v) (cleared (with_reply (Resumed id how.Patch) x.outbox)) x) (Some v)
    (r, fits) (outbox_cleared most (replied (Resumed id how.Patch) x) (Some v)
    (outbox_replied most x (Resumed id how.Patch) i h))
outbox_resumed most rev id v Snapshot x i r fits h =
    outbox_folded most (replied (Resumed id how.Snapshot) x) (Some v)
    (outbox_replied most x (Resumed id how.Snapshot) i h)

-- a session that resumes may do what it might, and has its will
resumes_same : (name : List ℕ) (rev id : ℕ) (v : View) (up : CatchUp) (x : Session)
    → stay_of name (resumes rev id v up x) ≡ stay_of name x
resumes_same name rev id v Nothing x = refl
resumes_same name rev id v (Patch ops) x = refl
resumes_same name rev id v Snapshot x = refl

-- A request of session s, which is open.

module _ (b : HubConfig) (E : Log) (old : State) (s : ℕ) (mine : Home old s) (h : RoomSessions)
    (short : ℕ) (text : List ℕ) (stands : StandsFor b E old) where
  abbrev g : RoomSessions
  g = mine.room.room_sessions

  abbrev x : Session
  x = mine.session

  abbrev ds : List Document
  ds = documents E mine.room.name

  -- the hub in which the room of s is h
  abbrev next : State
  next = with_room mine.room.index mine.room.name h old

  was : RoomStands b (beginning E mine.room.name) ds g.room
  was = stands.rooms mine.room.index mine.room.name g mine.room.there

  at_home : (home E s ≡ Some (stay_of mine.room.name x))
      × OutboxStands b.max_waiting_patches x × WatchStands ds g.room x (watching b E s)
  at_home = here b E old s mine stands

  -- what the session sent
  abbrev sent : Result Request Refusal
  sent = request_of_text text

  -- a request that adds no document, and that changes the session alone
  pub served : (y : Session)
      → stay_of mine.room.name y ≡ stay_after (stay_of mine.room.name x) (permitted x.access sent)
      → requested ds (permitted x.access sent) ≡ None → ChangesOnly s (Some y) g h
      → OutboxStands b.max_waiting_patches y
      → WatchStands ds g.room y (asked b.epoch ds (watching b E s) (affordable b.view_weight sent))
      → StandsFor b (entry (Receive s text) (Heard (Answered short)) ∷ E) next
  served y stays none changes contents watch =
      let e = entry (Receive s text) (Heard (Answered short)) in
      let same : (s == s) ≡ true = grind (arith, nat_tests) in
      session_changes b E e old mine.room h stands
      (others_stay E s short text (stay_of mine.room.name x) at_home.0) (λ other apart.
      refl)
      refl refl (record { opened = refl; count = refl; rooms = λ name. refl })
      (none_added E s short text (stay_of mine.room.name x) at_home.0 none)
      s y mine.at (rw (same, at_home.0) (ap Some (sym stays))) changes
      (λ t apart. let other : (s == t) ≡ false = grind (arith, nat_tests, apart) in
      (rw other refl, rw other refl))
      contents
      (rw (same, at_home.0) watch)

  pub served_reply : (why : Reply)
      → stay_after (stay_of mine.room.name x) (permitted x.access sent) ≡ stay_of mine.room.name x
      → requested ds (permitted x.access sent) ≡ None
      → asked b.epoch ds (watching b E s) (affordable b.view_weight sent) ≡ watching b E s
      → ChangesOnly s (Some (replied why x)) g h → HasCounts why
      → StandsFor b (entry (Receive s text) (Heard (Answered short)) ∷ E) next
  served_reply why stays none same changes counts =
      served (replied why x) (sym stays) none changes
      (outbox_replied b.max_waiting_patches x why counts at_home.1)
      (rw same (watch_replied ds g.room x why (watching b E s) at_home.2))

  -- a request that is not admitted
  pub served_refusal : (why : Refusal) → admitted b.view_weight x.access sent ≡ Err why
      → ChangesOnly s (Some (replied (refused why) x)) g h
      → StandsFor b (entry (Receive s text) (Heard (Answered short)) ∷ E) next
  served_refusal why read changes =
      served_reply (refused why)
      (refused_wills b.view_weight x.access (stay_of mine.room.name x) sent why read)
      (refused_adds b.view_weight x.access ds sent why read)
      (refused_asks b.view_weight x.access b.epoch ds (watching b E s) sent why read) changes
      (refused_counts b.view_weight x.access text why read)

  pub served_watch : (id : ℕ) (v : View) → admitted b.view_weight x.access sent ≡ Ok (Watch id v)
      → ChangesOnly s (Some (watches id v x)) g h
      → StandsFor b (entry (Receive s text) (Heard (Answered short)) ∷ E) next
  served_watch id v read changes =
      let is = other_sent b.view_weight x.access sent (Watch id v) tt read in
      let count = (request_counts text (Watch id v) is.0).0 in
      served (watches id v x) (rw is.0 refl) (rw is.0 refl) changes
      (outbox_folded b.max_waiting_patches (replied (Watching id) x) (Some v)
      (outbox_replied b.max_waiting_patches x (Watching id) count at_home.1))
      (rw is.1 (watch_begun b ds g.room v was id x))

  pub served_will : (id : ℕ) (patch : List Op)
      → admitted b.view_weight x.access sent ≡ Ok (Will id patch)
      → ChangesOnly s (Some (leaves_will id patch x)) g h
      → StandsFor b (entry (Receive s text) (Heard (Answered short)) ∷ E) next
  served_will id patch read changes =
      let is = admitted_sent b.view_weight x.access sent (Will id patch) read in
      let count = (request_counts text (Will id patch) is.1).0 in
      let answered = replied (Willing id) x in
      served (leaves_will id patch x) (rw is.0 refl) (rw is.0 refl) changes
      (outbox_willing b.max_waiting_patches answered patch
      (outbox_replied b.max_waiting_patches x (Willing id) count at_home.1))
      (rw is.1 (watch_willing ds g.room answered patch (watching b E s)
      (watch_replied ds g.room x (Willing id) (watching b E s) at_home.2)))

  pub served_unwatch : (id : ℕ) → admitted b.view_weight x.access sent ≡ Ok (Unwatch id)
      → ChangesOnly s (Some (unwatches id x)) g h
      → StandsFor b (entry (Receive s text) (Heard (Answered short)) ∷ E) next
  served_unwatch id read changes =
      let is = other_sent b.view_weight x.access sent (Unwatch id) tt read in
      let count = request_counts text (Unwatch id) is.0 in
      served (unwatches id x) (rw is.0 refl) (rw is.0 refl) changes
      (outbox_cleared b.max_waiting_patches (replied (Unwatched id) x) None
      (outbox_replied b.max_waiting_patches x (Unwatched id) count at_home.1))
      (rw is.1 (refl, refl, refl))

  pub served_resume : (id e rev : ℕ) (v : View) (present past : Bool)
      → sent ≡ Ok (Resume id e rev v) → affordable b.view_weight sent ≡ Ok (Resume id e rev v)
      → (e == b.epoch) ≡ present → nat_le rev (revision g.room) ≡ past
      → ResumeServed present past id rev v s x g h → IsCount id
      → StandsFor b (entry (Receive s text) (Heard (Answered short)) ∷ E) next
  served_resume id e rev v false past read kept p q step i =
      served (resumes (revision g.room) id v Snapshot x) (rw read refl) (rw read refl) step
      (outbox_folded b.max_waiting_patches (replied (Resumed id how.Snapshot) x) (Some v)
      (outbox_replied b.max_waiting_patches x (Resumed id how.Snapshot) i at_home.1))
      (rw (kept, p) (refl, Follows-snapshot b ds (begun v nothing) g.room was tt))
  served_resume id e rev v true false read kept p q step i =
      let room = was in
      let beyond : length ds ≤ rev = grind (arith, nat_tests, q, room.numbered) in
      served_reply (refused (future_refusal id)) (rw read refl) (rw read refl) (rw (
        kept,
        p,
        slice_get_past ds rev beyond,
      ) refl) step (i, tt, tt)
  served_resume id e rev v true true read kept p q step i =
      let room = was in
      let past : rev ≤ revision g.room = grind (arith, nat_tests, q) in
      let within : rev < length ds = omega (arith, past, room.numbered) in
      let found = slice_get-get_or ds rev null within in
      let up = caught_up_within x.budget g.room rev v in
      let same = resumes_same mine.room.name (revision g.room) id v up x in
      served (resumes (revision g.room) id v up x) (rw read same) (rw read refl) step.2
      (outbox_resumed b.max_waiting_patches (revision g.room) id v
      (caught_up_within x.budget g.room rev v) x i room.is.history.last step.1 at_home.1)
      (rw (kept, p, found) (watch_resumed b ds g.room rev id v (get_or ds rev null)
      (caught_up_within x.budget g.room rev v) x room found past refl step.0))

  -- An edit.

  module _ (id : ℕ) (base : Option ℕ) (patch : List Op) (read : permitted x.access sent
      ≡ Ok (Edit id base patch)) (sends : sent ≡ Ok (Edit id base patch)) (i : IsCount id) where
    -- an edit changes no session's watching
    same_watching : home E s ≡ Some (stay_of mine.room.name x) → (t : ℕ)
        → watching b (entry (Receive s text) (Heard (Answered short)) ∷ E) t ≡ watching b E t
    same_watching s_home t =
        by_number (λ t c. (if c then asked_at t else watching b E t) ≡ watching b E t) s t
        (rw (s_home, sends) refl)
        (λ apart. refl)
      where
        asked_at : ℕ → Option Watched
        asked_at t = asked_at_home b (documents E) (watching b E t) (home E t) text

    -- nor its will
    same_home : home E s ≡ Some (stay_of mine.room.name x) → (t : ℕ)
        → home (entry (Receive s text) (Heard (Answered short)) ∷ E) t ≡ home E t
    same_home s_home t =
        by_number (λ t c. (if c then option_map (willed text) (home E t) else home E t)
        ≡ home E t) s t
        (rw (s_home, read) refl)
        (λ apart. refl)

    edit_stands : (d : Document) → edited g.room base patch ≡ Ok d
        → EditServed b s x id patch (Ok d) short g h
        → StandsFor b (entry (Receive s text) (Heard (Answered short)) ∷ E) next
    edit_stands d makes step =
        let e = entry (Receive s text) (Heard (Answered short)) in
        let newer : documents (e ∷ E) mine.room.name ≡ ds ++ d ∷ [] =
        one_added E s short text (stay_of mine.room.name x) d at_home.0
        (rw read (same_edit b ds g.room base patch was ∙ ap result_ok makes)) in
        let notified = step.0 in
        let room : RoomStands b (beginning E mine.room.name) (ds ++ d ∷ []) notified =
        goes_on_stands b ds g.room notified patch d was step.1 in
        let answer = Done id (revision notified) in
        let changes = all_changes g.room.document patch in
        room_changes b E e old mine.room h stands
        (others_stay E s short text (stay_of mine.room.name x) at_home.0) (λ other apart.
        refl)
        refl (record { opened = refl; count = refl; rooms = λ name. refl })
        (rw (newer, step.5) (trimmed_stands b (ds ++ d ∷ []) notified b.history_weight (λ all.
        all) room))
        (λ t apart. same_home at_home.0 t)
        (λ t apart. same_watching at_home.0 t)
        (λ t t_at.
        let answered : SessionStands b.max_waiting_patches (documents E) mine.room.name g.room
        (session_in step.2 t) (home E t) (watching b E t) =
        rw (step.3.found t) (by_number (λ t c.
        SessionStands b.max_waiting_patches (documents E) mine.room.name g.room (if c
        then Some (replied answer x)
        else session_in g.sessions t) (home E t) (watching b E t)) s t (
          at_home.0,
          outbox_replied b.max_waiting_patches x answer (
            i,
            room.is.history.last,
          ) at_home.1,
          watch_replied ds g.room x answer (watching b E s) at_home.2,
        )
        (λ apart. session_stands b E old t mine.room stands t_at)) in
        rw (same_home at_home.0 t, same_watching at_home.0 t, step.5)
        (notified_session b b.max_waiting_patches ds d g.room notified was room
        (documents E) (documents (e ∷ E)) mine.room.name (session_in step.2 t)
        (session_in h.sessions t) (home E t) (watching b E t)
        refl newer (each_notified g.room.document changes notified b.waiting_weight
        b.telling_weight step.2 h.sessions short step.4 t) answered))

    pub served_edit : (o : Result Document EditFault) → edited g.room base patch ≡ o
        → ((fault : EditFault) (r : Reply) → o ≡ Err fault → edit_refusal id fault ≡ Some r
        → HasCounts r) → EditServed b s x id patch o short g h
        → StandsFor b (entry (Receive s text) (Heard (Answered short)) ∷ E) next
    served_edit (Ok d) makes counts step = edit_stands d makes step
    served_edit (Err fault) makes counts step =
        served_reply step.1 (rw read refl)
        (rw read (same_edit b ds g.room base patch was ∙ ap result_ok makes)) (rw sends refl)
        step.3 (counts fault step.1 refl step.2)
