-- A will that is done keeps a hub standing for its log: accepted, it adds a document to its room
-- and notifies the watchers; refused, it leaves all as it was.
use Rattle.std.proofs.Common.{◌≡◌, ◌≢◌, ℕ, true, List, [], ◌∷◌, ◌++◌, map, Option, Some, None}
use Rattle.std.proofs.Common.{Result, Ok, Err, refl, sym, ◌∙◌, ap, subst, slice_get, bytes_eq}
use Rattle.std.proofs.Common.{if◌then◌else◌}
use Rattle.std.specs.Result.{result_ok}
use Rattle.std.proofs.lemmas.Slice.Eq.{bytes_eq-Decides}
use Rattle.relay_patch.specs.Change.{all_changes}
use Rattle.relay_room.specs.Edit.{edited}
use Rattle.relay_room.specs.Room.{State as Room}
use Rattle.relay_room.specs.declared.fault.EditFault.{EditFault}
use Rattle.relay_tree.specs.Document.{Document}
use Rattle.relay_hub.specs.Log.{Log, Entry, Bequest, entry, home, next_document, extended}
use Rattle.relay_hub.specs.Log.{documents, beginning, left, watching}
use Rattle.relay_hub.specs.Stands.{RoomStands, named_will, StandsFor}
use Rattle.relay_hub.specs.State.{RoomSessions, State, RoomOf, HaveRooms, session_in}
use Rattle.relay_hub.specs.Step.{WillServed, with_room, with_wills, InRoom, DoesWill}
use Rattle.relay_hub.specs.declared.config.HubConfig.{HubConfig}
use Rattle.relay_hub.specs.declared.event.Answer.{Answer}
use Rattle.relay_hub.specs.declared.event.Answer.TheVariants.{WillDone, NoWill}
use Rattle.relay_hub.specs.declared.event.Event.TheVariants.{DoWill}
use Rattle.relay_hub.specs.declared.will.Will.{Will}
use Rattle.relay_hub.proofs.Documents.{goes_on_stands, trimmed_stands}
use Rattle.relay_hub.proofs.Edits.{same_edit, notified_session}
use Rattle.relay_hub.proofs.Frames.{Quiet, unaffected, room_and_wills_change, session_stands}
use Rattle.relay_hub.proofs.Frames.{session_stays}
use Rattle.relay_hub.proofs.Notified.{each_notified}
use Rattle.relay_hub.proofs.Rooms.{by_name}

-- the oldest will is that of a room
module _ (b : HubConfig) (E : Log) (old : State) (w : Will) (wills : List Will) (short : ℕ)
    (name : List ℕ) (g h : RoomSessions)
    (stands : StandsFor b E old) (is : old.wills ≡ w ∷ wills)
    (there : slice_get old.rooms w.room_index ≡ Some (name, g)) where
  abbrev e : Entry
  e = entry DoWill (WillDone short)

  abbrev r : RoomOf old
  r = record { index = w.room_index; name = name; room_sessions = g; there = there }

  abbrev ds : List Document
  ds = documents E name

  was : RoomStands b (beginning E name) ds g.room
  was = stands.rooms w.room_index name g there

  abbrev bequest : Bequest
  bequest =
      record { session = w.session; number = w.number; room = name; patch = w.patch }

  oldest : left E ≡ bequest ∷ map (named_will old.rooms) wills
  oldest = sym stands.wills ∙ (ap (map (named_will old.rooms)) is ∙ rw there refl)

  rest : map (named_will old.rooms) wills ≡ left (e ∷ E)
  rest = rw oldest refl

  have : HaveRooms old.rooms wills
  have =
      let all : HaveRooms old.rooms (w ∷ wills) =
      subst (HaveRooms old.rooms) is stands.housed in all.1

  quiet : Quiet E e
  quiet = record { opened = refl; count = refl; rooms = λ name. refl }

  here : bytes_eq name name ≡ true
  here = (bytes_eq-Decides name name).1 refl

  elsewhere : (other : List ℕ) → other ≢ name → documents (e ∷ E) other ≡ documents E other
  elsewhere other apart =
      rw oldest (by_name (λ c.
      extended (documents E other) (if c
      then next_document (documents E other) None w.patch else None)
      ≡ documents E other) name other
      (λ same. absurd (apart (sym same))) (λ differ. refl))

  newer : (d : Document) → edited g.room None w.patch ≡ Ok d → documents (e ∷ E) name ≡ ds ++ d ∷ []
  newer d makes =
      rw (oldest, here, same_edit b ds g.room None w.patch was ∙ ap result_ok makes) refl

  none_newer : (fault : EditFault) → edited g.room None w.patch ≡ Err fault
      → documents (e ∷ E) name ≡ ds
  none_newer fault refuses =
      rw (oldest, here, same_edit b ds g.room None w.patch was ∙ ap result_ok refuses) refl

  will_stands : (o : Result Document EditFault) → edited g.room None w.patch ≡ o
      → WillServed b w.patch o short g h
      → StandsFor b (e ∷ E) (with_wills wills (with_room w.room_index name h old))
  will_stands (Ok d) makes step =
      let notified : Room = step.0 in
      let changes = all_changes g.room.document w.patch in
      let room : RoomStands b (beginning E name) (ds ++ d ∷ []) notified =
      goes_on_stands b ds g.room notified w.patch d was step.1 in
      room_and_wills_change b E e old r h stands elsewhere (λ other apart.
      refl) wills rest have quiet
      (rw (newer d makes, step.3)
      (trimmed_stands b (ds ++ d ∷ []) notified b.history_weight (λ all. all) room))
      (λ t apart. refl) (λ t apart. refl)
      (λ t t_at. rw step.3
      (notified_session b b.max_waiting_patches ds d g.room notified was room (documents E)
      (documents (e ∷ E)) name (session_in g.sessions t) (session_in h.sessions t) (home E t)
      (watching b E t)
      refl (newer d makes) (each_notified g.room.document changes notified b.waiting_weight
      b.telling_weight g.sessions h.sessions short step.2 t) (session_stands b E old t r stands
      t_at)))
  will_stands (Err fault) refuses step =
      room_and_wills_change b E e old r h stands elsewhere (λ other apart.
      refl) wills rest have quiet
      (rw (none_newer fault refuses, step.1) was)
      (λ t apart. refl) (λ t apart. refl)
      (λ t t_at. rw step.1
      (session_stays b.max_waiting_patches (documents E) (documents (e ∷ E)) name g.room
      (session_in g.sessions t) (home E t) (watching b E t) (none_newer fault refuses)
      (session_stands b E old t r stands t_at)))

in_room_stands : (b : HubConfig) (E : Log) (old done : State) (w : Will) (wills : List Will)
    (short : ℕ) (o : Option (List ℕ × RoomSessions)) → StandsFor b E old
    → old.wills ≡ w ∷ wills → slice_get old.rooms w.room_index ≡ o
    → InRoom w.room_index o old (WillDone short) (λ g h.
    WillServed old.config w.patch (edited g.room None w.patch) short g h) done
    → StandsFor b (entry DoWill (WillDone short) ∷ E) (with_wills wills done)
in_room_stands b E old done w wills short (Some home) stands is there step =
    let served = subst (λ (config : HubConfig).
    WillServed config w.patch (edited home.1.room None w.patch) short home.1 step.0)
    stands.config step.1 in
    rw step.2 (will_stands b E old w wills short home.0 home.1 step.0 stands is there
    (edited home.1.room None w.patch) refl served)
in_room_stands b E old done w wills short None stands is there step = absurd (cc step.0)

pub does_will_stands : (b : HubConfig) (E : Log) (old new : State) (wills : List Will)
    (answer : Answer) → StandsFor b E old → old.wills ≡ wills
    → DoesWill wills old answer new → StandsFor b (entry DoWill answer ∷ E) new
does_will_stands b E old new [] NoWill stands is step =
    rw step (unaffected b E (entry DoWill NoWill) old stands
    (record { opened = refl; count = refl; rooms = λ name. refl })
    (λ name. refl) refl (λ t. refl) (λ other. refl) (λ t. refl))
does_will_stands b E old new (w ∷ wills) (WillDone short) stands is step =
    rw step.1 (in_room_stands b E old step.0 w wills short (slice_get old.rooms w.room_index) stands
    is refl step.2)
does_will_stands b E old new wills answer stands is step = absurd step
