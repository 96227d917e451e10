-- The state that follows from a log: the documents of each room, the open sessions and their rooms,
-- their rights there and their wills, the view that each session watches and the messages that it
-- received. A log has its newest entry first, so each definition says what one more entry changes.
use Rattle.std.specs.Prelude.{ℕ, ◌+◌, ◌-◌, ◌==◌, Bool, false, ◌||◌, List, [], ◌∷◌, ◌++◌, Option}
use Rattle.std.specs.Prelude.{Some, None, option_map, Result, Ok, drop, length, replicate, nat_le}
use Rattle.std.specs.Prelude.{slice_get, unwrap_or, bytes_eq, ◌&&◌, if◌then◌else◌}
use Rattle.std.specs.Result.{result_ok}
use Rattle.relay_tree.specs.Document.{Document, null}
use Rattle.relay_patch.specs.declared.op.Op.{Op}
use Rattle.relay_access.specs.declared.access.Access.{Access}
use Rattle.relay_proto.specs.Client.{Client, nothing, holds}
use Rattle.relay_proto.specs.MessageRead.{message_of_text}
use Rattle.relay_proto.specs.Request.{request_of_text}
use Rattle.relay_proto.specs.declared.message.Message.{Message}
use Rattle.relay_proto.specs.declared.message.Message.TheVariants as message
use Rattle.relay_proto.specs.declared.refusal.Refusal.{Refusal}
use Rattle.relay_proto.specs.declared.request.Request.{Request}
use Rattle.relay_proto.specs.declared.request.Request.TheVariants.{Edit, Will, Watch, Resume}
use Rattle.relay_proto.specs.declared.request.Request.TheVariants.{Unwatch}
use Rattle.relay_room.specs.Edit.{edited_at}
use Rattle.relay_view.specs.View.{View, view}
use Rattle.relay_hub.specs.Admitted.{permitted, affordable}
use Rattle.relay_hub.specs.declared.config.HubConfig.{HubConfig}
use Rattle.relay_hub.specs.declared.event.Answer.{Answer}
use Rattle.relay_hub.specs.declared.event.Answer.TheVariants.{Opened, Heard, Drawn, Closed}
use Rattle.relay_hub.specs.declared.event.Answer.TheVariants.{WillDone, Forgotten, Adopted}
use Rattle.relay_hub.specs.declared.event.Event.{Event}
use Rattle.relay_hub.specs.declared.event.Event.TheVariants.{Open, Receive, Draw, Close, DoWill}
use Rattle.relay_hub.specs.declared.event.Event.TheVariants.{Forget, Adopt}
use Rattle.relay_hub.specs.declared.event.Heard.TheVariants.{Answered}
use Rattle.relay_hub.specs.Session.{next_will}

-- an event and its answer. A call that ran out of memory changed nothing, and has no entry
pub record Entry : Type 0 where
  pub event : Event
  pub answer : Answer

abbrev pub entry : Event → Answer → Entry
entry event answer = record { event = event; answer = answer }

abbrev pub Log : Type 0
Log = List Entry

-- The open sessions, and their rooms.

-- a session's stay: the name of the room in which it is open, what it may do there, its will, which
-- may be empty, and how many wills it has left so far
pub record Stay : Type 0 where
  pub room : List ℕ
  pub access : Access
  pub will : List Op
  pub will_number : ℕ

abbrev pub stay : List ℕ → Access → List Op → ℕ → Stay
stay name access will will_number =
    record { room = name; access = access; will = will; will_number = will_number }

-- the will of a session after a request
abbrev pub will_after : List Op → Result Request Refusal → List Op
will_after was (Ok (Will id patch)) = patch
will_after was _ = was

-- how many wills a session has left after a request; one that withdraws its will counts too
abbrev pub wills_after : ℕ → Result Request Refusal → ℕ
wills_after was (Ok (Will id patch)) = next_will was
wills_after was _ = was

-- the stay after a request
abbrev pub stay_after : Stay → Result Request Refusal → Stay
stay_after p sent =
    stay p.room p.access (will_after p.will sent) (wills_after p.will_number sent)

-- the same after a text of a session that is open there
abbrev pub willed : List ℕ → Stay → Stay
willed text p = stay_after p (permitted p.access (request_of_text text))

-- where session s is open, if it is, after an event
abbrev pub home_after : Option Stay → ℕ → Event → Answer → Option Stay
home_after was s (Open name access) (Opened o) =
    if o.session == s then Some (stay name access [] 0) else was
home_after was s (Receive t text) (Heard (Answered short)) =
    if t == s then option_map (willed text) was else was
home_after was s (Close t) Closed = if t == s then None else was
home_after was s _ _ = was

-- where a session is open
abbrev pub home : Log → ℕ → Option Stay
home [] s = None
home (e ∷ E) s = home_after (home E s) s e.event e.answer

-- whether a room of that name was opened, after an event
abbrev pub is_opened_after : Bool → List ℕ → Event → Answer → Bool
is_opened_after was name (Open room access) (Opened o) = bytes_eq name room || was
is_opened_after was name _ _ = was

-- whether a session was opened in a room of that name
abbrev pub is_opened : Log → List ℕ → Bool
is_opened [] name = false
is_opened (e ∷ E) name = is_opened_after (is_opened E name) name e.event e.answer

-- The wills that are left to be done.

-- the number of a session, the number of the will among those that it left, the name of a room and
-- a patch for it
pub record Bequest : Type 0 where
  pub session : ℕ
  pub number : ℕ
  pub room : List ℕ
  pub patch : List Op

-- what a session leaves that was open there: nothing, or its will
abbrev pub left_in : ℕ → ℕ → List ℕ → List Op → List Bequest
left_in s number name [] = []
left_in s number name (op ∷ ops) =
    record { session = s; number = number; room = name; patch = op ∷ ops } ∷ []

abbrev pub left_by : ℕ → Option Stay → List Bequest
left_by s (Some p) = left_in s p.will_number p.room p.will
left_by s None = []

abbrev pub left_after : (ℕ → Option Stay) → List Bequest → Event → Answer → List Bequest
left_after homes was (Close s) Closed = was ++ left_by s (homes s)
left_after homes was DoWill (WillDone short) = drop 1 was
left_after homes was _ _ = was

-- the wills of closed sessions that are not done yet, the oldest first
abbrev pub left : Log → List Bequest
left [] = []
left (e ∷ E) = left_after (home E) (left E) e.event e.answer

-- The documents of a room, the first one first, so that the one of revision r is at index r.

abbrev pub present_of : List Document → Document
present_of documents = unwrap_or (slice_get documents (length documents - 1)) null

-- the document that an edit adds, if it is accepted
abbrev pub next_document : List Document → Option ℕ → List Op → Option Document
next_document documents base patch =
    result_ok (edited_at (length documents - 1) (present_of documents) base patch)

-- the document that a request adds
abbrev pub requested : List Document → Result Request Refusal → Option Document
requested documents (Ok (Edit id base patch)) = next_document documents base patch
requested documents _ = None

-- the document that a text adds to the room of that name, if its sender is open there and may edit
abbrev pub document_added : List Document → List ℕ → Option Stay → List ℕ → Option Document
document_added documents name (Some home) text =
    if bytes_eq home.room name
    then requested documents (permitted home.access (request_of_text text)) else None
document_added documents name None text = None

-- the document that the oldest of these wills adds to the room of that name
abbrev pub document_left : List Document → List ℕ → List Bequest → Option Document
document_left documents name [] = None
document_left documents name (w ∷ wills) =
    if bytes_eq w.room name then next_document documents None w.patch else None

abbrev pub extended : List Document → Option Document → List Document
extended documents None = documents
extended documents (Some d) = documents ++ d ∷ []

-- the documents up to a revision, with null at each that they do not have. A session enters a room
-- at its present revision, and all of these are there; or a new one, above every revision that one
-- of its name ever had
abbrev pub reaching : ℕ → List Document → List Document
reaching rev documents = documents ++ replicate (rev + 1 - length documents) null

-- the documents of a room that begins anew with a document at a revision above all of theirs: null
-- at each revision that is passed over, and then the document
abbrev pub renewed : ℕ → Document → List Document → List Document
renewed rev d documents = documents ++ (replicate (rev - length documents) null ++ d ∷ [])

abbrev pub documents_after : (ℕ → Option Stay) → List Bequest → List Document → List ℕ → Event
    → Answer → List Document
documents_after homes wills documents name (Open room access) (Opened o) =
    if bytes_eq room name then reaching o.rev documents else documents
documents_after homes wills documents name (Receive s text) (Heard (Answered short)) =
    extended documents (document_added documents name (homes s) text)
documents_after homes wills documents name DoWill (WillDone short) =
    extended documents (document_left documents name wills)
documents_after homes wills documents name (Forget room) (Forgotten rev) =
    if bytes_eq room name then renewed rev null documents else documents
documents_after homes wills documents name (Adopt room rev d) Adopted =
    if bytes_eq room name then renewed rev d documents else documents
documents_after homes wills documents name _ _ = documents

-- the documents of the rooms of that name, one after another: null, and then one for each accepted
-- edit and each that was adopted, and null at each revision that was passed over where a room began
-- anew
abbrev pub documents : Log → List ℕ → List Document
documents [] name = null ∷ []
documents (e ∷ E) name = documents_after (home E) (left E) (documents E name) name e.event e.answer

abbrev pub present : Log → List ℕ → Document
present E name = present_of (documents E name)

-- the revision at which the newest room of that name began
abbrev pub beginning_after : ℕ → List Document → List ℕ → Event → Answer → ℕ
beginning_after was documents name (Open room access) (Opened o) =
    if bytes_eq room name && nat_le (length documents) o.rev then o.rev else was
beginning_after was documents name (Forget room) (Forgotten rev) =
    if bytes_eq room name then rev else was
beginning_after was documents name (Adopt room rev d) Adopted =
    if bytes_eq room name then rev else was
beginning_after was documents name _ _ = was

abbrev pub beginning : Log → List ℕ → ℕ
beginning [] name = 0
beginning (e ∷ E) name = beginning_after (beginning E name) (documents E name) name e.event e.answer

-- The views that the sessions watch.

-- the pointers of a session's view, what its client held when the watch began, and the snapshots
-- and patches drawn since
pub record Watching : Type 0 where
  pub view : View
  pub start : Client
  pub heard : List Message

abbrev pub begun : View → Client → Watching
begun pointers start = record { view = pointers; start = start; heard = [] }

-- the message, if it is a snapshot or a patch
abbrev pub view_message : Option Message → List Message
view_message (Some (message.Patch rev ops)) = message.Patch rev ops ∷ []
view_message (Some (message.Snapshot rev tree)) = message.Snapshot rev tree ∷ []
view_message _ = []

-- the watching after a text was drawn
abbrev pub hearing : Option (List ℕ) → Option Watching → Option Watching
hearing (Some text) (Some w) =
    Some
    (record
    { view = w.view; start = w.start; heard = w.heard ++ view_message (message_of_text text) })
hearing _ was = was

-- a client that resumes from a revision holds its view of that revision's document
abbrev pub resumes_from : Option Watching → ℕ → View → Option Document → Option Watching
resumes_from was rev pointers (Some d) = Some (begun pointers (holds rev (view pointers d)))
resumes_from was rev pointers None = was

-- the watching of a session after a request that was answered. A resume from a future revision is
-- refused, and changes nothing
abbrev pub asked : ℕ → List Document → Option Watching → Result Request Refusal → Option Watching
asked epoch documents was (Ok (Watch id pointers)) = Some (begun pointers nothing)
asked epoch documents was (Ok (Unwatch id)) = None
asked epoch documents was (Ok (Resume id e rev pointers)) =
    if e == epoch then resumes_from was rev pointers (slice_get documents rev)
    else Some (begun pointers nothing)
asked epoch documents was _ = was

-- the same of a session that is open in a room, in a hub of that configuration
abbrev pub asked_at_home : HubConfig → (List ℕ → List Document) → Option Watching → Option Stay
    → List ℕ → Option Watching
asked_at_home b documents was (Some home) text =
    asked b.epoch (documents home.room) was (affordable b.view_weight (request_of_text text))
asked_at_home b documents was None text = was

-- the watching of session s after an event
abbrev pub watching_after : HubConfig → (List ℕ → List Document) → Option Stay → Option Watching
    → ℕ → Event → Answer → Option Watching
watching_after b documents home was s (Open name access) (Opened o) =
    if o.session == s then None else was
watching_after b documents home was s (Close t) Closed = if t == s then None else was
watching_after b documents home was s (Receive t text) (Heard (Answered short)) =
    if t == s then asked_at_home b documents was home text else was
watching_after b documents home was s (Draw t) (Drawn text) =
    if t == s then hearing text was else was
watching_after b documents home was s _ _ = was

-- what session s watches, if it does, in a hub of that configuration
abbrev pub watching : HubConfig → Log → ℕ → Option Watching
watching b [] s = None
watching b (e ∷ E) s = watching_after b (documents E) (home E s) (watching b E s) s e.event e.answer

-- Numbers.

-- how many sessions were opened, and how many are open
abbrev pub opened_after : ℕ → Answer → ℕ
opened_after n (Opened o) = n + 1
opened_after n _ = n

abbrev pub opened : Log → ℕ
opened [] = 0
opened (e ∷ E) = opened_after (opened E) e.answer

abbrev pub open_after : ℕ → Answer → ℕ
open_after n (Opened o) = n + 1
open_after n Closed = n - 1
open_after n _ = n

abbrev pub open_count : Log → ℕ
open_count [] = 0
open_count (e ∷ E) = open_after (open_count E) e.answer
