-- A room that begins anew keeps a hub standing for its log, and so does a floor that rises.
use Rattle.std.proofs.Common.{◌≡◌, ◌≢◌, ℕ, ◌+◌, ◌<◌, ◌≤◌, ◌==◌, ◌||◌, Bool, true, false, List, []}
use Rattle.std.proofs.Common.{◌∷◌, length, not, Option, Some, None, Ok, refl, sym, ◌∙◌, ap, subst}
use Rattle.std.proofs.Common.{arith, inl, inr, slice_get, nat_le, nat_lt, bytes_eq, if◌then◌else◌}
use Rattle.std.proofs.lemmas.Bool.Decides.{nat_tests}
use Rattle.std.proofs.lemmas.Slice.Eq.{bytes_eq-Decides}
use Rattle.relay_patch.specs.Patch.{exceeds, within}
use Rattle.relay_patch.specs.declared.bounds.TheConstants.Bounds.{DOCUMENT}
use Rattle.relay_room.specs.Room.{begun, revision}
use Rattle.relay_tree.specs.Document.{Document, null, depth, weight}
use Rattle.relay_limits.specs.declared.TheConstants.{MAX_COUNT}
use Rattle.relay_hub.specs.Log.{Log, Entry, entry, home, documents, renewed, beginning, watching}
use Rattle.relay_hub.specs.Log.{left}
use Rattle.relay_hub.specs.Session.{Session}
use Rattle.relay_hub.specs.Stands.{RoomStands, SessionStands, StandsFor, MayBegin}
use Rattle.relay_hub.specs.State.{RoomSessions, room_sessions, State, RoomOf, index_named}
use Rattle.relay_hub.specs.State.{session_in}
use Rattle.relay_hub.specs.Step.{anew_fault, adopt_fault, forget_fault_of, forget_fault}
use Rattle.relay_hub.specs.Step.{BeginsAnew, Forgets, with_floor, raised_floor}
use Rattle.relay_hub.specs.declared.config.HubConfig.{HubConfig}
use Rattle.relay_hub.specs.declared.event.Answer.TheVariants.{Forgotten, Adopted, FloorRaised}
use Rattle.relay_hub.specs.declared.event.Event.TheVariants.{Forget, Adopt, RaiseFloor}
use Rattle.relay_hub.specs.declared.fault.AdoptFault.TheVariants as adopt
use Rattle.relay_hub.specs.declared.fault.ForgetFault.TheVariants as forget
use Rattle.relay_hub.proofs.Doors.{begins_stands, renewed_long, renewed_last}
use Rattle.relay_hub.proofs.Frames.{Quiet, room_changes, session_stands, unaffected}
use Rattle.relay_hub.proofs.Rooms.{by_name}

-- a room that can begin anew with a document at a revision: nobody is in it, the revision is a
-- count above its own, and the document is within the bounds
pub record IsIdle (d : Document) (rev : ℕ) (g : RoomSessions) : Type 0 where
  pub empty : g.sessions ≡ []
  pub above : revision g.room < rev
  pub count : rev ≤ MAX_COUNT
  pub inside : within DOCUMENT d ≡ Ok d

none_in : (xs : List Session) → not (length xs == 0) ≡ false → xs ≡ []
none_in [] h = refl
none_in (x ∷ xs) h = let some : (length (x ∷ xs) == 0) ≡ false = grind (arith, nat_tests) in
    absurd (cc (some, h))

pub idle : (d : Document) (rev : ℕ) (g : RoomSessions) → anew_fault d rev g ≡ None → IsIdle d rev g
idle d rev g h =
    let t =
    all (not (length g.sessions == 0)) (nat_le rev (revision g.room)) (nat_lt MAX_COUNT rev)
    (nat_lt DOCUMENT.depth (depth d)) (nat_lt DOCUMENT.weight (weight d)) h in
    let flat : exceeds DOCUMENT.depth (depth d) ≡ false = grind (arith, nat_tests, t.3) in
    let light : exceeds DOCUMENT.weight (weight d) ≡ false = grind (arith, nat_tests, t.4) in
    record {
      empty = none_in g.sessions t.0;
      above = grind (arith, nat_tests, t.1);
      count = grind (arith, nat_tests, t.2);
      inside = rw (flat, light) refl;
    }
  where
    all : (x y z v w : Bool)
        → (if x then Some adopt.Occupied else if y || z then Some adopt.NotAbove else if v
        then Some adopt.TooDeep else if w then Some adopt.TooHeavy else None) ≡ None
        → (x ≡ false) × (y ≡ false) × (z ≡ false) × (v ≡ false) × (w ≡ false)
    all true y z v w h = absurd (cc h)
    all false true z v w h = absurd (cc h)
    all false false true v w h = absurd (cc h)
    all false false false true w h = absurd (cc h)
    all false false false false true h = absurd (cc h)
    all false false false false false h = (refl, refl, refl, refl, refl)

-- one that can be forgotten can begin anew with null at the next revision
pub forgotten_idle : (rev : ℕ) (g : RoomSessions) → forget_fault_of g ≡ None
    → rev ≡ revision g.room + 1 → IsIdle null rev g
forgotten_idle rev g h next =
    let t = both (not (length g.sessions == 0)) (nat_le MAX_COUNT (revision g.room)) h in
    let last : revision g.room < MAX_COUNT = grind (arith, nat_tests, t.1) in
    record {
      empty = none_in g.sessions t.0;
      above = omega (arith, next);
      count = omega (arith, next, last);
      inside = refl;
    }
  where
    both : (x y : Bool)
        → (if x then Some forget.Occupied else if y then Some forget.Exhausted else None) ≡ None
        → (x ≡ false) × (y ≡ false)
    both true y h = absurd (cc h)
    both false true h = absurd (cc h)
    both false false h = (refl, refl)

-- nobody is in it
pub absent : (g : RoomSessions) (t : ℕ) → g.sessions ≡ [] → session_in g.sessions t ≡ None
absent g t empty = rw empty refl

-- the room at the index of a name is the one that is forgotten, or adopts a document
pub fault_is : (hub : State) (name : List ℕ) (index : ℕ) (room : List ℕ × RoomSessions)
    → index_named name hub.rooms ≡ Some index
    → slice_get hub.rooms index ≡ Some room → forget_fault hub name ≡ forget_fault_of room.1
fault_is hub name index room named there = rw (named, there) refl

pub adopt_fault_is : (hub : State) (name : List ℕ) (rev : ℕ) (d : Document) (index : ℕ)
    (room : List ℕ × RoomSessions) → index_named name hub.rooms ≡ Some index
    → slice_get hub.rooms index ≡ Some room → adopt_fault hub name rev d ≡ anew_fault d rev room.1
adopt_fault_is hub name rev d index room named there = rw (named, there) refl

-- the room of a forgotten name, or of one that adopts a document, is idle

pub forgets_idle : (old new : State) (name : List ℕ) (rev : ℕ) → forget_fault old name ≡ None
    → (step : Forgets old name rev new) → IsIdle null rev step.0.room
forgets_idle old new name rev may step =
    let anew = step.0 in
    let is = fault_is old name anew.index (name, anew.room) anew.named anew.there in
    forgotten_idle rev anew.room (sym is ∙ may) step.1

pub adopts_idle : (old new : State) (name : List ℕ) (rev : ℕ) (d : Document)
    → adopt_fault old name rev d ≡ None → (anew : BeginsAnew old name rev d new)
    → IsIdle d rev anew.room
adopts_idle old new name rev d may anew =
    let is = adopt_fault_is old name rev d anew.index (name, anew.room) anew.named anew.there in
    idle d rev anew.room (sym is ∙ may)

-- an entry after which a room begins anew, and nothing else differs
module _ (b : HubConfig) (E : Log) (old new : State) (name : List ℕ) (rev : ℕ) (d : Document)
    (e : Entry) (stands : StandsFor b E old) (step : BeginsAnew old name rev d new)
    (is_idle : IsIdle d rev step.room) (quiet : Quiet E e)
    (renews : (other : List ℕ) → documents (e ∷ E) other
    ≡ (if bytes_eq name other then renewed rev d (documents E other) else documents E other))
    (begins : (other : List ℕ) → beginning (e ∷ E) other
    ≡ (if bytes_eq name other then rev else beginning E other))
    (leaves : left (e ∷ E) ≡ left E) (homes : (t : ℕ) → home (e ∷ E) t ≡ home E t)
    (watches : (t : ℕ) → watching b (e ∷ E) t ≡ watching b E t) where
  abbrev g : RoomSessions
  g = step.room

  abbrev r : RoomOf old
  r = record { index = step.index; name = name; room_sessions = g; there = step.there }

  abbrev ds : List Document
  ds = documents E name

  was : RoomStands b (beginning E name) ds g.room
  was = stands.rooms step.index name g step.there

  mine : bytes_eq name name ≡ true
  mine = (bytes_eq-Decides name name).1 refl

  elsewhere : (other : List ℕ) → other ≢ name → documents (e ∷ E) other ≡ documents E other
  elsewhere other apart =
      renews other
      ∙ by_name (λ c. (if c then renewed rev d (documents E other) else documents E other)
      ≡ documents E other) name other
      (λ same. absurd (apart (sym same))) (λ differ. refl)

  begins_elsewhere : (other : List ℕ) → other ≢ name → beginning (e ∷ E) other ≡ beginning E other
  begins_elsewhere other apart =
      begins other
      ∙ by_name (λ c. (if c then rev else beginning E other) ≡ beginning E other) name other
      (λ same. absurd (apart (sym same))) (λ differ. refl)

  renews_here : documents (e ∷ E) name ≡ renewed rev d ds
  renews_here = renews name ∙ rw mine refl

  begins_here : beginning (e ∷ E) name ≡ rev
  begins_here = begins name ∙ rw mine refl

  anew : RoomStands b (beginning (e ∷ E) name) (documents (e ∷ E) name)
      (begun d rev old.config.history)
  anew =
      let history = ap (λ (config : HubConfig). config.history) stands.config in
      let short : length ds ≤ rev = omega (arith, was.numbered, is_idle.above) in
      rw (begins_here, renews_here, history)
      (begins_stands b rev rev (renewed rev d ds) d is_idle.count (omega arith)
      (λ free. omega arith) is_idle.inside (renewed_long rev d ds short)
      (renewed_last rev d ds short) stands.is.history.0 stands.is.history.1)

  begins_anew_stands : StandsFor b (e ∷ E) new
  begins_anew_stands =
      rw step.begins
      (room_changes b E e old r (room_sessions (begun d rev old.config.history) [])
      stands elsewhere begins_elsewhere leaves quiet anew (λ t apart. homes t)
      (λ t apart. watches t)
      (λ t t_at.
      absurd (nobody t (session_in g.sessions t) (absent g t is_idle.empty)
      (session_stands b E old t r stands t_at))))
    where
      nobody : (t : ℕ) (o : Option Session) → o ≡ None
          → SessionStands b.max_waiting_patches (documents E) name g.room o (home E t)
          (watching b E t) → ⊥
      nobody t None none h = h
      nobody t (Some x) none h = cc none

pub forget_stands : (b : HubConfig) (E : Log) (old new : State) (name : List ℕ) (rev : ℕ)
    → StandsFor b E old → forget_fault old name ≡ None → Forgets old name rev new
    → StandsFor b (entry (Forget name) (Forgotten rev) ∷ E) new
forget_stands b E old new name rev stands may step =
    begins_anew_stands b E old new name rev null (entry (Forget name) (Forgotten rev)) stands step.0
    (forgets_idle old new name rev may step)
    (record { opened = refl; count = refl; rooms = λ name. refl }) (λ other. refl) (λ other. refl)
    refl (λ t. refl) (λ t. refl)

pub adopt_stands : (b : HubConfig) (E : Log) (old new : State) (name : List ℕ) (rev : ℕ)
    (d : Document) → StandsFor b E old → adopt_fault old name rev d ≡ None
    → BeginsAnew old name rev d new
    → StandsFor b (entry (Adopt name rev d) Adopted ∷ E) new
adopt_stands b E old new name rev d stands may anew =
    begins_anew_stands b E old new name rev d (entry (Adopt name rev d) Adopted) stands anew
    (adopts_idle old new name rev d may anew)
    (record { opened = refl; count = refl; rooms = λ name. refl }) (λ other. refl) (λ other. refl)
    refl (λ t. refl) (λ t. refl)

-- rooms that begin at a higher floor still begin above the documents of their names
pub raise_stands : (b : HubConfig) (E : Log) (old : State) (rev : ℕ) → StandsFor b E old
    → StandsFor b (entry (RaiseFloor rev) FloorRaised ∷ E)
    (with_floor (raised_floor rev old.floor) old)
raise_stands b E old rev stands =
    unaffected b E (entry (RaiseFloor rev) FloorRaised)
    (with_floor (raised_floor rev old.floor) old) raised
    (record { opened = refl; count = refl; rooms = λ name. refl }) (λ name. refl) refl (λ t. refl)
    (λ other. refl) (λ t. refl)
  where
    higher : (ds : List Document) → MayBegin old.floor ds
        → MayBegin (raised_floor rev old.floor) ds
    higher ds (inl short) = inl (omega (arith, short))
    higher ds (inr one) = inr one

    raised : StandsFor b E (with_floor (raised_floor rev old.floor) old)
    raised = record {
      config = stands.config;
      floor = omega (arith, stands.floor);
      is = stands.is;
      next = stands.next;
      count = stands.count;
      rooms = stands.rooms;
      names = stands.names;
      known = stands.known;
      others = λ name none. higher (documents E name) (stands.others name none);
      sessions = stands.sessions;
      wills = stands.wills;
      housed = stands.housed;
    }
