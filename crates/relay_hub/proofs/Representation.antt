-- The meaning of the maps in the code for the hub that contracts see.
use Rattle.std.proofs.Common.{◌≡◌, ◌≢◌, ℕ, ◌+◌, true, arith, drop, remove, Result, Ok, Err, IfOk}
use Rattle.std.proofs.Common.{IfErr, OnOk, OnErr, List, [], ◌∷◌, ◌++◌, Option, Some, None, IsSome}
use Rattle.std.proofs.Common.{refl, sym, ◌∙◌, ap, subst, map, length, zero, suc, slice_get}
use Rattle.std.proofs.Common.{slice_set, nat_lt, option_map, string_bytes, nat_eq, ◌==◌}
use Rattle.std.proofs.Common.{if◌then◌else◌}
use Rattle.std.specs.Map.{lookup, values_of}
use Rattle.std.specs.declared.string.String.{String}
use Rattle.std.proofs.lemmas.Bool.Decides.{nat_tests}
use Rattle.std.proofs.lemmas.Option.{slice_get-map}
use Rattle.indexmap.specs.IndexMap.{set_value_at, with_value_at, values}
use Rattle.relay_outbox.specs.declared.outbox.TheConstants.{MAX_REPLIES}
use Rattle.relay_room.specs.Edit.{edited}
use Rattle.relay_room.specs.Room.{begun, revision}
use Rattle.relay_tree.specs.Document.{Document, null}
use Rattle.relay_hub.specs.Call.{StepIf, ReceivesIf, DrawsIf, HasSpace, forgetting}
use Rattle.relay_hub.specs.Call.{adopting}
use Rattle.relay_hub.specs.Representation.{named, hub_of}
use Rattle.relay_hub.specs.Session.{Session}
use Rattle.relay_hub.specs.State.{RoomSessions, room_sessions, State, IsHub, index_of, index_named}
use Rattle.relay_hub.specs.State.{session_in, session_of}
use Rattle.relay_hub.specs.Step.{ChangesOnly, WillServed, with_room, left_of, DoesWill, BeginsAnew}
use Rattle.relay_hub.specs.Step.{anew_fault, adopt_fault, forget_fault_of, forget_fault, Step}
use Rattle.relay_hub.specs.Queries.{room_and_session, may_hear}
use Rattle.relay_hub.specs.declared.event.Answer.{Answer}
use Rattle.relay_hub.specs.declared.event.Answer.TheVariants as answer
use Rattle.relay_hub.specs.declared.event.Event.{Event}
use Rattle.relay_hub.specs.declared.event.Event.TheVariants.{Receive, Draw, Close, DoWill, Forget}
use Rattle.relay_hub.specs.declared.event.Event.TheVariants.{Adopt}
use Rattle.relay_hub.specs.declared.fault.AdoptFault.{AdoptFault}
use Rattle.relay_hub.specs.declared.fault.AdoptFault.TheVariants as adopt
use Rattle.relay_hub.specs.declared.fault.ForgetFault.{ForgetFault}
use Rattle.relay_hub.specs.declared.fault.ForgetFault.TheVariants as forget
use Rattle.relay_hub.specs.declared.hub.Hub.TheInside.{Inside}
use Rattle.relay_hub.specs.declared.will.Will.{Will}
use Rattle.relay_hub.proofs.Members.{step_is_hub}
use Rattle.relay_hub.proofs.Lists.{slice_set_same}
use Rattle.relay_hub.proofs.Forgetting.{fault_is, adopt_fault_is}
use Rattle.relay_hub.proofs.Rooms.{some_named, name_found}

-- the room at an index
pub room_at : {A : Type 0} (es : List (String A
    × RoomSessions)) (i : ℕ) (key : String A) (g : RoomSessions)
    → slice_get es i ≡ Some (key, g)
    → slice_get (map named es) i ≡ Some (string_bytes key, g)
room_at es i key g h = slice_get-map named es i ∙ ap (option_map named) h

-- no room behind the last index
pub no_room_at : {A : Type 0} (es : List (String A × RoomSessions)) (i : ℕ) → slice_get es i ≡ None
    → slice_get (map named es) i ≡ None
no_room_at es i h = slice_get-map named es i ∙ ap (option_map named) h

-- the room and the session of a number, once its index is known
pub found_home : (hub : State) (s index : ℕ) (home : List ℕ × RoomSessions)
    → index_of hub s ≡ Some index → slice_get hub.rooms index ≡ Some home
    → room_and_session hub s ≡ option_map (λ x. (home.1.room, x)) (session_in home.1.sessions s)
found_home hub s index home h k = rw (h, k) refl

-- Writes, and the room of a session that is open.

-- if a room's sessions are written, its name stays
pub record Written {A : Type 0} (es : List (String A
    × RoomSessions)) (i : ℕ) (old new : RoomSessions) : Type 0 where
  pub name : List ℕ
  pub was : slice_get (map named es) i ≡ Some (name, old)
  pub is : map named (set_value_at es i new) ≡ slice_set (map named es) i (name, new)

pub written : {A : Type 0} (es : List (String A × RoomSessions)) (i : ℕ) (old new : RoomSessions)
    → slice_get (values_of es) i ≡ Some old → Written es i old new
written [] i old new h = absurd cc
written (e ∷ es) zero old new h =
    let same : e.1 ≡ old =
    cc in
    record { name = string_bytes e.0; was = ap (λ g. Some (string_bytes e.0, g)) same; is = refl }
written (e ∷ es) (suc i) old new h =
    let rest = written es i old new h in
    record { name = rest.name; was = rest.was; is = ap (λ rooms. named e ∷ rooms) rest.is }

-- rooms of which one was written as it was are the same
pub same_rooms : {A : Type 0} (es : List (String A × RoomSessions)) (i : ℕ) (old new : RoomSessions)
    → slice_get (values_of es) i ≡ Some old → new ≡ old
    → map named (set_value_at es i new) ≡ map named es
same_rooms es i old new there same =
    let w = written es i old new there in
    w.is
    ∙ (ap (λ g. slice_set (map named es) i (w.name, g)) same
    ∙ slice_set_same (map named es) i (w.name, old) w.was)

gone : {A : Type 0} (es : List (String A × RoomSessions)) (i : ℕ)
    → slice_get (values_of es) i ≡ None → slice_get (map named es) i ≡ None
gone [] i h = refl
gone (e ∷ es) zero h = absurd (cc h)
gone (e ∷ es) (suc i) h = gone es i h

-- there is a room at the index of a name
pub never_unnamed : {A : Type 0} (es : List (String A × RoomSessions)) (name : List ℕ) (i : ℕ)
    → index_named name (map named es) ≡ Some i → slice_get (values_of es) i ≡ None → ⊥
never_unnamed es name i found none =
    let room = some_named (map named es) name i found in
    absurd (cc (gone es i none, room.1))

module _ (h : Inside) (s i : ℕ) (is : IsHub (hub_of h)) (at : index_of (hub_of h) s ≡ Some i) where
  home : (name : List ℕ) × (g : RoomSessions) × (x : Session)
      × (slice_get (hub_of h).rooms i ≡ Some (name, g)) × (session_in g.sessions s ≡ Some x)
  home =
      let found = is.homes s i at in
      let r = found.room in
      let both : Some r.index ≡ Some i = sym found.at ∙ at in
      let same : r.index ≡ i = cc in (
        r.name,
        r.room_sessions,
        found.session,
        subst (λ p. slice_get (hub_of h).rooms p ≡ Some (r.name, r.room_sessions)) same r.there,
        found.is,
      )

  -- a room is at its index
  pub never_missing : slice_get (values h.rooms) i ≡ None → ⊥
  never_missing none = absurd (cc (gone h.rooms.entries i none, home.3))

  pub never_no_entry : slice_get h.rooms.entries i ≡ None → ⊥
  never_no_entry none =
      let no = slice_get-map named h.rooms.entries i ∙ ap (option_map named) none in
      absurd (cc (no, home.3))

  same_room_sessions : (name : List ℕ) (g : RoomSessions)
      → slice_get (hub_of h).rooms i ≡ Some (name, g) → home.1 ≡ g
  same_room_sessions name g there =
      let both : ◌≡◌ {A = Option (List ℕ × RoomSessions)} (Some (home.0, home.1)) (Some (
        name,
        g,
      )) = sym home.3 ∙ there in
      let one : ◌≡◌ {A = List ℕ × RoomSessions} (home.0, home.1) (name, g) = cc in
      ap (λ (r : List ℕ × RoomSessions). r.1) one

  -- and the session is in it
  pub entry_session : (name : List ℕ) (g : RoomSessions)
      → slice_get (hub_of h).rooms i ≡ Some (name, g)
      → (x : Session) × (session_in g.sessions s ≡ Some x)
  entry_session name g there = (
    home.2,
    subst (λ (k : RoomSessions).
        session_in k.sessions s ≡ Some home.2) (same_room_sessions name g there) home.4,
  )

  module _ (g : RoomSessions) (there : slice_get (values h.rooms) i ≡ Some g) where
    here : Written h.rooms.entries i g g
    here = written h.rooms.entries i g g there

    pub session_there : (x : Session) × (session_in g.sessions s ≡ Some x)
    session_there = entry_session here.name g here.was

    pub is_there : IsSome (session_in g.sessions s)
    is_there = let x = session_there in rw x.1 refl

    pub session_is : session_of (hub_of h) s ≡ session_in g.sessions s
    session_is = rw (at, here.was) refl

    pub hears : HasSpace g.sessions s → may_hear (session_of (hub_of h) s) ≡ true
    hears space =
        let x = session_there in
        let fits : nat_lt (length x.0.outbox.replies) MAX_REPLIES ≡ true =
        grind (arith, nat_tests, space x.0 x.1) in
        rw (session_is, x.1) fits

-- Steps.

-- the hub after the sessions of the room at an index were written
abbrev pub hub_with : Inside → ℕ → RoomSessions → State
hub_with h i g = hub_of (record h { rooms = with_value_at h.rooms i g })

-- the same, with other lists of homes and of wills
abbrev pub hub_leaving : Inside → ℕ → RoomSessions → List (ℕ × ℕ) → List Will → State
hub_leaving h i g homes wills = record {
  config = h.config;
  next = h.next;
  floor = h.floor;
  rooms = map named (set_value_at h.rooms.entries i g);
  homes = homes;
  wills = wills;
}

hub_with-is : (h : Inside) (i : ℕ) (old new : RoomSessions) (w : Written h.rooms.entries i old new)
    → hub_with h i new ≡ with_room i w.name new (hub_of h)
hub_with-is h i old new w =
    ap (λ rooms.
    record {
      config = h.config;
      next = h.next;
      floor = h.floor;
      rooms = rooms;
      homes = h.homes.entries;
      wills = h.wills.items;
    }) w.is

with_room_same : (hub : State) (i : ℕ) (name : List ℕ) (g : RoomSessions)
    → slice_get hub.rooms i ≡ Some (name, g) → with_room i name g hub ≡ hub
with_room_same hub i name g h =
    ap (λ rooms.
    record {
      config = hub.config;
      next = hub.next;
      floor = hub.floor;
      rooms = rooms;
      homes = hub.homes;
      wills = hub.wills;
    }) (slice_set_same hub.rooms i (name, g) h)

-- sessions that were written as they were are a hub as it was
pub same_hub : (h : Inside) (i : ℕ) (old new : RoomSessions)
    → slice_get (values h.rooms) i ≡ Some old → new ≡ old → hub_with h i new ≡ hub_of h
same_hub h i old new there same =
    let w = written h.rooms.entries i old new there in
    hub_with-is h i old new w
    ∙ (ap (λ g. with_room i w.name g (hub_of h)) same
    ∙ with_room_same (hub_of h) i w.name old w.was)

-- what is done in a session's room, or nothing, is a step if it is one in the room
module _ (h : Inside) (s i : ℕ) (old new : RoomSessions) (home : index_of (hub_of h) s
    ≡ Some i) (there : slice_get (values h.rooms) i ≡ Some old) where
  unchanged : new ≡ old → hub_with h i new ≡ hub_of h
  unchanged same = same_hub h i old new there same

  pub receives : (text : List ℕ) (answer : Option Answer)
      → ReceivesIf h.config s text answer old new
      → StepIf (hub_of h) (Receive s text) answer (hub_with h i new)
  receives text (Some answer) does =
      let w = written h.rooms.entries i old new there in
      rw (home, w.was) (new, does, hub_with-is h i old new w)
  receives text None same = unchanged same

  pub draws : (answer : Option Answer) → DrawsIf s answer old new
      → StepIf (hub_of h) (Draw s) answer (hub_with h i new)
  draws (Some answer) does =
      let w = written h.rooms.entries i old new there in
      rw (home, w.was) (new, does, hub_with-is h i old new w)
  draws None same = unchanged same

  -- a session that is closed is removed from the room and from the list of homes
  pub closes : (homes : List (ℕ × ℕ)) (wills : List Will) (x : Session)
      → session_in old.sessions s ≡ Some x → ChangesOnly s None old new
      → ((t : ℕ) → lookup (nat_eq t) homes ≡ (if s == t then None else index_of (hub_of h) t))
      → length homes + 1 ≡ length h.homes.entries
      → wills ≡ h.wills.items ++ left_of s x.will_number i x.will
      → Step (hub_of h) (Close s) answer.Closed (hub_leaving h i new homes wills)
  closes homes wills x is leaves home_after count adds =
      let w = written h.rooms.entries i old new there in
      rw (home, w.was, is) (record {
        next = refl;
        config = refl;
        floor = refl;
        left = new;
        leaves = leaves;
        rooms = w.is;
        home = home_after;
        count = count;
        wills = adds;
      })

-- the oldest will is done in its room
pub will_done : (h : Inside) (w : Will) (old new : RoomSessions) (left : List Will) (short : ℕ)
    → slice_get h.wills.items 0 ≡ Some w
    → slice_get (values h.rooms) w.room_index ≡ Some old → left ≡ remove h.wills.items 0
    → WillServed h.config w.patch (edited old.room None w.patch) short old new
    → Step (hub_of h) DoWill (answer.WillDone short)
    (hub_leaving h w.room_index new h.homes.entries left)
will_done h w old new left short oldest there is served =
    subst (λ wills. left ≡ remove wills 0
    → DoesWill wills (hub_of h) (answer.WillDone short)
    (hub_leaving h w.room_index new h.homes.entries left)) (sym all) done is
  where
    head : (wills : List Will) → slice_get wills 0 ≡ Some w → wills ≡ w ∷ drop 1 wills
    head (v ∷ wills) at = let same : v ≡ w = cc in ap (λ u. u ∷ wills) same
    head [] at = absurd (cc at)

    all : h.wills.items ≡ w ∷ drop 1 h.wills.items
    all = head h.wills.items oldest

    done : left ≡ remove (w ∷ drop 1 h.wills.items) 0
        → DoesWill (w ∷ drop 1 h.wills.items) (hub_of h) (answer.WillDone short)
        (hub_leaving h w.room_index new h.homes.entries left)
    done is =
        let k = written h.rooms.entries w.room_index old new there in (
          hub_with h w.room_index new,
          ap (λ wills. hub_leaving h w.room_index new h.homes.entries wills) is,
          rw k.was (new, served, hub_with-is h w.room_index old new k),
        )

-- the room of a name begins anew
abbrev anew : (h : Inside) (name : List ℕ) (i : ℕ) (old new : RoomSessions) (d : Document) (rev : ℕ)
    → index_named name (hub_of h).rooms ≡ Some i → slice_get (values h.rooms) i ≡ Some old
    → new ≡ room_sessions (begun d rev h.config.history) []
    → BeginsAnew (hub_of h) name rev d (hub_with h i new)
anew h name i old new d rev at there is =
    let w = written h.rooms.entries i old new there in
    let known = name_found (hub_of h).rooms name w.name old i at w.was in
    record {
      index = i;
      room = old;
      named = at;
      there = w.was ∙ ap (λ n. Some (n, old)) known;
      begins = hub_with-is h i old new w ∙ ap (λ n. with_room i n new (hub_of h)) known
          ∙ ap (λ g. with_room i name g (hub_of h)) is;
    }

-- the room of a name is forgotten, or not
pub forgets : (h : Inside) (name : List ℕ) (i : ℕ) (old new : RoomSessions)
    (result : Result ℕ ForgetFault) → index_named name (hub_of h).rooms ≡ Some i
    → slice_get (values h.rooms) i ≡ Some old
    → IfOk result (λ rev. (rev ≡ revision old.room + 1)
    × (new ≡ room_sessions (begun null rev h.config.history) []))
    → OnOk result (forget_fault_of old ≡ None)
    → IfErr result (λ fault. fault ≢ forget.NoMemory → forget_fault_of old ≡ Some fault)
    → OnErr result (new ≡ old)
    → StepIf (hub_of h) (Forget name) (forgetting result) (hub_with h i new)
forgets h name i old new result at there ok may fault err = go result ok may fault err
  where
    w : Written h.rooms.entries i old new
    w = written h.rooms.entries i old new there

    is : forget_fault (hub_of h) name ≡ forget_fault_of old
    is = fault_is (hub_of h) name i (w.name, old) at w.was

    refused : (why : ForgetFault) → forget_fault_of old ≡ Some why → new ≡ old
        → Step (hub_of h) (Forget name) (answer.NotForgotten why) (hub_with h i new)
    refused why because same = (is ∙ because, same_hub h i old new there same)

    go : (r : Result ℕ ForgetFault)
        → IfOk r (λ rev. (rev ≡ revision old.room + 1)
        × (new ≡ room_sessions (begun null rev h.config.history) []))
        → OnOk r (forget_fault_of old ≡ None)
        → IfErr r (λ fault. fault ≢ forget.NoMemory → forget_fault_of old ≡ Some fault)
        → OnErr r (new ≡ old)
        → StepIf (hub_of h) (Forget name) (forgetting r) (hub_with h i new)
    go (Ok rev) ok may fault err = (
      is ∙ may,
      (anew h name i old new null rev at there ok.1, ok.0),
    )
    go (Err forget.NoMemory) ok may fault err = same_hub h i old new there err
    go (Err forget.NoRoom) ok may fault err = refused forget.NoRoom (fault (λ e. absurd (cc e))) err
    go (Err forget.Occupied) ok may fault err =
        refused forget.Occupied (fault (λ e. absurd (cc e))) err
    go (Err forget.Exhausted) ok may fault err =
        refused forget.Exhausted (fault (λ e. absurd (cc e))) err

-- the room of a name adopts a document, or not
pub adopts : (h : Inside) (name : List ℕ) (rev : ℕ) (d : Document) (i : ℕ) (old new : RoomSessions)
    (result : Result (Unit {0}) AdoptFault) → index_named name (hub_of h).rooms ≡ Some i
    → slice_get (values h.rooms) i ≡ Some old
    → OnOk result (new ≡ room_sessions (begun d rev h.config.history) [])
    → OnOk result (anew_fault d rev old ≡ None)
    → IfErr result (λ fault. fault ≢ adopt.NoMemory → anew_fault d rev old ≡ Some fault)
    → OnErr result (new ≡ old)
    → StepIf (hub_of h) (Adopt name rev d) (adopting result) (hub_with h i new)
adopts h name rev d i old new result at there ok may fault err = go result ok may fault err
  where
    is : adopt_fault (hub_of h) name rev d ≡ anew_fault d rev old
    is =
        let w = written h.rooms.entries i old new there in
        adopt_fault_is (hub_of h) name rev d i (w.name, old) at w.was

    refused : (why : AdoptFault) → anew_fault d rev old ≡ Some why → new ≡ old
        → Step (hub_of h) (Adopt name rev d) (answer.NotAdopted why) (hub_with h i new)
    refused why because same = (is ∙ because, same_hub h i old new there same)

    go : (r : Result (Unit {0}) AdoptFault)
        → OnOk r (new ≡ room_sessions (begun d rev h.config.history) [])
        → OnOk r (anew_fault d rev old ≡ None)
        → IfErr r (λ fault. fault ≢ adopt.NoMemory → anew_fault d rev old ≡ Some fault)
        → OnErr r (new ≡ old)
        → StepIf (hub_of h) (Adopt name rev d) (adopting r) (hub_with h i new)
    go (Ok u) ok may fault err = (is ∙ may, anew h name i old new d rev at there ok)
    go (Err adopt.NoMemory) ok may fault err = same_hub h i old new there err
    go (Err adopt.NoRoom) ok may fault err = refused adopt.NoRoom (fault (λ e. absurd (cc e))) err
    go (Err adopt.Occupied) ok may fault err =
        refused adopt.Occupied (fault (λ e. absurd (cc e))) err
    go (Err adopt.NotAbove) ok may fault err =
        refused adopt.NotAbove (fault (λ e. absurd (cc e))) err
    go (Err adopt.TooDeep) ok may fault err = refused adopt.TooDeep (fault (λ e. absurd (cc e))) err
    go (Err adopt.TooHeavy) ok may fault err =
        refused adopt.TooHeavy (fault (λ e. absurd (cc e))) err

-- a call that is a step, or changes nothing, keeps `IsHub`
pub stays_hub : (old new : State) (event : Event) (answer : Option Answer) → IsHub old
    → StepIf old event answer new → IsHub new
stays_hub old new event (Some answer) h step = step_is_hub old new event answer h step
stays_hub old new event None h same = subst IsHub (sym same) h
