-- An entry that changes only one room, or nothing, keeps a hub standing for its log.
use Rattle.std.proofs.Common.{◌≡◌, ◌≢◌, ℕ, ◌==◌, true, List, ◌∷◌, Option, Some, None, refl, sym}
use Rattle.std.proofs.Common.{◌∙◌, ap, subst, inl, inr, slice_get, slice_set, map, if◌then◌else◌}
use Rattle.std.proofs.lemmas.Bool.Decides.{eqb_tells}
use Rattle.relay_room.specs.Room.{State as Room}
use Rattle.relay_tree.specs.Document.{Document}
use Rattle.relay_hub.specs.Log.{Log, Entry, Watching, Stay, home, is_opened, documents}
use Rattle.relay_hub.specs.Log.{beginning, watching, left, opened, open_count}
use Rattle.relay_hub.specs.Session.{Session}
use Rattle.relay_hub.specs.Stands.{RoomStands, OutboxStands, WatchStands, SessionStands, stay_of}
use Rattle.relay_hub.specs.Stands.{RoomSessionsStand, HomeStands, MayBegin, named_will, StandsFor}
use Rattle.relay_hub.specs.State.{RoomSessions, State, HaveRooms, RoomOf, Home, index_of}
use Rattle.relay_hub.specs.State.{index_named, session_in}
use Rattle.relay_hub.specs.Step.{ChangesOnly, with_room, with_wills}
use Rattle.relay_hub.specs.declared.config.HubConfig.{HubConfig}
use Rattle.relay_hub.specs.declared.will.Will.{Will}
use Rattle.relay_hub.proofs.Cases.{by_number}
use Rattle.relay_hub.proofs.Lists.{slice_set_cases, slice_get-set, slice_get-set_other}
use Rattle.relay_hub.proofs.Rooms.{named_set}
use Rattle.relay_hub.proofs.Wills.{have_set, named_set as same_wills}

-- no session is opened or closed by the entry
pub record Quiet (E : Log) (e : Entry) : Type 0 where
  pub opened : opened (e ∷ E) ≡ opened E
  pub count : open_count (e ∷ E) ≡ open_count E
  pub rooms : (name : List ℕ) → is_opened (e ∷ E) name ≡ is_opened E name

-- a session of a room
pub session_stands : (b : HubConfig) (E : Log) (hub : State) (t : ℕ) (r : RoomOf hub)
    → StandsFor b E hub → index_of hub t ≡ Some r.index
    → SessionStands b.max_waiting_patches (documents E) r.name r.room_sessions.room
    (session_in r.room_sessions.sessions t) (home E t) (watching b E t)
session_stands b E hub t r h at = rw (at, r.there) at (h.sessions t)

-- a session that is open
pub here : (b : HubConfig) (E : Log) (hub : State) (s : ℕ) (mine : Home hub s) → StandsFor b E hub
    → (home E s ≡ Some (stay_of mine.room.name mine.session))
    × OutboxStands b.max_waiting_patches mine.session
    × WatchStands (documents E mine.room.name) mine.room.room_sessions.room mine.session
    (watching b E s)
here b E hub s mine h =
    let found = session_stands b E hub s mine.room h mine.at in rw mine.is at found

-- two rooms have different names
names_apart : (b : HubConfig) (E : Log) (hub : State) (index p : ℕ) (name known : List ℕ)
    (g k : RoomSessions) → StandsFor b E hub
    → slice_get hub.rooms index ≡ Some (name, g) → slice_get hub.rooms p ≡ Some (known, k)
    → p ≢ index → known ≢ name
names_apart b E hub index p name known g k h at there apart same =
    let one = h.names index name g at in
    let two = h.names p known k there in
    let both : Some p ≡ Some index = sym two ∙ (ap (λ n. index_named n hub.rooms) same ∙ one) in
    apart cc

-- a session needs only the same documents of its room, the same home and the same watching
pub session_stays : (most : ℕ) (ds es : List ℕ
    → List Document) (name : List ℕ) (room : Room) (o : Option Session) (there : Option Stay)
    (w : Option Watching) → es name ≡ ds name
    → SessionStands most ds name room o there w → SessionStands most es name room o there w
session_stays most ds es name room (Some x) there w same h =
    (h.0, h.1, subst (λ l. WatchStands l room x w) (sym same) h.2)
session_stays most ds es name room None there w same h = h

pub room_sessions_stay : (most : ℕ) (ds es : List ℕ
    → List Document) (t : ℕ) (o : Option (List ℕ
    × RoomSessions)) (there : Option Stay) (w : Option Watching)
    → ((name : List ℕ) (g : RoomSessions) → o ≡ Some (name, g) → es name ≡ ds name)
    → RoomSessionsStand most ds t o there w → RoomSessionsStand most es t o there w
room_sessions_stay most ds es t (Some r) there w same h =
    session_stays most ds es r.0 r.1.room (session_in r.1.sessions t) there w (same r.0 r.1 refl) h
room_sessions_stay most ds es t None there w same h = h

home_stays : (most : ℕ) (ds es : List ℕ
    → List Document) (rooms : List (List ℕ
    × RoomSessions)) (t : ℕ) (o : Option ℕ) (there : Option Stay) (w : Option Watching)
    → ((name : List ℕ) → es name ≡ ds name) → HomeStands most ds rooms t o there w
    → HomeStands most es rooms t o there w
home_stays most ds es rooms t (Some p) there w same h =
    room_sessions_stay most ds es t (slice_get rooms p) there w (λ name g e. same name) h
home_stays most ds es rooms t None there w same h = h

-- an entry that changes nothing
pub unaffected : (b : HubConfig) (E : Log) (e : Entry) (hub : State) → StandsFor b E hub → Quiet E e
    → ((name : List ℕ) → beginning (e ∷ E) name ≡ beginning E name) → left (e ∷ E) ≡ left E
    → ((t : ℕ) → home (e ∷ E) t ≡ home E t)
    → ((name : List ℕ) → documents (e ∷ E) name ≡ documents E name)
    → ((t : ℕ) → watching b (e ∷ E) t ≡ watching b E t) → StandsFor b (e ∷ E) hub
unaffected b E e hub h quiet begins leaves homes same watches = record {
  config = h.config;
  floor = h.floor;
  is = h.is;
  next = rw quiet.opened h.next;
  count = h.count ∙ sym quiet.count;
  rooms = λ index name g at. rw (same name, begins name) (h.rooms index name g at);
  names = h.names;
  known = λ name index there. quiet.rooms name ∙ h.known name index there;
  others = λ name none. subst (MayBegin hub.floor) (sym (same name)) (h.others name none);
  sessions = λ t. rw (homes t, watches t)
      (home_stays b.max_waiting_patches (documents E) (documents (e ∷ E)) hub.rooms t
      (index_of hub t) (home E t) (watching b E t) same (h.sessions t));
  wills = h.wills ∙ sym leaves;
  housed = h.housed;
}

-- an entry after which the room at an index differs, and no documents of other names do
module _ (b : HubConfig) (E : Log) (e : Entry) (old : State) (r : RoomOf old) (h : RoomSessions)
    (stands : StandsFor b E old)
    (elsewhere : (other : List ℕ) → other ≢ r.name → documents (e ∷ E) other ≡ documents E other)
    (begins : (other : List ℕ) → other ≢ r.name → beginning (e ∷ E) other ≡ beginning E other) where
  pub set_rooms : RoomStands b (beginning (e ∷ E) r.name) (documents (e ∷ E) r.name) h.room
      → (p : ℕ) (known : List ℕ) (k : RoomSessions)
      → slice_get (slice_set old.rooms r.index (r.name, h)) p ≡ Some (known, k)
      → RoomStands b (beginning (e ∷ E) known) (documents (e ∷ E) known) k.room
  set_rooms room p known k is =
      elim (slice_set_cases old.rooms r.index p (r.name, h) (known, k) is) [
        | inl same ↦
            let named : known ≡ r.name = ap (λ (n : List ℕ × RoomSessions). n.0) same.1 in
            let is : k ≡ h = ap (λ (n : List ℕ × RoomSessions). n.1) same.1 in
            rw (named, is) room
        | inr other ↦
            let apart =
            names_apart b E old r.index p r.name known r.room_sessions k stands r.there
            other.1 other.0 in
            rw (elsewhere known apart, begins known apart) (stands.rooms p known k other.1)
      ]

  pub set_names : (p : ℕ) (known : List ℕ) (k : RoomSessions)
      → slice_get (slice_set old.rooms r.index (r.name, h)) p ≡ Some (known, k)
      → index_named known (slice_set old.rooms r.index (r.name, h)) ≡ Some p
  set_names p known k is =
      named_set old.rooms r.index r.name known r.room_sessions h r.there
      ∙ elim (slice_set_cases old.rooms r.index p (r.name, h) (known, k) is) [
        | inl same ↦
            let named : known ≡ r.name = ap (λ (n : List ℕ × RoomSessions). n.0) same.1 in
            rw (named, same.0) (stands.names r.index r.name r.room_sessions r.there)
        | inr other ↦ stands.names p known k other.1
      ]

  pub set_known : (other : List ℕ) (p : ℕ)
      → index_named other (slice_set old.rooms r.index (r.name, h)) ≡ Some p
      → is_opened E other ≡ true
  set_known other p there =
      stands.known other p (sym
      (named_set old.rooms r.index r.name other r.room_sessions h r.there) ∙ there)

  pub set_others : (other : List ℕ)
      → index_named other (slice_set old.rooms r.index (r.name, h)) ≡ None
      → MayBegin old.floor (documents (e ∷ E) other)
  set_others other none =
      let absent : index_named other old.rooms ≡ None =
      sym (named_set old.rooms r.index r.name other r.room_sessions h r.there) ∙ none in
      let apart : other ≢ r.name =
      λ same. let found = stands.names r.index r.name r.room_sessions r.there in
      absurd (cc (ap (λ n. index_named n old.rooms) same, absent, found)) in
      subst (MayBegin old.floor) (sym (elsewhere other apart)) (stands.others other absent)

  -- a session in another room is unchanged, and one in this room is notified
  pub set_home : (t : ℕ) (there : Option Stay) (w : Option Watching)
      → (index_of old t ≢ Some r.index → there ≡ home E t)
      → (index_of old t ≢ Some r.index → w ≡ watching b E t)
      → (index_of old t ≡ Some r.index
      → SessionStands b.max_waiting_patches (documents (e ∷ E)) r.name h.room
      (session_in h.sessions t) there w)
      → HomeStands b.max_waiting_patches (documents (e ∷ E)) (slice_set old.rooms r.index (
        r.name,
        h,
      )) t (index_of old t) there w
  set_home t there w known watches here = go (index_of old t) refl
    where
      away : (p : ℕ) → index_of old t ≡ Some p → p ≢ r.index → there ≡ home E t
          → w ≡ watching b E t
          → RoomSessionsStand b.max_waiting_patches (documents (e ∷ E)) t (slice_get old.rooms p)
          there w
      away p home_at apart same watched =
          rw (same, watched)
          (room_sessions_stay b.max_waiting_patches (documents E) (documents (e ∷ E)) t
          (slice_get old.rooms p) (home E t) (watching b E t)
          (λ other k is.
          elsewhere other (names_apart b E old r.index p r.name other r.room_sessions k stands
          r.there is apart))
          (rw home_at at (stands.sessions t)))

      go : (o : Option ℕ) → index_of old t ≡ o
          → HomeStands b.max_waiting_patches (documents (e ∷ E))
          (slice_set old.rooms r.index (r.name, h)) t o there w
      go None home_at =
          known (λ is. absurd (cc (home_at, is))) ∙ (rw home_at at (stands.sessions t))
      go (Some p) home_at =
          elim (eqb_tells p r.index) [
            | inl same ↦ rw (
              same.1,
              slice_get-set old.rooms r.index (r.name, r.room_sessions) (r.name, h) r.there,
            )
                (here (home_at ∙ ap Some same.1))
            | inr other ↦ rw (slice_get-set_other old.rooms r.index p (r.name, h) other.1)
                (away p home_at other.1 (known (elsewhere_at other.1))
                (watches (elsewhere_at other.1)))
          ]
        where
          elsewhere_at : p ≢ r.index → index_of old t ≢ Some r.index
          elsewhere_at apart is = apart (let both : Some p ≡ Some r.index = sym home_at ∙ is in cc)

  -- if no session is opened or closed, and these wills are left
  pub room_and_wills_change : (wills : List Will) → map (named_will old.rooms) wills ≡ left (e ∷ E)
      → HaveRooms old.rooms wills → Quiet E e
      → RoomStands b (beginning (e ∷ E) r.name) (documents (e ∷ E) r.name) h.room
      → ((t : ℕ) → index_of old t ≢ Some r.index → home (e ∷ E) t ≡ home E t)
      → ((t : ℕ) → index_of old t ≢ Some r.index → watching b (e ∷ E) t ≡ watching b E t)
      → ((t : ℕ) → index_of old t ≡ Some r.index
      → SessionStands b.max_waiting_patches (documents (e ∷ E)) r.name h.room
      (session_in h.sessions t) (home (e ∷ E) t) (watching b (e ∷ E) t))
      → StandsFor b (e ∷ E) (with_wills wills (with_room r.index r.name h old))
  room_and_wills_change wills leaves have quiet room homes watches here = record {
    config = stands.config;
    floor = stands.floor;
    is = stands.is;
    next = rw quiet.opened stands.next;
    count = stands.count ∙ sym quiet.count;
    rooms = set_rooms room;
    names = set_names;
    known = λ other p there. quiet.rooms other ∙ set_known other p there;
    others = set_others;
    sessions =
        λ t. set_home t (home (e ∷ E) t) (watching b (e ∷ E) t) (homes t) (watches t) (here t);
    wills = same_wills old.rooms r.index r.name r.room_sessions h wills r.there have ∙ leaves;
    housed = have_set old.rooms r.index (r.name, h) wills have;
  }

  -- the same if the wills are those that were left
  pub room_changes : left (e ∷ E) ≡ left E → Quiet E e
      → RoomStands b (beginning (e ∷ E) r.name) (documents (e ∷ E) r.name) h.room
      → ((t : ℕ) → index_of old t ≢ Some r.index → home (e ∷ E) t ≡ home E t)
      → ((t : ℕ) → index_of old t ≢ Some r.index → watching b (e ∷ E) t ≡ watching b E t)
      → ((t : ℕ) → index_of old t ≡ Some r.index
      → SessionStands b.max_waiting_patches (documents (e ∷ E)) r.name h.room
      (session_in h.sessions t) (home (e ∷ E) t) (watching b (e ∷ E) t))
      → StandsFor b (e ∷ E) (with_room r.index r.name h old)
  room_changes leaves quiet room homes watches here =
      room_and_wills_change old.wills (stands.wills
      ∙ sym leaves) stands.housed quiet room homes watches here

  -- if only one session differs, and no documents do
  pub session_changes : left (e ∷ E) ≡ left E → beginning (e ∷ E) r.name ≡ beginning E r.name
      → Quiet E e → ((other : List ℕ) → documents (e ∷ E) other ≡ documents E other)
      → (s : ℕ) (y : Session) → index_of old s ≡ Some r.index
      → home (e ∷ E) s ≡ Some (stay_of r.name y)
      → ChangesOnly s (Some y) r.room_sessions h
      → ((t : ℕ) → s ≢ t → (home (e ∷ E) t ≡ home E t) × (watching b (e ∷ E) t ≡ watching b E t))
      → OutboxStands b.max_waiting_patches y
      → WatchStands (documents E r.name) r.room_sessions.room y (watching b (e ∷ E) s)
      → StandsFor b (e ∷ E) (with_room r.index r.name h old)
  session_changes leaves began quiet same s y s_at s_home changes others contents watch =
      room_changes leaves quiet
      (rw (same r.name, began, changes.0) (stands.rooms r.index r.name r.room_sessions r.there))
      (λ t apart. (others t (other_number t apart)).0)
      (λ t apart. (others t (other_number t apart)).1)
      (λ t t_at. rw (changes.0, changes.1.found t)
      (session_stays b.max_waiting_patches (documents E) (documents (e ∷ E)) r.name
      r.room_sessions.room (if s == t then Some y
      else session_in r.room_sessions.sessions t) (home (e ∷ E) t) (watching b (e ∷ E) t)
      (same r.name)
      (by_number (λ t c.
      SessionStands b.max_waiting_patches (documents E) r.name r.room_sessions.room (if c
      then Some y else session_in r.room_sessions.sessions t) (home (e ∷ E) t)
      (watching b (e ∷ E) t)) s t
      (s_home, contents, watch)
      (λ apart. rw (
        (others t apart).0,
        (others t apart).1,
      ) (session_stands b E old t r stands t_at)))))
    where
      other_number : (t : ℕ) → index_of old t ≢ Some r.index → s ≢ t
      other_number t apart is = apart (subst (λ u. index_of old u ≡ Some r.index) is s_at)
