-- A hub that gives back what it can stays a hub, and stands for the same log.
use Rattle.std.proofs.Common.{◌≡◌, ℕ, ◌+◌, ◌==◌, Bool, true, false, cond, not, List, [], ◌∷◌, map}
use Rattle.std.proofs.Common.{Option, Some, None, refl, sym, ◌∙◌, ap, slice_get, option_map}
use Rattle.std.proofs.Common.{option_and_then, bytes_eq, arith, if◌then◌else◌}
use Rattle.std.specs.List.{position_or_len}
use Rattle.std.specs.Option.{option_map_or}
use Rattle.std.proofs.lemmas.List.{length-map}
use Rattle.std.proofs.lemmas.Option.{slice_get-map}
use Rattle.relay_audience.specs.declared.audience.Audience.{Audience}
use Rattle.relay_outbox.specs.Outbox.{Contents}
use Rattle.relay_patch.specs.declared.op.Op.{Op}
use Rattle.relay_proto.specs.declared.reply.Reply.{Reply}
use Rattle.relay_room.specs.Room.{State as Room, trimmed}
use Rattle.relay_tree.specs.Document.{Document}
use Rattle.relay_tree.specs.declared.budget.Budget.{Budget}
use Rattle.relay_tree.specs.declared.budget.Budget.TheVariants.{Unbounded}
use Rattle.relay_hub.specs.Log.{Log, Watching, Stay, Bequest, home, documents, watching}
use Rattle.relay_hub.specs.Session.{Session, with_outbox, later}
use Rattle.relay_hub.specs.Shed.{shed_budget, fold_patches, shed_session, shed_room, shed_named}
use Rattle.relay_hub.specs.Shed.{shed}
use Rattle.relay_hub.specs.Stands.{RoomStands, OutboxStands, WatchStands, SessionStands}
use Rattle.relay_hub.specs.Stands.{RoomSessionsStand, HomeStands, Follows, named_will, StandsFor}
use Rattle.relay_hub.specs.State.{RoomSessions, State, EachOnce, IsHub, numbers, index_of}
use Rattle.relay_hub.specs.State.{index_named, session_in}
use Rattle.relay_hub.specs.Watched.{AreAudiencesOf}
use Rattle.relay_hub.specs.declared.config.HubConfig.{HubConfig}
use Rattle.relay_hub.specs.declared.will.Will.{Will}
use Rattle.relay_hub.proofs.Documents.{trimmed_stands}
use Rattle.relay_hub.proofs.Follow.{EachLeads-left, Follows-snapshot}
use Rattle.relay_hub.proofs.Rising.{same_rises}
use Rattle.relay_hub.proofs.Wills.{have_more}

-- Sessions.

pub shed_found : (xs : List Session) (t : ℕ)
    → session_in (map shed_session xs) t ≡ option_map shed_session (session_in xs t)
shed_found [] t = refl
shed_found (x ∷ xs) t =
    step (x.number == t) (session_in (map shed_session xs) t) (session_in xs t) (shed_found xs t)
  where
    step : (b : Bool) (o p : Option Session) → o ≡ option_map shed_session p
        → (if b then Some (shed_session x) else o)
        ≡ option_map shed_session (if b then Some x else p)
    step true o p h = refl
    step false o p h = h

pub shed_once : (xs : List Session) → EachOnce xs → EachOnce (map shed_session xs)
shed_once [] h = tt
shed_once (x ∷ xs) h = (shed_found xs x.number ∙ ap (option_map shed_session) h.0, shed_once xs h.1)

shed_numbers : (xs : List Session) → numbers (map shed_session xs) ≡ numbers xs
shed_numbers [] = refl
shed_numbers (x ∷ xs) = ap (λ ns. x.number ∷ ns) (shed_numbers xs)

pub shed_agrees : (audiences : List Audience) (xs : List Session) → AreAudiencesOf audiences xs
    → AreAudiencesOf audiences (map shed_session xs)
shed_agrees audiences xs h = record {
  rising = same_rises xs (map shed_session xs) (shed_numbers xs) h.rising;
  agrees = λ t. h.agrees t
      ∙ same_view (session_in xs t) (session_in (map shed_session xs) t) (shed_found xs t);
}
  where
    same_view : (o p : Option Session) → p ≡ option_map shed_session o
        → option_and_then (λ x. x.view) o ≡ option_and_then (λ x. x.view) p
    same_view (Some x) p h = rw h refl
    same_view None p h = rw h refl

-- Rooms.

-- a room that was there
record Was (hub : State) (budget : Budget) (index : ℕ) (name : List ℕ) (g : RoomSessions) : Type 0
  where
    old : RoomSessions
    there : slice_get hub.rooms index ≡ Some (name, old)
    is : g ≡ shed_room budget old

was : (hub : State) (budget : Budget) (index : ℕ) (name : List ℕ) (g : RoomSessions)
    → slice_get (map (shed_named budget) hub.rooms) index ≡ Some (name, g)
    → Was hub budget index name g
was hub budget index name g at =
    go (slice_get hub.rooms index) refl (sym (slice_get-map (shed_named budget) hub.rooms index)
    ∙ at)
  where
    go : (o : Option (List ℕ × RoomSessions)) → slice_get hub.rooms index ≡ o
        → option_map (shed_named budget) o ≡ Some (name, g) → Was hub budget index name g
    go None there h = absurd (cc h)
    go (Some r) there h =
        let both : ◌≡◌ {A = List ℕ × RoomSessions} (r.0, shed_room budget r.1) (name, g) = cc in
        let named : r.0 ≡ name = ap (λ (x : List ℕ × RoomSessions). x.0) both in
        record {
          old = r.1;
          there = there ∙ ap (λ n. Some (n, r.1)) named;
          is = sym (ap (λ (x : List ℕ × RoomSessions). x.1) both);
        }

shed_names : (name : List ℕ) (budget : Budget) (rooms : List (List ℕ × RoomSessions))
    → index_named name (map (shed_named budget) rooms) ≡ index_named name rooms
shed_names name budget rooms = rw (go rooms, length-map rooms (shed_named budget)) refl
  where
    go : (rs : List (List ℕ × RoomSessions))
        → position_or_len (λ room. bytes_eq name room.0) (map (shed_named budget) rs)
        ≡ position_or_len (λ room. bytes_eq name room.0) rs
    go [] = refl
    go (r ∷ rs) = ap (λ n. cond (not (bytes_eq name r.0)) (1 + n) 0) (go rs)

some_shed : (o p : Option Session) (y : Session) → p ≡ option_map shed_session o → p ≡ Some y
    → (x : Session) × (o ≡ Some x)
some_shed (Some x) p y h is = (x, refl)
some_shed None p y h is = absurd (cc (h, is))

pub shed_is_hub : (hub : State) → IsHub hub → IsHub (shed hub)
shed_is_hub hub h = record {
  config = h.config;
  floor = h.floor;
  below = h.below;
  homes = λ t index at.
      let mine = h.homes t index at in
      let r = mine.room in
      record {
        room =
            record {
              index = r.index;
              name = r.name;
              room_sessions =
                  shed_room budget r.room_sessions;
              there =
                  slice_get-map (shed_named budget) hub.rooms r.index
                  ∙ ap (option_map (shed_named budget)) r.there;
            };
        session = shed_session mine.session;
        at = mine.at;
        is = shed_found r.room_sessions.sessions t ∙ ap (option_map shed_session) mine.is;
      };
  members = λ index name g at t y is.
      let w = was hub budget index name g at in
      let found = ap (λ (k : RoomSessions). session_in k.sessions t) (sym w.is) ∙ is in
      let x =
      some_shed (session_in w.old.sessions t)
      (session_in (map shed_session w.old.sessions) t) y (shed_found w.old.sessions t)
      found in
      h.members index name w.old w.there t x.0 x.1;
  once = λ index name g at.
      let w = was hub budget index name g at in
      rw w.is (shed_once w.old.sessions (h.once index name w.old w.there));
  few = h.few;
  wills =
      have_more hub.rooms (map (shed_named budget) hub.rooms) hub.wills (omega (
        arith,
        length-map hub.rooms (shed_named budget),
      )) h.wills;
}
  where
    budget : Budget
    budget = shed_budget hub.config.history_weight

-- The wills name the rooms that they named.
shed_wills : (rooms : List (List ℕ × RoomSessions)) (budget : Budget) (wills : List Will)
    → map (named_will (map (shed_named budget) rooms)) wills ≡ map (named_will rooms) wills
shed_wills rooms budget [] = refl
shed_wills rooms budget (w ∷ wills) =
    rw (
      slice_get-map (shed_named budget) rooms w.room_index,
      shed_wills rooms budget wills,
    ) (one (slice_get rooms w.room_index))
  where
    bequest : Option (List ℕ × RoomSessions) → Bequest
    bequest o = record {
      session = w.session;
      number = w.number;
      room = option_map_or (λ r. r.0) o [];
      patch = w.patch;
    }

    one : (o : Option (List ℕ × RoomSessions))
        → bequest (option_map (shed_named budget) o) ∷ map (named_will rooms) wills
        ≡ bequest o ∷ map (named_will rooms) wills
    one None = refl
    one (Some r) = refl

-- The log.

fold_stands : (most : ℕ) (x : Session) → OutboxStands most x → OutboxStands most (shed_session x)
fold_stands most x h = go x.outbox.patches refl
  where
    go : (ps : List (ℕ × List Op)) → x.outbox.patches ≡ ps
        → OutboxStands most (with_outbox (fold_patches ps x.outbox) x)
    go [] is = h
    go (p ∷ ps) is =
        record { max_waiting_patches = h.max_waiting_patches; replies = h.replies; patches = tt }

fold_follows : {from : ℕ} (b : HubConfig) (ds : List Document) (room : Room) (w : Watching)
    (contents : Contents Reply (ℕ × List Op)) → RoomStands b from ds room
    → Follows ds w (later room w.view contents)
    → Follows ds w (later room w.view (fold_patches contents.patches contents))
fold_follows b ds room w contents stands h = go contents.patches refl
  where
    go : (ps : List (ℕ × List Op)) → contents.patches ≡ ps
        → Follows ds w (later room w.view (fold_patches ps contents))
    go [] is = h
    go (p ∷ ps) is =
        Follows-snapshot b ds w room stands
        (EachLeads-left ds w.view w.start w.heard (later room w.view contents) h.each)

watch_stands : {from : ℕ} (b : HubConfig) (ds : List Document) (room : Room) (budget : Budget)
    (x : Session) (w : Option Watching) → RoomStands b from ds room → WatchStands ds room x w
    → WatchStands ds (trimmed budget room) (shed_session x) w
watch_stands b ds room budget x (Some w) stands h =
    (h.0, fold_follows b ds room w x.outbox stands h.1)
watch_stands b ds room budget x None stands h = let i = idle x.outbox.patches h.1 in (h.0, i.0, i.1)
  where
    idle : (ps : List (ℕ × List Op)) → ps ≡ []
        → ((fold_patches ps x.outbox).patches ≡ []) × ((fold_patches ps x.outbox).due ≡ false)
    idle [] e = (h.1, h.2)
    idle (p ∷ ps) e = absurd (cc e)

session_stands : {from : ℕ} (b : HubConfig) (docs : List ℕ
    → List Document) (name : List ℕ) (room : Room) (budget : Budget) (o : Option Session)
    (there : Option Stay) (w : Option Watching)
    → RoomStands b from (docs name) room
    → SessionStands b.max_waiting_patches docs name room o there w
    → SessionStands b.max_waiting_patches docs name (trimmed budget room)
    (option_map shed_session o) there w
session_stands b docs name room budget (Some x) there w stands h = (
  h.0,
  fold_stands b.max_waiting_patches x h.1,
  watch_stands b (docs name) room budget x w stands h.2,
)
session_stands b docs name room budget None there w stands h = h

module _ (b : HubConfig) (E : Log) (hub : State) (h : StandsFor b E hub) where
  abbrev budget : Budget
  budget = shed_budget hub.config.history_weight

  free : b.history_weight ≡ Unbounded → budget ≡ Unbounded
  free is =
      let same : hub.config.history_weight ≡ Unbounded =
      ap (λ (config : HubConfig). config.history_weight) h.config ∙ is in ap shed_budget same

  room_stands : (t : ℕ) (o : Option (List ℕ × RoomSessions)) (index : ℕ)
      → slice_get hub.rooms index ≡ o
      → RoomSessionsStand b.max_waiting_patches (documents E) t o (home E t) (watching b E t)
      → RoomSessionsStand b.max_waiting_patches (documents E) t (option_map (shed_named budget) o)
      (home E t) (watching b E t)
  room_stands t (Some r) index at k =
      rw (shed_found r.1.sessions t)
      (session_stands b (documents E) r.0 r.1.room budget (session_in r.1.sessions t)
      (home E t) (watching b E t) (h.rooms index r.0 r.1 at) k)
  room_stands t None index at k = k

  home_stands : (t : ℕ) (o : Option ℕ)
      → HomeStands b.max_waiting_patches (documents E) hub.rooms t o (home E t) (watching b E t)
      → HomeStands b.max_waiting_patches (documents E) (map (shed_named budget) hub.rooms) t o
      (home E t) (watching b E t)
  home_stands t (Some index) k =
      rw (slice_get-map (shed_named budget) hub.rooms index)
      (room_stands t (slice_get hub.rooms index) index refl k)
  home_stands t None k = k

  pub shed_stands : StandsFor b E (shed hub)
  shed_stands = record {
    config = h.config;
    floor = h.floor;
    is = h.is;
    next = h.next;
    count = h.count;
    rooms = λ index name g at.
        let w = was hub budget index name g at in
        rw w.is (trimmed_stands b (documents E name) w.old.room budget free
        (h.rooms index name w.old w.there));
    names = λ index name g at.
        let w = was hub budget index name g at in
        shed_names name budget hub.rooms ∙ h.names index name w.old w.there;
    known = λ name index there. h.known name index (sym (shed_names name budget hub.rooms) ∙ there);
    others = λ name none. h.others name (sym (shed_names name budget hub.rooms) ∙ none);
    sessions = λ t. home_stands t (index_of hub t) (h.sessions t);
    wills = shed_wills hub.rooms budget hub.wills ∙ h.wills;
    housed =
        have_more hub.rooms (map (shed_named budget) hub.rooms) hub.wills (omega (
          arith,
          length-map hub.rooms (shed_named budget),
        )) h.housed;
  }
