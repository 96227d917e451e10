-- A store mirrors the hub once the news of all rooms are committed.
use Rattle.std.proofs.Common.{◌≡◌, ◌≢◌, ◌∙◌, ◌+◌, ◌<◌, ◌≤◌, ℕ, zero, suc, Bool, true, false}
use Rattle.std.proofs.Common.{min, List, [], ◌∷◌, ◌++◌, length, map, nat_lt, slice_get, bytes_eq}
use Rattle.std.proofs.Common.{Option, Some, None, arith, ap, subst, sym, refl, if◌then◌else◌}
use Rattle.std.proofs.lemmas.Bool.Decides.{nat_tests}
use Rattle.std.proofs.lemmas.Slice.Eq.{bytes_eq-Decides}
use Rattle.std.specs.Option.{option_map, option_and_then, option_to_list, unwrap_or}
use Rattle.std.specs.String.{string_bytes}
use Rattle.relay_hub.specs.Log.{Log, beginning, documents, present_of}
use Rattle.relay_hub.specs.EncodedPatch.{IsTextOf}
use Rattle.relay_hub.specs.Session.{snapshot_of}
use Rattle.relay_hub.specs.Since.{Writes, is_snapshot, message_since}
use Rattle.relay_hub.specs.Stands.{HoldsRevision, RoomStands, StandsFor}
use Rattle.relay_hub.specs.State.{RoomSessions, State, index_named}
use Rattle.relay_hub.specs.Summary.{room_named}
use Rattle.relay_hub.specs.declared.config.HubConfig.{HubConfig}
use Rattle.relay_hub.proofs.Documents.{slice_get-present}
use Rattle.relay_hub.proofs.Rooms.{name_found}
use Rattle.relay_limits.specs.declared.TheConstants.{MAX_COUNT}
use Rattle.relay_proto.specs.declared.message.Message.{Message}
use Rattle.relay_proto.specs.Client.{Client, holds, nothing, lost}
use Rattle.relay_room.specs.Room.{State as Room, revision}
use Rattle.relay_store.specs.declared.change.Change.TheVariants.{Begin, Edit, RaiseFloor}
use Rattle.relay_store.proofs.Laws.{committed_append}
use Rattle.relay_store.specs.Kept as store
use Rattle.relay_store.specs.Kept.{Kept, Room as KeptRoom, committed, edited}
use Rattle.relay_tree.specs.Document.{Document}
use Rattle.relay_view.specs.View.{view}
use Rattle.relay_keeping.specs.Clients.{patch_of, record_of}
use Rattle.relay_keeping.specs.Mirrored.{IsKept, Makes, Mirrors, client_of, kept_named, seen_whole}
use Rattle.relay_keeping.specs.Mirrored.{whole_view}
use Rattle.relay_keeping.specs.News.{AreNews, HasNews, IsNewsOf, change_of, changes_of, risen}
use Rattle.relay_keeping.specs.Noted.{Noted, noted_at}
use Rattle.relay_keeping.specs.Trailing.{Once, Trails}
use Rattle.relay_keeping.specs.declared.news.News.{News}
use Rattle.relay_keeping.proofs.AllBegun.{no_room}
use Rattle.relay_keeping.proofs.Bringing.{is_snapshot_of, message_brings, snapshot_brings}
use Rattle.relay_keeping.proofs.Committing.{ends, ends_gone, ends_leave, ends_none}
use Rattle.relay_keeping.proofs.Committing.{NewsHere, floor_stays, news_here, news_leave}
use Rattle.relay_keeping.proofs.Committing.{room_after_if}
use Rattle.relay_keeping.proofs.Hearing.{client_of_edited, revision_of_edited}
use Rattle.relay_keeping.proofs.Named.{room_after}

-- a client that holds the present revision sees the present document
holds_present : {from : ℕ} (b : HubConfig) (ds : List Document) (room : Room)
    → RoomStands b from ds room → (rev : ℕ) → rev ≡ revision room → (c : Client)
    → HoldsRevision ds whole_view rev c → c ≡ holds (revision room) (seen_whole room.document)
holds_present b ds room stands rev now (holds held tree) is =
    let present = slice_get-present ds (revision room) stands.numbered in
    let shows : Some (seen_whole (present_of ds)) ≡ Some tree =
    sym (ap (option_map (view whole_view)) (ap (slice_get ds) now ∙ present)) ∙ is.1 in
    let sees : seen_whole (present_of ds) ≡ tree = cc shows in
    let tree_is = sym sees ∙ ap seen_whole (sym stands.document) in
    let held_is = is.0 ∙ now in
    λ i. holds (held_is i) (tree_is i)
holds_present b ds room stands rev now nothing is = absurd is
holds_present b ds room stands rev now lost is = absurd is

-- there is a room at each index below the number of rooms
there_is : (rooms : List (List ℕ × RoomSessions)) (i : ℕ) → i < length rooms
    → (room : List ℕ × RoomSessions) × (slice_get rooms i ≡ Some room)
there_is [] i within = absurd (omega (arith, within))
there_is (room ∷ rooms) zero within = (room, refl)
there_is (room ∷ rooms) (suc i) within = there_is rooms i (omega (arith, within))

-- the room of a name is at an index
pub found_at : (name : List ℕ) (rooms : List (List ℕ × RoomSessions)) (room : List ℕ × RoomSessions)
    → room_named name rooms ≡ Some room
    → (i : ℕ) × (slice_get rooms i ≡ Some room) × (room.0 ≡ name)
found_at name rooms room found = go (index_named name rooms) refl found
  where
    go : (o : Option ℕ) → index_named name rooms ≡ o
        → option_and_then (slice_get rooms) o ≡ Some room
        → (i : ℕ) × (slice_get rooms i ≡ Some room) × (room.0 ≡ name)
    go (Some i) is at = (i, at, name_found rooms name room.0 room.1 i is at)
    go None is at = absurd (cc at)

-- no two rooms of a hub have the same name
pub names_once : (b : HubConfig) (E : Log) (hub : State) → StandsFor b E hub → Once hub.rooms
names_once b E hub stands i j r s at there same =
    let both : Some i ≡ Some j = sym (stands.names i r.0 r.1 at)
    ∙ ap (λ name. index_named name hub.rooms) same ∙ stands.names j s.0 s.1 there in
    cc both

module _ (b : HubConfig) (E : Log) (hub : State) (kept : Kept) (noted : Noted) (least : ℕ)
    (news : List News) (stands : StandsFor b E hub) (trails : Trails E kept noted least hub)
    (are : AreNews noted 0 hub.rooms news) where
  abbrev ended : Kept
  ended = committed kept (ends noted news)

  abbrev told : Kept
  told = committed ended (map change_of news)

  -- A room of the hub.

  module _ (name : List ℕ) (g : RoomSessions) (i : ℕ)
      (at : slice_get hub.rooms i ≡ Some (name, g)) where
    room_stands : RoomStands b (beginning E name) (documents E name) g.room
    room_stands = stands.rooms i name g at

    -- if it was noted, its name did not end
    unended : (rev : ℕ) → noted_at noted i ≡ Some (name, rev)
        → kept_named name ended.rooms ≡ kept_named name kept.rooms
    unended rev there = ends_leave name noted 0 hub.rooms news kept are same
      where
        same : (j : ℕ) (room : List ℕ × RoomSessions) (r : ℕ) → slice_get hub.rooms j ≡ Some room
            → noted_at noted (0 + j) ≡ Some (name, r) → room.0 ≡ name
        same j room r found noted_there =
            let plain : 0 + j ≡ j = omega arith in
            let index : j ≡ i = trails.once j i name r rev
            (subst (λ n. noted_at noted n ≡ Some (name, r)) plain noted_there) there in
            let both : ◌≡◌ {A = Option (List ℕ × RoomSessions)} (Some room) (Some (name, g)) =
            sym found ∙ ap (slice_get hub.rooms) index ∙ at in
            let one : ◌≡◌ {A = List ℕ × RoomSessions} room (name, g) = cc both in
            ap (λ (r : List ℕ × RoomSessions). r.0) one

    -- if it has no news, what was kept of it is kept, and makes it
    without_news : noted_at noted i ≡ Some (name, revision g.room)
        → kept_named name told.rooms ≡ kept_named name ended.rooms
        → IsKept (kept_named name told.rooms) (Some (name, g))
    without_news there same =
        let was = trails.kept i name (revision g.room) there in
        let is = same ∙ unended (revision g.room) there ∙ was.named in
        subst (λ k. IsKept k (Some (name, g))) (sym is) (record {
          client = holds_present b (documents E name) g.room room_stands
              (store.revision was.room) was.at (client_of was.room)
              (trails.clients name was.room was.named);
          revision = was.at;
        })

    -- its record begins
    begins : (x : News) → IsNewsOf (noted_at noted i) i (name, g) x → x.update.is_snapshot ≡ true
        → Makes (record_of (string_bytes x.name) x.update.revision (string_bytes x.update.text))
        g.room
    begins x has snapshot =
        let message = is_snapshot_of b (documents E name) g.room room_stands has.message has.held
        has.told (sym has.writes.kind ∙ snapshot) in
        record {
          client = snapshot_brings b (documents E name) g.room room_stands
              (string_bytes x.update.text)
              (subst (IsTextOf (string_bytes x.update.text)) message has.writes.text) nothing;
          revision = has.writes.revision;
        }

    -- it goes on by a patch
    goes_on : (x : News) (rev : ℕ) (m : Message) → noted_at noted i ≡ Some (name, rev)
        → message_since g.room whole_view (Some rev) ≡ Some m
        → Writes (revision g.room) m x.update
        → kept_named name told.rooms
        ≡ option_map (edited (patch_of x.update.revision (string_bytes x.update.text)))
        (kept_named name ended.rooms)
        → IsKept (kept_named name told.rooms) (Some (name, g))
    goes_on x rev m there since writes same =
        let was = trails.kept i name rev there in
        let text = string_bytes x.update.text in
        let patch = patch_of x.update.revision text in
        let is = same ∙ ap (option_map (edited patch)) (unended rev there ∙ was.named) in
        let held = subst (λ r. HoldsRevision (documents E name) whole_view r (client_of was.room))
        was.at (trails.clients name was.room was.named) in
        subst (λ k. IsKept k (Some (name, g))) (sym is) (record {
          client = client_of_edited was.room patch
              ∙ message_brings b (documents E name) g.room room_stands text m rev
              (client_of was.room) held since writes.text;
          revision = revision_of_edited was.room patch ∙ writes.revision;
        })

    -- the room is kept, whatever its news are
    here : IsKept (kept_named name told.rooms) (Some (name, g))
    here = go made.news made.has made.is
      where
        zero_plus : 0 + i ≡ i
        zero_plus = omega arith

        made : NewsHere (noted_at noted i) i (name, g) ended told
        made = subst (λ n. NewsHere (noted_at noted n) n (name, g) ended told) zero_plus
            (news_here noted 0 hub.rooms news ended i (name, g) are (names_once b E hub stands) at)

        named : (x : News) → IsNewsOf (noted_at noted i) i (name, g) x
            → bytes_eq (string_bytes x.name) name ≡ true
        named x has = (bytes_eq-Decides (string_bytes x.name) name).1 has.name

        by_held : (x : News) (m : Message) (held : Option ℕ)
            → ((rev : ℕ) → held ≡ Some rev → noted_at noted i ≡ Some (name, rev))
            → message_since g.room whole_view held ≡ Some m → is_snapshot m ≡ false
            → Writes (revision g.room) m x.update
            → kept_named name told.rooms
            ≡ option_map (edited (patch_of x.update.revision (string_bytes x.update.text)))
            (kept_named name ended.rooms)
            → IsKept (kept_named name told.rooms) (Some (name, g))
        by_held x m None same since patch writes is =
            let snapshot : snapshot_of g.room whole_view ≡ m = cc since in
            absurd (cc (ap is_snapshot snapshot ∙ patch))
        by_held x m (Some rev) same since patch writes is =
            goes_on x rev m (same rev refl) since writes is

        by_kind : (x : News) → IsNewsOf (noted_at noted i) i (name, g) x → (kind : Bool)
            → x.update.is_snapshot ≡ kind
            → kept_named name told.rooms ≡ room_after name (if kind
            then Begin (string_bytes x.name) x.update.revision (string_bytes x.update.text)
            else Edit (string_bytes x.name) x.update.revision (string_bytes x.update.text))
            (kept_named name ended.rooms)
            → IsKept (kept_named name told.rooms) (Some (name, g))
        by_kind x has true kind is =
            let record_is = record_of (string_bytes x.name) x.update.revision
            (string_bytes x.update.text) in
            subst (λ k. IsKept k (Some (name, g)))
            (sym (is ∙ ap (λ b. if b then Some record_is else kept_named name ended.rooms)
            (named x has)))
            (begins x has kind)
        by_kind x has false kind is =
            let patch = patch_of x.update.revision (string_bytes x.update.text) in
            by_held x has.message has.held has.same has.told (sym has.writes.kind ∙ kind) has.writes
            (is ∙ ap (λ b. if b then option_map (edited patch) (kept_named name ended.rooms)
            else kept_named name ended.rooms) (named x has))

        go : (o : Option News) → HasNews (noted_at noted i) i (name, g) o
            → kept_named name told.rooms
            ≡ room_after_if name (option_map change_of o) (kept_named name ended.rooms)
            → IsKept (kept_named name told.rooms) (Some (name, g))
        go None has is = without_news has is
        go (Some x) has is = by_kind x has x.update.is_snapshot refl is

  -- A name that no room of the hub has.

  gone : (name : List ℕ) → room_named name hub.rooms ≡ None → kept_named name told.rooms ≡ None
  gone name none = left ∙ by_kept (kept_named name kept.rooms) refl
    where
      unnamed : index_named name hub.rooms ≡ None
      unnamed = no_room hub.rooms name none

      others : (i : ℕ) (room : List ℕ × RoomSessions) → slice_get hub.rooms i ≡ Some room
          → room.0 ≢ name
      others i room at same =
          absurd (cc (sym (stands.names i room.0 room.1 at)
          ∙ ap (λ n. index_named n hub.rooms) same ∙ unnamed))

      left : kept_named name told.rooms ≡ kept_named name ended.rooms
      left = news_leave name noted 0 hub.rooms news ended are others

      by_kept : (k : Option KeptRoom) → kept_named name kept.rooms ≡ k
          → kept_named name ended.rooms ≡ None
      by_kept None named = ends_none name noted news kept named
      by_kept (Some room) named =
          let is = trails.noted name room named in
          let there = there_is hub.rooms is.index is.within in
          let plain : is.index ≡ 0 + is.index = omega arith in
          ends_gone name noted 0 hub.rooms news kept is.index there.0
          (store.revision room) are there.1
          (subst (λ n. noted_at noted n ≡ Some (name, store.revision room)) plain is.there)
          (others is.index there.0 there.1)

  -- each room that is kept is that of the hub
  pub are_kept : (name : List ℕ) → IsKept (kept_named name told.rooms) (room_named name hub.rooms)
  are_kept name = go (room_named name hub.rooms) refl
    where
      go : (o : Option (List ℕ × RoomSessions)) → room_named name hub.rooms ≡ o
          → IsKept (kept_named name told.rooms) o
      go None is = subst (λ k. IsKept k None) (sym (gone name is)) tt
      go (Some room) is =
          let found = found_at name hub.rooms room is in
          subst (λ n. IsKept (kept_named n told.rooms) (Some room)) found.2
          (here room.0 room.1 found.0 found.1)

  -- The floor.

  abbrev raised : Option ℕ → Kept
  raised floor = committed told (option_to_list (option_map RaiseFloor floor))

  rooms_stay : (floor : Option ℕ) → (raised floor).rooms ≡ told.rooms
  rooms_stay None = refl
  rooms_stay (Some floor) = refl

  floor_is : hub.floor ≡ min (raised (risen least hub.floor)).floor MAX_COUNT
  floor_is = go (nat_lt least hub.floor) refl
    where
      was : told.floor ≡ least
      was = floor_stays noted news kept ∙ sym trails.floor

      behind : min least MAX_COUNT ≤ hub.floor
      behind = subst (λ n. min n MAX_COUNT ≤ hub.floor) (sym trails.floor) trails.behind

      go : (b : Bool) → nat_lt least hub.floor ≡ b
          → hub.floor ≡ min (raised (if b then Some hub.floor else None)).floor MAX_COUNT
      go true is = grind (arith, nat_tests, is, was, stands.floor)
      go false is = grind (arith, nat_tests, is, was, behind, stands.floor)

  all_committed : committed kept (changes_of noted news (risen least hub.floor))
      ≡ raised (risen least hub.floor)
  all_committed =
      let floor = option_to_list (option_map RaiseFloor (risen least hub.floor)) in
      committed_append kept (ends noted news ++ map change_of news) floor
      ∙ ap (λ k. committed k floor) (committed_append kept (ends noted news) (map change_of news))

  -- once the changes of the news are committed, what is kept mirrors the hub
  pub keeps : Mirrors (committed kept (changes_of noted news (risen least hub.floor))) hub
  keeps = subst (λ after. Mirrors after hub) (sym all_committed) (record {
    rooms = λ name.
        subst (λ rooms. IsKept (kept_named name rooms) (room_named name hub.rooms))
        (sym (rooms_stay (risen least hub.floor))) (are_kept name);
    floor = floor_is;
  })

  -- the floor that is noted then is the one that is kept
  pub floor_kept : unwrap_or (risen least hub.floor) least
      ≡ (committed kept (changes_of noted news (risen least hub.floor))).floor
  floor_kept = go (nat_lt least hub.floor) refl ∙ sym (ap (λ (k : Kept). k.floor) all_committed)
    where
      go : (b : Bool) → nat_lt least hub.floor ≡ b
          → unwrap_or (if b then Some hub.floor else None) least
          ≡ (raised (if b then Some hub.floor else None)).floor
      go true is =
          let was = floor_stays noted news kept ∙ sym trails.floor in
          grind (arith, nat_tests, is, was)
      go false is = trails.floor ∙ sym (floor_stays noted news kept)
