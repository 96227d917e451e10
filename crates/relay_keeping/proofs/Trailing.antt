-- A store that mirrors a hub trails it, and so does what is noted.
use Rattle.std.proofs.Common.{◌≡◌, ◌≢◌, ◌∙◌, ◌+◌, ◌<◌, ◌≤◌, ◌==◌, ℕ, zero, suc, true, false}
use Rattle.std.proofs.Common.{List, [], ◌∷◌, ◌++◌, length, slice_get, Option, Some, None, arith}
use Rattle.std.proofs.Common.{ap, subst, sym, refl, if◌then◌else◌}
use Rattle.std.proofs.lemmas.Bool.Decides.{nat_tests}
use Rattle.std.proofs.lemmas.Option.{slice_get_within}
use Rattle.std.specs.Option.{option_and_then, option_map, option_to_list}
use Rattle.std.specs.String.{string_bytes}
use Rattle.relay_hub.specs.Log.{Log, documents}
use Rattle.relay_hub.specs.Stands.{HoldsRevision, RoomStands, StandsFor}
use Rattle.relay_hub.specs.State.{RoomSessions, State}
use Rattle.relay_hub.specs.Summary.{room_named}
use Rattle.relay_hub.specs.declared.config.HubConfig.{HubConfig}
use Rattle.relay_hub.proofs.Documents.{slice_get-present}
use Rattle.relay_room.specs.Room as room
use Rattle.relay_store.specs.Kept.{Kept, Room as KeptRoom, revision}
use Rattle.relay_tree.specs.Document.{Document}
use Rattle.relay_view.specs.View.{view}
use Rattle.relay_keeping.specs.Mirrored.{IsKept, Makes, Mirrors, client_of, kept_named, seen_whole}
use Rattle.relay_keeping.specs.Mirrored.{whole_view}
use Rattle.relay_keeping.specs.News.{AreNews, HasNews, noted_by}
use Rattle.relay_keeping.specs.Noted.{Noted, NotedRoom, noted_at}
use Rattle.relay_keeping.specs.Trailing.{KeepsAt, NotesAll, Trails}
use Rattle.relay_keeping.specs.declared.news.News.{News}
use Rattle.relay_keeping.proofs.Keeping.{found_at, names_once}

-- the client of a room that its texts make holds the present revision
holds_revision : {from : ℕ} (b : HubConfig) (ds : List Document) (made : room.State)
    → RoomStands b from ds made → (kept : KeptRoom) → Makes kept made
    → HoldsRevision ds whole_view (revision kept) (client_of kept)
holds_revision b ds made stands kept makes =
    let present = slice_get-present ds (room.revision made) stands.numbered in
    let shows : option_map (view whole_view) (slice_get ds (revision kept))
    ≡ Some (seen_whole made.document) =
    ap (λ rev. option_map (view whole_view) (slice_get ds rev)) makes.revision
    ∙ ap (option_map (view whole_view)) present
    ∙ ap (λ d. Some (seen_whole d)) (sym stands.document) in
    subst (HoldsRevision ds whole_view (revision kept)) (sym makes.client)
    (sym makes.revision, shows)

-- an index at which there is no room is not below the number of rooms
pub past : (rooms : List (List ℕ × RoomSessions)) (i : ℕ) → slice_get rooms i ≡ None
    → length rooms ≤ i
past [] i none = omega arith
past (r ∷ rooms) zero none = absurd (cc none)
past (r ∷ rooms) (suc i) none = let rest = past rooms i none in omega (arith, rest)

module _ (b : HubConfig) (E : Log) (hub : State) (kept : Kept) (noted : Noted) (least : ℕ)
    (stands : StandsFor b E hub) (mirrors : Mirrors kept hub) (notes : NotesAll noted hub)
    (floor : least ≡ kept.floor) where
  -- a room of the hub that is kept
  record KeptAt (name : List ℕ) (k : KeptRoom) : Type 0 where
    index : ℕ
    there : List ℕ × RoomSessions
    at : slice_get hub.rooms index ≡ Some there
    named : there.0 ≡ name
    makes : Makes k there.1.room

  kept_at : (name : List ℕ) (k : KeptRoom) → kept_named name kept.rooms ≡ Some k → KeptAt name k
  kept_at name k named =
      go (room_named name hub.rooms) refl
      (subst (λ k. IsKept k (room_named name hub.rooms)) named (mirrors.rooms name))
    where
      go : (o : Option (List ℕ × RoomSessions)) → room_named name hub.rooms ≡ o → IsKept (Some k) o
          → KeptAt name k
      go (Some there) is makes =
          let found = found_at name hub.rooms there is in
          record {
            index = found.0;
            there = there;
            at = found.1;
            named = found.2;
            makes = makes;
          }
      go None is makes = absurd makes

  -- a room that is noted is one of the hub
  record NotedAt (i : ℕ) (name : List ℕ) (rev : ℕ) : Type 0 where
    there : List ℕ × RoomSessions
    at : slice_get hub.rooms i ≡ Some there
    named : there.0 ≡ name
    revised : room.revision there.1.room ≡ rev

  is_noted : (i : ℕ) (name : List ℕ) (rev : ℕ) → noted_at noted i ≡ Some (name, rev)
      → NotedAt i name rev
  is_noted i name rev noted_there = go (slice_get hub.rooms i) refl
    where
      go : (o : Option (List ℕ × RoomSessions)) → slice_get hub.rooms i ≡ o → NotedAt i name rev
      go (Some there) at =
          let both : ◌≡◌ {A = Option NotedRoom} (Some (there.0, room.revision there.1.room))
          (Some (name, rev)) = sym (notes.rooms i there at) ∙ noted_there in
          let one : ◌≡◌ {A = NotedRoom} (there.0, room.revision there.1.room) (name, rev) =
          cc both in
          record {
            there = there;
            at = at;
            named = ap (λ (r : NotedRoom). r.0) one;
            revised = ap (λ (r : NotedRoom). r.1) one;
          }
      go None at =
          absurd (cc (sym (notes.beyond i (past hub.rooms i at)) ∙ noted_there))

  room_of : (i : ℕ) (name : List ℕ) (rev : ℕ) → (is : NotedAt i name rev)
      → room_named name hub.rooms ≡ Some is.there
  room_of i name rev is =
      ap (λ n. room_named n hub.rooms) (sym is.named)
      ∙ ap (option_and_then (slice_get hub.rooms)) (stands.names i is.there.0 is.there.1 is.at)
      ∙ is.at

  keeps_at : (i : ℕ) (name : List ℕ) (rev : ℕ) → NotedAt i name rev → KeepsAt kept name rev
  keeps_at i name rev is =
      go (kept_named name kept.rooms) refl
      (subst (IsKept (kept_named name kept.rooms)) (room_of i name rev is) (mirrors.rooms name))
    where
      go : (k : Option KeptRoom) → kept_named name kept.rooms ≡ k → IsKept k (Some is.there)
          → KeepsAt kept name rev
      go (Some k) named makes =
          record { room = k; named = named; at = makes.revision ∙ is.revised }
      go None named makes = absurd makes

  -- what is kept trails the hub that it mirrors
  pub trails_again : Trails E kept noted least hub
  trails_again = record {
    clients = λ name k named.
        let is = kept_at name k named in
        subst (λ n. HoldsRevision (documents E n) whole_view (revision k) (client_of k)) is.named
        (holds_revision b (documents E is.there.0) is.there.1.room
        (stands.rooms is.index is.there.0 is.there.1 is.at) k is.makes);
    kept = λ i name rev there. keeps_at i name rev (is_noted i name rev there);
    noted = λ name k named.
        let is = kept_at name k named in
        let revised = sym is.makes.revision in
        record {
          index = is.index;
          there = notes.rooms is.index is.there is.at ∙ (λ i. Some (is.named i, revised i));
          within = slice_get_within hub.rooms is.index is.there is.at;
        };
    once = λ i j name r s here there.
        let x = is_noted i name r here in
        let y = is_noted j name s there in
        names_once b E hub stands i j x.there y.there x.at y.at (x.named ∙ sym y.named);
    floor = floor;
    behind = omega (arith, mirrors.floor);
  }

-- The rooms that are noted once the news are.

-- the news of other rooms
noted_others : (noted : Noted) (k : ℕ) (rooms : List (List ℕ × RoomSessions)) (news : List News)
    (j : ℕ) (was : Option NotedRoom) → AreNews noted k rooms news
    → ((i : ℕ) → i < length rooms → j ≢ k + i) → noted_by j news was ≡ was
noted_others noted k [] news j was are other = ap (λ news. noted_by j news was) are
noted_others noted k (r ∷ rooms) news j was (first, rest, has, are, is) other =
    ap (λ news. noted_by j news was) is
    ∙ go first has (noted_others noted (k + 1) rooms rest j was are
    (λ i within same. other (suc i) (omega (arith, within)) (omega (arith, same))))
  where
    go : (first : Option News) → HasNews (noted_at noted k) k r first → noted_by j rest was ≡ was
        → noted_by j (option_to_list first ++ rest) was ≡ was
    go None has rest_is = rest_is
    go (Some x) has rest_is =
        let apart : (x.index == j) ≡ false =
        grind (arith, nat_tests, has.index, other 0 (omega arith)) in
        ap (λ b. if b then Some (string_bytes x.name, x.update.revision) else noted_by j rest was)
        apart ∙ rest_is

-- the room at an index
noted_here : (noted : Noted) (k : ℕ) (rooms : List (List ℕ × RoomSessions)) (news : List News)
    (i : ℕ) (there : List ℕ × RoomSessions) → AreNews noted k rooms news
    → slice_get rooms i ≡ Some there
    → noted_by (k + i) news (noted_at noted (k + i))
    ≡ Some (there.0, room.revision there.1.room)
noted_here noted k [] news i there are at = absurd (cc at)
noted_here noted k (r ∷ rooms) news zero there (first, rest, has, are, is) at =
    let same : r ≡ there = cc at in
    let here : k ≡ k + 0 = omega arith in
    subst (λ j. noted_by j news (noted_at noted j)
    ≡ Some (there.0, room.revision there.1.room)) here
    (ap (λ news. noted_by k news (noted_at noted k)) is ∙ go first has
    ∙ ap (λ (r : List ℕ × RoomSessions). Some (r.0, room.revision r.1.room)) same)
  where
    go : (first : Option News) → HasNews (noted_at noted k) k r first
        → noted_by k (option_to_list first ++ rest) (noted_at noted k)
        ≡ Some (r.0, room.revision r.1.room)
    go None has =
        noted_others noted (k + 1) rooms rest k (noted_at noted k) are
        (λ i within same. omega (arith, same))
        ∙ has
    go (Some x) has =
        let found : (x.index == k) ≡ true = grind (arith, nat_tests, has.index) in
        ap (λ b. if b then Some (string_bytes x.name, x.update.revision)
        else noted_by k rest (noted_at noted k)) found
        ∙ (λ i. Some (has.name i, has.writes.revision i))
noted_here noted k (r ∷ rooms) news (suc i) there (first, rest, has, are, is) at =
    let next : k + 1 + i ≡ k + suc i = omega arith in
    subst (λ j. noted_by j news (noted_at noted j)
    ≡ Some (there.0, room.revision there.1.room)) next
    (ap (λ news. noted_by (k + 1 + i) news (noted_at noted (k + 1 + i))) is
    ∙ go first has (noted_here noted (k + 1) rooms rest i there are at))
  where
    go : (first : Option News) → HasNews (noted_at noted k) k r first
        → noted_by (k + 1 + i) rest (noted_at noted (k + 1 + i))
        ≡ Some (there.0, room.revision there.1.room)
        → noted_by (k + 1 + i) (option_to_list first ++ rest) (noted_at noted (k + 1 + i))
        ≡ Some (there.0, room.revision there.1.room)
    go None has rest_is = rest_is
    go (Some x) has rest_is =
        let apart : (x.index == k + 1 + i) ≡ false = grind (arith, nat_tests, has.index) in
        ap (λ b. if b then Some (string_bytes x.name, x.update.revision)
        else noted_by (k + 1 + i) rest (noted_at noted (k + 1 + i))) apart
        ∙ rest_is

-- once the news are noted, each room of the hub is noted, and nothing else
pub notes_all : (E : Log) (hub : State) (kept : Kept) (old new : Noted) (least : ℕ)
    (news : List News) → Trails E kept old least hub → AreNews old 0 hub.rooms news
    → ((i : ℕ) → noted_at new i ≡ noted_by i news (noted_at old i)) → NotesAll new hub
notes_all E hub kept old new least news trails are noted = record {
  rooms = λ i there at.
      let plain : 0 + i ≡ i = omega arith in
      noted i
      ∙ subst (λ j. noted_by j news (noted_at old j) ≡ Some (there.0, room.revision there.1.room))
      plain (noted_here old 0 hub.rooms news i there are at);
  beyond = λ i above.
      noted i
      ∙ noted_others old 0 hub.rooms news i (noted_at old i) are
      (λ j within same. omega (arith, above, within, same))
      ∙ none i above (noted_at old i) refl;
}
  where
    none : (i : ℕ) → length hub.rooms ≤ i → (o : Option NotedRoom) → noted_at old i ≡ o → o ≡ None
    none i above None there = refl
    none i above (Some noted) there =
        let keeps = trails.kept i noted.0 noted.1 there in
        let is = trails.noted noted.0 keeps.room keeps.named in
        let same = trails.once i is.index noted.0 noted.1 (revision keeps.room) there is.there in
        absurd (omega (arith, above, same, is.within))
