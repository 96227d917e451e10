-- The room of a name after the changes that keep the news of a hub.
use Rattle.std.proofs.Common.{◌≡◌, ◌≢◌, ◌∙◌, ◌+◌, ℕ, zero, suc, Bool, true, false, not, List}
use Rattle.std.proofs.Common.{[], ◌∷◌, ◌++◌, map, slice_get, bytes_eq, Option, Some, None, arith}
use Rattle.std.proofs.Common.{ap, subst, sym, refl, if◌then◌else◌}
use Rattle.std.proofs.lemmas.Slice.Eq.{bytes_eq-Decides}
use Rattle.std.specs.List.{flat_map}
use Rattle.std.specs.Option.{option_map, option_map_or, option_to_list}
use Rattle.std.specs.String.{string_bytes}
use Rattle.relay_hub.proofs.Rooms.{by_name}
use Rattle.relay_hub.specs.State.{RoomSessions}
use Rattle.relay_store.specs.declared.change.Change.{Change}
use Rattle.relay_store.specs.declared.change.Change.TheVariants.{Begin, Edit, End}
use Rattle.relay_store.specs.Kept.{Kept, Room, changed, committed}
use Rattle.relay_keeping.specs.Mirrored.{kept_named}
use Rattle.relay_keeping.specs.News.{AreNews, HasNews, IsNewsOf, change_of, ended_by}
use Rattle.relay_keeping.specs.Noted.{Noted, NotedRoom, is_other, noted_at}
use Rattle.relay_keeping.specs.Trailing.{Once}
use Rattle.relay_keeping.specs.declared.news.News.{News}
use Rattle.relay_keeping.proofs.Named.{named_after, room_after}

abbrev Rooms : Type 0
Rooms = List (List ℕ × RoomSessions)

-- a change of another room leaves the room of a name
abbrev Leaves : List ℕ → Change (List ℕ) → Type 0
Leaves name change = (was : Option Room) → room_after name change was ≡ was

abbrev LeavesIf : List ℕ → Option (Change (List ℕ)) → Type 0
LeavesIf name None = Unit {0}
LeavesIf name (Some change) = Leaves name change

-- the changes of the ends
abbrev pub ends : Noted → List News → List (Change (List ℕ))
ends noted news = flat_map (λ new. option_to_list (ended_by noted new)) news

-- what the room of a name is after a change, if there is one
abbrev pub room_after_if : List ℕ → Option (Change (List ℕ)) → Option Room → Option Room
room_after_if name None was = was
room_after_if name (Some change) was = room_after name change was

-- the room of a name after a change, if there is one, and others
one : (name : List ℕ) (kept : Kept) (first : Option (Change (List ℕ)))
    (rest : List (Change (List ℕ)))
    → (next : Kept) × (committed kept (option_to_list first ++ rest) ≡ committed next rest)
    × (kept_named name next.rooms ≡ room_after_if name first (kept_named name kept.rooms))
one name kept None rest = (kept, refl, refl)
one name kept (Some change) rest = (changed kept change, refl, named_after name kept change)

-- a change of a room of another name
leaves_other : (name room : List ℕ) (now was : Option Room) → room ≢ name
    → (if bytes_eq room name then now else was) ≡ was
leaves_other name room now was apart =
    by_name (λ b. (if b then now else was) ≡ was) room name (λ same. absurd (apart same))
    (λ differ. refl)

change_leaves : (name : List ℕ) (news : News) → string_bytes news.name ≢ name
    → Leaves name (change_of news)
change_leaves name news apart was = go news.update.is_snapshot
  where
    go : (b : Bool) → room_after name (if b
        then Begin (string_bytes news.name) news.update.revision (string_bytes news.update.text)
        else Edit (string_bytes news.name) news.update.revision (string_bytes news.update.text))
        was ≡ was
    go true = leaves_other name (string_bytes news.name) _ was apart
    go false = leaves_other name (string_bytes news.name) _ was apart

-- The ends.

-- an end, if there is one, is that of a room of another name that is noted there
pub end_is : (noted : Noted) (room : List ℕ × RoomSessions) (at : ℕ) (news : News)
    → IsNewsOf (noted_at noted at) at room news
    → ended_by noted news ≡ (if is_other room.0 (noted_at noted at)
    then option_map (λ old. End old.0) (noted_at noted at) else None)
end_is noted room at news is =
    ap (λ b. if b then option_map (λ (old : NotedRoom). End old.0) (noted_at noted news.index)
    else None) is.replaces
    ∙ ap (λ i. if is_other room.0 (noted_at noted at)
    then option_map (λ (old : NotedRoom). End old.0) (noted_at noted i) else None) is.index

-- a room that is not kept is not kept after the ends
pub ends_none : (name : List ℕ) (noted : Noted) (news : List News) (kept : Kept)
    → kept_named name kept.rooms ≡ None
    → kept_named name (committed kept (ends noted news)).rooms ≡ None
ends_none name noted [] kept none = none
ends_none name noted (x ∷ news) kept none =
    let next = one name kept (ended_by noted x) (ends noted news) in
    subst (λ after. kept_named name after.rooms ≡ None) (sym next.1)
    (ends_none name noted news next.0
    (next.2 ∙ ap (room_after_if name (ended_by noted x)) none
    ∙ stays x.replaces (noted_at noted x.index)))
  where
    stays : (b : Bool) (old : Option NotedRoom)
        → room_after_if name (if b then option_map (λ (old : NotedRoom). End old.0) old else None)
        None ≡ None
    stays false old = refl
    stays true None = refl
    stays true (Some old) = go (bytes_eq old.0 name)
      where
        go : (b : Bool) → ◌≡◌ {A = Option Room} (if b then None else None) None
        go true = refl
        go false = refl

-- an end leaves a room that is noted at its index under no other name
end_leaves : (name room : List ℕ) (old : Option NotedRoom) (was : Option Room)
    → ((rev : ℕ) → old ≡ Some (name, rev) → room ≡ name)
    → room_after_if name (if is_other room old
    then option_map (λ (old : NotedRoom). End old.0) old else None) was ≡ was
end_leaves name room None was under = refl
end_leaves name room (Some old) was under =
    by_name (λ b. room_after_if name (if not b then Some (End old.0) else None) was ≡ was)
    old.0 room
    (λ same. refl)
    (λ apart. by_name (λ b. (if b then None else was) ≡ was) old.0 name
    (λ same. absurd (apart (same ∙ sym (under old.1 (λ i. Some (same i, old.1))))))
    (λ differ. refl))

-- an end takes the room that is noted at its index under another name
end_takes : (name room : List ℕ) (rev : ℕ) (was : Option Room) → room ≢ name
    → room_after_if name (if is_other room (Some (name, rev)) then Some (End name) else None) was
    ≡ None
end_takes name room rev was apart =
    by_name (λ b. room_after_if name (if not b then Some (End name) else None) was ≡ None) name room
    (λ same. absurd (apart (sym same)))
    (λ differ. ap (λ b. if b then None else was) ((bytes_eq-Decides name name).1 refl))

-- the ends leave a room that is noted under its name alone
pub ends_leave : (name : List ℕ) (noted : Noted) (k : ℕ) (rooms : Rooms) (news : List News)
    (kept : Kept) → AreNews noted k rooms news
    → ((i : ℕ) (room : List ℕ × RoomSessions) (rev : ℕ) → slice_get rooms i ≡ Some room
    → noted_at noted (k + i) ≡ Some (name, rev) → room.0 ≡ name)
    → kept_named name (committed kept (ends noted news)).rooms ≡ kept_named name kept.rooms
ends_leave name noted k [] news kept are under =
    ap (λ news. kept_named name (committed kept (ends noted news)).rooms) are
ends_leave name noted k (room ∷ rooms) news kept (first, rest, has, are, is) under =
    ap (λ news. kept_named name (committed kept (ends noted news)).rooms) is
    ∙ go first has (λ kept. ends_leave name noted (k + 1) rooms rest kept are later)
  where
    later : (i : ℕ) (other : List ℕ × RoomSessions) (rev : ℕ) → slice_get rooms i ≡ Some other
        → noted_at noted (k + 1 + i) ≡ Some (name, rev) → other.0 ≡ name
    later i other rev at there =
        let next : k + 1 + i ≡ k + suc i = omega arith in
        under (suc i) other rev at (subst (λ n. noted_at noted n ≡ Some (name, rev)) next there)

    go : (first : Option News) → HasNews (noted_at noted k) k room first
        → ((kept : Kept) → kept_named name (committed kept (ends noted rest)).rooms
        ≡ kept_named name kept.rooms)
        → kept_named name (committed kept (ends noted (option_to_list first ++ rest))).rooms
        ≡ kept_named name kept.rooms
    go None has leave = leave kept
    go (Some x) has leave =
        let next = one name kept (ended_by noted x) (ends noted rest) in
        let here : k ≡ k + 0 = omega arith in
        ap (λ after. kept_named name after.rooms) next.1 ∙ leave next.0 ∙ next.2
        ∙ ap (λ change. room_after_if name change (kept_named name kept.rooms))
        (end_is noted room k x has)
        ∙ end_leaves name room.0 (noted_at noted k) (kept_named name kept.rooms)
        (λ rev there. under 0 room rev refl
        (subst (λ n. noted_at noted n ≡ Some (name, rev)) here there))

-- the ends take a room that is noted at the index of a room of another name
pub ends_gone : (name : List ℕ) (noted : Noted) (k : ℕ) (rooms : Rooms) (news : List News)
    (kept : Kept) (i : ℕ) (room : List ℕ × RoomSessions) (rev : ℕ) → AreNews noted k rooms news
    → slice_get rooms i ≡ Some room → noted_at noted (k + i) ≡ Some (name, rev) → room.0 ≢ name
    → kept_named name (committed kept (ends noted news)).rooms ≡ None
ends_gone name noted k [] news kept i room rev are at there apart = absurd (cc at)
ends_gone name noted k (r ∷ rooms) news kept zero room rev (first, rest, has, are, is) at there
    apart = ap (λ news. kept_named name (committed kept (ends noted news)).rooms) is ∙ go first has
  where
    other : r.0 ≢ name
    other = let same : r ≡ room = cc at in
        subst (λ (r : List ℕ × RoomSessions). r.0 ≢ name) (sym same) apart

    here : noted_at noted k ≡ Some (name, rev)
    here = let zero : k + 0 ≡ k = omega arith in
        subst (λ n. noted_at noted n ≡ Some (name, rev)) zero there

    go : (first : Option News) → HasNews (noted_at noted k) k r first
        → kept_named name (committed kept (ends noted (option_to_list first ++ rest))).rooms ≡ None
    go None has = absurd (other (ap (λ (old : Option NotedRoom).
        option_map_or (λ (old : NotedRoom). old.0) old name) (sym has ∙ here)))
    go (Some x) has =
        let next = one name kept (ended_by noted x) (ends noted rest) in
        let was = kept_named name kept.rooms in
        let taken = ap (λ change. room_after_if name change was) (end_is noted r k x has)
        ∙ ap (λ old. room_after_if name (if is_other r.0 old
        then option_map (λ (old : NotedRoom). End old.0) old else None) was) here
        ∙ end_takes name r.0 rev was other in
        ap (λ after. kept_named name after.rooms) next.1
        ∙ ends_none name noted rest next.0 (next.2 ∙ taken)
ends_gone name noted k (r ∷ rooms) news kept (suc i) room rev (first, rest, has, are, is) at there
    apart = ap (λ news. kept_named name (committed kept (ends noted news)).rooms) is
    ∙ go first (λ kept. ends_gone name noted (k + 1) rooms rest kept i room rev are at later apart)
  where
    later : noted_at noted (k + 1 + i) ≡ Some (name, rev)
    later = let next : k + suc i ≡ k + 1 + i = omega arith in
        subst (λ n. noted_at noted n ≡ Some (name, rev)) next there

    go : (first : Option News)
        → ((kept : Kept) → kept_named name (committed kept (ends noted rest)).rooms ≡ None)
        → kept_named name (committed kept (ends noted (option_to_list first ++ rest))).rooms ≡ None
    go None gone = gone kept
    go (Some x) gone =
        let next = one name kept (ended_by noted x) (ends noted rest) in
        ap (λ after. kept_named name after.rooms) next.1 ∙ gone next.0

-- The news.

-- the news of others leave the room of a name
pub news_leave : (name : List ℕ) (noted : Noted) (k : ℕ) (rooms : Rooms) (news : List News)
    (kept : Kept) → AreNews noted k rooms news
    → ((i : ℕ) (room : List ℕ × RoomSessions) → slice_get rooms i ≡ Some room → room.0 ≢ name)
    → kept_named name (committed kept (map change_of news)).rooms ≡ kept_named name kept.rooms
news_leave name noted k [] news kept are others =
    ap (λ news. kept_named name (committed kept (map change_of news)).rooms) are
news_leave name noted k (room ∷ rooms) news kept (first, rest, has, are, is) others =
    ap (λ news. kept_named name (committed kept (map change_of news)).rooms) is
    ∙ go first has (λ kept. news_leave name noted (k + 1) rooms rest kept are
    (λ i room at. others (suc i) room at))
  where
    go : (first : Option News) → HasNews (noted_at noted k) k room first
        → ((kept : Kept) → kept_named name (committed kept (map change_of rest)).rooms
        ≡ kept_named name kept.rooms)
        → kept_named name (committed kept (map change_of (option_to_list first ++ rest))).rooms
        ≡ kept_named name kept.rooms
    go None has leave = leave kept
    go (Some x) has leave =
        leave (changed kept (change_of x)) ∙ named_after name kept (change_of x)
        ∙ change_leaves name x (λ same. others 0 room refl (sym has.name ∙ same))
        (kept_named name kept.rooms)

-- what the news make of the room at an index
pub record NewsHere (noted : Option NotedRoom) (at : ℕ) (room : List ℕ × RoomSessions)
    (before after : Kept) : Type 0 where
  pub news : Option News
  pub has : HasNews noted at room news
  pub is : kept_named room.0 after.rooms
      ≡ room_after_if room.0 (option_map change_of news) (kept_named room.0 before.rooms)

pub news_here : (noted : Noted) (k : ℕ) (rooms : Rooms) (news : List News) (kept : Kept) (i : ℕ)
    (room : List ℕ × RoomSessions) → AreNews noted k rooms news → Once rooms
    → slice_get rooms i ≡ Some room
    → NewsHere (noted_at noted (k + i)) (k + i) room kept (committed kept (map change_of news))
news_here noted k [] news kept i room are once at = absurd (cc at)
news_here noted k (r ∷ rooms) news kept zero room (first, rest, has, are, is) once at =
    subst (λ news. NewsHere (noted_at noted (k + 0)) (k + 0) room kept
    (committed kept (map change_of news))) (sym is)
    (subst (λ r. NewsHere (noted_at noted (k + 0)) (k + 0) r kept
    (committed kept (map change_of (option_to_list first ++ rest)))) same
    (subst (λ k. NewsHere (noted_at noted k) k r kept
    (committed kept (map change_of (option_to_list first ++ rest)))) here
    (record { news = first; has = has; is = go first })))
  where
    same : r ≡ room
    same = cc at

    here : k ≡ k + 0
    here = omega arith

    others : (i : ℕ) (other : List ℕ × RoomSessions) → slice_get rooms i ≡ Some other
        → other.0 ≢ r.0
    others i other at e = omega (arith, once (suc i) 0 other r at refl e)

    go : (first : Option News)
        → kept_named r.0 (committed kept (map change_of (option_to_list first ++ rest))).rooms
        ≡ room_after_if r.0 (option_map change_of first) (kept_named r.0 kept.rooms)
    go None = news_leave r.0 noted (k + 1) rooms rest kept are others
    go (Some x) =
        news_leave r.0 noted (k + 1) rooms rest (changed kept (change_of x)) are others
        ∙ named_after r.0 kept (change_of x)
news_here noted k (r ∷ rooms) news kept (suc i) room (first, rest, has, are, is) once at =
    subst (λ n. NewsHere (noted_at noted n) n room kept (committed kept (map change_of news))) next
    (subst (λ news. NewsHere (noted_at noted (k + 1 + i)) (k + 1 + i) room kept
    (committed kept (map change_of news))) (sym is)
    (go first has (λ kept. news_here noted (k + 1) rooms rest kept i room are
    (λ i j r s there here same. omega (arith, once (suc i) (suc j) r s there here same)) at)))
  where
    next : k + 1 + i ≡ k + suc i
    next = omega arith

    apart : r.0 ≢ room.0
    apart e = omega (arith, once 0 (suc i) r room refl at e)

    go : (first : Option News) → HasNews (noted_at noted k) k r first
        → ((kept : Kept) → NewsHere (noted_at noted (k + 1 + i)) (k + 1 + i) room kept
        (committed kept (map change_of rest)))
        → NewsHere (noted_at noted (k + 1 + i)) (k + 1 + i) room kept
        (committed kept (map change_of (option_to_list first ++ rest)))
    go None has here = here kept
    go (Some x) has here =
        let is = here (changed kept (change_of x)) in
        record {
          news = is.news;
          has = is.has;
          is = is.is ∙ ap (room_after_if room.0 (option_map change_of is.news))
              (named_after room.0 kept (change_of x)
              ∙ change_leaves room.0 x (λ same. apart (sym has.name ∙ same))
              (kept_named room.0 kept.rooms));
        }

-- The floor.

-- ends and news leave the floor
pub floor_stays : (noted : Noted) (news : List News) (kept : Kept)
    → (committed (committed kept (ends noted news)) (map change_of news)).floor ≡ kept.floor
floor_stays noted news kept = told (committed kept (ends noted news)) news ∙ ended kept news
  where
    told : (kept : Kept) (news : List News)
        → (committed kept (map change_of news)).floor ≡ kept.floor
    told kept [] = refl
    told kept (x ∷ news) = told (changed kept (change_of x)) news ∙ go x.update.is_snapshot
      where
        go : (b : Bool) → (changed kept (if b
            then Begin (string_bytes x.name) x.update.revision (string_bytes x.update.text)
            else Edit (string_bytes x.name) x.update.revision (string_bytes x.update.text))).floor
            ≡ kept.floor
        go true = refl
        go false = refl

    ended : (kept : Kept) (news : List News)
        → (committed kept (ends noted news)).floor ≡ kept.floor
    ended kept [] = refl
    ended kept (x ∷ news) = go x.replaces (noted_at noted x.index) (λ kept. ended kept news)
      where
        go : (b : Bool) (old : Option NotedRoom)
            → ((kept : Kept) → (committed kept (ends noted news)).floor ≡ kept.floor)
            → (committed kept (option_to_list (if b
            then option_map (λ (old : NotedRoom). End old.0) old else None)
            ++ ends noted news)).floor ≡ kept.floor
        go false old rest = rest kept
        go true None rest = rest kept
        go true (Some old) rest = rest (changed kept (End old.0))
