-- The news of rooms, gathered by rising index.
use Rattle.std.proofs.Common.{◌≡◌, ◌∙◌, ◌+◌, ℕ, zero, suc, Bool, true, false, List, [], ◌∷◌, ◌++◌}
use Rattle.std.proofs.Common.{take, slice_get, Option, Some, None, bytes_eq, append_assoc}
use Rattle.std.proofs.Common.{append-nil, arith, ap, subst, sym, refl, if◌then◌else◌}
use Rattle.std.proofs.lemmas.List.{take_all}
use Rattle.std.proofs.lemmas.Slice.Eq.{bytes_eq-Decides}
use Rattle.std.specs.Option.{option_map, option_to_list}
use Rattle.relay_hub.specs.Since.{Tells, Writes}
use Rattle.relay_hub.specs.State.{RoomSessions}
use Rattle.relay_hub.specs.Summary.{Summary, summary_of}
use Rattle.relay_hub.specs.declared.room_update.RoomUpdate.{RoomUpdate}
use Rattle.relay_proto.specs.declared.message.Message.{Message}
use Rattle.relay_keeping.specs.News.{AreNews, HasNews}
use Rattle.relay_keeping.specs.Noted.{Noted, NotedRoom, noted_at, revision_of}
use Rattle.relay_keeping.specs.declared.news.News.{News}

-- a revision that is noted under a name is that of the room with the name
pub noted_under : (name : List ℕ) (noted : Option NotedRoom) (rev : ℕ)
    → revision_of name noted ≡ Some rev → noted ≡ Some (name, rev)
noted_under name None rev is = absurd (cc is)
noted_under name (Some noted) rev is =
    go (bytes_eq noted.0 name) (bytes_eq-Decides noted.0 name).0 is
  where
    go : (b : Bool) → (b ≡ true → noted.0 ≡ name) → (if b then Some noted.1 else None) ≡ Some rev
        → ◌≡◌ {A = Option NotedRoom} (Some noted) (Some (name, rev))
    go true same is =
        let revision : noted.1 ≡ rev = cc is in
        let named = same refl in λ i. Some (named i, revision i)
    go false same is = absurd (cc is)

-- an update has a message
pub tells_message : (rev : ℕ) (message : Option Message) (update : RoomUpdate)
    → Tells rev message (Some update)
    → (m : Message) × (message ≡ Some m) × Writes rev m update
tells_message rev (Some m) update tells = (m, refl, tells)
tells_message rev None update tells = absurd tells

-- the news of the next room
more : (noted : Noted) (k : ℕ) (rooms : List (List ℕ × RoomSessions)) (i : ℕ)
    (room : List ℕ × RoomSessions) (first : Option News) (all : List News)
    → AreNews noted k (take i rooms) all → slice_get rooms i ≡ Some room
    → HasNews (noted_at noted (k + i)) (k + i) room first
    → AreNews noted k (take (suc i) rooms) (all ++ option_to_list first)
more noted k [] i room first all are at has = absurd (cc at)
more noted k (r ∷ rooms) zero room first all are at has =
    let same : r ≡ room = cc at in
    let here : k + 0 ≡ k = omega arith in (
      first,
      [],
      subst (λ r. HasNews (noted_at noted k) k r first) (sym same)
          (subst (λ k. HasNews (noted_at noted k) k room first) here has),
      refl,
      ap (λ xs. xs ++ option_to_list first) are ∙ sym (append-nil (option_to_list first)),
    )
more noted k (r ∷ rooms) (suc i) room first all (f, rest, has_first, are, is) at has =
    let later : k + suc i ≡ k + 1 + i = omega arith in (
      f,
      rest ++ option_to_list first,
      has_first,
      more noted (k + 1) rooms i room first rest are at
          (subst (λ k. HasNews (noted_at noted k) k room first) later has),
      ap (λ xs. xs ++ option_to_list first) is
          ∙ append_assoc (option_to_list f) rest (option_to_list first),
    )

pub news_more : (noted : Noted) (rooms : List (List ℕ × RoomSessions)) (i : ℕ)
    (room : List ℕ × RoomSessions) (first : Option News) (all : List News)
    → AreNews noted 0 (take i rooms) all → slice_get rooms i ≡ Some room
    → HasNews (noted_at noted i) i room first
    → AreNews noted 0 (take (i + 1) rooms) (all ++ option_to_list first)
news_more noted rooms i room first all are at has =
    let next : suc i ≡ i + 1 = omega arith in
    let here : i ≡ 0 + i = omega arith in
    subst (λ n. AreNews noted 0 (take n rooms) (all ++ option_to_list first)) next
    (more noted 0 rooms i room first all are at
    (subst (λ k. HasNews (noted_at noted k) k room first) here has))

-- all rooms were before the index at which there is none
pub all_before : {X : Type 0} (xs : List X) (i : ℕ) → slice_get xs i ≡ None → take i xs ≡ xs
all_before [] i none = take_all i [] (omega arith)
all_before (x ∷ xs) zero none = absurd (cc none)
all_before (x ∷ xs) (suc i) none = ap (λ ys. x ∷ ys) (all_before xs i none)

-- a summary is that of a room
pub room_found : (summary : Summary) (room : Option (List ℕ × RoomSessions))
    → Some summary ≡ option_map summary_of room
    → (there : List ℕ × RoomSessions) × (room ≡ Some there) × (summary ≡ summary_of there)
room_found summary (Some there) is =
    let same : summary ≡ summary_of there = cc is in (there, refl, same)
room_found summary None is = absurd (cc is)

-- without a summary there is no room
pub none_found : (room : Option (List ℕ × RoomSessions)) → None ≡ option_map summary_of room
    → room ≡ None
none_found None is = refl
none_found (Some there) is = absurd (cc is)
