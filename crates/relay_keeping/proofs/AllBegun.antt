-- The rooms of all clients: one more begins, and once all have, the hub mirrors what is kept.
use Rattle.std.proofs.Common.{◌≡◌, ◌∙◌, ◌<◌, ◌≤◌, ◌+◌, ℕ, zero, suc, true, false, Bool, List, []}
use Rattle.std.proofs.Common.{◌∷◌, ◌++◌, length, length-append, Option, Some, None, slice_get, take}
use Rattle.std.proofs.Common.{nat_lt, find, bytes_eq, arith, ap, subst, sym, refl, String}
use Rattle.std.proofs.Common.{string_bytes, if◌then◌else◌}
use Rattle.std.proofs.lemmas.Bool.Decides.{nat_tests}
use Rattle.std.proofs.lemmas.List.{take_more, length-take-le}
use Rattle.std.proofs.lemmas.List.Folds.{find_at, find-append}
use Rattle.std.proofs.lemmas.Map.Keys.{IsDistinct-head, IsDistinct-tail}
use Rattle.std.proofs.lemmas.Option.{get_or_from_slice_get, slice_get_past, slice_get_within}
use Rattle.std.proofs.lemmas.Slice.Eq.{bytes_eq-Decides}
use Rattle.std.specs.List.{position_or_len, IsDistinct, AllByRecursion}
use Rattle.std.specs.Map.{keys_of}
use Rattle.std.specs.Option.{option_and_then, option_or}
use Rattle.std.specs.String.{string_eq}
use Rattle.std.specs.declared.alloc.Global.{Global}
use Rattle.relay_hub.specs.State.{RoomSessions, room_sessions, State, index_named}
use Rattle.relay_hub.specs.State.{made_with}
use Rattle.relay_hub.specs.Summary.{room_named}
use Rattle.relay_hub.specs.declared.config.HubConfig.{HubConfig}
use Rattle.relay_hub.proofs.Rooms.{by_name, some_named}
use Rattle.relay_room.specs.Room.{State as Room}
use Rattle.relay_keeping.specs.Begun.{AreBegun, BeginsRoomOf, HasPlace, HasRoom, Sees}
use Rattle.relay_keeping.specs.Begun.{IsBare, client_named}
use Rattle.relay_keeping.specs.declared.client.Client.{Client}

-- the room of a name is the first that has it
pub room_named_is : (name : List ℕ) (rooms : List (List ℕ × RoomSessions))
    → room_named name rooms ≡ find (λ room. bytes_eq name room.0) rooms
room_named_is name rooms = go (nat_lt n (length rooms)) refl ∙ sym (find_at test rooms)
  where
    test : List ℕ × RoomSessions → Bool
    test room = bytes_eq name room.0

    n : ℕ
    n = position_or_len test rooms

    go : (b : Bool) → nat_lt n (length rooms) ≡ b
        → option_and_then (slice_get rooms) (if b then Some n else None) ≡ slice_get rooms n
    go true is = refl
    go false is = sym (slice_get_past rooms n (grind (arith, nat_tests, is)))

room_named_push : (name : List ℕ) (rooms : List (List ℕ × RoomSessions))
    (room : List ℕ × RoomSessions) → room_named name (rooms ++ room ∷ [])
    ≡ option_or (room_named name rooms) (if bytes_eq name room.0 then Some room else None)
room_named_push name rooms room =
    room_named_is name (rooms ++ room ∷ [])
    ∙ find-append (λ room. bytes_eq name room.0) rooms (room ∷ [])
    ∙ ap (λ o. option_or o (if bytes_eq name room.0 then Some room else None))
    (sym (room_named_is name rooms))

client_named_push : (name : List ℕ) (clients : List (String Global × Client)) (key : String Global)
    (client : Client) → client_named name (clients ++ (key, client) ∷ [])
    ≡ option_or (client_named name clients)
    (if bytes_eq name (string_bytes key) then Some client else None)
client_named_push name [] key client = refl
client_named_push name (e ∷ es) key client =
    go (bytes_eq name (string_bytes e.0)) (client_named_push name es key client)
  where
    last : Option Client
    last = if bytes_eq name (string_bytes key) then Some client else None

    go : (b : Bool)
        → client_named name (es ++ (key, client) ∷ []) ≡ option_or (client_named name es) last
        → (if b then Some e.1 else client_named name (es ++ (key, client) ∷ []))
        ≡ option_or (if b then Some e.1 else client_named name es) last
    go true rest = refl
    go false rest = rest

-- no earlier key is the same
none_before : (clients : List (String Global × Client)) (i : ℕ) (key : String Global)
    (client : Client) → IsDistinct string_eq (keys_of clients)
    → slice_get clients i ≡ Some (key, client)
    → client_named (string_bytes key) (take i clients) ≡ None
none_before [] i key client distinct at = absurd (cc at)
none_before (e ∷ es) zero key client distinct at = refl
none_before (e ∷ es) (suc i) key client distinct at =
    let apart = differs es i (IsDistinct-head string_eq e.0 (keys_of es) distinct) at in
    let rest =
    none_before es i key client (IsDistinct-tail string_eq e.0 (keys_of es) distinct) at in
    by_name (λ b. (if b then Some e.1 else client_named (string_bytes key) (take i es)) ≡ None)
    (string_bytes key) (string_bytes e.0)
    (λ same. absurd (cc (
      apart,
      (bytes_eq-Decides (string_bytes e.0) (string_bytes key)).1
          (sym same),
    ))) (λ differ. rest)
  where
    differs : (es : List (String Global × Client)) (i : ℕ)
        → AllByRecursion (λ other. string_eq e.0 other ≡ false) (keys_of es)
        → slice_get es i ≡ Some (key, client)
        → bytes_eq (string_bytes e.0) (string_bytes key) ≡ false
    differs [] i all at = absurd (cc at)
    differs (f ∷ fs) zero all at =
        let same : f ≡ (key, client) = cc at in
        subst (λ (f : String Global × Client). string_eq e.0 f.0 ≡ false) same all.0
    differs (f ∷ fs) (suc i) all at = differs fs i all.1 at

all_with_last : {X : Type 0} (P : X → Type 0) (xs : List X) (last : X) → AllByRecursion P xs
    → P last → AllByRecursion P (xs ++ last ∷ [])
all_with_last P [] last all here = (here, tt)
all_with_last P (x ∷ xs) last all here = (all.0, all_with_last P xs last all.1 here)

-- once a room has begun, its name has both, and the other names are as they were
has_both : (other : Bool) (client : Client) (made : Room) (name : List ℕ)
    (was : Option Client) (room : Option (List ℕ × RoomSessions)) → HasRoom was room
    → (other ≡ true → was ≡ None) → Sees client made
    → HasRoom (option_or was (if other then Some client else None))
    (option_or room (if other then Some (name, room_sessions made []) else None))
has_both false client made name None None had new sees = had
has_both false client made name (Some was) (Some room) had new sees = had
has_both true client made name None None had new sees = sees
has_both true client made name (Some was) room had new sees = absurd (cc (new refl))
has_both other client made name None (Some room) had new sees = absurd had
has_both other client made name (Some was) None had new sees = absurd had

pub no_room : (rooms : List (List ℕ × RoomSessions)) (name : List ℕ) → room_named name rooms ≡ None
    → index_named name rooms ≡ None
no_room rooms name none = go (index_named name rooms) refl
  where
    go : (o : Option ℕ) → index_named name rooms ≡ o → index_named name rooms ≡ None
    go None is = is
    go (Some i) is =
        let there = some_named rooms name i is in
        let some : room_named name rooms ≡ Some there.0 =
        ap (option_and_then (slice_get rooms)) is ∙ there.1 in
        absurd (cc (none, some))

module _ (clients : List (String Global × Client)) (i : ℕ) (key : String Global) (client : Client)
    (old : State) (distinct : IsDistinct string_eq (keys_of clients))
    (at : slice_get clients i ≡ Some (key, client)) (begun : AreBegun (take i clients) old) where
  none_yet : client_named (string_bytes key) (take i clients) ≡ None
  none_yet = none_before clients i key client distinct at

  within : i < length clients
  within = slice_get_within clients i (key, client) at

  abbrev name : List ℕ
  name = string_bytes key

  abbrev before : List (String Global × Client)
  before = take i clients

  -- the next client's room has its place
  pub has_place : length clients ≤ old.config.rooms → HasPlace name old
  has_place few = record {
    absent = no_room old.rooms name
        (absent (client_named name before) (room_named name old.rooms) none_yet (begun.rooms name));
    space = omega (arith, few, within, begun.count, length-take-le i clients);
    wills = begun.wills;
  }
    where
      absent : (was : Option Client) (room : Option (List ℕ × RoomSessions)) → was ≡ None
          → HasRoom was room → room ≡ None
      absent was None none had = refl
      absent None (Some room) none had = absurd had
      absent (Some was) (Some room) none had = absurd (cc none)

  one_more : take (i + 1) clients ≡ before ++ (key, client) ∷ []
  one_more =
      let entry : String Global × Client = (key, client) in
      take_more clients i entry within
      ∙ ap (λ e. before ++ e ∷ []) (get_or_from_slice_get clients i entry entry at)

  -- with it one more of the rooms has begun
  pub one_begun : (new : State) → BeginsRoomOf client name old new
      → AreBegun (take (i + 1) clients) new
  one_begun new begins = record {
    rooms = λ n.
        let here = bytes_eq n name in
        let clients_is =
        ap (client_named n) one_more ∙ client_named_push n before key client in
        let rooms_is =
        ap (room_named n) begins.adds.rooms ∙ room_named_push n old.rooms room in
        let none : here ≡ true → client_named n before ≡ None = λ same.
        ap (λ n. client_named n before) ((bytes_eq-Decides n name).0 same) ∙ none_yet in
        subst (λ c. HasRoom c (room_named n new.rooms)) (sym clients_is)
        (subst (HasRoom (option_or (client_named n before) (if here then Some client else None)))
        (sym rooms_is)
        (has_both here client begins.made name (client_named n before) (room_named n old.rooms)
        (begun.rooms n) none begins.sees));
    bare = subst (AllByRecursion IsBare) (sym begins.adds.rooms)
        (all_with_last IsBare old.rooms room begun.bare (refl, begins.held));
    count =
        let one = length-append before ((key, client) ∷ []) in
        ap length begins.adds.rooms ∙ length-append old.rooms (room ∷ [])
        ∙ ap (λ n. n + 1) begun.count ∙ sym (ap length one_more ∙ one);
    floor = begins.adds.floor ∙ begun.floor;
    wills = begins.adds.wills ∙ begun.wills;
  }
    where
      room : List ℕ × RoomSessions
      room = (name, room_sessions begins.made [])

-- no room has begun in a hub on which nothing was called yet
pub none_begun : (b : HubConfig) → AreBegun [] (made_with b)
none_begun b = record { rooms = λ name. tt; bare = tt; count = refl; floor = refl; wills = refl }
