-- The news of a hub's rooms since they were kept last, and the changes that keep them.
use Rattle.std.specs.Prelude.{◌≡◌, ℕ, ◌+◌, ◌<◌, ◌==◌, nat_lt, List, [], ◌∷◌, ◌++◌, length, map}
use Rattle.std.specs.Prelude.{Option, Some, None, option_map, string_bytes, if◌then◌else◌}
use Rattle.std.specs.List.{AllByRecursion, flat_map}
use Rattle.std.specs.Option.{option_to_list}
use Rattle.relay_hub.specs.Since.{message_since, Writes}
use Rattle.relay_hub.specs.State.{RoomSessions}
use Rattle.relay_proto.specs.declared.message.Message.{Message}
use Rattle.relay_room.specs.Room.{revision}
use Rattle.relay_store.specs.declared.change.Change.{Change}
use Rattle.relay_store.specs.declared.change.Change.TheVariants.{Begin, Edit, End, RaiseFloor}
use Rattle.relay_keeping.specs.Mirrored.{whole_view}
use Rattle.relay_keeping.specs.Noted.{Noted, NotedRoom, is_other, noted_at}
use Rattle.relay_keeping.specs.declared.kept_rooms.KeptRooms.{KeptRooms}
use Rattle.relay_keeping.specs.declared.news.News.{News}

-- the news of the room at an index: the message for a client that holds what is noted, or nothing
pub record IsNewsOf (noted : Option NotedRoom) (at : ℕ) (room : List ℕ × RoomSessions)
    (news : News) : Type 0 where
  pub index : news.index ≡ at
  pub name : string_bytes news.name ≡ room.0
  pub held : Option ℕ
  pub same : (rev : ℕ) → held ≡ Some rev → noted ≡ Some (room.0, rev)
  pub message : Message
  pub told : message_since room.1.room whole_view held ≡ Some message
  pub writes : Writes (revision room.1.room) message news.update
  pub replaces : news.replaces ≡ is_other room.0 noted

-- a room has news, or is noted as it is
abbrev pub HasNews : Option NotedRoom → ℕ → List ℕ × RoomSessions → Option News → Type 0
HasNews noted index room None = noted ≡ Some (room.0, revision room.1.room)
HasNews noted index room (Some news) = IsNewsOf noted index room news

-- the news of these rooms, of which the first has this index
abbrev pub AreNews : Noted → ℕ → List (List ℕ × RoomSessions) → List News → Type 0
AreNews noted index [] news = news ≡ []
AreNews noted index (room ∷ rooms) news = (first : Option News) × (rest : List News)
    × HasNews (noted_at noted index) index room first
    × AreNews noted (index + 1) rooms rest × (news ≡ option_to_list first ++ rest)

-- the change that keeps the news of a room
abbrev pub change_of : News → Change (List ℕ)
change_of news =
    if news.update.is_snapshot
    then Begin (string_bytes news.name) news.update.revision (string_bytes news.update.text)
    else Edit (string_bytes news.name) news.update.revision (string_bytes news.update.text)

-- the end of the room that another one has replaced
abbrev pub ended_by : Noted → News → Option (Change (List ℕ))
ended_by noted news =
    if news.replaces then option_map (λ room. End room.0) (noted_at noted news.index) else None

-- first the rooms that ended, since a room of the same name may have begun at another index
abbrev pub changes_of : Noted → List News → Option ℕ → List (Change (List ℕ))
changes_of noted news floor = flat_map (λ new. option_to_list (ended_by noted new)) news
    ++ map change_of news ++ option_to_list (option_map RaiseFloor floor)

-- a floor that is higher than the one that is kept
abbrev pub risen : ℕ → ℕ → Option ℕ
risen kept floor = if nat_lt kept floor then Some floor else None

-- there is a place for each of these news
abbrev pub HavePlaces : KeptRooms → List News → Type 0
HavePlaces kept news = AllByRecursion (λ new. new.index < length kept.rooms.items) news

-- what is noted at an index once these news are noted
abbrev pub noted_by : ℕ → List News → Option NotedRoom → Option NotedRoom
noted_by index [] was = was
noted_by index (new ∷ news) was =
    if new.index == index then Some (string_bytes new.name, new.update.revision)
    else noted_by index news was
