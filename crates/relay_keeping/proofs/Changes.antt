-- The clients of the rooms that are kept, after a change of one room.
use Rattle.std.proofs.Common.{◌≡◌, ◌∙◌, ℕ, bytes_eq, List, [], Option, Some, None, Result, OnOk}
use Rattle.std.proofs.Common.{subst, sym, if◌then◌else◌, ap, map, take, ◌<◌, ◌+◌, ◌∷◌}
use Rattle.std.proofs.Common.{length, get_or}
use Rattle.std.proofs.lemmas.List.{map_more}
use Rattle.relay_store.proofs.Laws.{committed_append}
use Rattle.std.specs.HashMap.{get_by_text}
use Rattle.std.specs.Map.{update}
use Rattle.std.specs.Option.{option_map}
use Rattle.relay_hub.proofs.Rooms.{by_name}
use Rattle.relay_store.specs.declared.change.Change.{Change}
use Rattle.relay_store.specs.declared.fault.StoreFault.{StoreFault}
use Rattle.relay_store.specs.Kept.{Kept, Patch, Room, changed, committed, edited}
use Rattle.relay_keeping.specs.Clients.{AreClientsOf, HasClient, IsClientOf}
use Rattle.relay_keeping.specs.Mirrored.{kept_named}
use Rattle.relay_keeping.specs.declared.client.Client.{Client}
use Rattle.relay_keeping.specs.declared.clients.Clients.{Clients}
use Rattle.relay_keeping.proofs.Named.{named_after, room_after}

-- a room and its client have become these, and the others are as they were
pub room_changed : (kept : Kept) (change : Change (List ℕ)) (old new : Clients) (room : List ℕ)
    (now : Option Room → Option Room) (client : Option Client) → AreClientsOf kept old
    → ((name : List ℕ) (was : Option Room)
    → room_after name change was ≡ (if bytes_eq room name then now was else was))
    → ((name : List ℕ)
    → get_by_text new.rooms name ≡ update bytes_eq (get_by_text old.rooms) room client name)
    → HasClient (now (kept_named room kept.rooms)) client
    → new.floor ≡ (changed kept change).floor
    → AreClientsOf (changed kept change) new
room_changed kept change old new room now client were changes updates here floor = record {
  rooms = λ name.
      subst (λ k. HasClient k (get_by_text new.rooms name))
      (sym (named_after name kept change ∙ changes name (kept_named name kept.rooms)))
      (subst (λ c. HasClient (if bytes_eq room name then now (kept_named name kept.rooms)
      else kept_named name kept.rooms) c) (sym (updates name))
      (by_name (λ b. HasClient (if b then now (kept_named name kept.rooms)
      else kept_named name kept.rooms) (if b then client else get_by_text old.rooms name)) room name
      (λ same. subst (λ n. HasClient (now (kept_named n kept.rooms)) client) same here)
      (λ apart. were.rooms name)));
  floor = floor;
}

-- the client of a room heard one patch more
pub client_edited : (heard : Result (Unit {0}) StoreFault) (kept : Option Room) (patch : Patch)
    (old new : Client) → HasClient kept (Some old)
    → ((room : Room) → IsClientOf room old → OnOk heard (IsClientOf (edited patch room) new))
    → OnOk heard (HasClient (option_map (edited patch) kept) (Some new))
client_edited heard None patch old new was hears = absurd was
client_edited heard (Some room) patch old new was hears = hears room was

-- one more of these changes is committed
pub one_committed : {A : Type 0} (f : A → Change (List ℕ)) (kept : Kept) (changes : List A) (i : ℕ)
    (change : A) → i < length changes → change ≡ get_or changes i change
    → committed kept (map f (take (i + 1) changes))
    ≡ changed (committed kept (map f (take i changes))) (f change)
one_committed f kept changes i change within is =
    let before = map f (take i changes) in
    ap (committed kept) (map_more f changes i change within)
    ∙ committed_append kept before (f (get_or changes i change) ∷ [])
    ∙ ap (λ last. changed (committed kept before) (f last)) (sym is)

-- what holds of what the first of these changes make holds of what one more of them makes
pub with_one_more : {A : Type 0} (P : Kept → Type 0) (f : A → Change (List ℕ)) (kept : Kept)
    (changes : List A) (i : ℕ) (change : A) (noted : Change (List ℕ)) → i < length changes
    → change ≡ get_or changes i change → noted ≡ f change
    → P (changed (committed kept (map f (take i changes))) noted)
    → P (committed kept (map f (take (i + 1) changes)))
with_one_more P f kept changes i change noted within is same =
    subst P (ap (changed (committed kept (map f (take i changes)))) same
    ∙ sym (one_committed f kept changes i change within is))
