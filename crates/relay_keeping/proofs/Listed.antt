-- The clients of the rooms that are kept, in the order of their names, are the list of these rooms.
use Rattle.std.proofs.Common.{◌≡◌, ◌∙◌, ◌+◌, ℕ, Bool, true, false, List, [], ◌∷◌, ◌++◌, map, take}
use Rattle.std.proofs.Common.{Option, Some, None, String, bytes_eq, string_bytes, slice_get}
use Rattle.std.proofs.Common.{ap, ap₂, sym, subst, refl, cond, IsSorted, if◌then◌else◌}
use Rattle.std.specs.Prelude.{⊤}
use Rattle.std.specs.HashMap.{keys}
use Rattle.std.specs.List.{AllByRecursion, IsDistinct, dedup, dedup_from}
use Rattle.std.specs.List.Sorted.{IsStrictlySortedBy}
use Rattle.std.specs.Map.{keys_of, lookup}
use Rattle.std.specs.Ordering.{eq_by_cmp, nat_cmp}
use Rattle.std.specs.Cmp.Lexicographic.{slice_cmp}
use Rattle.std.specs.String.{string_cmp, string_cmp_total, string_eq, string_eq_equiv}
use Rattle.std.specs.declared.alloc.Global.{Global}
use Rattle.std.specs.declared.cmp.Ordering.TheVariants.{Less}
use Rattle.std.proofs.lemmas.List.{map-append, take_more}
use Rattle.std.proofs.lemmas.List.Kept.{IsStrictlySortedBy-dedup}
use Rattle.std.proofs.lemmas.Map.Keys.{IsDistinct-head, IsDistinct-tail}
use Rattle.std.proofs.lemmas.Map.Text.{is_eq-slice_cmp}
use Rattle.std.proofs.lemmas.Option.{get_or_from_slice_get, slice_get_within}
use Rattle.std.proofs.lemmas.Slice.Eq.{bytes_eq-Decides}
use Rattle.relay_follow.specs.Hearing.{as_client}
use Rattle.relay_store.specs.Kept.{Kept, Room as KeptRoom}
use Rattle.relay_keeping.specs.Clients.{AreClientsOf, HasClient}
use Rattle.relay_keeping.specs.Listing.{Held, IsListed, Lists, held, named_in, names_of, shown}
use Rattle.relay_keeping.specs.Mirrored.{kept_named, seen_whole}
use Rattle.relay_keeping.specs.declared.client.Client.{Client}
use Rattle.relay_keeping.specs.declared.clients.Clients.{Clients}
use Rattle.relay_keeping.specs.declared.listing.ListedRoom.{ListedRoom}
use Rattle.relay_keeping.specs.declared.listing.Listing.{Listing}

abbrev Entry : Type 0
Entry = String Global × Client

-- one more client is listed
pub listed_more : (clients : List Entry) (i : ℕ) (entry : Entry) (rooms : List ListedRoom)
    (room : ListedRoom) → slice_get clients i ≡ Some entry
    → map shown rooms ≡ map held (take i clients) → shown room ≡ held entry
    → map shown (rooms ++ room ∷ []) ≡ map held (take (i + 1) clients)
listed_more clients i entry rooms room at so is =
    map-append shown rooms (room ∷ []) ∙ ap₂ (λ xs x. xs ++ x ∷ []) so is
    ∙ sym (map-append held (take i clients) (entry ∷ [])) ∙ ap (map held) (sym one_more)
  where
    one_more : take (i + 1) clients ≡ take i clients ++ entry ∷ []
    one_more = take_more clients i entry (slice_get_within clients i entry at)
        ∙ ap (λ e. take i clients ++ e ∷ []) (get_or_from_slice_get clients i entry entry at)

-- ---- the rooms by name

-- of one name, there are a client and the room that it sees, or neither
abbrev Sees : Option Client → Option ListedRoom → Type 0
Sees (Some client) (Some room) =
    client.follower ≡ Some (room.revision, seen_whole room.document)
Sees None None = ⊤
Sees (Some client) None = ⊥
Sees None (Some room) = ⊥

abbrev client_named : List ℕ → List Entry → Option Client
client_named name clients = lookup (λ key. bytes_eq name (string_bytes key)) clients

sees : (rooms : List ListedRoom) (clients : List Entry) (name : List ℕ)
    → map shown rooms ≡ map held clients → Sees (client_named name clients) (named_in name rooms)
sees [] [] name is = tt
sees [] (e ∷ es) name is = absurd (cc is)
sees (room ∷ rooms) [] name is = absurd (cc is)
sees (room ∷ rooms) (e ∷ es) name is =
    let first : shown room ≡ held e = cc is in
    let same = ap (λ (h : Held). h.0) first in
    let view = ap (λ (h : Held). h.1) first in
    let rest : map shown rooms ≡ map held es = cc is in
    subst (λ n. Sees (client_named name (e ∷ es))
    (if bytes_eq name n then Some room else named_in name rooms)) (sym same)
    (go (bytes_eq name (string_bytes e.0)) (sym view) (sees rooms es name rest))
  where
    go : (b : Bool) → e.1.follower ≡ Some (room.revision, seen_whole room.document)
        → Sees (client_named name es) (named_in name rooms)
        → Sees (cond b (Some e.1) (client_named name es))
        (if b then Some room else named_in name rooms)
    go true here there = here
    go false here there = there

-- a room that is kept, by its client
listed : (kept : Option KeptRoom) (client : Option Client) (room : Option ListedRoom)
    → HasClient kept client → Sees client room → IsListed kept room
listed (Some kept) (Some client) (Some room) has sees = record {
  client = sym has.heard ∙ ap as_client sees;
  revision = cc (has.at, sees);
}
listed None None None has sees = tt
listed (Some kept) None room has sees = absurd has
listed None (Some client) room has sees = absurd has
listed (Some kept) (Some client) None has sees = absurd sees
listed None None (Some room) has sees = absurd sees

-- ---- another order of the clients

-- a client that is found has a key of that name
key_of : (clients : List Entry) (name : List ℕ) (client : Client)
    → client_named name clients ≡ Some client → (key : String Global) × (name ≡ string_bytes key)
key_of [] name client found = absurd (cc found)
key_of (e ∷ es) name client found =
    go (bytes_eq name (string_bytes e.0)) refl found (key_of es name client)
  where
    go : (b : Bool) → bytes_eq name (string_bytes e.0) ≡ b
        → cond b (Some e.1) (client_named name es) ≡ Some client
        → (client_named name es ≡ Some client → (key : String Global) × (name ≡ string_bytes key))
        → (key : String Global) × (name ≡ string_bytes key)
    go true is found rest = (e.0, (bytes_eq-Decides name (string_bytes e.0)).0 is)
    go false is found rest = rest found

-- what is found by each key is found by each name
reordered : (old new : List Entry) (name : List ℕ)
    → ((key : String Global) → lookup (string_eq key) new ≡ lookup (string_eq key) old)
    → client_named name new ≡ client_named name old
reordered old new name same = go (client_named name old) (client_named name new) refl refl
  where
    by_key : (client : Client) (clients : List Entry) → client_named name clients ≡ Some client
        → client_named name new ≡ client_named name old
    by_key client clients found =
        let key = key_of clients name client found in
        subst (λ n. client_named n new ≡ client_named n old) (sym key.1) (same key.0)

    go : (was is : Option Client) → client_named name old ≡ was → client_named name new ≡ is
        → client_named name new ≡ client_named name old
    go None None before after = after ∙ sym before
    go (Some client) is before after = by_key client old before
    go None (Some client) before after = by_key client new after

-- ---- the order of the names

-- keys of which none is another leave nothing out
all_distinct : (last : String Global) (keys : List (String Global))
    → AllByRecursion (λ key. string_eq last key ≡ false) keys → IsDistinct string_eq keys
    → dedup_from string_eq last keys ≡ last ∷ keys
all_distinct last [] apart distinct = refl
all_distinct last (key ∷ keys) apart distinct =
    let other : string_eq key last ≡ false = string_eq_equiv.symm key last ∙ apart.0 in
    ap (λ b. cond b (dedup_from string_eq last keys) (last ∷ dedup_from string_eq key keys)) other
    ∙ ap (λ rest. last ∷ rest)
    (all_distinct key keys (IsDistinct-head string_eq key keys distinct)
    (IsDistinct-tail string_eq key keys distinct))

strictly : (keys : List (String Global)) → IsSorted string_cmp keys → IsDistinct string_eq keys
    → IsStrictlySortedBy string_cmp keys
strictly keys sorted distinct = subst (IsStrictlySortedBy string_cmp) (whole keys distinct)
    (IsStrictlySortedBy-dedup string_cmp_total ties keys sorted)
  where
    ties : (x y : String Global) → string_eq x y ≡ eq_by_cmp string_cmp x y
    ties x y = sym (is_eq-slice_cmp (string_bytes x) (string_bytes y))

    whole : (keys : List (String Global)) → IsDistinct string_eq keys
        → dedup string_eq keys ≡ keys
    whole [] distinct = refl
    whole (key ∷ keys) distinct = all_distinct key keys
        (IsDistinct-head string_eq key keys distinct) (IsDistinct-tail string_eq key keys distinct)

above : (key : String Global) (keys : List (String Global))
    → AllByRecursion (λ other. string_cmp key other ≡ Less) keys
    → AllByRecursion (λ other. slice_cmp nat_cmp (string_bytes key) other ≡ Less)
    (map string_bytes keys)
above key [] all = tt
above key (other ∷ keys) all = (all.0, above key keys all.1)

in_bytes : (keys : List (String Global)) → IsStrictlySortedBy string_cmp keys
    → IsStrictlySortedBy (slice_cmp nat_cmp) (map string_bytes keys)
unfolding IsStrictlySortedBy
in_bytes [] sorted = tt
in_bytes (key ∷ keys) sorted = (above key keys sorted.0, in_bytes keys sorted.1)

same_names : (rooms : List ListedRoom) (clients : List Entry) → map shown rooms ≡ map held clients
    → names_of rooms ≡ map string_bytes (keys_of clients)
same_names [] [] is = refl
same_names [] (e ∷ es) is = absurd (cc is)
same_names (room ∷ rooms) [] is = absurd (cc is)
same_names (room ∷ rooms) (e ∷ es) is =
    let first : shown room ≡ held e = cc is in
    let same = ap (λ (h : Held). h.0) first in
    let rest : map shown rooms ≡ map held es = cc is in
    ap₂ (λ n ns. n ∷ ns) same (same_names rooms es rest)

-- ---- all of it

pub lists : (kept : Kept) (clients : Clients) (sorted : List Entry)
    (listing : Listing) → AreClientsOf kept clients
    → ((key : String Global) → lookup (string_eq key) sorted
    ≡ lookup (string_eq key) clients.rooms.entries)
    → IsSorted string_cmp (keys_of sorted) → IsDistinct string_eq (keys_of sorted)
    → map shown listing.rooms.items ≡ map held sorted → listing.floor ≡ clients.floor
    → Lists kept listing
lists kept clients sorted listing are same in_order distinct is floor = record {
  rooms = λ name. listed (kept_named name kept.rooms) (client_named name sorted)
      (named_in name listing.rooms.items)
      (subst (HasClient (kept_named name kept.rooms))
      (sym (reordered clients.rooms.entries sorted name same)) (are.rooms name))
      (sees listing.rooms.items sorted name is);
  by_name = subst (IsStrictlySortedBy (slice_cmp nat_cmp))
      (sym (same_names listing.rooms.items sorted is))
      (in_bytes (keys_of sorted) (strictly (keys_of sorted) in_order distinct));
  floor = floor ∙ are.floor;
}
