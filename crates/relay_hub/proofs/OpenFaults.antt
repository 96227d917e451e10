-- Opening a session: the reasons not to, and the room that it enters.
use Rattle.std.proofs.Common.{◌≡◌, ℕ, ◌+◌, ◌<◌, ◌≤◌, true, false, List, [], ◌∷◌, Option, Some, None}
use Rattle.std.proofs.Common.{subst, refl, ◌∙◌, ap, length, arith, cond, position, bytes_eq}
use Rattle.std.proofs.Common.{string_bytes, not, nat_le, nat_lt}
use Rattle.std.specs.List.{position_or_len}
use Rattle.std.specs.Map.{keys_of, lookup}
use Rattle.std.specs.String.{string_eq}
use Rattle.std.specs.declared.string.String.{String}
use Rattle.std.proofs.lemmas.Bool.Decides.{nat_tests}
use Rattle.std.proofs.lemmas.List.{length-map}
use Rattle.std.proofs.lemmas.Map.Entries.{length-keys_of}
use Rattle.indexmap.proofs.MapLemmas.{Missing-position}
use Rattle.relay_access.specs.RoomName.{is_room_name}
use Rattle.relay_access.specs.declared.access.Access.{Access}
use Rattle.relay_room.specs.Room.{begun}
use Rattle.relay_tree.specs.Document.{null}
use Rattle.relay_limits.specs.declared.TheConstants.{MAX_COUNT}
use Rattle.relay_hub.specs.Representation.{named, rooms_of}
use Rattle.relay_hub.specs.Session.{newcomer}
use Rattle.relay_hub.specs.State.{RoomSessions, room_sessions, State, index_named, is_crowded}
use Rattle.relay_hub.specs.State.{vacant_in}
use Rattle.relay_hub.specs.Step.{open_fault, Founds, EntersRooms, Enters}
use Rattle.relay_hub.specs.declared.event.Opening.{Opening}
use Rattle.relay_hub.specs.declared.fault.OpenFault.TheVariants.{RoomsFull, SessionsFull, Exhausted}

-- Names.

index_or_len : {A : Type 0} (name : List ℕ) (es : List (String A × RoomSessions))
    → position_or_len (λ key. bytes_eq name (string_bytes key)) (keys_of es)
    ≡ position_or_len (λ room. bytes_eq name room.0) (rooms_of es)
index_or_len name [] = refl
index_or_len name (e ∷ es) =
    ap (λ n. cond (not (bytes_eq name (string_bytes e.0))) (1 + n) 0) (index_or_len name es)

-- the index of a key is that of the room of its name
pub index_is : {A : Type 0} (name : List ℕ) (es : List (String A × RoomSessions))
    → position (λ key. bytes_eq name (string_bytes key)) (keys_of es)
    ≡ index_named name (rooms_of es)
index_is name es = rw (index_or_len name es, length-keys_of es, length-map es named) refl

-- a name of no room is no key
pub absent : {A : Type 0} (key : String A) (es : List (String A × RoomSessions))
    → index_named (string_bytes key) (rooms_of es) ≡ None → lookup (string_eq key) es ≡ None
absent key es none =
    (Missing-position (string_eq key) es (index_is (string_bytes key) es ∙ none)).value

-- The reasons not to open a session, in the order of the checks.

module _ (hub : State) (name : List ℕ) (right : is_room_name name ≡ true) where
  pub rooms_full : is_crowded (index_named name hub.rooms) hub ≡ true
      → open_fault hub name ≡ Some RoomsFull
  rooms_full crowded = rw (right, crowded) refl

  module _ (free : is_crowded (index_named name hub.rooms) hub ≡ false) where
    pub sessions_full : hub.config.sessions ≤ length hub.homes + length hub.wills
        → open_fault hub name ≡ Some SessionsFull
    sessions_full full =
        let f : nat_le hub.config.sessions (length hub.homes + length hub.wills) ≡ true =
        grind (arith, nat_tests, full) in rw (right, free, f) refl

    module _ (few : length hub.homes + length hub.wills < hub.config.sessions) where
      pub exhausted : MAX_COUNT < hub.next → open_fault hub name ≡ Some Exhausted
      exhausted past =
          let f : nat_le hub.config.sessions (length hub.homes + length hub.wills) ≡ false =
          grind (arith, nat_tests, few) in
          let g : nat_lt MAX_COUNT hub.next ≡ true = grind (arith, nat_tests, past) in
          rw (right, free, f, g) refl

      pub admitted : hub.next ≤ MAX_COUNT → open_fault hub name ≡ None
      admitted left =
          let f : nat_le hub.config.sessions (length hub.homes + length hub.wills) ≡ false =
          grind (arith, nat_tests, few) in
          let g : nat_lt MAX_COUNT hub.next ≡ false = grind (arith, nat_tests, left) in
          rw (right, free, f, g) refl

-- The room that a session enters.

-- where the vacant index matters only for a name without a room
pub enters_at : (old : State) (name : List ℕ) (access : Access) (o : Opening) (at v : Option ℕ)
    (index : ℕ) (new : State) → (at ≡ None → v ≡ vacant_in old) → at ≡ index_named name old.rooms
    → EntersRooms o (λ rev.
    newcomer old.config access rev o.session) v old.config.history new.floor name at old.rooms index
    new.rooms
    → Enters o name access (index_named name old.rooms) old index new
enters_at old name access o at v index new free is enters =
    subst (λ at. Enters o name access at old index new) is (go at free enters)
  where
    go : (at : Option ℕ) → (at ≡ None → v ≡ vacant_in old)
        → EntersRooms o (λ rev.
        newcomer old.config access rev o.session) v old.config.history new.floor name at old.rooms
        index new.rooms
        → Enters o name access at old index new
    go (Some i) free h = h
    go None free h =
        let room : List ℕ × RoomSessions = (
          name,
          room_sessions (begun null new.floor old.config.history)
              (newcomer old.config access new.floor o.session ∷ []),
        ) in
        (h.0, subst (λ w. Founds w room old.rooms index new.rooms) (free refl) h.1)
