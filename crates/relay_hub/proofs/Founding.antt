-- A new room in the map that the code keeps: behind the others, or at the index of one.
use Rattle.std.proofs.Common.{◌≡◌, ◌∙◌, ◌<◌, ◌-◌, ap, sym, arith, ℕ, zero, suc, Option, Some, None}
use Rattle.std.proofs.Common.{slice_get, List, [], ◌∷◌, ◌++◌, length, length-append, slice_set}
use Rattle.std.specs.Prelude.{swap_remove, IfSome, string_bytes}
use Rattle.std.specs.String.{string_eq}
use Rattle.std.specs.declared.string.String.{String}
use Rattle.std.proofs.lemmas.List.{length-set, map-append, map-set, set-append_left}
use Rattle.std.proofs.Math.Seq.{get_or-append_seam, take-append_seam}
use Rattle.indexmap.proofs.CallerLemmas.{insert_entry-new}
use Rattle.indexmap.specs.IndexMap.{IndexMap, insert_entry}
use Rattle.relay_room.specs.Room.{State as Room}
use Rattle.relay_hub.specs.Representation.{named, rooms_of}
use Rattle.relay_hub.specs.Session.{Session}
use Rattle.relay_hub.specs.State.{RoomSessions, room_sessions, index_named}
use Rattle.relay_hub.proofs.OpenFaults.{absent}

-- the room that an entry is, by what made its key, its room and its session
pub entry_is : {A : Type 0} (key : String A) (name : List ℕ) (g : RoomSessions) (room begun : Room)
    (x first : Session) → string_bytes key ≡ name → room ≡ begun → x ≡ first
    → g ≡ room_sessions room (x ∷ []) → named (key, g) ≡ (name, room_sessions begun (first ∷ []))
entry_is key name g room begun x first key_is room_is first_is made =
    let is = made ∙ (λ i. room_sessions (room_is i) (first_is i ∷ [])) in
    λ i. (key_is i, is i)

-- an entry under a new name goes behind the others
pub entered_last : {A S : Type 0} (m : IndexMap (String A) RoomSessions S) (key : String A)
    (name : List ℕ) (g : RoomSessions) (entries : List (String A × RoomSessions))
    → string_bytes key ≡ name → index_named name (rooms_of m.entries) ≡ None
    → entries ≡ insert_entry string_eq m.entries key g → entries ≡ m.entries ++ (key, g) ∷ []
entered_last m key name g entries key_is none is =
    is ∙ insert_entry-new string_eq m key g
    (absent key m.entries (ap (λ n. index_named n (rooms_of m.entries)) key_is ∙ none))

pub put_last : {A : Type 0} (es new : List (String A × RoomSessions)) (entry : String A
    × RoomSessions) (room : List ℕ × RoomSessions) → new ≡ es ++ entry ∷ [] → named entry ≡ room
    → rooms_of new ≡ rooms_of es ++ room ∷ []
put_last es new entry room is same =
    ap (λ xs. rooms_of xs) is
    ∙ (map-append named es (entry ∷ []) ∙ ap (λ r. rooms_of es ++ r ∷ []) same)

-- the last one comes to the index of another
swap_last : {X : Type 0} (xs : List X) (v d : X) (i : ℕ) → i < length xs
    → swap_remove (xs ++ v ∷ []) i d ≡ slice_set xs i v
swap_last xs v d i within =
    let n : length (xs ++ v ∷ []) - 1 ≡ length xs = omega (arith, length-append xs (v ∷ [])) in
    rw (
      n,
      get_or-append_seam xs v [] d,
      set-append_left xs (v ∷ []) i v within,
    )
    (rw (length-set xs i v) at (take-append_seam (slice_set xs i v) (v ∷ [])))

within_found : {X : Type 0} (xs : List X) (i : ℕ) → i < length xs → slice_get xs i ≡ None → ⊥
within_found [] i within none = absurd (omega (arith, within))
within_found (x ∷ xs) zero within none = absurd (cc none)
within_found (x ∷ xs) (suc i) within none = within_found xs i (omega (arith, within)) none

pub put_at : {A : Type 0} (es mid new : List (String A × RoomSessions)) (entry : String A
    × RoomSessions) (gone : Option (String A × RoomSessions)) (room : List ℕ × RoomSessions) (i : ℕ)
    → mid ≡ es ++ entry ∷ [] → i < length es → gone ≡ slice_get mid i
    → IfSome gone (λ e. new ≡ swap_remove mid i e) → named entry ≡ room
    → rooms_of new ≡ slice_set (rooms_of es) i room
put_at es mid new entry (Some e) room i is within there swapped same =
    ap (λ xs. rooms_of xs) (swapped
    ∙ (ap (λ xs. swap_remove xs i e) is ∙ swap_last es entry e i within))
    ∙ (map-set named es i entry ∙ ap (λ r. slice_set (rooms_of es) i r) same)
put_at es mid new entry None room i is within there swapped same =
    let more : i < length (es ++ entry ∷ []) =
    omega (arith, within, length-append es (entry ∷ [])) in
    absurd (within_found (es ++ entry ∷ []) i more (ap (λ xs. slice_get xs i) (sym is) ∙ sym there))
