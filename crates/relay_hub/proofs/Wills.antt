-- The wills that are left to be done: each has its room, whose name stays.
use Rattle.std.proofs.Common.{◌≡◌, ℕ, zero, suc, ◌<◌, ◌≤◌, List, [], ◌∷◌, ◌++◌, Some, map, length}
use Rattle.std.proofs.Common.{refl, arith, inl, inr, slice_get, slice_set}
use Rattle.std.proofs.lemmas.Bool.Decides.{eqb_tells}
use Rattle.std.proofs.lemmas.List.{length-set}
use Rattle.relay_patch.specs.declared.op.Op.{Op}
use Rattle.relay_hub.specs.Log.{left_in}
use Rattle.relay_hub.specs.Stands.{named_will}
use Rattle.relay_hub.specs.State.{HaveRooms, RoomSessions}
use Rattle.relay_hub.specs.Step.{left_of}
use Rattle.relay_hub.specs.declared.will.Will.{Will}
use Rattle.relay_hub.proofs.Lists.{slice_get-set, slice_get-set_other, slice_get-earlier}

abbrev Rooms : Type 0
Rooms = List (List ℕ × RoomSessions)

-- there is a room at each index within the list
pub room_within : (rooms : Rooms) (i : ℕ) → i < length rooms
    → (room : List ℕ × RoomSessions) × (slice_get rooms i ≡ Some room)
room_within [] i h = absurd (omega (arith, h))
room_within (r ∷ rs) zero h = (r, refl)
room_within (r ∷ rs) (suc i) h = room_within rs i (omega (arith, h))

-- where there are as many rooms or more, each will still has its room
pub have_more : (rooms more : Rooms) (wills : List Will) → length rooms ≤ length more
    → HaveRooms rooms wills → HaveRooms more wills
have_more rooms more [] long h = tt
have_more rooms more (w ∷ wills) long h =
    (omega (arith, h.0, long), have_more rooms more wills long h.1)

pub have_set : (rooms : Rooms) (i : ℕ) (r : List ℕ × RoomSessions) (wills : List Will)
    → HaveRooms rooms wills → HaveRooms (slice_set rooms i r) wills
have_set rooms i r wills h =
    have_more rooms (slice_set rooms i r) wills (omega (arith, length-set rooms i r)) h

-- what a closed session leaves has its room
pub have_left : (rooms : Rooms) (wills : List Will) (s number index : ℕ) (patch : List Op)
    → index < length rooms → HaveRooms rooms wills
    → HaveRooms rooms (wills ++ left_of s number index patch)
have_left rooms [] s number index [] within h = tt
have_left rooms [] s number index (op ∷ ops) within h = (within, tt)
have_left rooms (w ∷ wills) s number index patch within h =
    (h.0, have_left rooms wills s number index patch within h.1)

-- it is at most one will
pub few_left : (s number index : ℕ) (patch : List Op)
    → length (left_of s number index patch) ≤ 1
few_left s number index [] = omega arith
few_left s number index (op ∷ ops) = omega arith

-- Names.

-- if each will names the same room, the bequests are the same
same_named : (rooms more : Rooms) (wills : List Will) → HaveRooms rooms wills
    → ((w : Will) → w.room_index < length rooms → named_will more w ≡ named_will rooms w)
    → map (named_will more) wills ≡ map (named_will rooms) wills
same_named rooms more [] h same = refl
same_named rooms more (w ∷ wills) h same =
    rw (same w h.0, same_named rooms more wills h.1 same) refl

-- the sessions of one room differ
pub named_set : (rooms : Rooms) (i : ℕ) (name : List ℕ) (g h : RoomSessions) (wills : List Will)
    → slice_get rooms i ≡ Some (name, g) → HaveRooms rooms wills
    → map (named_will (slice_set rooms i (name, h))) wills ≡ map (named_will rooms) wills
named_set rooms i name g h wills there have =
    same_named rooms (slice_set rooms i (name, h)) wills have one
  where
    one : (w : Will) → w.room_index < length rooms
        → named_will (slice_set rooms i (name, h)) w ≡ named_will rooms w
    one w within =
        elim (eqb_tells w.room_index i) [
          | inl same ↦ rw (same.1, slice_get-set rooms i (name, g) (name, h) there, there) refl
          | inr other ↦ rw (slice_get-set_other rooms i w.room_index (name, h) other.1) refl
        ]

-- a room was added behind the others
pub named_earlier : (rooms : Rooms) (room : List ℕ × RoomSessions) (wills : List Will)
    → HaveRooms rooms wills
    → map (named_will (rooms ++ room ∷ [])) wills ≡ map (named_will rooms) wills
named_earlier rooms room wills have = same_named rooms (rooms ++ room ∷ []) wills have one
  where
    one : (w : Will) → w.room_index < length rooms
        → named_will (rooms ++ room ∷ []) w ≡ named_will rooms w
    one w within =
        let r = room_within rooms w.room_index within in
        rw (slice_get-earlier rooms room r.0 w.room_index r.1, r.1) refl

-- what a closed session left, by the name of its room
pub named_left : (rooms : Rooms) (s number index : ℕ) (name : List ℕ) (g : RoomSessions)
    (patch : List Op) → slice_get rooms index ≡ Some (name, g)
    → map (named_will rooms) (left_of s number index patch) ≡ left_in s number name patch
named_left rooms s number index name g [] there = refl
named_left rooms s number index name g (op ∷ ops) there = rw there refl
