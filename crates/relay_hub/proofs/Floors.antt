-- The revision at which a new room begins.
use Rattle.std.proofs.Common.{◌≡◌, ℕ, ◌≤◌, false, List, Option, Some, None, refl, arith, max}
use Rattle.std.proofs.Common.{is_some, option_and_then, slice_get}
use Rattle.relay_limits.specs.declared.TheConstants.{MAX_COUNT}
use Rattle.relay_hub.specs.State.{RoomSessions, State, vacant_in, above, floor_over}
use Rattle.relay_hub.specs.Step.{floor_after}
use Rattle.relay_hub.proofs.Rooms.{above_count, vacant}

-- it stays a count, since an evictable room has a revision left
pub floor_count : (hub : State) (at : Option ℕ) → hub.floor ≤ MAX_COUNT
    → floor_after at hub ≤ MAX_COUNT
floor_count hub (Some i) count = count
floor_count hub None count = go (vacant_in hub) refl
  where
    go : (o : Option ℕ) → vacant_in hub ≡ o
        → floor_over hub.floor (option_and_then (slice_get hub.rooms) o) ≤ MAX_COUNT
    go (Some i) is =
        let v = vacant hub.config.rooms hub.wills hub.rooms i is in
        rw v.there (omega (arith, count, above_count v.room_sessions v.left))
    go None is = count

-- it only rises
pub floor_rises : (hub : State) (at : Option ℕ) → hub.floor ≤ floor_after at hub
floor_rises hub (Some i) = omega arith
floor_rises hub None = over (option_and_then (slice_get hub.rooms) (vacant_in hub))
  where
    over : (room : Option (List ℕ × RoomSessions)) → hub.floor ≤ floor_over hub.floor room
    over (Some room) = omega arith
    over None = omega arith

-- above the room that is evictable
pub floor_is : (hub : State) (at : Option ℕ) (i : ℕ) (name : List ℕ) (g : RoomSessions)
    → is_some at ≡ false → vacant_in hub ≡ Some i
    → slice_get hub.rooms i ≡ Some (name, g) → floor_after at hub ≡ max hub.floor (above g)
floor_is hub (Some n) i name g other is there = absurd (cc other)
floor_is hub None i name g other is there = rw (is, there) refl
