-- The texts that rooms were said since none of their connections waited to be written to, and what
-- a call makes of them.
use Rattle.std.specs.Prelude.{ℕ, ◌+◌, ◌-◌, ◌^◌, min, nat_lt, ◌&&◌, ◌||◌, ◌==◌, if◌then◌else◌, Bool}
use Rattle.std.specs.Prelude.{List, [], slice_index_or, slice_set, refl}
use Rattle.std.specs.Coded.{Coded, code_by, coded×, coded_list}
use Rattle.relay_schedule.specs.Rooms as rooms
use Rattle.relay_schedule.specs.declared.read_ahead.ReadAhead.{ReadAhead}
use Rattle.relay_schedule.specs.declared.read_ahead.ReadAheadLimits.{ReadAheadLimits}

-- a room that was said nothing, and whose watchers wait for nothing
abbrev pub unsaid : ReadAhead
unsaid = record { texts = 0; bytes = 0; writers = 0 }

-- whether a room may be read ahead: nobody waits to be written to, or it was said fewer texts and
-- fewer bytes than the limits
abbrev pub may_read_ahead : ReadAheadLimits → ReadAhead → Bool
may_read_ahead limits room =
    (room.writers == 0) || (nat_lt room.texts limits.texts && nat_lt room.bytes limits.bytes)

-- the room was said a text of so many bytes, which is the first if nobody waits to be written to
abbrev pub with_text : ℕ → ReadAhead → ReadAhead
with_text bytes room =
    if room.writers == 0 then record { texts = 1; bytes = bytes; writers = 0 } else
    record room {
      texts = min (2 ^ 64 - 1) (room.texts + 1);
      bytes = min (2 ^ 64 - 1) (room.bytes + bytes);
    }

-- one more waits to be written to, or one fewer
abbrev pub with_writer : ReadAhead → ReadAhead
with_writer room = record room { writers = min (2 ^ 64 - 1) (room.writers + 1) }

abbrev pub without_writer : ReadAhead → ReadAhead
without_writer room = record room { writers = room.writers - 1 }

-- what each room was said, by the room's index, and the limits of all
pub record ReadAheads : Type 0 where
  pub rooms : List ReadAhead
  pub limits : ReadAheadLimits

-- no room is admitted
abbrev pub no_rooms : ReadAheadLimits → ReadAheads
no_rooms limits = record { rooms = []; limits = limits }

-- a room that is admitted was said nothing
abbrev pub admitting : ℕ → ReadAheads → ReadAheads
admitting index all = record all { rooms = rooms.admitting index unsaid all.rooms }

-- what a room was said; one that is not admitted counts as said nothing
abbrev pub read_ahead_of : ℕ → ReadAheads → ReadAhead
read_ahead_of index all = slice_index_or all.rooms index unsaid

-- what a room was said changes, if the room is admitted
abbrev pub in_room : ℕ → (ReadAhead → ReadAhead) → ReadAheads → ReadAheads
in_room index change all = record all {
  rooms = slice_set all.rooms index (change (read_ahead_of index all));
}

-- how the logic encodes them
abbrev pub read_aheads_code : Coded ReadAhead → Coded ReadAheadLimits → Coded ReadAheads
read_aheads_code room limits = code_by (List ReadAhead × ReadAheadLimits)
    (coded× (coded_list room) limits)
    (λ all. (all.rooms, all.limits))
    (λ p. record { rooms = p.0; limits = p.1 })
    (λ _. refl)
