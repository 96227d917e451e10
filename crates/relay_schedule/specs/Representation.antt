-- The fields of queues and of what rooms were said, as contracts see them.
use Rattle.std.specs.Prelude.{◌≡◌, ℕ, ◌+◌, ◌≤◌, Bool, false, List, ◌++◌, length, slice_index_or}
use Rattle.std.specs.Prelude.{if◌then◌else◌}
use Rattle.std.specs.List.{count_by}
use Rattle.std.specs.VecDeque.{deque_len, deque_capacity}
use Rattle.relay_schedule.specs.Queue.{Keys, times}
use Rattle.relay_schedule.specs.Ready.{Lines, AreLines}
use Rattle.relay_schedule.specs.ReadAhead.{ReadAheads}
use Rattle.relay_schedule.specs.TurnLine.{Line}
use Rattle.relay_schedule.specs.declared.key_queue.KeyQueue.TheInside as key_queue
use Rattle.relay_schedule.specs.declared.ready_queue.ReadyQueue.TheInside as ready_queue
use Rattle.relay_schedule.specs.declared.read_ahead.ReadAheadByRoom.TheInside as by_room
use Rattle.relay_schedule.specs.declared.turn_line.TurnLine.TheInside as turn_line

-- the queue that contracts see
abbrev pub keys_of : key_queue.Inside → Keys
keys_of queue = record { keys = queue.keys.items; admitted = length queue.queued.items }

-- a key stands in the list once if its flag is set, and else not at all
abbrev pub Flagged : List Bool → List ℕ → Type 0
Flagged flags keys =
    (key : ℕ) → times key keys ≡ (if slice_index_or flags key false then 1 else 0)

-- the invariant of the fields: each key that waits is flagged, and no other; and there is memory
-- for each key that has a flag
pub record IsKept (queue : key_queue.Inside) : Type 0 where
  pub flagged : Flagged queue.queued.items queue.keys.items
  pub fits : deque_len queue.keys ≤ count_by (λ b. b) queue.queued.items
  pub room : length queue.queued.items ≤ deque_capacity queue.keys

-- the line that contracts see
abbrev pub line_of : turn_line.Inside → Line
line_of line = record {
  waiting = line.waiting.items;
  served = line.served.items;
  admitted = length line.standing.items;
}

-- the invariant of the fields: each key that stands in the line is flagged, and no other; and
-- either part has memory for each key that has a flag
pub record IsLinedUp (line : turn_line.Inside) : Type 0 where
  pub flagged : Flagged line.standing.items (line.waiting.items ++ line.served.items)
  pub fits : deque_len line.waiting + deque_len line.served ≤ count_by (λ b. b) line.standing.items
  pub waiting_room : length line.standing.items ≤ deque_capacity line.waiting
  pub served_room : length line.standing.items ≤ deque_capacity line.served

-- the lines that contracts see
abbrev pub lines_of : ready_queue.Inside → Lines
lines_of queue = record {
  credited = queue.credited;
  light = queue.light;
  heavy = queue.heavy;
  round = queue.round;
  light_left = queue.light_left;
  heavy_left = queue.heavy_left;
}

-- the invariant of the fields
abbrev pub AreKept : ready_queue.Inside → Type 0
AreKept queue = AreLines (lines_of queue)

-- what each room was said, as contracts see it
abbrev pub read_aheads_of : by_room.Inside → ReadAheads
read_aheads_of all = record { rooms = all.rooms.items; limits = all.limits }
