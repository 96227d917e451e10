use Rattle.std.proofs.Common.{◌≡◌, ◌-◌, ◌^◌, min, take}
use Rattle.relay_link.specs.Hears.{received_bytes}
use Rattle.relay_link.proofs.turn.bytes_received.Given as goal

abbrev pub invariant-loop-event : goal.invariant-loop-event
invariant-loop-event l =
    l.bytes ≡ min (received_bytes (take l.event-index l.events)) (2 ^ 64 - 1)
