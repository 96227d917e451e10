-- The lines so far, and behind them those of the other rooms.
use Rattle.std.proofs.Common.{◌≡◌, ◌++◌, drop, flat_map, string_bytes}
use Rattle.relay_server.specs.StoreTools.{exported_line, first_line}
use Rattle.relay_server.proofs.tool_lines.exported_lines.Given as goal

abbrev pub invariant-loop-room : goal.invariant-loop-room
invariant-loop-room l =
    string_bytes l.text ++ flat_map exported_line (drop l.room-index l.rooms)
    ≡ first_line l.epoch l.floor ++ flat_map exported_line l.rooms
