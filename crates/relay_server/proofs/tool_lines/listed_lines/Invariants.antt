-- The lines so far, and behind them those of the other rooms.
use Rattle.std.proofs.Common.{◌≡◌, ◌++◌, drop, flat_map, string_bytes}
use Rattle.relay_server.specs.StoreTools.{listed_line}
use Rattle.relay_server.proofs.tool_lines.listed_lines.Given as goal

abbrev pub invariant-loop-room : goal.invariant-loop-room
invariant-loop-room l =
    string_bytes l.text ++ flat_map listed_line (drop l.room-index l.rooms)
    ≡ flat_map listed_line l.rooms
