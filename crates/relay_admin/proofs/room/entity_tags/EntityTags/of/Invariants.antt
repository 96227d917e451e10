-- The items that are listed so far, and behind them those that the other fields list.
use Rattle.std.proofs.Common.{◌≡◌, ◌++◌, map, drop}
use Rattle.httparse.specs.Borrowed.{header_parts}
use Rattle.relay_admin.specs.Conditions.{listed}
use Rattle.relay_admin.proofs.room.entity_tags.EntityTags.of.Given as goal

abbrev pub invariant-loop-field : goal.invariant-loop-field
invariant-loop-field l =
    l.list.items ++ listed l.fn.name (map header_parts (drop l.field-index l.fn.fields))
    ≡ listed l.fn.name (map header_parts l.fn.fields)
