-- No field so far has the name.
use Rattle.std.proofs.Common.{◌≡◌, map, drop}
use Rattle.httparse.specs.Borrowed.{header_parts}
use Rattle.relay_http_head.specs.Head.{first_value}
use Rattle.relay_http_head.proofs.fields.first_value.Given as goal

abbrev pub invariant-loop-field : goal.invariant-loop-field
invariant-loop-field l =
    first_value l.name (map header_parts l.fields)
    ≡ first_value l.name (map header_parts (drop l.field-index l.fields))
