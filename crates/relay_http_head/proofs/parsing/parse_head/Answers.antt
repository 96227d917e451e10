-- There is room for every field that the window can hold.
use Rattle.std.proofs.Common.{rules, ap, Err}
use Rattle.relay_http_head.proofs.Heads.{no_excess}
use Rattle.relay_http_head.proofs.parsing.parse_head.Goals as goal

pub unreachable-requires : goal.unreachable-requires
unreachable-requires c =
    no_excess c.args.bytes.now _ c.args.most _ c.window.ensures (search rules)
    (c.in-Err-TooManyHeaders.ensures.too_many (ap Err c.in-Err-TooManyHeaders.field-0-is))
