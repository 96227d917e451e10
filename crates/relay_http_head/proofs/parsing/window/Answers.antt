-- A short text is its own window.
use Rattle.std.proofs.Common.{sym, arith, length-take, take_all}
use Rattle.relay_http_head.proofs.parsing.window.Goals as goal

pub slice_bounds-result-end : goal.slice_bounds-result-end
slice_bounds-result-end c = omega (arith, length-take c.args.most c.args.bytes.now)

pub returns-else-bytes-most : goal.returns-else-bytes-most
returns-else-bytes-most c = sym (take_all c.args.most c.args.bytes.now (omega arith))
