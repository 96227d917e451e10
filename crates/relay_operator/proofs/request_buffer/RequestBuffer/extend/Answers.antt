-- A request is said by the bytes, also if more follow.
use Rattle.relay_operator.proofs.Noting.{said_extended}
use Rattle.relay_operator.proofs.request_buffer.RequestBuffer.extend.Goals as goal

pub invariant_of-self : goal.invariant_of-self
invariant_of-self c =
    said_extended c.self.inside.asked c.self.inside.bytes.items c.args.bytes.now
    c.extend_from_slice.new.self.items c.extend_from_slice.result c.extend_from_slice.ensures.items
    c.self.invariant
