use Rattle.std.proofs.Common.{arith, add-one}
use Rattle.relay_pointer.proofs.Numbers.{number_more}
use Rattle.relay_pointer.proofs.index.number.Goals as goal

pub loop-byte-preserved : goal.loop-byte-preserved
loop-byte-preserved c =
    rw add-one (omega
    (arith, number_more c.args.bytes.now 0 c.loop-byte.byte-index c.loop-byte-test.true))
