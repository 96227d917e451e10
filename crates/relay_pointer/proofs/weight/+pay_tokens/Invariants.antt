use Rattle.std.proofs.Common.{length}
use Rattle.relay_pointer.proofs.weight.+pay_tokens.Given as goal

abbrev pub decreases-pay_tokens : goal.decreases-pay_tokens
decreases-pay_tokens l = length l.tokens.now
