use Rattle.std.specs.Str.Parse.{ExplainsUnsignedError, HasUnsignedDigitsIfOk, ParsesUnsigned}
use Rattle.relay_options.proofs.NumbersRead.{number_read}
use Rattle.relay_options.proofs.values.given_number.Goals as goal

pub returns : goal.returns
returns c =
    number_read (λ bs r. ParsesUnsigned 64 10 bs r × ExplainsUnsignedError 10 bs r
    × HasUnsignedDigitsIfOk bs r) c.args.given.now c.args.name.now c.get_one.result
    (λ t x h. h.0) c.get_one.ensures.none c.get_one.ensures.value
