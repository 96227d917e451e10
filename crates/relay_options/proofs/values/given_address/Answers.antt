use Rattle.relay_options.proofs.AddressesRead.{address_read}
use Rattle.relay_options.proofs.values.given_address.Goals as goal

pub returns : goal.returns
returns c =
    address_read _ c.args.given.now c.args.name.now c.get_one.result c.get_one.ensures.none
    c.get_one.ensures.value
