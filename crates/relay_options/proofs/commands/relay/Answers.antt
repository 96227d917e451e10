use Rattle.std.proofs.Common.{refl}
use Rattle.relay_options.proofs.CommandsMade.{command_added}
use Rattle.relay_options.proofs.commands.relay.Goals as goal

pub returns : goal.returns
returns c =
    let script = c.in_ok-script.ensures in
    let looped = c.in_ok-looped.ensures in
    let one = command_added _ _ _ _ _ c.program.ensures script refl c.in_ok-subcommand.ensures in
    let two = command_added _ _ _ _ _ one looped refl c.in_ok-subcommand-2.ensures in
    let three = command_added _ _ _ _ _ two c.follow.ensures refl c.in_ok-subcommand-3.ensures in
    let serve = c.in_ok-serve.ensures in
    let four = command_added _ _ _ _ _ three serve refl c.in_ok-subcommand-4.ensures in
    command_added _ _ _ _ _ four c.in_ok-store.ensures refl c.in_ok-relay.ensures
