use Rattle.std.proofs.Common.{refl}
use Rattle.relay_options.proofs.CommandsMade.{option_added}
use Rattle.relay_options.proofs.hub_options.with_settings.Goals as goal

pub returns : goal.returns
returns c =
    let one = option_added _ _ _ _ _ refl c.history.ensures refl c.in_ok-arg.ensures in
    let two = option_added _ _ _ _ _ one c.max_waiting_patches.ensures refl c.in_ok-arg-2.ensures in
    let three = option_added _ _ _ _ _ two c.rooms.ensures refl c.in_ok-arg-3.ensures in
    option_added _ _ _ _ _ three c.sessions.ensures refl c.in_ok-command.ensures
