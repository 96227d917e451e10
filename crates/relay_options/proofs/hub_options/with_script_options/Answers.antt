use Rattle.std.proofs.Common.{refl}
use Rattle.relay_options.proofs.CommandsMade.{option_added}
use Rattle.relay_options.proofs.hub_options.with_script_options.Goals as goal

pub returns : goal.returns
returns c =
    let settings = c.in_ok-with_settings.ensures in
    let one = option_added _ _ _ _ _ settings c.script_epoch.ensures refl c.in_ok-arg.ensures in
    let two = option_added _ _ _ _ _ one c.history_weight.ensures refl c.in_ok-arg-2.ensures in
    let three = option_added _ _ _ _ _ two c.waiting_weight.ensures refl c.in_ok-arg-3.ensures in
    let four = option_added _ _ _ _ _ three c.telling_weight.ensures refl c.in_ok-arg-4.ensures in
    option_added _ _ _ _ _ four c.view_weight.ensures refl c.in_ok-command.ensures
