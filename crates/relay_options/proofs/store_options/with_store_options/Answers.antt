use Rattle.std.proofs.Common.{refl}
use Rattle.relay_options.proofs.CommandsMade.{option_added}
use Rattle.relay_options.proofs.store_options.with_store_options.Goals as goal

pub returns : goal.returns
returns c =
    let one = option_added _ _ _ _ _ refl c.tool.ensures refl c.in_ok-arg.ensures in
    let two = option_added _ _ _ _ _ one c.room.ensures refl c.in_ok-arg-2.ensures in
    option_added _ _ _ _ _ two c.file.ensures refl c.in_ok-command.ensures
