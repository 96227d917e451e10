-- A text that was applied has no fault.
use Rattle.std.proofs.Common.{◌≡◌, Some}
use Rattle.relay_follow.specs.Hearing.{as_client, told}
use Rattle.relay_script.proofs.Hearing.{heard_well}
use Rattle.relay_script.proofs.retrying_follower.RetryingFollower.hear.Goals as goal

pub returns-in-Ok : goal.returns-in-Ok
returns-in-Ok c =
    let e = c.args.self.now in
    let led : told (as_client e.follower) c.args.text ≡ Some (as_client c.hear.new.self) =
    rw c.as_str.ensures at c.in-Ok.ensures.ok in
    (heard_well e.follower c.args.text c.hear.new.self led, led, c.requires)
