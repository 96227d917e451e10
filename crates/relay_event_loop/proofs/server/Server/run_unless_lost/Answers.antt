-- No round was made.
use Rattle.std.proofs.Common.{rules, ◌≡◌, refl}
use Rattle.relay_event_loop.specs.Advances.{stays}
use Rattle.relay_event_loop.specs.Connections.{made_by, made_after}
use Rattle.relay_event_loop.proofs.server.Server.run_unless_lost.Goals as goal

pub loop-before-init : goal.loop-before-init
loop-before-init g c =
    let made : made_by c.args.self.now ≡ made_after 0 c.args.self.now = search rules in
    ((refl, stays (λ key. refl)), made, λ within. within)
