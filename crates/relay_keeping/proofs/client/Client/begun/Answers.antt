use Rattle.std.proofs.Common.{◌∙◌, ap}
use Rattle.relay_follow.specs.Hearing.{as_client}
use Rattle.relay_keeping.specs.Mirrored.{heard}
use Rattle.relay_keeping.proofs.client.Client.begun.Goals as goal

pub returns : goal.returns
returns c = λ name. record {
  heard = c.in_ok-hear.ensures.heard
      ∙ ap (λ held. heard (as_client held) c.args.text.now) c.new-follower.ensures;
  at = c.in_ok-hear.ensures.at;
  noted = c.begun.ensures;
}
