use Rattle.std.proofs.Common.{◌∙◌, ap, map}
use Rattle.relay_store.specs.Kept.{without_will}
use Rattle.relay_keeping.specs.LeftWills.{kept_will}
use Rattle.relay_keeping.proofs.LeftWills.{without}
use Rattle.relay_keeping.proofs.left_wills.LeftWills.end.Goals as goal

pub returns-clause-kept : goal.returns-clause-kept
returns-clause-kept c = λ kept were. record {
  wills = ap (map kept_will) c.shift_remove.ensures.entries
      ∙ without c.args.session c.args.self.now.wills.entries were.apart
      ∙ ap (without_will c.args.session) were.wills;
  apart = c.shift_remove.ensures.unique;
}
