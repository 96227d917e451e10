-- No key stands in the line twice, since it stands there as often as its flag says.
use Rattle.std.proofs.Common.{◌≡◌, ◌∙◌, subst}
use Rattle.relay_schedule.specs.TurnLine.{IsLine, met}
use Rattle.relay_schedule.specs.Representation.{line_of}
use Rattle.relay_schedule.proofs.Flags.{kept_is_line}
use Rattle.relay_schedule.proofs.Visiting.{each_met_once}
use Rattle.relay_schedule.proofs.turn_line.TurnLine.waiting.Goals as goal

pub returns-clause-kept : goal.returns-clause-kept
returns-clause-kept c =
    subst IsLine c.self.view_is (kept_is_line c.self.inside c.self.invariant)

pub returns-clause-each_once : goal.returns-clause-each_once
returns-clause-each_once c served same =
    subst (λ line. met served line ≡ line.waiting) c.self.view_is
    (each_met_once (line_of c.self.inside) served
    (same ∙ c.len.ensures ∙ c.self.inside.waiting.ok.0))
