use Rattle.std.proofs.Common.{◌≡◌, drop}
use Rattle.relay_audience.specs.Audiences.{view_of}
use Rattle.relay_audience.proofs.audiences.Audiences.view_of.Given as goal

abbrev pub invariant-loop-audience : goal.invariant-loop-audience
invariant-loop-audience l =
    view_of l.session (drop l.audience-index l.audience-items) ≡ view_of l.session l.self
