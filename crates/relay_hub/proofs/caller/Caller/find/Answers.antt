use Rattle.std.proofs.Common.{sym, ◌∙◌}
use Rattle.relay_hub.proofs.Sessions.{never_unplaced}
use Rattle.relay_hub.proofs.caller.Caller.find.Goals as goal

pub unreachable-requires : goal.unreachable-requires
unreachable-requires c =
    never_unplaced c.args.sessions.now c.args.number c.requires.there (sym c.position_of.ensures
    ∙ c.in_default.is)
