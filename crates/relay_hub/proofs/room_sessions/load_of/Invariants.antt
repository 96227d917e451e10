use Rattle.std.proofs.Common.{◌≡◌, take}
use Rattle.relay_tree.specs.Document.{saturated}
use Rattle.relay_hub.specs.Queries.{sessions_weight}
use Rattle.relay_hub.proofs.room_sessions.load_of.Given as goal

abbrev pub invariant-loop-session : goal.invariant-loop-session
invariant-loop-session l =
    l.load ≡ saturated (sessions_weight (take l.session-index l.sessions))
