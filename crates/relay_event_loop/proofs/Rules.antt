-- The lemmas that the server's functions use.
use Rattle.relay_event_loop.proofs.Advancing.{advances_then, rounds_of}
use Rattle.relay_event_loop.proofs.Held.{none_changed, woken, turned, ended, added, removed}
use Rattle.relay_event_loop.proofs.Held.{shed_back, willed, forgotten, visited}

pub ruleset advances =
    (advances_then, none_changed, woken, turned, ended, added, removed, shed_back)

pub ruleset house = (advances_then, none_changed, willed, forgotten, visited)

pub ruleset rounds = (advances_then, none_changed, rounds_of)
