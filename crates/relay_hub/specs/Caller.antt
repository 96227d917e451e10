-- The session that calls, among its room's sessions, and what the sessions are after a mutable
-- borrow of it ends.
use Rattle.std.specs.Prelude.{◌≡◌, List, Some, position, slice_set}
use Rattle.std.specs.Borrow.{Lends, MutBor, Fml, Array}
use Rattle.relay_hub.specs.Session.{Session}
use Rattle.relay_hub.specs.State.{is_number}
use Rattle.relay_hub.specs.contracts.session.Session as session
use Rattle.relay_hub.specs.declared.caller.Caller.{Caller}

-- the session with the caller's number is at the caller's index
abbrev pub IsCaller : List Session → Caller → Type 0
IsCaller sessions caller = position (is_number caller.number) sessions ≡ Some caller.index

-- the sessions end with the last value of r at the caller's index
abbrev pub LendsSession : MutBor (List Session) → Caller → MutBor Session → Fml
LendsSession sessions caller r =
    Lends (Array session.the_row 0) session.the_row sessions r (slice_set sessions.now caller.index)
