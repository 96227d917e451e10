-- The connection at the index asks for it.
use Rattle.std.proofs.Common.{sym}
use Rattle.relay_operator.proofs.admin_port.AdminPort.admission_at.Goals as goal

pub returns-in-Open-clause-at : goal.returns-in-Open-clause-at
returns-in-Open-clause-at g c = (
  c.in_ok-room.field-0.now,
  c.in_ok-room.ensures.asks,
  rw c.in-Open.is (sym c.as_str.ensures.value),
)

pub returns-in-Close-clause-at : goal.returns-in-Close-clause-at
returns-in-Close-clause-at g c = (
  c.in_ok-room.field-0.now,
  c.in_ok-room.ensures.asks,
  rw c.in-Close.is (sym c.as_str-in-Close.ensures.value),
)
