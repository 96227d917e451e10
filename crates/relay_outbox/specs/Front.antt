-- The borrowed front of an outbox.
use Rattle.relay_outbox.specs.Outbox.{Foremost, reply, patch, snapshot, nothing}
use Rattle.relay_outbox.specs.declared.front.Front.{Front}
use Rattle.relay_outbox.specs.declared.front.Front.TheVariants.{Reply, Patch, Snapshot, Nothing}

-- the borrowed front as plain data
abbrev pub shown : {R P : Type 0} → Front R P → Foremost R P
shown (Reply r) = reply r.now
shown (Patch p) = patch p.now
shown Snapshot = snapshot
shown Nothing = nothing
