-- The fields of an outbox as contracts see them.
use Rattle.relay_outbox.specs.Outbox.{Contents, contents}
use Rattle.relay_outbox.specs.declared.outbox.Outbox.TheInside.{Inside}

-- the outbox that contracts see
abbrev pub contents_of : {R P : Type 0} → Inside R P → Contents R P
contents_of o = contents o.replies.items o.patches.items o.due o.patches.capacity
