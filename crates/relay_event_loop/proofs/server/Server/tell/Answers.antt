-- A write turn stands behind a call that kept the hub.
use Rattle.std.proofs.Common.{inr}
use Rattle.relay_event_loop.proofs.server.Server.tell.Goals as goal

pub returns-then-keep-clause-told : goal.returns-then-keep-clause-told
returns-then-keep-clause-told g c = λ tells. inr (c.keep.ensures.kept tells (cc))
