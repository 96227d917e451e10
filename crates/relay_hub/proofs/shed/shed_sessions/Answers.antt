use Rattle.std.proofs.Common.{arith}
use Rattle.relay_hub.specs.Shed.{shed_session}
use Rattle.relay_hub.proofs.Lists.{all_mapped}
use Rattle.relay_hub.proofs.shed.shed_sessions.Goals as goal

pub returns : goal.returns
returns c =
    let l = c.loop-index in
    all_mapped shed_session l.index c.args.sessions.now.items l.sessions.items (omega (
      arith,
      c.loop-index-test.false,
      l.auto.index-end,
    )) l.invariant
