use Rattle.std.proofs.Common.{arith}
use Rattle.relay_delivery.specs.Socket.{IsNextFault}
use Rattle.relay_delivery.proofs.Ahead.{begins, ahead_next, stops_ahead, ends}
use Rattle.relay_delivery.proofs.Progress.{hears_none, hears_more, hears_no_more}
use Rattle.relay_delivery.proofs.socket.hear_all.Goals as goal

pub loop-init : goal.loop-init
loop-init g c = record {
  ahead = λ texts rest whole fit listens.
      begins g.S.Read.remaining c.args.follower.now texts rest c.args.socket.now fit listens;
  only = hears_none c.args.follower.now;
}

pub loop-preserved : goal.loop-preserved
loop-preserved g c = record {
  ahead = λ texts rest whole fit listens.
      ahead_next g.S.Read.remaining c.args.follower.now c.loop.follower texts rest c.loop.counter
      c.args.count c.loop.socket (c.loop.invariant.ahead texts rest whole fit listens) whole
      c.loop-test.true
      c.hear_next.new.follower c.hear_next.new.socket c.in-Ok.ensures.heard;
  only =
      hears_more c.args.follower.now c.loop.follower c.hear_next.new.follower
      c.loop.invariant.only c.in-Ok.ensures.one;
}

pub returns-in-Err : goal.returns-in-Err
returns-in-Err g c = record {
  hears = λ texts rest whole fit listens.
      let stops =
      stops_ahead g.S.Read.remaining c.args.follower.now c.loop.follower texts rest c.loop.counter
      c.args.count c.loop.socket (c.loop.invariant.ahead texts rest whole fit listens) whole
      c.loop-test.true
      c.hear_next.new.follower (IsNextFault c.in-Err.fault) c.in-Err.ensures.refused
      c.in-Err.ensures.unchanged in
      (record { heard = tt; stopped = stops }, tt);
  only =
      hears_no_more c.args.follower.now c.loop.follower c.hear_next.new.follower
      c.loop.invariant.only c.in-Err.ensures.unchanged;
}

pub returns : goal.returns
returns g c = record {
  hears = λ texts rest whole fit listens.
      let end =
      ends g.S.Read.remaining c.args.follower.now c.loop.follower texts rest c.loop.counter
      c.args.count c.loop.socket (c.loop.invariant.ahead texts rest whole fit listens) whole
      (omega (arith, c.loop-test.false)) in
      (record { heard = end.0; stopped = tt }, end.1);
  only = c.loop.invariant.only;
}
