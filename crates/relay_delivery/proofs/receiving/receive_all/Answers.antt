use Rattle.std.proofs.Common.{◌≡◌, ◌-◌, ◌<◌, length, take, drop, ◌∙◌, ap, arith, length-drop}
use Rattle.relay_delivery.proofs.Parts.{part_is, put_length, put_from}
use Rattle.relay_delivery.proofs.Progress.{heard_all, heard_next, stops_next, hears_more}
use Rattle.relay_delivery.proofs.Progress.{hears_no_more}
use Rattle.relay_delivery.proofs.receiving.receive_all.Goals as goal

pub returns-then-start-frames : goal.returns-then-start-frames
returns-then-start-frames c = record {
  hears = λ texts is.
      record {
        heard = heard_all c.args.follower.now c.loop.follower texts c.loop.frames
            c.loop.start (omega arith) (c.loop.invariant.hears texts is).1;
        stopped = tt;
      };
  only = c.loop.invariant.only;
}

pub returns-in-Err : goal.returns-in-Err
returns-in-Err c = record {
  hears = λ texts is.
      let h = c.loop.invariant.hears texts is in
      let some : 0 < length (drop c.loop.start c.loop.frames) =
      omega (arith, length-drop c.loop.start c.loop.frames, c.if-start-frames.false) in
      let stops =
      stops_next c.args.follower.now c.loop.follower c.receive_frame.new.follower texts
      (drop c.loop.start c.loop.frames) _ some h.1 (part_is c.loop.frames c.loop.start)
      c.in-Err.fault (λ text rest part.
      c.in-Err.ensures.refused text rest h.0 part) c.in-Err.ensures.unchanged in
      record { heard = tt; stopped = stops };
  only =
      hears_no_more c.args.follower.now c.loop.follower c.receive_frame.new.follower
      c.loop.invariant.only c.in-Err.ensures.unchanged;
}

pub loop-preserved : goal.loop-preserved
loop-preserved c =
    let f = c.loop.frames in
    let n = c.in-Ok.consumed in
    let within = c.loop.invariant.inside in
    let same = c.in-Ok.ensures.same_length in
    let some : 0 < length (drop c.loop.start f) =
    omega (arith, length-drop c.loop.start f, c.if-start-frames.false) in
    let fits : length (take (length f - c.loop.start) (drop c.loop.start f))
    ≡ length f - c.loop.start =
    ap length (part_is f c.loop.start) ∙ length-drop c.loop.start f in
    let long = put_length f c.receive_frame.new.frames c.loop.start within same in
    record {
      inside = omega (arith, long, fits, within, c.in-Ok.ensures.progress.1);
      same_length = long ∙ c.loop.invariant.same_length;
      advances = omega (arith, c.loop.invariant.advances, c.in-Ok.ensures.progress.0);
      hears = λ texts is.
          let h = c.loop.invariant.hears texts is in
          heard_next c.args.follower.now c.loop.follower c.receive_frame.new.follower texts
          (drop c.loop.start f) _ some h.1 (part_is f c.loop.start)
          n _ (λ text rest part. c.in-Ok.ensures.heard text rest h.0 part)
          (put_from f c.receive_frame.new.frames c.loop.start within same n ∙ c.in-Ok.ensures.rest);
      only =
          hears_more c.args.follower.now c.loop.follower c.receive_frame.new.follower
          c.loop.invariant.only c.in-Ok.ensures.one;
    }

pub returns : goal.returns
returns c = record {
  hears = λ texts is.
      let h = c.loop.invariant in
      record {
        heard = heard_all c.args.follower.now c.loop.follower texts c.loop.frames
            c.loop.start (omega (arith, h.advances, h.same_length, c.loop-test.false))
            (h.hears texts is).1;
        stopped = tt;
      };
  only = c.loop.invariant.only;
}
