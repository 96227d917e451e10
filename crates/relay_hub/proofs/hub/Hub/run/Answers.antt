use Rattle.std.proofs.Common.{length, refl, arith, length-append, ◌∷◌, []}
use Rattle.std.proofs.lemmas.Option.{slice_get_read}
use Rattle.relay_hub.specs.Call.{Runs, stops}
use Rattle.relay_hub.proofs.Promises.{stands_after, exact_after, each_after}
use Rattle.relay_hub.proofs.Runs.{run_more, lacks_memory}
use Rattle.relay_hub.proofs.hub.Hub.run.Goals as goal

pub loop-event-preserved : goal.loop-event-preserved
loop-event-preserved c =
    let l = c.loop-event in
    let at =
    slice_get_read c.args.events.now (length c.args.events.now) (length l.answers.items)
    c.event-item.result refl (omega (arith, l.invariant.count, c.loop-event-test.true))
    (rw l.invariant.count c.event-item.is) in
    record {
      runs = rw c.push_reserved.ensures.items
          (run_more c.args.self.now l.self c.carry_out.new.self c.args.events.now l.answers.items
          c.event-item.result c.in-Ok-carry_out.answer l.invariant.runs at
          c.in-Ok-carry_out.ensures.ok);
      count =
          rw c.push_reserved.ensures.items (omega (
            arith,
            length-append l.answers.items (c.in-Ok-carry_out.answer ∷ []),
            l.invariant.count,
          ));
      room = rw c.push_reserved.ensures.capacity l.invariant.room;
    }

pub loop-event-init : goal.loop-event-init
loop-event-init c = record {
  runs = rw c.in-Ok.ensures.items (stops c.args.self.now c.args.events.now);
  count = rw c.in-Ok.ensures.items refl;
  room = c.in-Ok.ensures.capacity;
}

none : (c : goal.After-new)
    → Runs c.args.self.now c.args.events.now c.new.result.items c.args.self.now
none c = rw c.new.ensures.items (stops c.args.self.now c.args.events.now)

pub returns-in_default-clause-stopped : goal.returns-in_default-clause-stopped
returns-in_default-clause-stopped c = none c

pub returns-in_default-clause-stands : goal.returns-in_default-clause-stands
returns-in_default-clause-stands c = stands_after (none c)

pub returns-in_default-clause-exact : goal.returns-in_default-clause-exact
returns-in_default-clause-exact c = exact_after (none c)

pub returns-in_default-clause-each : goal.returns-in_default-clause-each
returns-in_default-clause-each c = each_after (none c)

done : (c : goal.In-Err)
    → Runs c.args.self.now c.args.events.now c.loop-event.answers.items c.carry_out.new.self
done c = rw c.in-Err.ensures.err c.loop-event.invariant.runs

pub returns-in-Err-clause-no_memory : goal.returns-in-Err-clause-no_memory
returns-in-Err-clause-no_memory c =
    let l = c.loop-event in
    let at =
    slice_get_read c.args.events.now (length c.args.events.now) (length l.answers.items)
    c.event-item.result refl (omega (arith, l.invariant.count, c.loop-event-test.true))
    (rw l.invariant.count c.event-item.is) in
    rw c.in-Err.ensures.err
    (lacks_memory c.args.events.now l.answers.items c.event-item.result l.self at
    c.in-Err.ensures.no_memory)

pub returns-in-Err-clause-stands : goal.returns-in-Err-clause-stands
returns-in-Err-clause-stands c = stands_after (done c)

pub returns-in-Err-clause-exact : goal.returns-in-Err-clause-exact
returns-in-Err-clause-exact c = exact_after (done c)

pub returns-in-Err-clause-each : goal.returns-in-Err-clause-each
returns-in-Err-clause-each c = each_after (done c)

pub returns-clause-stands : goal.returns-clause-stands
returns-clause-stands c = stands_after c.loop-event.invariant.runs

pub returns-clause-exact : goal.returns-clause-exact
returns-clause-exact c = exact_after c.loop-event.invariant.runs

pub returns-clause-each : goal.returns-clause-each
returns-clause-each c = each_after c.loop-event.invariant.runs
