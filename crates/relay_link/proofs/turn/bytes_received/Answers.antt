-- The sum so far, and the next event.
use Rattle.std.proofs.Common.{◌∙◌, ◌+◌, take, ap, sym, arith}
use Rattle.std.proofs.lemmas.List.Sums.{sum_by_more}
use Rattle.relay_link.specs.Hears.{received_len, received_bytes}
use Rattle.relay_link.proofs.turn.bytes_received.Goals as goal

pub loop-event-preserved : goal.loop-event-preserved
loop-event-preserved c =
    let l = c.loop-event in
    let events = c.args.events.now in
    let next =
    sum_by_more received_len events l.event-index c.event-item.result c.loop-event-test.true
    ∙ ap (λ e. received_bytes (take l.event-index events) + received_len e)
    (sym c.event-item.is) in
    c.saturating_add-bytes.ensures ∙ rw next (omega (arith, l.invariant, c.len_received.ensures))
