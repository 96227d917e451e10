-- The room that the hub shows at an index is the next that is seen, or there is none.
use Rattle.std.proofs.Common.{◌≡◌, ◌+◌, drop, arith, ap, sym, subst, IfOk, string_bytes, ◌∙◌}
use Rattle.json.specs.Lex.{tokens as tokens_in}
use Rattle.json.specs.Print.{print}
use Rattle.relay_hub.specs.Summary.{shown_by}
use Rattle.relay_operator.specs.Numbers.{rooms_seen}
use Rattle.relay_operator.specs.Rows.{with_rooms}
use Rattle.relay_operator.proofs.Rows.{listed, rows_next}
use Rattle.relay_operator.proofs.Seen.{all_seen, few_seen, room_seen}
use Rattle.relay_operator.proofs.admin_view.AdminView.rooms.Goals as goal

pub returns-in_default-clause-text : goal.returns-in_default-clause-text
returns-in_default-clause-text c =
    let hub = c.args.self.now.hub.now in
    subst (λ ts. IfOk c.end_rooms.result (λ text. string_bytes text ≡ print ts))
    (sym (listed c.args.self.now c.loop-index.index c.loop-index.out.tokens
    c.loop-index.invariant.rows
    (all_seen hub c.loop-index.index c.room_at.result c.loop-index-test.true c.room_at.ensures
    c.in_default.is))) c.end_rooms.ensures.text

pub returns-in_default-clause-reads_back : goal.returns-in_default-clause-reads_back
returns-in_default-clause-reads_back c =
    let hub = c.args.self.now.hub.now in
    subst (λ ts. IfOk c.end_rooms.result (λ text. tokens_in (string_bytes text) ≡ ts))
    (sym (listed c.args.self.now c.loop-index.index c.loop-index.out.tokens
    c.loop-index.invariant.rows
    (all_seen hub c.loop-index.index c.room_at.result c.loop-index-test.true c.room_at.ensures
    c.in_default.is))) c.end_rooms.ensures.reads_back

pub loop-index-preserved : goal.loop-index-preserved
loop-index-preserved c =
    let view = c.args.self.now in
    let hub = view.hub.now in
    let there =
    room_seen hub c.loop-index.index c.room_at.result c.in-Some.room c.loop-index-test.true
    c.room_at.ensures c.in-Some.is in
    record {
      before = c.write_row.ensures.before ∙ c.loop-index.invariant.before;
      rows =
          c.loop-index.invariant.rows
          ∙ rows_next view (rooms_seen hub) c.loop-index.index (shown_by c.in-Some.room)
          c.loop-index.out.tokens there
          ∙ ap (with_rooms view (c.loop-index.index + 1)
          (drop (c.loop-index.index + 1) (rooms_seen hub))) (sym c.in_ok-write_row.ensures.tokens);
    }

pub returns-clause-text : goal.returns-clause-text
returns-clause-text c =
    let hub = c.args.self.now.hub.now in
    subst (λ ts. IfOk c.end_rooms-2.result (λ text. string_bytes text ≡ print ts))
    (sym (listed c.args.self.now c.loop-index.index c.loop-index.out.tokens
    c.loop-index.invariant.rows
    (omega (arith, few_seen hub, c.loop-index-test.false)))) c.end_rooms-2.ensures.text

pub returns-clause-reads_back : goal.returns-clause-reads_back
returns-clause-reads_back c =
    let hub = c.args.self.now.hub.now in
    subst (λ ts. IfOk c.end_rooms-2.result (λ text. tokens_in (string_bytes text) ≡ ts))
    (sym (listed c.args.self.now c.loop-index.index c.loop-index.out.tokens
    c.loop-index.invariant.rows
    (omega (arith, few_seen hub, c.loop-index-test.false)))) c.end_rooms-2.ensures.reads_back
