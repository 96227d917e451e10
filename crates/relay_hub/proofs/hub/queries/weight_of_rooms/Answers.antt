use Rattle.std.proofs.Common.{◌≡◌, ◌∙◌, ℕ, List, length, sym, ap, arith}
use Rattle.std.proofs.lemmas.List.{length-map, take_all}
use Rattle.relay_tree.specs.Document.{saturated}
use Rattle.relay_hub.specs.Queries.{sessions_weight, rooms_weight}
use Rattle.relay_hub.specs.Representation.{named, rooms_of}
use Rattle.relay_hub.specs.State.{RoomSessions}
use Rattle.relay_hub.proofs.Loads.{saturated_more, saturated_twice}
use Rattle.relay_hub.proofs.Representation.{room_at}
use Rattle.relay_hub.proofs.hub.queries.weight_of_rooms.Goals as goal

pub loop-index-preserved : goal.loop-index-preserved
loop-index-preserved c =
    let l = c.loop-index in
    let es = c.args.rooms.now.entries in
    let g = c.in-Some.room_sessions.now in
    let key = c.in-Some.field-0-0.now in
    let at = room_at es l.index key g (sym c.in-Some.ensures.entry) in
    c.saturating_add-weight.ensures
    ∙ saturated_more (λ (r : List ℕ × RoomSessions). sessions_weight r.1.sessions) (rooms_of es)
    l.index (named (key, g)) l.weight c.load.result at l.invariant
    (ap saturated c.load.ensures ∙ saturated_twice (sessions_weight g.sessions))

pub returns : goal.returns
returns c =
    let l = c.loop-index in
    let es = c.args.rooms.now.entries in
    let len : c.len-index-end.result ≡ length es = c.len-index-end.ensures.len in
    let all =
    take_all l.index (rooms_of es)
    (omega (arith, c.loop-index-test.false, l.auto.index-end, len, length-map es named)) in
    l.invariant ∙ ap (λ rooms. saturated (rooms_weight rooms)) all
