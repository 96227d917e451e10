use Rattle.std.proofs.Common.{◌≡◌, ◌∙◌, ◌+◌, ap, sym, subst, arith, length, slice_set}
use Rattle.std.proofs.lemmas.List.{length-map}
use Rattle.indexmap.proofs.CallerLemmas.{index_map_len-with_value_at}
use Rattle.relay_hub.specs.Representation.{named, rooms_of}
use Rattle.relay_hub.specs.Shed.{shed_named}
use Rattle.relay_hub.specs.State.{RoomSessions}
use Rattle.relay_hub.proofs.Representation.{written}
use Rattle.relay_hub.proofs.Lists.{MappedTo, one_mapped, all_mapped}
use Rattle.relay_hub.proofs.shed.shed_rooms.Goals as goal

pub loop-index-preserved : goal.loop-index-preserved
loop-index-preserved c =
    let l = c.loop-index in
    let es = l.rooms.entries in
    let old = rooms_of c.args.rooms.now.entries in
    let f = shed_named c.args.budget in
    let g = c.in-Some.room_sessions.now in
    let w = written es l.index g c.shed.new.self (sym c.in-Some.ensures.value) in
    let is = w.is ∙ ap (λ (n : RoomSessions).
    slice_set (rooms_of es) l.index (w.name, n)) c.shed.ensures in (
      subst (λ rooms. MappedTo f (l.index + 1) old rooms) (sym is)
          (one_mapped f l.index old (rooms_of es) (w.name, g) l.invariant.0 w.was),
      index_map_len-with_value_at l.rooms l.index c.shed.new.self ∙ l.invariant.1,
    )

pub returns : goal.returns
returns c =
    let l = c.loop-index in
    let es = c.args.rooms.now.entries in
    let len : c.len-index-end.result ≡ length es = c.len-index-end.ensures.len in
    all_mapped (shed_named c.args.budget) l.index (rooms_of es) (rooms_of l.rooms.entries)
    (omega (arith, c.loop-index-test.false, l.auto.index-end, len, length-map es named))
    l.invariant.0
