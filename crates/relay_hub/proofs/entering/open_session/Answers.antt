use Rattle.std.proofs.Common.{◌∙◌, refl, sym, ap, Result, Ok, Err}
use Rattle.std.specs.Prelude.{OnErr, slice_set}
use Rattle.relay_hub.specs.Representation.{rooms_of}
use Rattle.relay_room.specs.Room.{revision}
use Rattle.relay_hub.specs.State.{RoomSessions}
use Rattle.relay_hub.proofs.Representation.{never_unnamed, written}
use Rattle.relay_hub.proofs.Lists.{slice_set_same}
use Rattle.relay_hub.proofs.entering.open_session.Goals as goal

on_err : {A E P : Type 0} (r : Result A E) → P → OnErr r P
on_err (Ok x) p = tt
on_err (Err e) p = p

pub join_room-requires : goal.join_room-requires
join_room-requires c =
    let g = c.in-Some-get_index_mut.room_sessions.now in
    let w =
    written c.args.rooms.now.entries c.in-Some.index g g
    (sym c.in-Some-get_index_mut.ensures.value) in
    record { fresh = c.requires.fresh c.in-Some.index w.name g w.was; config = c.requires.config }

pub returns-in_err-join_room-clause-err : goal.returns-in_err-join_room-clause-err
returns-in_err-join_room-clause-err c =
    let es = c.args.rooms.now.entries in
    let i = c.in-Some.index in
    let g = c.in-Some-get_index_mut.room_sessions.now in
    let w =
    written es i g c.join_room.new.room_sessions
    (sym c.in-Some-get_index_mut.ensures.value) in
    on_err c.from_residual-in_err-join_room.result
    (w.is ∙ (ap (λ (h : RoomSessions).
    slice_set (rooms_of es) i (w.name, h)) c.in_err-join_room.ensures.err
    ∙ slice_set_same (rooms_of es) i (w.name, g) w.was))

pub returns-clause-ok : goal.returns-clause-ok
returns-clause-ok c =
    let g = c.in-Some-get_index_mut.room_sessions.now in
    let new = c.join_room.new.room_sessions in
    let w =
    written c.args.rooms.now.entries c.in-Some.index g new
    (sym c.in-Some-get_index_mut.ensures.value) in
    rw c.in-Some.is (
      refl,
      w.name,
      g,
      new,
      w.was,
      w.is,
      c.revision-rev.ensures.revision ∙ ap revision c.room.ensures,
      c.in_ok-join_room.ensures.ok,
    )

pub unreachable-requires : goal.unreachable-requires
unreachable-requires c =
    never_unnamed c.args.rooms.now.entries c.args.name.now c.in-Some.index (sym c.requires.index
    ∙ c.in-Some.is) (sym c.in_default-get_index_mut.ensures.value)
