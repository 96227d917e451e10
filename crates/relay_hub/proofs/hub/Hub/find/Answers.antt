use Rattle.std.proofs.Common.{◌∙◌, refl, sym, ap}
use Rattle.std.specs.Prelude.{option_map, string_bytes}
use Rattle.relay_hub.specs.Representation.{hub_of, named}
use Rattle.relay_hub.specs.Session.{Session}
use Rattle.relay_hub.proofs.Representation.{never_no_entry, entry_session, found_home, room_at}
use Rattle.relay_hub.proofs.hub.Hub.find.Goals as goal

pub unreachable-requires : goal.unreachable-requires
unreachable-requires c =
    never_no_entry c.self.inside c.args.session c.in_ok-index.index.now c.self.invariant.0
    (sym c.in_ok-index.ensures.value) (sym c.in_default.ensures.entry)

pub session-requires : goal.session-requires
session-requires c =
    let g = c.in-Some.room_sessions.now in
    let at =
    room_at c.self.inside.rooms.entries c.in_ok-index.index.now c.in-Some.field-0-0.now g
    (sym c.in-Some.ensures.entry) in
    let there =
    entry_session c.self.inside c.args.session c.in_ok-index.index.now c.self.invariant.0
    (sym c.in_ok-index.ensures.value) (string_bytes c.in-Some.field-0-0.now) g at in
    rw there.1 refl

pub returns : goal.returns
returns c =
    let g = c.in-Some.room_sessions.now in
    let at =
    room_at c.self.inside.rooms.entries c.in_ok-index.index.now c.in-Some.field-0-0.now g
    (sym c.in-Some.ensures.entry) in
    let home =
    found_home (hub_of c.self.inside) c.args.session c.in_ok-index.index.now
    (named (c.in-Some.field-0-0.now, g)) (sym c.in_ok-index.ensures.value) at in
    rw (
      ← c.self.view_is,
      c.room.ensures,
    ) (sym (home
    ∙ ap (option_map (λ (x : Session). (g.room, x))) c.session.ensures))
