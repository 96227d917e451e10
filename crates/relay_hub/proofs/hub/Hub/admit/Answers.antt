use Rattle.std.proofs.Common.{◌∙◌, sym, arith}
use Rattle.relay_hub.specs.Representation.{hub_of}
use Rattle.relay_hub.proofs.OpenFaults.{index_is, rooms_full, sessions_full, exhausted, admitted}
use Rattle.relay_hub.proofs.hub.Hub.admit.Goals as goal

pub returns-then-is_crowded-clause-refused : goal.returns-then-is_crowded-clause-refused
returns-then-is_crowded-clause-refused c =
    let name = c.args.room.now in
    let index = c.get_index_of-index.ensures.index ∙ index_is name c.self.inside.rooms.entries in
    let crowded = rw (← c.self.view_is, index) at c.if-is_crowded.ensures in
    rw (← c.self.view_is)
    (rooms_full (hub_of c.self.inside) name (sym c.if-not-is_room_name.ensures) (sym crowded))

pub returns-then-len-self-clause-refused : goal.returns-then-len-self-clause-refused
returns-then-len-self-clause-refused c =
    let name = c.args.room.now in
    let index = c.get_index_of-index.ensures.index ∙ index_is name c.self.inside.rooms.entries in
    let free = rw (← c.self.view_is, index) at c.if-is_crowded.ensures in
    rw (← c.self.view_is)
    (sessions_full (hub_of c.self.inside) name (sym c.if-not-is_room_name.ensures) (sym free)
    (omega (arith, c.len.ensures.len, c.if-len-self.true)))

pub returns-then-self-gt-MAX_COUNT-clause-refused :
    goal.returns-then-self-gt-MAX_COUNT-clause-refused
returns-then-self-gt-MAX_COUNT-clause-refused c =
    let name = c.args.room.now in
    let index = c.get_index_of-index.ensures.index ∙ index_is name c.self.inside.rooms.entries in
    let free = rw (← c.self.view_is, index) at c.if-is_crowded.ensures in
    rw (← c.self.view_is)
    (exhausted (hub_of c.self.inside) name (sym c.if-not-is_room_name.ensures) (sym free)
    (omega (arith, c.len.ensures.len, c.if-len-self.false)) c.if-self-gt-MAX_COUNT.true)

pub returns-clause-ok : goal.returns-clause-ok
returns-clause-ok c =
    rw (← c.self.view_is) (c.get_index_of-index.ensures.index
    ∙ index_is c.args.room.now c.self.inside.rooms.entries)

pub returns-clause-admitted : goal.returns-clause-admitted
returns-clause-admitted c =
    let name = c.args.room.now in
    let index = c.get_index_of-index.ensures.index ∙ index_is name c.self.inside.rooms.entries in
    let free = rw (← c.self.view_is, index) at c.if-is_crowded.ensures in
    rw (← c.self.view_is)
    (admitted (hub_of c.self.inside) name (sym c.if-not-is_room_name.ensures) (sym free)
    (omega (arith, c.len.ensures.len, c.if-len-self.false)) c.if-self-gt-MAX_COUNT.false)
