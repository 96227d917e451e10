use Rattle.std.proofs.Common.{◌∙◌, ◌≡◌, ◌<◌, sym, refl, arith, length}
use Rattle.std.proofs.lemmas.List.{length-map}
use Rattle.relay_room.specs.Room.{begun}
use Rattle.relay_tree.specs.Document.{null}
use Rattle.relay_hub.specs.Representation.{named, rooms_of}
use Rattle.relay_hub.specs.Session.{newcomer}
use Rattle.relay_hub.proofs.Founding.{entry_is, entered_last, put_last, put_at}
use Rattle.relay_hub.proofs.entering.begin_room.Goals as goal

pub returns-in-None-clause-ok : goal.returns-in-None-clause-ok
returns-in-None-clause-ok c =
    let m = c.args.rooms.now in
    let session = c.args.new_session in
    let key = c.in_ok-from_str.field-0 in
    let g = c.in_ok-room_sessions.room_sessions in
    let key_is = c.in_ok-from_str.ensures.ok in
    let made : c.in-Ok.room ≡ begun null session.floor session.config.history =
    rw c.from.ensures at c.in-Ok.ensures.ok.0 in
    let is =
    entry_is key c.args.name.now g c.in-Ok.room
    (begun null session.floor session.config.history) _
    (newcomer session.config session.access session.floor session.number) key_is made
    c.in_ok-session.ensures c.in_ok-room_sessions.ensures in
    let last =
    entered_last m key c.args.name.now g c.insert.new.self.entries key_is c.requires.absent
    c.in_ok-insert.ensures.entries in
    let len : c.len-last.result ≡ length m.entries = c.len-last.ensures.len in
    rw c.in-None.is (
      len ∙ sym (length-map m.entries named),
      put_last m.entries c.insert.new.self.entries (key, g) _ last is,
    )

pub returns-in-Some-clause-ok : goal.returns-in-Some-clause-ok
returns-in-Some-clause-ok c =
    let m = c.args.rooms.now in
    let session = c.args.new_session in
    let key = c.in_ok-from_str.field-0 in
    let g = c.in_ok-room_sessions.room_sessions in
    let key_is = c.in_ok-from_str.ensures.ok in
    let made : c.in-Ok.room ≡ begun null session.floor session.config.history =
    rw c.from.ensures at c.in-Ok.ensures.ok.0 in
    let is =
    entry_is key c.args.name.now g c.in-Ok.room
    (begun null session.floor session.config.history) _
    (newcomer session.config session.access session.floor session.number) key_is made
    c.in_ok-session.ensures c.in_ok-room_sessions.ensures in
    let last =
    entered_last m key c.args.name.now g c.insert.new.self.entries key_is c.requires.absent
    c.in_ok-insert.ensures.entries in
    let there : c.in-Some.index < length (rooms_of m.entries) =
    rw c.in-Some.is at c.requires.vacant in
    let within : c.in-Some.index < length m.entries =
    omega (arith, there, length-map m.entries named) in
    rw c.in-Some.is (
      refl,
      put_at m.entries c.insert.new.self.entries c.swap_remove_index.new.self.entries (
        key,
        g,
      ) c.swap_remove_index.result _ c.in-Some.index last within
          c.swap_remove_index.ensures.entry c.swap_remove_index.ensures.entries is,
    )
