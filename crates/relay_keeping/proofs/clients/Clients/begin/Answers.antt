use Rattle.std.proofs.Common.{◌≡◌, Some, bytes_eq, refl, subst}
use Rattle.std.proofs.lemmas.Map.Text.{hash_map_updates_text}
use Rattle.std.specs.HashMap.{get_by_text}
use Rattle.std.specs.Map.{update}
use Rattle.std.specs.String.{string_bytes}
use Rattle.relay_store.specs.declared.change.Change.TheVariants.{Begin}
use Rattle.relay_keeping.specs.Clients.{record_of}
use Rattle.relay_keeping.proofs.Changes.{room_changed}
use Rattle.relay_keeping.proofs.clients.Clients.begin.Goals as goal

pub returns : goal.returns
returns c = λ kept were.
    let room = c.args.room.now in
    let old = c.args.self.now.rooms in
    let new = c.insert.new.self in
    let client = Some c.in_ok-client.client in
    room_changed kept (Begin room c.args.revision c.args.text.now) c.args.self.now _ room
    (λ was. Some (record_of room c.args.revision c.args.text.now)) client were
    (λ name was. refl)
    (λ name. subst (λ key.
    get_by_text new name ≡ update bytes_eq (get_by_text old) key client name)
    c.in_ok-name.ensures.ok
    (hash_map_updates_text (string_bytes c.in_ok-name.name) old new client
    c.in_ok-insert.ensures.updates name))
    (c.in_ok-client.ensures room) were.floor
