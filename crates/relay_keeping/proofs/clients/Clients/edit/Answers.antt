use Rattle.std.proofs.Common.{Some, refl, subst, sym, rules}
use Rattle.std.proofs.lemmas.Map.Text.{hash_map_updates_text}
use Rattle.std.proofs.lemmas.Result.{on_ok_weaker}
use Rattle.std.specs.Option.{option_map}
use Rattle.relay_store.specs.declared.change.Change.TheVariants.{Edit}
use Rattle.relay_store.specs.Kept.{edited}
use Rattle.relay_keeping.specs.Clients.{patch_of, HasClient}
use Rattle.relay_keeping.specs.Mirrored.{kept_named}
use Rattle.relay_keeping.proofs.Changes.{client_edited, room_changed}
use Rattle.relay_keeping.proofs.clients.Clients.edit.Goals as goal

pub returns-in-Some : goal.returns-in-Some
returns-in-Some c = λ kept were.
    let room = c.args.room.now in
    let patch = patch_of c.args.revision c.args.text.now in
    let client = c.edit.new.self in
    let was = kept_named room kept.rooms in
    let new = c.get_mut.follows.lender client in
    let updates = (c.get_mut.follows.holds client).3 (search rules) in
    on_ok_weaker c.edit.result (λ here.
    room_changed kept (Edit room c.args.revision c.args.text.now) c.args.self.now _ room
    (option_map (edited patch)) (Some client) were (λ name was. refl)
    (hash_map_updates_text room c.args.self.now.rooms new (Some client) updates) here were.floor)
    (client_edited c.edit.result was patch c.in-Some.client.now client
    (subst (HasClient was) (sym c.in-Some.ensures.value) (were.rooms room)) c.edit.ensures)
