use Rattle.std.proofs.Common.{None, refl}
use Rattle.std.proofs.lemmas.Map.Text.{hash_map_updates_text}
use Rattle.relay_store.specs.declared.change.Change.TheVariants.{End}
use Rattle.relay_keeping.proofs.Changes.{room_changed}
use Rattle.relay_keeping.proofs.clients.Clients.end.Goals as goal

pub returns : goal.returns
returns c = λ kept were.
    room_changed kept (End c.args.room.now) c.args.self.now _ c.args.room.now (λ was. None) None
    were (λ name was. refl)
    (hash_map_updates_text c.args.room.now c.args.self.now.rooms c.swap_remove.new.self None
    c.swap_remove.ensures.updates) tt were.floor
