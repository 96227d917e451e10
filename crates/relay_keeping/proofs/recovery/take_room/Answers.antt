use Rattle.std.proofs.Common.{◌∙◌, None, Some, ap}
use Rattle.std.proofs.lemmas.Map.Text.{hash_map_updates_text}
use Rattle.relay_keeping.specs.Begun.{noted_client}
use Rattle.relay_keeping.proofs.Taking.{key_is}
use Rattle.relay_keeping.proofs.recovery.take_room.Goals as goal

pub returns-clause-room : goal.returns-clause-room
returns-clause-room c =
    let client = c.in_ok-name.client in
    let named =
    key_is c.args.name.now c.args.clients.now.entries c.in_ok-name.name c.in_ok-name.ensures.key in
    (λ i. Some (named i, client.texts.revision))
    ∙ ap (noted_client c.args.name.now) c.in_ok-name.ensures.value

pub returns-clause-others : goal.returns-clause-others
returns-clause-others c =
    hash_map_updates_text c.args.name.now c.args.clients.now c.swap_remove_entry.new.self None
    c.in_ok-name.ensures.updates
