-- The map has the new client of the name, and the other clients are unchanged.
use Rattle.relay_script.proofs.Clients.{OnlyName-inserted}
use Rattle.relay_script.proofs.script.add.Goals as goal

pub returns : goal.returns
returns c =
    OnlyName-inserted c.args.clients.now c.insert.new.self c.in_ok-known.known
    c.args.words.now.name.now _ _ c.in_ok-known.ensures.ok c.new.ensures
    c.in_ok-insert.ensures.updates
