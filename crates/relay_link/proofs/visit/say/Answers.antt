-- The hub heard the text, and then gave what waited.
use Rattle.std.proofs.Common.{rules, ◌≡◌, [], ◌∷◌, ◌++◌}
use Rattle.relay_hub.specs.declared.event.Event.TheVariants.{Receive}
use Rattle.relay_link.proofs.Telling.{drew_then}
use Rattle.relay_link.proofs.Visiting.{drew_received}
use Rattle.relay_link.proofs.visit.say.Goals as goal

pub returns-in-Ok-clause-drew : goal.returns-in-Ok-clause-drew
returns-in-Ok-clause-drew c =
    drew_then [] _ _ _ _ c.receive.ensures.drew c.draw_texts.ensures.drew

pub returns-in-Err-clause-drew : goal.returns-in-Err-clause-drew
returns-in-Err-clause-drew c =
    drew_then [] _ _ _ _ c.receive.ensures.drew c.draw_texts.ensures.drew

pub returns-in-Ok-clause-drew_all : goal.returns-in-Ok-clause-drew_all
returns-in-Ok-clause-drew_all c =
    let event : c.receive.new.events
    ≡ c.args.events.now ++ Receive c.args.opening.session c.args.text ∷ [] = search rules in
    drew_received c.args.events.now c.receive.new.events c.draw_texts.new.events
    c.draw_texts.new.texts.items c.args.opening.session c.args.text event c.in-Ok.ensures.drew_all
