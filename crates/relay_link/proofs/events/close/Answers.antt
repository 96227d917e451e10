-- A close is the one event, whatever its answer.
use Rattle.std.proofs.Common.{refl}
use Rattle.relay_hub.specs.Call.{closing}
use Rattle.relay_link.proofs.Following.{follows_one}
use Rattle.relay_link.proofs.Telling.{drew_one}
use Rattle.relay_link.proofs.events.close.Goals as goal

pub returns-clause-follows : goal.returns-clause-follows
returns-clause-follows c =
    follows_one _ _ _ _ _ _ (closing c.close.result) c.note.ensures refl c.close.ensures.step

pub returns-clause-drew : goal.returns-clause-drew
returns-clause-drew c =
    drew_one _ _ _ _ _ _ (closing c.close.result) c.note.ensures refl c.close.ensures.step tt
