use Rattle.relay_access.specs.declared.access.Access.TheVariants.{ReadOnly}
use Rattle.relay_hub.specs.Call.{closing}
use Rattle.relay_keeping.proofs.Begun.{opened_and_closed}
use Rattle.relay_keeping.proofs.Calls.{by_call, by_event, called_then}
use Rattle.relay_keeping.proofs.recovery.open_and_close.Goals as goal

pub returns-in-Ok-clause-called : goal.returns-in-Ok-clause-called
returns-in-Ok-clause-called c =
    called_then (by_call _ _ c.open.ensures.stands) (by_event _ _ c.close.ensures.stands)

pub returns-in-Err-RoomsFull-clause-called : goal.returns-in-Err-RoomsFull-clause-called
returns-in-Err-RoomsFull-clause-called c = by_call _ _ c.open.ensures.stands

pub returns-in-Err-NoMemory-clause-called : goal.returns-in-Err-NoMemory-clause-called
returns-in-Err-NoMemory-clause-called c = by_call _ _ c.open.ensures.stands

pub returns-in-Err-clause-called : goal.returns-in-Err-clause-called
returns-in-Err-clause-called c = by_call _ _ c.open.ensures.stands

pub returns-in-Ok-clause-begun : goal.returns-in-Ok-clause-begun
returns-in-Ok-clause-begun c = λ place.
    opened_and_closed c.args.hub.now c.open.new.self c.close.new.self c.args.name.now ReadOnly
    c.in-Ok.opening (closing c.close.result) place c.in-Ok.ensures.step.1 c.close.ensures.step
