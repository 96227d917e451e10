use Rattle.relay_keeping.proofs.Calls.{by_call}
use Rattle.relay_keeping.proofs.recovery.adopt.Goals as goal

pub returns-in-Ok-clause-called : goal.returns-in-Ok-clause-called
returns-in-Ok-clause-called c = by_call _ _ c.adopt.ensures.stands

pub returns-in-Err-NoMemory-clause-called : goal.returns-in-Err-NoMemory-clause-called
returns-in-Err-NoMemory-clause-called c = by_call _ _ c.adopt.ensures.stands

pub returns-in-Err-clause-called : goal.returns-in-Err-clause-called
returns-in-Err-clause-called c = by_call _ _ c.adopt.ensures.stands
