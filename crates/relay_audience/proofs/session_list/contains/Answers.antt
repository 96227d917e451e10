use Rattle.std.proofs.Common.{refl, sym}
use Rattle.relay_audience.proofs.SessionLists.{absent_missing, there_found}
use Rattle.relay_audience.proofs.session_list.contains.Goals as goal

pub returns-in-Ok : goal.returns-in-Ok
returns-in-Ok c =
    sym (there_found c.args.numbers.now c.args.numbers.now c.args.number c.in-Ok.field-0 refl
    c.requires c.in-Ok.ensures.position)

pub returns-in-Err : goal.returns-in-Err
returns-in-Err c =
    sym (absent_missing c.args.numbers.now c.args.numbers.now c.args.number c.in-Err.field-0 refl
    c.requires c.in-Err.ensures.position)
