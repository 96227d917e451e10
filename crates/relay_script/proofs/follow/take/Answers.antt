-- The text is applied, or refused with its fault.
use Rattle.std.proofs.Common.{subst, sym}
use Rattle.std.specs.Result.{result_err}
use Rattle.std.specs.Str.{IsUtf8}
use Rattle.relay_script.specs.Follow.{Takes}
use Rattle.relay_script.proofs.Hearing.{Takes-heard}
use Rattle.relay_script.proofs.follow.take.Goals as goal

pub returns-in-Ok : goal.returns-in-Ok
returns-in-Ok c =
    let (same, utf8) = c.in-Ok.ensures.cases in
    let held = c.args.follower.now in
    let next = c.hear.new.self in
    subst (λ t. Takes held t (result_err c.hear.result) next) same
    (Takes-heard held c.in-Ok.text.now c.hear.result next (subst IsUtf8 (sym same) utf8)
    c.hear.ensures.ok c.hear.ensures.first_fault c.hear.ensures.unchanged)
