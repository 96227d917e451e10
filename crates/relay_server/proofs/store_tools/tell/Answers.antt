use Rattle.std.proofs.Common.{IfOk, string_bytes, subst, sym}
use Rattle.std.proofs.lemmas.Result.{IfOk-weaker}
use Rattle.relay_server.specs.StoreTools.{IsToldBy}
use Rattle.relay_server.proofs.store_tools.tell.Goals as goal

pub returns-in-Show-clause-told : goal.returns-in-Show-clause-told
returns-in-Show-clause-told g c =
    let input = g.R.Read.remaining c.args.reader.now in
    let told = c.show.ensures.told c.in-Show.name (sym c.as_str.ensures.value) in
    subst (λ asked. IfOk c.show.result (λ text. IsToldBy asked input (string_bytes text)))
    (sym c.in-Show.is)
    (IfOk-weaker c.show.result _ _ (λ text is. (is.0, tt, is.1)) told)
