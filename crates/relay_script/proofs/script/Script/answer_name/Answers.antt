-- The name was opened before, or was not.
use Rattle.std.proofs.Common.{rules, sym, ap, ◌∙◌}
use Rattle.std.proofs.lemmas.Result.{IfOk-weaker}
use Rattle.relay_script.specs.Representation.{clients_of}
use Rattle.relay_script.specs.Line.{act_of}
use Rattle.relay_script.specs.Script.{stage}
use Rattle.relay_script.proofs.Clients.{client_of-clients_of, OnlyName-updates}
use Rattle.relay_script.proofs.ScriptLemmas.{ActsNamed-new, ActsNamed-known}
use Rattle.relay_script.proofs.script.Script.answer_name.Goals as goal

pub returns-in-None : goal.returns-in-None
returns-in-None g c =
    let old = c.args.self.now.clients in
    let name = c.args.words.now.name.now in
    let none = client_of-clients_of old name ∙ sym c.in-None.ensures.value in
    IfOk-weaker c.begin.result _ _
    (λ answer acts.
    ActsNamed-new g.T.Transport.comes g.T.Transport.tells name (act_of c.args.command) _ _ _ _ _
    none
    (ap (λ m. stage c.args.self.now.transport (clients_of m)) c.get_mut.follows.holds-at-none) acts)
    c.begin.ensures

pub returns-in-Some : goal.returns-in-Some
returns-in-Some g c =
    let old = c.args.self.now.clients in
    let name = c.args.words.now.name.now in
    let q = c.attend.new.self in
    let some = client_of-clients_of old name ∙ sym c.in-Some.ensures.value in
    let only =
    OnlyName-updates old (c.get_mut.follows.lender q) name q
    ((c.get_mut.follows.holds q).3 (search rules)) in
    IfOk-weaker c.attend.result _ _
    (λ answer acts.
    ActsNamed-known g.T.Transport.comes g.T.Transport.tells name (act_of c.args.command) _ _ q _ _
    _ some acts only) c.attend.ensures
