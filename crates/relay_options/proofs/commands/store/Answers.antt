use Rattle.std.proofs.Common.{◌∙◌, ◌≡◌, ap, codes, rules}
use Rattle.std.proofs.lemmas.Result.{IfOk-weaker}
use Rattle.clap.specs.Words.{app_of, new_app}
use Rattle.relay_options.specs.CommandLine.{with_store_options}
use Rattle.relay_options.proofs.commands.store.Goals as goal

pub returns : goal.returns
returns c =
    let named : app_of c.after_help-store.result ≡ new_app (codes "store") = search rules in
    let made = c.with_store_options in
    IfOk-weaker made.result _ _ (λ r is. is ∙ ap with_store_options named) made.ensures
