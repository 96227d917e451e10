use Rattle.std.proofs.Common.{◌∙◌, ◌≡◌, ap, codes, rules}
use Rattle.std.proofs.lemmas.Result.{IfOk-weaker}
use Rattle.clap.specs.Words.{app_of, new_app}
use Rattle.relay_options.specs.CommandLine.{with_script_options}
use Rattle.relay_options.proofs.commands.script.Goals as goal

pub returns : goal.returns
returns c =
    let named : app_of c.after_help-script.result ≡ new_app (codes "script") = search rules in
    let made = c.with_script_options in
    IfOk-weaker made.result _ _ (λ r is. is ∙ ap with_script_options named) made.ensures
