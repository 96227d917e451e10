use Rattle.std.proofs.Common.{◌≡◌, ◌∙◌, ap, map, string_bytes}
use Rattle.std.specs.Prelude.{Result}
use Rattle.std.proofs.lemmas.Result.{IfOk-weaker}
use Rattle.clap.specs.Words.{App, FailsBy, Kinds, fault_of, is_simple, is_simple_and_free}
use Rattle.clap.specs.Words.{subcommand_of}
use Rattle.clap.specs.declared.error.Error.{Error}
use Rattle.relay_options.proofs.CommandsMade.{relay_is_free, relay_is_simple}
use Rattle.relay_options.proofs.reading.parsed.Goals as goal

fails_by : {A : Type 0} (kinds others : Kinds) (r : Result A Error) → kinds ≡ others
    → FailsBy kinds r → FailsBy others r
fails_by kinds others r is fails = rw (← is) fails

pub returns-clause-matches : goal.returns-clause-matches
returns-clause-matches c =
    let is = c.in_ok-relay.ensures in
    IfOk-weaker c.try_get_matches_from.result _ _ (λ m has.
    (has (ap is_simple is ∙ relay_is_simple)).1
    ∙ ap (λ (a : App). subcommand_of a (map string_bytes c.args.words.now)) is)
    c.try_get_matches_from.ensures.matches

pub returns-clause-fails : goal.returns-clause-fails
returns-clause-fails c =
    let is = c.in_ok-relay.ensures in
    fails_by _ _ c.try_get_matches_from.result
    (ap (λ (a : App). fault_of a (map string_bytes c.args.words.now)) is)
    (c.try_get_matches_from.ensures.kinds (ap is_simple_and_free is ∙ relay_is_free))
