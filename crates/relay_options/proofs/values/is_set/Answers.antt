use Rattle.std.proofs.Common.{◌∙◌}
use Rattle.clap.proofs.WalkLemmas.{one_text-rows}
use Rattle.clap.specs.Words.{found_of}
use Rattle.relay_options.proofs.values.is_set.Goals as goal

pub returns : goal.returns
returns c =
    let by_rows = one_text-rows (found_of c.args.given.now) c.args.name.now in
    record {
      named = λ e. c.get_flag.ensures.value (by_rows ∙ e);
      not_named = λ e. c.get_flag.ensures.other (by_rows ∙ e);
      unknown = λ e. c.get_flag.ensures.none (by_rows ∙ e);
    }
