use Rattle.std.proofs.Common.{rules, tests, ◌∙◌, sym, string_bytes}
use Rattle.std.proofs.lemmas.Iterator.{YieldsList-from_slice}
use Rattle.std.proofs.lemmas.Iterator.Search.{all_from_yields_List}
use Rattle.std.proofs.lemmas.List.Folds.{list_all-map}
use Rattle.relay_options.specs.Origin.{is_origin}
use Rattle.relay_options.proofs.server_options.are_origins.Goals as goal

pub returns : goal.returns
returns c =
    let texts = c.args.texts.now in
    all_from_yields_List (λ text. is_origin (string_bytes text)) _ _ c.all.result c.all.ensures.ran
    (YieldsList-from_slice texts cc) (λ x b q k. search (rules, tests))
    ∙ sym (list_all-map is_origin string_bytes texts)
