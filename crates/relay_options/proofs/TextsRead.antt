-- The text that a getter reads, and the texts that one of several values reads, are those of the
-- rows.
use Rattle.std.proofs.Common.{◌≡◌, ◌∙◌, List, [], map, Option, option_map, ap, sym}
use Rattle.std.specs.Prelude.{unwrap_or}
use denote.Ref.{Bor}
use Rattle.clap.proofs.WalkLemmas.{first_value-rows, raw_values-rows}
use Rattle.clap.specs.Words.{Text, first_value, found_of, matched_of, raw_values, rows_of}
use Rattle.clap.specs.declared.parser.ArgMatches.{ArgMatches}
use Rattle.relay_options.specs.CommandLine.{text_in, texts_in}

-- what `get_str` reads
pub text_read : (m : ArgMatches) (name : Text) (found : Option (Bor Text))
    → option_map (λ s. s.now) found ≡ first_value (found_of m) name
    → text_in name (rows_of (found_of m)) ≡ option_map (λ s. s.now) found
text_read m name found is = sym (is ∙ first_value-rows (found_of m) name)

-- the texts that were found, if there are any
abbrev pub texts_found : Option (Bor (List (Bor Text))) → List Text
texts_found found = unwrap_or (option_map (λ s. map (λ v. v.now) s.now) found) []

-- what `get_strs` reads
pub texts_read : (m : ArgMatches) (name : Text) (found : Option (Bor (List (Bor Text))))
    → option_map (λ s. map (λ v. v.now) s.now) found
    ≡ option_map raw_values (matched_of (found_of m) name)
    → texts_found found ≡ texts_in name (rows_of (found_of m))
texts_read m name found is = ap (λ o. unwrap_or o []) (is ∙ raw_values-rows (found_of m) name)
