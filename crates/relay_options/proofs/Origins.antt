-- Worked command lines: the words give `--origin` not at all, or several times.
use Rattle.std.proofs.Common.{◌≡◌, List, [], ◌∷◌, Option, Some, codes, option_map, refl}
use Rattle.clap.proofs.OnLiterals.{clap_on_literals}
use Rattle.clap.specs.Words.{Text, subcommand_of}
use Rattle.relay_options.specs.CommandLine.{relay_command, texts_in}

-- the origins of `relay serve` and these words
abbrev origins : List Text → Option (List Text)
origins words = option_map (λ named. texts_in (codes "origin") named.1)
    (subcommand_of relay_command (codes "relay" ∷ codes "serve" ∷ words))

none : origins (codes "--port" ∷ codes "7" ∷ []) ≡ Some []
unfolding clap_on_literals
none = refl

in_order : origins (codes "--origin" ∷ codes "https://a.example" ∷ codes "--port=7"
    ∷ codes "--origin=null" ∷ []) ≡ Some (codes "https://a.example" ∷ codes "null" ∷ [])
unfolding clap_on_literals
in_order = refl
