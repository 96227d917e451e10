-- The defaults of the options are those of a hub: the text of each writes the number.
use Rattle.std.proofs.Common.{◌≡◌, ℕ, List, [], ◌∷◌, Option, Some, map, refl}
use Rattle.clap.specs.Words.{Rule}
use Rattle.relay_limits.specs.declared.TheConstants.{DEFAULT_REVISIONS, DEFAULT_ROOMS}
use Rattle.relay_limits.specs.declared.TheConstants.{DEFAULT_SESSIONS, DEFAULT_WAITING_PATCHES}
use Rattle.relay_options.specs.CommandLine.{history_option, number_of_text, outbox_option}
use Rattle.relay_options.specs.CommandLine.{rooms_option, sessions_option}

abbrev default_numbers : Rule → List (Option ℕ)
default_numbers option = map number_of_text option.defaults

revisions : default_numbers history_option ≡ Some DEFAULT_REVISIONS ∷ []
unfolding number_of_text
revisions = refl

waiting_patches : default_numbers outbox_option ≡ Some DEFAULT_WAITING_PATCHES ∷ []
unfolding number_of_text
waiting_patches = refl

rooms : default_numbers rooms_option ≡ Some DEFAULT_ROOMS ∷ []
unfolding number_of_text
rooms = refl

sessions : default_numbers sessions_option ≡ Some DEFAULT_SESSIONS ∷ []
unfolding number_of_text
sessions = refl
