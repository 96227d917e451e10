-- The outcome of a request, by the hub's reply to it: refused with a fault, or not.
use Rattle.std.specs.Prelude.{ℕ, Bool, if◌then◌else◌, List, [], ◌∷◌, codes, bytes_eq, Option, Some}
use Rattle.std.specs.Prelude.{None, option_and_then, option_map}
use Rattle.std.specs.List.{list_any}
use Rattle.relay_admin.specs.Cut.{behind, until, after}
use Rattle.relay_admin.specs.declared.outcome.Outcome.{Outcome}
use Rattle.relay_admin.specs.declared.outcome.Outcome.TheVariants.{Accepted, Stale, Malformed}
use Rattle.relay_admin.specs.declared.outcome.Outcome.TheVariants.{Unprocessable}

-- the word of the fault, which is the second member of a refusal: `{"at":A,"fault":"W",..`
abbrev pub fault_in : List ℕ → Option (List ℕ)
fault_in reply =
    option_map (until 34) (option_and_then (behind (codes "\"fault\":\"")) (after 44 reply))

-- whether a fault says that the text is no patch, or no pointer, whatever the document is
abbrev pub is_malformed : List ℕ → Bool
is_malformed fault =
    list_any (bytes_eq fault) (codes "too-long" ∷ codes "not-json" ∷ codes "number"
    ∷ codes "shape" ∷ codes "too-many" ∷ codes "unknown-op" ∷ codes "pointer" ∷ [])

abbrev pub outcome_by : Option (List ℕ) → Outcome
outcome_by None = Accepted
outcome_by (Some fault) =
    if bytes_eq fault (codes "stale") then Stale else
    if is_malformed fault then Malformed else Unprocessable

abbrev pub outcome_of : List ℕ → Outcome
outcome_of reply = outcome_by (fault_in reply)
