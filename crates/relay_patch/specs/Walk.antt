-- A walk along a path that gives the cause if it ends early (RFC 6901, section 7).
use Rattle.std.specs.Prelude.{ℕ, [], ◌∷◌, ◌≡◌, ◌≢◌, Bool, Option, Some, None, ok_or, Result, Ok}
use Rattle.std.specs.Prelude.{Err, IsOk, bytes_eq, if◌then◌else◌}
use Rattle.relay_tree.specs.Document.{Document, list, object, Items}
use Rattle.relay_tree.specs.Part.{item_at, member_at}
use Rattle.relay_pointer.specs.Index.{Token, index_of}
use Rattle.relay_pointer.specs.Path.{Path}
pub use Rattle.relay_patch.specs.declared.fault.Cause.{Cause}
pub use Rattle.relay_patch.specs.declared.fault.Cause.TheVariants.{Missing, NotIndex, PastEnd}
pub use Rattle.relay_patch.specs.declared.fault.Cause.TheVariants.{NoContainer, Root, IntoItself}
pub use Rattle.relay_patch.specs.declared.fault.Cause.TheVariants.{TestFailed, TooDeep, TooHeavy}
pub use Rattle.relay_patch.specs.declared.fault.Cause.TheVariants.{NoMemory}

-- the continuation of a step that may be refused
abbrev pub then_do : {A B : Type 0} → Result A Cause → (A → Result B Cause) → Result B Cause
then_do (Ok x) f = f x
then_do (Err e) f = Err e

-- a fault: a step that passes ran out of memory, or the step is refused
abbrev pub Refuses : {A : Type 0} → Result A Cause → Cause → Type 0
Refuses r cause = (cause ≢ NoMemory → r ≡ Err cause) × (cause ≡ NoMemory → IsOk r)

-- `-` names the place after the last element
abbrev pub dash : Token
dash = 45 ∷ []

abbrev pub is_dash : Token → Bool
is_dash t = bytes_eq t dash

-- why a token that is not an index leads to no element
abbrev pub no_element : Token → Cause
no_element t = if bytes_eq t dash then Missing else NotIndex

abbrev pub element : Items → Token → Option ℕ → Result Document Cause
element ds t None = Err (no_element t)
element ds t (Some i) = ok_or (item_at ds i) Missing

-- the part that a token names, or why there is none
abbrev pub step : Document → Token → Result Document Cause
step (list ds) t = element ds t (index_of t)
step (object ms) t = ok_or (member_at ms t) Missing
step _ t = Err NoContainer

-- the value to which a path leads, or why there is none
abbrev pub walk : Document → Path → Result Document Cause
walk d [] = Ok d
walk d (t ∷ path) = then_do (step d t) (λ c. walk c path)
