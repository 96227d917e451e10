-- Whom a text or a will told something.
use Rattle.std.specs.Prelude.{◌≡◌, ℕ, nat_eq, ◌==◌, ◌||◌, Bool, false, List}
use Rattle.std.specs.List.{list_any}
use Rattle.relay_hub.specs.Session.{Session}
use Rattle.relay_hub.specs.State.{session_in}
use Rattle.relay_hub.specs.declared.told.Told.{Told}

abbrev pub is_told : Told → ℕ → Bool
is_told told t = told.all || list_any (nat_eq t) told.sessions.items

-- no session of a room changed but those that were told something
abbrev pub ChangesTold : Told → List Session → List Session → Type 0
ChangesTold told old new = (t : ℕ) → is_told told t ≡ false → session_in new t ≡ session_in old t

-- and session s, which sent the text
abbrev pub ChangesToldAnd : ℕ → Told → List Session → List Session → Type 0
ChangesToldAnd s told old new =
    (t : ℕ) → (s == t) ≡ false → is_told told t ≡ false → session_in new t ≡ session_in old t

-- no session changed but those that were told meanwhile, and who was told before still is
abbrev pub IsTold : Told → Told → List Session → List Session → Type 0
IsTold before told old new = (t : ℕ) → is_told told t ≡ false
    → (is_told before t ≡ false) × (session_in new t ≡ session_in old t)
