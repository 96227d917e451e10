-- The rules for who comes in: what they say of a session that was opened, and that no rules deny
-- nothing.
use Rattle.std.proofs.Common.{◌≡◌, ℕ, List, [], Bool, true, false, not, if◌then◌else◌, ◌||◌, ◌==◌}
use Rattle.std.proofs.Common.{Option, Some, None, Result, Ok, Err, OnOk, refl, ap, length}
use Rattle.std.proofs.Common.{string_bytes}
use Rattle.std.specs.Prelude.{bytes_eq}
use Rattle.std.specs.List.{list_any}
use Rattle.relay_access.specs.declared.access.Access.{Access}
use Rattle.relay_access.specs.declared.access.Access.TheVariants.{ReadOnly, ReadWrite}
use Rattle.relay_hub.specs.State.{State as Hub}
use Rattle.relay_link.specs.Entrance.{lets_in}
use Rattle.relay_link.specs.EntryRules.{Within, admits_origin, denial, entering, is_there}
use Rattle.relay_link.specs.EntryRules.{none_denied, watching}
use Rattle.relay_link.specs.Replies.{Replies}
use Rattle.relay_link.specs.declared.entrance.Entrance.TheVariants as entry
use Rattle.relay_link.specs.declared.entry_rules.Denial.TheVariants.{Origin, Closed}
use Rattle.relay_link.specs.declared.entry_rules.EntryRules.{EntryRules}
use Rattle.relay_link.specs.declared.entry_rules.Watchers.TheVariants.{Begin}
use Rattle.relay_link.specs.declared.state.State.{State}
use Rattle.relay_link.proofs.Replying.{replies_alike}

-- whoever is not denied is within the rules
pub within_rules : (rules : EntryRules) (hub : Hub) (room : List ℕ) (access : Access)
    (origin : Option (List ℕ)) → denial rules hub room access origin ≡ None
    → Within rules hub room access
within_rules rules hub room access origin is =
    go (admits_origin rules.origins.items origin) (lets_in rules.entrance room) refl is
  where
    go : (admitted enters : Bool) → lets_in rules.entrance room ≡ enters
        → (if not admitted then Some Origin
        else if not enters then Some Closed else entering rules hub room access) ≡ None
        → Within rules hub room access
    go true true known is = (known, is)
    go true false known is = absurd (cc is)
    go false enters known is = absurd (cc is)

-- no rules deny nobody
pub none_denies : (rules : EntryRules) → rules.entrance ≡ entry.Open → rules.origins.items ≡ []
    → rules.watchers ≡ Begin → (hub : Hub) (room : List ℕ) (access : Access)
    (origin : Option (List ℕ)) → denial rules hub room access origin ≡ None
none_denies rules opened origins begin hub room access origin =
    rw (admits origin, enters) (watches access)
  where
    admits : (origin : Option (List ℕ)) → admits_origin rules.origins.items origin ≡ true
    admits None = refl
    admits (Some given) =
        ap (λ names. (length names == 0) || list_any (λ name. bytes_eq (string_bytes name) given)
        names) origins

    enters : lets_in rules.entrance room ≡ true
    enters = ap (λ entrance. lets_in entrance room) opened

    watches : (access : Access) → entering rules hub room access ≡ None
    watches ReadWrite = refl
    watches ReadOnly = ap (λ watchers. watching watchers (is_there hub room)) begin

-- so a turn by no rules replies as if nobody were denied
pub replies_if : {S T E : Type 0} (remaining contents : S → Option (List ℕ)) (result : Result T E)
    (rules : EntryRules) (hub : Hub) (old new : State S) → rules.entrance ≡ entry.Open
    → rules.origins.items ≡ [] → rules.watchers ≡ Begin
    → OnOk result (Replies remaining contents (denial rules hub) old new)
    → OnOk result (Replies remaining contents none_denied old new)
replies_if remaining contents (Ok turn) rules hub old new opened origins begin replies =
    replies_alike contents (denial rules hub) none_denied
    (none_denies rules opened origins begin hub) remaining old new replies
replies_if remaining contents (Err fault) rules hub old new opened origins begin replies = tt
