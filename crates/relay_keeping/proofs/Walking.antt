-- The sessions of a hub and their wills, one after another.
use Rattle.std.proofs.Common.{◌≡◌, ◌∙◌, ◌==◌, ◌+◌, ℕ, zero, suc, false, List, [], ◌∷◌, length}
use Rattle.std.proofs.Common.{take, slice_get, Option, Some, None, arith, ap, subst, sym, refl}
use Rattle.std.proofs.Common.{if◌then◌else◌}
use Rattle.std.proofs.lemmas.Bool.Decides.{nat_tests}
use Rattle.std.specs.List.{flat_map}
use Rattle.std.specs.Option.{option_and_then, option_map, option_map_or}
use Rattle.relay_hub.specs.Log.{Bequest, left_in}
use Rattle.relay_hub.specs.Session.{Session}
use Rattle.relay_hub.specs.SessionWill.{HeldWill, held_will, session_at}
use Rattle.relay_hub.specs.State.{RoomSessions, State}
use Rattle.relay_patch.specs.declared.op.Op.{Op}
use Rattle.relay_keeping.specs.Wills.{Finds, NotedWills, sessions_at}
use Rattle.relay_keeping.specs.declared.found_wills.FoundWills.{FoundWills}
use Rattle.relay_keeping.proofs.FindingWills.{finds_then, mapped_more}

-- a session leaves its will, unless it is empty
pub left_unless_empty : (s n : ℕ) (room : List ℕ) (patch : List Op)
    → left_in s n room patch ≡ (if length patch == 0 then []
    else record { session = s; number = n; room = room; patch = patch } ∷ [])
left_unless_empty s n room [] = refl
left_unless_empty s n room (op ∷ ops) =
    let full : (length (op ∷ ops) == 0) ≡ false = grind (arith, nat_tests) in
    ap (λ b. if b then []
    else record { session = s; number = n; room = room; patch = op ∷ ops } ∷ []) (sym full)

-- a place among the sessions of a room
at_place : (room : Option (List ℕ × RoomSessions)) (place : ℕ)
    → option_and_then (λ r. slice_get r.1.sessions place) room
    ≡ slice_get (option_map_or (λ r. r.1.sessions) room []) place
at_place None zero = refl
at_place None (suc place) = refl
at_place (Some room) place = refl

-- a will that is held is that of the session at its place
pub session_found : (hub : State) (index place : ℕ) (held : HeldWill)
    → Some held ≡ option_map held_will (session_at hub index place)
    → (x : Session) × (slice_get (sessions_at hub index) place ≡ Some x) × (held ≡ held_will x)
session_found hub index place held is =
    let found = go (session_at hub index place) is in
    (found.0, sym (at_place (slice_get hub.rooms index) place) ∙ found.1, found.2)
  where
    go : (x : Option Session) → Some held ≡ option_map held_will x
        → (y : Session) × (x ≡ Some y) × (held ≡ held_will y)
    go (Some x) is = let same : held ≡ held_will x = cc is in (x, refl, same)
    go None is = absurd (cc is)

-- without one there is no session
pub none_at : (hub : State) (index place : ℕ)
    → None ≡ option_map held_will (session_at hub index place)
    → slice_get (sessions_at hub index) place ≡ None
none_at hub index place is =
    sym (at_place (slice_get hub.rooms index) place) ∙ go (session_at hub index place) is
  where
    go : (x : Option Session) → None ≡ option_map held_will x → x ≡ None
    go (Some x) is = absurd (cc is)
    go None is = refl

-- the wills of one more element are found
pub found_more : {X : Type 0} (f : X → List Bequest) (noted : NotedWills) (xs : List X) (i : ℕ)
    (x : X) (old mid new : FoundWills) → slice_get xs i ≡ Some x
    → Finds noted (flat_map f (take i xs)) old mid → Finds noted (f x) mid new
    → Finds noted (flat_map f (take (i + 1) xs)) old new
found_more f noted xs i x old mid new at before after =
    subst (λ wills. Finds noted wills old new) (sym (mapped_more f xs i x at))
    (finds_then noted (flat_map f (take i xs)) (f x) old mid new before after)
