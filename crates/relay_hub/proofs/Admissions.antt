-- Facts of a request that is admitted, and of one that is not.
use Rattle.std.proofs.Common.{◌≡◌, ℕ, zero, suc, ◌+◌, ◌≤◌, ◌<◌, drop, slice_get, option_map, Bool}
use Rattle.std.proofs.Common.{true, false, List, [], ◌∷◌, length, Option, Some, None, Result, Ok}
use Rattle.std.proofs.Common.{Err, refl, sym, ◌∙◌, ap, subst, arith, if◌then◌else◌}
use Rattle.std.specs.Option.{option_map_or}
use Rattle.relay_pointer.specs.Weight.{path_weight}
use Rattle.relay_proto.proofs.Counts.{IsRefusal, request_counts, refusal_counts}
use Rattle.relay_proto.specs.Request.{request_of_text}
use Rattle.relay_access.specs.declared.access.Access.{Access}
use Rattle.relay_proto.specs.declared.refusal.Refusal.{Refusal}
use Rattle.relay_proto.specs.declared.request.Request.{Request}
use Rattle.relay_proto.specs.declared.request.Request.TheVariants.{Edit, Will, Watch, Resume}
use Rattle.relay_proto.specs.declared.request.Request.TheVariants.{Unwatch}
use Rattle.relay_tree.specs.Budget.{paid}
use Rattle.relay_tree.specs.Document.{Document}
use Rattle.relay_tree.specs.declared.budget.Budget.{Budget}
use Rattle.relay_view.specs.View.{View}
use Rattle.relay_view.specs.declared.slot.Slot.{Slot}
use Rattle.relay_pointer.specs.Path.{Path}
use Rattle.relay_view.specs.declared.view.TheConstants.{MAX_SLOTS}
use Rattle.relay_proto.specs.Written.{IsCount}
use Rattle.relay_proto.specs.declared.word.Word.TheVariants as word
use Rattle.relay_hub.specs.Refusal.{refusal}
use Rattle.relay_hub.specs.Admitted.{may_edit, permitted, unpaid_slot, unless_unpaid, affordable}
use Rattle.relay_hub.specs.Admitted.{admitted}
use Rattle.relay_hub.specs.Log.{Watching, Stay, stay_after, requested, asked}

-- A request that is admitted is permitted, and was sent as it is.

afforded : (budget : Budget) (r : Result Request Refusal) (request : Request)
    → affordable budget r ≡ Ok request → r ≡ Ok request
afforded budget (Ok (Watch id v)) request h = go (unpaid_slot 0 budget v) h
  where
    go : (o : Option ℕ) → unless_unpaid o id (Watch id v) ≡ Ok request
        → ◌≡◌ {A = Result Request Refusal} (Ok (Watch id v)) (Ok request)
    go None h = h
    go (Some at) h = absurd (cc h)
afforded budget (Ok (Resume id e rev v)) request h = go (unpaid_slot 0 budget v) h
  where
    go : (o : Option ℕ) → unless_unpaid o id (Resume id e rev v) ≡ Ok request
        → ◌≡◌ {A = Result Request Refusal} (Ok (Resume id e rev v)) (Ok request)
    go None h = h
    go (Some at) h = absurd (cc h)
afforded budget (Ok (Edit id base patch)) request h = h
afforded budget (Ok (Will id patch)) request h = h
afforded budget (Ok (Unwatch id)) request h = h
afforded budget (Err r) request h = h

-- what a session may do it asked for
if_may : (may : Bool) (asked request : Request) (why : Refusal)
    → ◌≡◌ {A = Result Request Refusal} (if may then Ok asked else Err why) (Ok request)
    → ◌≡◌ {A = Result Request Refusal} (Ok asked) (Ok request)
if_may true asked request why h = h
if_may false asked request why h = absurd (cc h)

permitted_sent : (access : Access) (r : Result Request Refusal) (request : Request)
    → permitted access r ≡ Ok request → r ≡ Ok request
permitted_sent access (Ok (Edit id base patch)) request h =
    if_may (may_edit access) (Edit id base patch) request (refusal id word.ReadOnly None) h
permitted_sent access (Ok (Will id patch)) request h =
    if_may (may_edit access) (Will id patch) request (refusal id word.ReadOnly None) h
permitted_sent access (Ok (Watch id v)) request h = h
permitted_sent access (Ok (Resume id e rev v)) request h = h
permitted_sent access (Ok (Unwatch id)) request h = h
permitted_sent access (Err r) request h = h

pub admitted_sent : (budget : Budget) (access : Access) (r : Result Request Refusal)
    (request : Request)
    → admitted budget access r ≡ Ok request → (permitted access r ≡ Ok request) × (r ≡ Ok request)
admitted_sent budget access r request h =
    let may = afforded budget (permitted access r) request h in
    (may, permitted_sent access r request may)

-- whether a request needs no permission
abbrev pub IsOther : Request → Type 0
IsOther (Edit id base patch) = ⊥
IsOther (Will id patch) = ⊥
IsOther request = Unit {0}

other_permitted : (access : Access) (request : Request) → IsOther request
    → permitted access (Ok request) ≡ Ok request
other_permitted access (Edit id base patch) other = absurd other
other_permitted access (Will id patch) other = absurd other
other_permitted access (Watch id v) other = refl
other_permitted access (Resume id e rev v) other = refl
other_permitted access (Unwatch id) other = refl

-- one that needs none was sent as it is, and its view is affordable
pub other_sent : (budget : Budget) (access : Access) (r : Result Request Refusal)
    (request : Request) → IsOther request
    → admitted budget access r ≡ Ok request → (r ≡ Ok request) × (affordable budget r ≡ Ok request)
other_sent budget access r request other h =
    let sent = (admitted_sent budget access r request h).1 in
    let may : permitted access r ≡ r = rw sent (other_permitted access request other) in
    (sent, ap (affordable budget) (sym may) ∙ h)

-- A request that is refused adds no document, leaves no will and begins no watching, and its reply
-- has counts.

pub refused_adds : (budget : Budget) (access : Access) (ds : List Document)
    (r : Result Request Refusal) (why : Refusal) → admitted budget access r ≡ Err why
    → requested ds (permitted access r) ≡ None
refused_adds budget access ds (Ok (Edit id base patch)) why h = go (may_edit access) h
  where
    go : (b : Bool) → affordable budget (if b then Ok (Edit id base patch)
        else Err (refusal id word.ReadOnly None)) ≡ Err why
        → requested ds (if b then Ok (Edit id base patch) else Err (refusal id word.ReadOnly None))
        ≡ None
    go true h = absurd (cc h)
    go false h = refl
refused_adds budget access ds (Ok (Will id patch)) why h = will_adds (may_edit access)
  where
    will_adds : (b : Bool)
        → requested ds (if b then Ok (Will id patch) else Err (refusal id word.ReadOnly None))
        ≡ None
    will_adds true = refl
    will_adds false = refl
refused_adds budget access ds (Ok (Watch id v)) why h = refl
refused_adds budget access ds (Ok (Resume id e rev v)) why h = refl
refused_adds budget access ds (Ok (Unwatch id)) why h = refl
refused_adds budget access ds (Err r) why h = refl

pub refused_wills : (budget : Budget) (access : Access) (was : Stay)
    (r : Result Request Refusal) (why : Refusal)
    → admitted budget access r ≡ Err why → stay_after was (permitted access r) ≡ was
refused_wills budget access was (Ok (Will id patch)) why h = go (may_edit access) h
  where
    go : (b : Bool) → affordable budget (if b then Ok (Will id patch)
        else Err (refusal id word.ReadOnly None)) ≡ Err why
        → stay_after was (if b then Ok (Will id patch) else Err (refusal id word.ReadOnly None))
        ≡ was
    go true h = absurd (cc h)
    go false h = refl
refused_wills budget access was (Ok (Edit id base patch)) why h = edit_wills (may_edit access)
  where
    edit_wills : (b : Bool)
        → stay_after was (if b then Ok (Edit id base patch)
        else Err (refusal id word.ReadOnly None)) ≡ was
    edit_wills true = refl
    edit_wills false = refl
refused_wills budget access was (Ok (Watch id v)) why h = refl
refused_wills budget access was (Ok (Resume id e rev v)) why h = refl
refused_wills budget access was (Ok (Unwatch id)) why h = refl
refused_wills budget access was (Err r) why h = refl

pub refused_asks : (budget : Budget) (access : Access) (epoch : ℕ) (ds : List Document)
    (was : Option Watching) (r : Result Request Refusal) (why : Refusal)
    → admitted budget access r ≡ Err why → asked epoch ds was (affordable budget r) ≡ was
refused_asks budget access epoch ds was (Ok (Edit id base patch)) why h = refl
refused_asks budget access epoch ds was (Ok (Will id patch)) why h = refl
refused_asks budget access epoch ds was (Ok (Watch id v)) why h = rw h refl
refused_asks budget access epoch ds was (Ok (Resume id e rev v)) why h = rw h refl
refused_asks budget access epoch ds was (Ok (Unwatch id)) why h = absurd (cc h)
refused_asks budget access epoch ds was (Err r) why h = refl

-- The first slot that is not paid, found slot by slot.

-- the slot at a place, and those behind it
slot_at : (v : View) (at : ℕ) (p : Path) → Some p ≡ option_map (λ s. s.pointer) (slice_get v at)
    → (s : Slot) × (s.pointer ≡ p) × (drop at v ≡ s ∷ drop (at + 1) v)
slot_at [] at p is = absurd (cc is)
slot_at (s ∷ v) zero p is = let same : s.pointer ≡ p = cc in (s, same, refl)
slot_at (s ∷ v) (suc at) p is =
    let later = slot_at v at p is in let next : suc at + 1 ≡ suc (at + 1) = omega arith in
    (later.0, later.1, rw next later.2)

pub unpaid_here : (v : View) (at : ℕ) (left : Budget) (p : Path)
    → Some p ≡ option_map (λ s. s.pointer) (slice_get v at) → None ≡ paid (path_weight p) left
    → unpaid_slot at left (drop at v) ≡ Some at
unpaid_here v at left p is none = let slot = slot_at v at p is in rw (slot.2, slot.1, ← none) refl

pub unpaid_later : (v : View) (at : ℕ) (left rest : Budget) (p : Path)
    → Some p ≡ option_map (λ s. s.pointer) (slice_get v at) → Some rest ≡ paid (path_weight p) left
    → unpaid_slot at left (drop at v) ≡ unpaid_slot (at + 1) rest (drop (at + 1) v)
unpaid_later v at left rest p is some =
    let slot = slot_at v at p is in rw (slot.2, slot.1, ← some) refl

pub all_paid : (v : View) (at : ℕ) (left : Budget) → length v ≤ at
    → unpaid_slot at left (drop at v) ≡ None
all_paid v at left past = rw (drop_past v at past) refl
  where
    drop_past : (v : View) (at : ℕ) → length v ≤ at → drop at v ≡ []
    drop_past [] zero h = refl
    drop_past [] (suc at) h = refl
    drop_past (s ∷ v) zero h = absurd (omega (arith, h))
    drop_past (s ∷ v) (suc at) h = drop_past v at (omega (arith, h))

-- the place of a slot that is not paid is one of the view's
unpaid_head : (n k at : ℕ) (o : Option Budget) (rest : Budget → Option ℕ)
    → ((left : Budget) → rest left ≡ Some at → at < n + 1 + k)
    → option_map_or rest o (Some n) ≡ Some at → at < n + 1 + k
unpaid_head n k at None rest later h = let same : n ≡ at = cc in omega (arith, same)
unpaid_head n k at (Some left) rest later h = later left h

unpaid_below : (n : ℕ) (budget : Budget) (v : View) (at : ℕ) → unpaid_slot n budget v ≡ Some at
    → at < n + length v
unpaid_below n budget [] at h = absurd (cc h)
unpaid_below n budget (s ∷ v) at h =
    let below = unpaid_head n (length v) at (paid (path_weight s.pointer) budget) (λ left.
    unpaid_slot (n + 1) left v) (λ left is. unpaid_below (n + 1) left v at is) h in
    omega (arith, below)

pub refused_counts : (budget : Budget) (access : Access) (text : List ℕ) (why : Refusal)
    → admitted budget access (request_of_text text) ≡ Err why → IsRefusal why
refused_counts budget access text why h = go (request_of_text text) refl h
  where
    slot : (o : Option ℕ) (id : ℕ) (v : View) (request : Request) → IsCount id
        → length v ≤ MAX_SLOTS → unpaid_slot 0 budget v ≡ o
        → unless_unpaid o id request ≡ Err why → IsRefusal why
    slot None id v request count few is h = absurd (cc h)
    slot (Some at) id v request count few is h =
        let below = unpaid_below 0 budget v at is in
        let same : refusal id word.TooHeavy (Some at) ≡ why = cc in
        subst IsRefusal same (count, omega (arith, below, few), tt)

    may : (b : Bool) (id : ℕ) (request : Request) → IsCount id
        → affordable budget (Ok request) ≡ Ok request
        → affordable budget (if b then Ok request else Err (refusal id word.ReadOnly None))
        ≡ Err why → IsRefusal why
    may true id request count free h = absurd (cc (free, h))
    may false id request count free h =
        let same : refusal id word.ReadOnly None ≡ why = cc in subst IsRefusal same (count, tt, tt)

    go : (r : Result Request Refusal) → request_of_text text ≡ r
        → admitted budget access r ≡ Err why → IsRefusal why
    go (Ok (Edit id base patch)) read h =
        may (may_edit access) id (Edit id base patch)
        (request_counts text (Edit id base patch) read).0 refl h
    go (Ok (Will id patch)) read h =
        may (may_edit access) id (Will id patch) (request_counts text (Will id patch) read).0 refl h
    go (Ok (Watch id v)) read h =
        let is = request_counts text (Watch id v) read in
        slot (unpaid_slot 0 budget v) id v (Watch id v) is.0 is.1 refl h
    go (Ok (Resume id e rev v)) read h =
        let is = request_counts text (Resume id e rev v) read in
        slot (unpaid_slot 0 budget v) id v (Resume id e rev v) is.0 is.3 refl h
    go (Ok (Unwatch id)) read h = absurd (cc h)
    go (Err r) read h = let same : r ≡ why = cc in subst IsRefusal same (refusal_counts text r read)
