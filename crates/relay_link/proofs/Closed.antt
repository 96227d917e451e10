-- A session that a link had and no longer has was closed on the way.
use Rattle.std.proofs.Common.{◌≡◌, ◌⊎◌, inl, inr, ℕ, List, [], ◌∷◌, ◌++◌, Option, Some, None, sym}
use Rattle.std.proofs.Common.{subst}
use Rattle.std.specs.List.{Contains}
use Rattle.std.proofs.lemmas.List.Elements.{Contains-append_left, Contains-push}
use Rattle.relay_hub.specs.declared.event.Answer.{Answer}
use Rattle.relay_hub.specs.declared.event.Event.{Event}
use Rattle.relay_hub.specs.declared.event.Event.TheVariants.{Open, Receive, Draw, Close}
use Rattle.relay_link.specs.Follows.{Point, Rooms, IsOwn, session_after, Follows, stays, makes}

-- the link still has the session, or its close was made
abbrev pub IsKept : ℕ → Option ℕ → List Event → Type 0
IsKept s session events = (session ≡ Some s) ⊎ Contains events (Close s)

-- one more event preserves this
kept_on : (rooms : Rooms) (s : ℕ) (session : Option ℕ) (events : List Event) (event : Event)
    (answer : Answer) → session ≡ Some s → IsOwn rooms session event
    → IsKept s (session_after session event answer) (events ++ event ∷ [])
kept_on rooms s session events (Open room access) answer h own = let none = own.0 in cc (h, none)
kept_on rooms s session events (Receive t text) answer h own = inl h
kept_on rooms s session events (Draw t) answer h own = inl h
kept_on rooms s session events (Close t) answer h own =
    let same : t ≡ s = cc in
    inr (subst (λ x. Contains (events ++ Close x ∷ []) (Close s)) (sym same)
    (Contains-push events (Close s)))
kept_on rooms s session events event answer h own = absurd own

-- after a point with session s the link still has s, or its close was made
pub kept : {rooms : Rooms} {p q : Point} → Follows rooms p q → (s : ℕ) → p.session ≡ Some s
    → IsKept s q.session q.events
kept stays s h = inl h
kept (makes {q = q} event answer f own step) s h = elim (kept f s h) [
  | inl there ↦ kept_on _ s q.session q.events event answer there own
  | inr closed ↦ inr (Contains-append_left q.events (event ∷ []) (Close s) closed)
]

-- if the session is gone, its close was made
pub closed : {rooms : Rooms} {p q : Point} → Follows rooms p q → (s : ℕ) → p.session ≡ Some s
    → q.session ≡ None → Contains q.events (Close s)
closed f s h gone = elim (kept f s h) [ inl there ↦ cc | inr events ↦ events ]
