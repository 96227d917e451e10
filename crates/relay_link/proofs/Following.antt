-- Lemmas about `Follows`.
use Rattle.std.proofs.Common.{◌≡◌, ℕ, List, [], ◌∷◌, ◌++◌, Option, refl, sym, subst}
use Rattle.std.proofs.Common.{subst₂, ap, ◌∙◌, append_assoc, append-nil}
use Rattle.relay_hub.specs.State.{State as Hub}
use Rattle.relay_hub.specs.Step.{Step}
use Rattle.relay_hub.specs.declared.event.Answer.{Answer}
use Rattle.relay_hub.specs.declared.event.Event.{Event}
use Rattle.relay_hub.specs.declared.event.Event.TheVariants.{Open, Receive, Draw, Close}
use Rattle.relay_access.specs.declared.access.Access.{Access}
use Rattle.relay_link.specs.Asks.{asked_by}
use Rattle.relay_link.specs.Stage.{session_of}
use Rattle.relay_link.specs.declared.state.State.{State}
use Rattle.relay_link.specs.Follows.{Point, Rooms, at, IsOwn, no_opening, session_after, Follows}
use Rattle.relay_link.specs.Follows.{stays, makes, drawn_by, drawn}
use Rattle.relay_link.specs.Visits.{opened_by, openings}

module _ {rooms : Rooms} where
  -- no event was made
  pub follows_same : (old new : Hub) (session mine : Option ℕ) (before after : List Event)
      → new ≡ old → mine ≡ session → after ≡ before
      → Follows rooms (at old session before) (at new mine after)
  follows_same old new session mine before after h k m =
      subst (λ x. Follows rooms (at old session before) (at new x after)) (sym k) (subst₂ (λ x y.
      Follows rooms (at old session before) (at x session y)) (sym h) (sym m) stays)

  -- one event was made
  pub follows_one : (old new : Hub) (session : Option ℕ) (before after : List Event)
      (event : Event) (answer : Answer)
      → after ≡ before ++ event ∷ [] → IsOwn rooms session event → Step old event answer new
      → Follows rooms (at old session before) (at new (session_after session event answer) after)
  follows_one old new session before after event answer m own step =
      subst (λ x.
      Follows rooms (at old session before) (at new (session_after session event answer) x))
      (sym m) (makes event answer stays own step)

  -- one run after another
  pub follows_then : {p q r : Point} → Follows rooms p q → Follows rooms q r → Follows rooms p r
  follows_then f stays = f
  follows_then f (makes event answer g own step) = makes event answer (follows_then f g) own step

wider_own : {rooms wider : Rooms}
    → ((room : List ℕ) (access : Access) → rooms room access → wider room access)
    → (session : Option ℕ) (event : Event) → IsOwn rooms session event
    → IsOwn wider session event
wider_own more session (Open room access) own = (own.0, more room access own.1)
wider_own more session (Receive s text) own = own
wider_own more session (Draw s) own = own
wider_own more session (Close s) own = own
wider_own more session event own = absurd own

-- other rooms may be opened as well
pub follows_wider : {rooms wider : Rooms} {p q : Point}
    → ((room : List ℕ) (access : Access) → rooms room access → wider room access)
    → Follows rooms p q → Follows wider p q
follows_wider more stays = stays
follows_wider more (makes {q = q} event answer before own step) =
    makes event answer (follows_wider more before) (wider_own more q.session event own) step

pub follows_none : {rooms : Rooms} {p q : Point} → Follows no_opening p q → Follows rooms p q
follows_none = follows_wider (λ room access none. absurd none)

-- the same of an equal state
pub follows_from : {S : Type 0} {hub : Hub} {events : List Event} {q : Point} (remaining : S
    → Option (List ℕ)) (old state : State S) → state ≡ old
    → Follows (asked_by remaining state) (at hub (session_of state) events) q
    → Follows (asked_by remaining old) (at hub (session_of old) events) q
follows_from {hub = hub} {events = events} {q = q} remaining old state same follows =
    subst (λ s. Follows (asked_by remaining s) (at hub (session_of s) events) q) same follows

-- the same in any rooms
pub follows_as : {S : Type 0} {rooms : Rooms} {hub : Hub} {events : List Event} {q : Point}
    (old state : State S) → state ≡ old → Follows rooms (at hub (session_of state) events) q
    → Follows rooms (at hub (session_of old) events) q
follows_as {rooms = rooms} {hub = hub} {events = events} {q = q} old state same follows =
    subst (λ s. Follows rooms (at hub (session_of s) events) q) same follows

-- an event of a link that may open no session opens none
opens_none : (session : Option ℕ) (event : Event) (answer : Answer) → IsOwn no_opening session event
    → opened_by event answer ≡ []
opens_none session (Open room access) answer own = absurd own.1
opens_none session (Receive s text) answer own = refl
opens_none session (Draw s) answer own = refl
opens_none session (Close s) answer own = refl
opens_none session event answer own = absurd own

-- one run of events after another, of which the second opens no session
pub went_on : {rooms : Rooms} {p q r : Point} (f : Follows rooms p q) (g : Follows no_opening q r)
    → (h : Follows rooms p r) × (drawn h ≡ drawn f ++ drawn g) × (openings h ≡ openings f)
went_on f stays = (f, sym (append-nil (drawn f)), refl)
went_on f (makes {q = q} event answer before own step) =
    let most = went_on f before in (
      makes event answer most.0
          (wider_own (λ room access none. absurd none) q.session event own) step,
      ap (λ l. l ++ drawn_by event answer) most.1
          ∙ append_assoc (drawn f) (drawn before) (drawn_by event answer),
      ap (λ l. openings most.0 ++ l) (opens_none q.session event answer own)
          ∙ append-nil (openings most.0) ∙ most.2,
    )
