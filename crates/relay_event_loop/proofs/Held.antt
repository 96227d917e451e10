-- The meaning of the slab's changes for the links of its connections.
use Rattle.std.proofs.Common.{◌≡◌, ◌≢◌, ℕ, Result, Ok, Err, IfOk, OnErr, List, [], Option, Some}
use Rattle.std.proofs.Common.{None, refl, sym, ◌∙◌, ap, subst, inl, inr, option_map, arith, ◌<◌}
use Rattle.std.proofs.Common.{◌≤◌, length, cond, is_some, get_or, min}
use Rattle.std.proofs.lemmas.Bool.{cases_eq}
use Rattle.std.proofs.lemmas.List.Sums.{sum_by-set}
use Rattle.std.specs.declared.alloc.AllocError.{AllocError}
use Rattle.slab.specs.Slab.{Slab, get, slab_len, with_value, Updates}
use Rattle.slab.proofs.SlabLemmas.{Updates-with_value, ContainsKey-within}
use Rattle.relay_hub.specs.Call.{StepIf, doing_will, forgetting}
use Rattle.relay_hub.specs.Shed.{shed}
use Rattle.relay_hub.specs.State.{State}
use Rattle.relay_hub.specs.declared.event.Answer.{Answer}
use Rattle.relay_hub.specs.declared.event.Event.{Event}
use Rattle.relay_hub.specs.declared.event.Event.TheVariants.{DoWill, Forget}
use Rattle.relay_hub.specs.declared.fault.ForgetFault.{ForgetFault}
use Rattle.relay_link.specs.Asks.{asked_by, IsFresh, Receives}
use Rattle.relay_link.specs.EntryRules.{Denials, none_denied}
use Rattle.relay_link.specs.Follows.{Follows, at, no_opening, closing_of}
use Rattle.relay_link.specs.Hears.{PassesTexts}
use Rattle.relay_link.specs.Replies.{Replies}
use Rattle.relay_link.proofs.Following.{follows_none}
use Rattle.relay_link.proofs.Hearing.{passes_ended}
use Rattle.relay_link.specs.Stage.{stage_of, session_of}
use Rattle.relay_link.specs.Visits.{Visits}
use Rattle.relay_link.specs.declared.stage.Stage.TheVariants as stage
use Rattle.relay_link.specs.declared.state.State.{State as Link}
use Rattle.relay_link.specs.declared.state.State.TheVariants.{Head, Replying, Open, Closing, Gone}
use Rattle.relay_link.specs.declared.visit.Visit.{Visit}
use Rattle.relay_access.specs.declared.access.Access.{Access}
use Rattle.relay_event_loop.specs.Advances.{Links, IsNew, links_of, sessions_in, Advances, stays}
use Rattle.relay_event_loop.specs.Advances.{turns, adds, removes, visits, sheds, acts, IsOfHouse}
use Rattle.relay_link.proofs.Sending.{Framed, sending_by, gone_framed, gone_replies}
use Rattle.relay_event_loop.specs.declared.connection.Connection.{Connection}
use Rattle.relay_event_loop.specs.declared.ready.TrackedStream.{TrackedStream}

abbrev is_one : {X : Type 0} → Option X → ℕ
is_one o = cond (is_some o) 1 0

abbrev of : {S : Type 0} → Option (Connection S) → Option (Link (TrackedStream S))
of o = option_map (λ c. c.link) o

-- A link that is gone has no session.
gone_is_none : {S : Type 0} (link : Link S) → stage_of link ≡ stage.Gone → session_of link ≡ None
gone_is_none (Head stream bytes) is = absurd (cc is)
gone_is_none (Replying stream reply) is = absurd (cc is)
gone_is_none (Open socket s) is = absurd (cc is)
gone_is_none (Closing socket left) is = refl
gone_is_none Gone is = refl

-- Nor does it wait for a head.
gone_receives : {S : Type 0} (remaining : S → Option (List ℕ)) (old link : Link S)
    → stage_of link ≡ stage.Gone → Receives remaining old link
gone_receives remaining old (Head stream bytes) is = absurd (cc is)
gone_receives remaining old (Replying stream reply) is = tt
gone_receives remaining old (Open socket s) is = tt
gone_receives remaining old (Closing socket left) is = tt
gone_receives remaining old Gone is = tt

-- A session that was found for a connection is that of its link.
pub gains_own : {S : Type 0} (held : Slab (Connection S)) (key s : ℕ) (c : Connection S)
    → get held key ≡ Some c → session_of c.link ≡ Some s
    → sessions_in (links_of held) key ≡ Some s
gains_own held key s c there has = rw there has

-- A link on a stream that was just given has received nothing.
pub new_of : {S : Type 0} (given : S) (link : Link S) → IsFresh given link → IsNew link
new_of given (Head stream bytes) fresh = fresh.1
new_of given (Replying stream reply) fresh = absurd fresh
new_of given (Open socket s) fresh = absurd fresh
new_of given (Closing socket left) fresh = absurd fresh
new_of given Gone fresh = absurd fresh

module _ {S : Type 0} (old new : Slab (Connection S)) (key : ℕ) (slot : Option (Connection S))
    (updates : Updates old new key slot) where
  -- the links stay, if that of the key does
  pub updated_same : of slot ≡ of (get old key) → (other : ℕ)
      → links_of new other ≡ links_of old other
  updated_same same other =
      elim (cases_eq other key) [
        | inl here ↦ rw here (ap of updates.changed ∙ same)
        | inr apart ↦ ap of (updates.others other apart)
      ]

  pub updated_others : (other : ℕ) → other ≢ key → links_of new other ≡ links_of old other
  updated_others other apart = ap of (updates.others other apart)

-- Of at most no draws there is none.
pub none_drawn : (made most bound : ℕ) → most ≡ 0 → made ≤ min most bound → made ≡ 0
none_drawn made most bound none within = omega (arith, none, within)

pub no_more_then : (new mid old : ℕ) → new ≤ mid → mid ≤ old → new ≤ old
no_more_then new mid old after before = omega (arith, after, before)

-- Nothing changed.
pub none_changed : {S : Type 0} {remaining contents : S → Option (List ℕ)} {hub : State}
    {links : Links S} → Advances remaining contents hub links hub links
none_changed = stays (λ key. refl)

module _ {S : Type 0} (held : Slab (Connection S)) (key : ℕ) (was is : Connection S)
    (there : get held key ≡ Some was) where
  written : Updates held (with_value held key is) key (Some is)
  written = Updates-with_value held key is (rw there refl)

  -- There are as many connections.
  pub no_more : slab_len (with_value held key is) ≤ slab_len held
  no_more =
      let within : key < length held.slots = ContainsKey-within held key (rw there refl) in
      let sums = sum_by-set is_one held.slots key (Some is) None within in
      let found : get_or held.slots key None ≡ Some was = there in
      omega (arith, sums, ap is_one found)

  module _ {remaining contents : TrackedStream S → Option (List ℕ)} where
    -- A connection changed, and its link did not.
    pub woken : (hub : State) → is.link ≡ was.link
        → Advances remaining contents hub (links_of held) hub (links_of (with_value held key is))
    woken hub same =
        stays (updated_same held (with_value held key is) key (Some is) written (ap Some same
        ∙ sym (ap of there)))

    -- A call on its link changed nothing.
    pub unmoved : (hub next : State) → next ≡ hub → is.link ≡ was.link
        → Advances remaining contents hub (links_of held) next (links_of (with_value held key is))
    unmoved hub next same link =
        subst (λ h.
        Advances remaining contents hub (links_of held) h (links_of (with_value held key is)))
        (sym same) (woken hub link)

    -- Its link made a turn.
    pub turned : (hub next : State) (events : List Event) (denied : Denials)
        → Follows (asked_by remaining was.link) (at hub (session_of was.link) [])
        (at next (session_of is.link) events)
        → Receives remaining was.link is.link
        → PassesTexts remaining 1 hub was.link is.link [] events
        → Framed remaining contents hub next events was.link is.link
        → Replies remaining contents denied was.link is.link
        → Advances remaining contents hub (links_of held) next (links_of (with_value held key is))
    turned hub next events denied follows received passes framed replies =
        let by = sending_by remaining contents hub next events was.link is.link denied follows
        framed replies in
        turns (stays (λ other. refl)) key events (ap of there) (ap of written.changed)
        (updated_others held (with_value held key is) key (Some is) written) by.follows received
        passes by.sends

    -- Its link ended.
    pub ended : (hub next : State) (events : List Event)
        → Follows no_opening (at hub (session_of was.link) []) (at next (session_of is.link) events)
        → events ≡ closing_of (session_of was.link) → stage_of is.link ≡ stage.Gone
        → Advances remaining contents hub (links_of held) next (links_of (with_value held key is))
    ended hub next events follows closes gone =
        turned hub next events none_denied (follows_none follows)
        (gone_receives remaining was.link is.link gone)
        (passes_ended remaining hub was.link is.link events closes gone)
        (gone_framed remaining contents hub next events was.link is.link gone)
        (gone_replies remaining contents hub next events was.link is.link gone)

-- A new connection was added.
pub added : {S : Type 0} {remaining contents : TrackedStream S → Option (List ℕ)}
    (held new : Slab (Connection S)) (key : ℕ) (connection : Connection S) (hub : State)
    → get held key ≡ None → Updates held new key (Some connection) → IsNew connection.link
    → Advances remaining contents hub (links_of held) hub (links_of new)
added held new key connection hub vacant updates fresh =
    adds (stays (λ other.
    refl)) key (ap of vacant) (ap of updates.changed)
    (updated_others held new key (Some connection) updates) fresh

-- A connection whose link is gone was removed.
pub removed : {S : Type 0} {remaining contents : TrackedStream S → Option (List ℕ)}
    (held new : Slab (Connection S)) (key : ℕ) (was : Connection S) (hub : State)
    → get held key ≡ Some was
    → stage_of was.link ≡ stage.Gone → Updates held new key None
    → Advances remaining contents hub (links_of held) hub (links_of new)
removed held new key was hub there gone updates =
    removes (stays (λ other.
    refl)) key (ap of there) (ap of updates.changed)
    (updated_others held new key None updates) (gone_is_none was.link gone)

-- The hub gave memory back.
pub shed_back : {S : Type 0} {remaining contents : S → Option (List ℕ)} (hub : State)
    (links : Links S) → Advances remaining contents hub links (shed hub) links
shed_back hub links = sheds (stays (λ key. refl))

-- An event of the house, if it was carried out.
acted : {S : Type 0} {remaining contents : S → Option (List ℕ)} (hub next : State) (links : Links S)
    (event : Event) (answer : Option Answer) → IsOfHouse event → StepIf hub event answer next
    → Advances remaining contents hub links next links
acted {remaining = remaining} {contents = contents} hub next links event (Some answer) of_house
    step =
    acts (stays (λ key. refl)) event answer of_house step
acted {remaining = remaining} {contents = contents} hub next links event None of_house step =
    subst (λ h. Advances remaining contents hub links h links) (sym step) (stays (λ key. refl))

-- A will was done, or memory was refused.
pub willed : {S : Type 0} {remaining contents : S → Option (List ℕ)} (hub next : State)
    (links : Links S) (result : Result (Option ℕ) AllocError)
    → StepIf hub DoWill (doing_will result) next → Advances remaining contents hub links next links
willed hub next links result step = acted hub next links DoWill (doing_will result) tt step

-- A room was forgotten, or not.
pub forgotten : {S : Type 0} {remaining contents : S → Option (List ℕ)} (hub next : State)
    (links : Links S) (name : List ℕ) (result : Result ℕ ForgetFault)
    → StepIf hub (Forget name) (forgetting result) next
    → Advances remaining contents hub links next links
forgotten hub next links name result step =
    acted hub next links (Forget name) (forgetting result) tt step

-- A visit was made, or not.
pub visited : {S : Type 0} {remaining contents : S → Option (List ℕ)} (hub next : State)
    (links : Links S) (room : List ℕ) (access : Access) (text : List ℕ)
    (result : Result Visit AllocError)
    → IfOk result (λ visit. Visits room access text hub next visit) → OnErr result (next ≡ hub)
    → Advances remaining contents hub links next links
visited hub next links room access text (Ok visit) made unchanged =
    visits (stays (λ key. refl)) room access text visit made
visited {remaining = remaining} {contents = contents} hub next links room access text (Err e) made
    unchanged =
    subst (λ h. Advances remaining contents hub links h links) (sym unchanged) (stays (λ key. refl))
