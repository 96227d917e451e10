-- The acts of a server to its hub and to its connections' links: turns of links, one after another,
-- visits, its own events, and giving memory back when it was refused. Between turns links are added
-- and removed, and none changes.
use Rattle.std.specs.Prelude.{ℕ, ⊤, ◌≡◌, ◌≢◌, ◌≤◌, List, [], ◌∷◌, Option, Some, None, option_map}
use Rattle.std.specs.Prelude.{option_and_then}
use Rattle.slab.specs.Slab.{Slab, get}
use Rattle.relay_hub.specs.Log.{Log, entry}
use Rattle.relay_hub.specs.Shed.{shed}
use Rattle.relay_hub.specs.State.{State}
use Rattle.relay_hub.specs.Step.{Step}
use Rattle.relay_hub.specs.declared.event.Answer.{Answer}
use Rattle.relay_hub.specs.declared.event.Event.{Event}
use Rattle.relay_hub.specs.declared.event.Event.TheVariants.{DoWill, Forget}
use Rattle.relay_link.specs.Asks.{asked_by, Receives}
use Rattle.relay_link.specs.Follows.{Follows, at, with_events, drawn}
use Rattle.relay_link.specs.Hears.{PassesTexts}
use Rattle.relay_link.specs.Stage.{session_of}
use Rattle.relay_link.specs.Visits.{Visits}
use Rattle.relay_link.specs.declared.state.State.{State as Link}
use Rattle.relay_link.specs.declared.state.State.TheVariants.{Head}
use Rattle.relay_link.specs.declared.visit.Visit.{Visit}
use Rattle.relay_access.specs.declared.access.Access.{Access}
use Rattle.relay_event_loop.specs.Connections.{connections_of, limit_of, made_by, made_after}
use Rattle.relay_event_loop.specs.Ready.{left_of, contents_of}
use Rattle.relay_link.specs.Sends.{Sends}
use Rattle.relay_event_loop.specs.declared.connection.Connection.{Connection}
use Rattle.relay_event_loop.specs.declared.ready.TrackedStream.{TrackedStream}
use Rattle.relay_event_loop.specs.declared.server.Server.{Server}

-- by key, the link of the connection there, if there is one
abbrev pub Links : Type 0 → Type 0
Links S = ℕ → Option (Link S)

abbrev pub links_of : {S : Type 0} → Slab (Connection S) → Links (TrackedStream S)
links_of held key = option_map (λ c. c.link) (get held key)

-- by key, the session of that link, if it has one
abbrev pub Sessions : Type 0
Sessions = ℕ → Option ℕ

abbrev pub sessions_in : {S : Type 0} → Links S → Sessions
sessions_in links key = option_and_then session_of (links key)

-- there is a link at that key, and it has no session
abbrev pub HasNoSession : {S : Type 0} → Links S → ℕ → Type 0
HasNoSession {S} links key = (link : Link S) × (links key ≡ Some link) × (session_of link ≡ None)

-- the link waits for a head, and has received nothing
abbrev pub IsNew : {S : Type 0} → Link S → Type 0
IsNew (Head stream bytes) = bytes.items ≡ []
IsNew _ = ⊥

-- no key but this one has another link
abbrev pub Others : {S : Type 0} → ℕ → Links S → Links S → Type 0
Others key old new = (other : ℕ) → other ≢ key → new other ≡ old other

-- an event of the house, which is no link's: a will that a closed session left is done, or a room
-- is forgotten
abbrev pub IsOfHouse : Event → Type 0
IsOfHouse DoWill = ⊤
IsOfHouse (Forget name) = ⊤
IsOfHouse event = ⊥

module _ {S : Type 0} (remaining contents : S → Option (List ℕ)) where
  -- The second hub, with its links, is reached from the first. The hub changes by turns of links,
  -- whose events are each the link's own, by visits, whose events are those of a session that no
  -- link has, by events of the house, and by giving memory back alone.
  -- A session is opened only in the room that the link's head asks for. The head is what the link
  -- has received since it was added, and then what the turn reads. A text of a session is one that
  -- its link read from its WebSocket, which reads on from turn to turn, and reads nothing while the
  -- hub may not hear the session. The stream of a link is given the reply to its head, and then the
  -- frames of the texts that these events drew for its session.
  pub data Advances : State → Links S → State → Links S → Type 0 where
    stays : {hub : State} {old new : Links S} → ((key : ℕ) → new key ≡ old key)
        → Advances hub old hub new
    turns : {hub mid next : State} {old held new : Links S} {was is : Link S}
        → Advances hub old mid held → (key : ℕ) (events : List Event)
        → held key ≡ Some was → new key ≡ Some is → Others key held new
        → (follows : Follows (asked_by remaining was) (at mid (session_of was) [])
        (at next (session_of is) events)) → Receives remaining was is
        → PassesTexts remaining 1 mid was is [] events
        → Sends remaining contents mid was events is (drawn follows) → Advances hub old next new
    adds : {hub mid : State} {old held new : Links S} {is : Link S} → Advances hub old mid held
        → (key : ℕ)
        → held key ≡ None → new key ≡ Some is → Others key held new → IsNew is
        → Advances hub old mid new
    removes : {hub mid : State} {old held new : Links S} {was : Link S} → Advances hub old mid held
        → (key : ℕ)
        → held key ≡ Some was → new key ≡ None → Others key held new → session_of was ≡ None
        → Advances hub old mid new
    visits : {hub mid next : State} {old new : Links S} → Advances hub old mid new
        → (room : List ℕ) (access : Access) (text : List ℕ) (visit : Visit)
        → Visits room access text mid next visit → Advances hub old next new
    sheds : {hub mid : State} {old new : Links S} → Advances hub old mid new
        → Advances hub old (shed mid) new
    acts : {hub mid next : State} {old new : Links S} → Advances hub old mid new
        → (event : Event) (answer : Answer)
        → IsOfHouse event → Step mid event answer next → Advances hub old next new

module _ {S : Type 0} {remaining contents : S → Option (List ℕ)} where
  -- a log with the entries of all events
  abbrev pub with_turns : {hub next : State} {old new : Links S}
      → Advances remaining contents hub old next new → Log → Log
  with_turns (stays same) E = E
  with_turns (turns before key events had has others follows received passes sends) E =
      with_events follows (with_turns before E)
  with_turns (adds before key had has others fresh) E = with_turns before E
  with_turns (removes before key had has others bare) E = with_turns before E
  with_turns (visits before room access text visit made) E =
      with_events made.opens.follows (with_turns before E)
  with_turns (sheds before) E = with_turns before E
  with_turns (acts before event answer of_house step) E = entry event answer ∷ with_turns before E

module _ {S R : Type 0} (remaining contents : S → Option (List ℕ)) where
  -- from one server to another: the hub advances, and the limit on connections stays
  abbrev pub Keeps : Server S R → Server S R → Type 0
  Keeps old new =
      (new.max_connections ≡ old.max_connections)
      × Advances (left_of remaining) (contents_of contents) old.hub (links_of old.connections)
      new.hub (links_of new.connections)

  -- no round is made, and it holds no more connections than before
  abbrev pub KeepsFewer : Server S R → Server S R → Type 0
  KeepsFewer old new =
      Keeps old new × (made_by new ≡ made_by old) × (connections_of new ≤ connections_of old)

  -- no connection is added beyond the limit
  abbrev pub IsWithin : Server S R → Server S R → Type 0
  IsWithin old new = connections_of old ≤ limit_of old → connections_of new ≤ limit_of old

  -- no round is made, and no connection is added beyond the limit
  abbrev pub KeepsWithin : Server S R → Server S R → Type 0
  KeepsWithin old new = Keeps old new × (made_by new ≡ made_by old) × IsWithin old new

  -- so many rounds are made, and no connection is added beyond the limit
  abbrev pub MakesWithin : ℕ → Server S R → Server S R → Type 0
  MakesWithin rounds old new =
      Keeps old new × (made_by new ≡ made_after rounds old) × IsWithin old new
