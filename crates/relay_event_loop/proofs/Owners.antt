-- Each open session stays that of exactly one connection.
use Rattle.std.proofs.Common.{◌≡◌, ◌≢◌, ◌⊎◌, ℕ, zero, suc, ◌==◌, List, [], ◌∷◌, Option, Some, None}
use Rattle.std.proofs.Common.{refl, sym, ◌∙◌, ap, subst, inl, inr, arith, slice_get, nat_eq, IsSome}
use Rattle.std.proofs.Common.{if◌then◌else◌, option_and_then}
use Rattle.std.proofs.lemmas.Bool.Decides.{eqb_tells}
use Rattle.std.specs.Map.{lookup}
use Rattle.relay_hub.specs.Session.{Session}
use Rattle.relay_hub.specs.State.{State, RoomSessions, Home, IsHub, index_of, session_in}
use Rattle.relay_hub.specs.Step.{Step, AtIndex, InRoom, ClosesIn, ClosesAt, DoesWill}
use Rattle.relay_hub.specs.declared.event.Answer.{Answer}
use Rattle.relay_hub.specs.declared.event.Answer.TheVariants.{Opened, NotOpened, Closed, WillDone}
use Rattle.relay_hub.specs.declared.event.Answer.TheVariants.{NoWill, Forgotten, NotForgotten}
use Rattle.relay_hub.specs.declared.event.Event.{Event}
use Rattle.relay_hub.specs.declared.will.Will.{Will}
use Rattle.relay_hub.specs.declared.event.Event.TheVariants.{Open, Receive, Draw, Close, DoWill}
use Rattle.relay_hub.specs.declared.event.Event.TheVariants.{Forget}
use Rattle.relay_hub.proofs.Members.{step_is_hub}
use Rattle.relay_hub.proofs.Cases.{by_number}
use Rattle.relay_hub.proofs.Shedding.{shed_is_hub}
use Rattle.relay_link.specs.Follows.{Point, Rooms, Follows, stays as none, makes, IsOwn}
use Rattle.relay_link.specs.Follows.{session_after}
use Rattle.relay_link.specs.Stage.{session_of}
use Rattle.relay_link.specs.declared.state.State.{State as Link}
use Rattle.relay_link.specs.declared.state.State.TheVariants.{Head, Replying, Open as Opening}
use Rattle.relay_link.specs.declared.state.State.TheVariants.{Closing, Gone}
use Rattle.relay_event_loop.specs.Advances.{Links, IsNew, IsOfHouse, Sessions, sessions_in}
use Rattle.relay_event_loop.specs.Advances.{Advances, stays, turns, adds, removes, visits, sheds}
use Rattle.relay_event_loop.specs.Advances.{acts}
use Rattle.relay_event_loop.specs.Rounds.{OneEach, Connected}

-- the same sessions, but for one key's
abbrev with_session : ℕ → Option ℕ → Sessions → Sessions
with_session key mine sessions other = if key == other then mine else sessions other

-- nothing that `OneEach` speaks of changed
pub one_each_same : {hub next : State} {old new : Sessions}
    → ((t : ℕ) → index_of next t ≡ index_of hub t) → ((key : ℕ) → new key ≡ old key)
    → OneEach hub old → OneEach next new
one_each_same homes same each = record {
  opened = λ key s is. rw (homes s) (each.opened key s (sym (same key) ∙ is));
  once = λ key other s is also.
      each.once key other s (sym (same key) ∙ is) (sym (same other) ∙ also);
  all = λ s is. let found = each.all s (rw (homes s) at is) in (found.0, same found.0 ∙ found.1);
}

-- The places at which an event leaves the sessions.

in_room_homes : (index : ℕ) (o : Option (List ℕ
    × RoomSessions)) (old new : State) (answer : Answer) (Does : RoomSessions → RoomSessions
    → Type 0)
    → InRoom index o old answer Does new → (t : ℕ) → index_of new t ≡ index_of old t
in_room_homes index (Some home) old new answer Does step t = ap (λ hub. index_of hub t) step.2
in_room_homes index None old new answer Does step t = ap (λ hub. index_of hub t) step.1

at_index_homes : (o : Option ℕ) (old new : State) (answer : Answer) (Does : RoomSessions
    → RoomSessions → Type 0) → AtIndex o old answer Does new → (t : ℕ)
    → index_of new t ≡ index_of old t
at_index_homes (Some index) old new answer Does step t =
    in_room_homes index (slice_get old.rooms index) old new answer Does step t
at_index_homes None old new answer Does step t = ap (λ hub. index_of hub t) step.1

-- session s was closed, and no other
abbrev IsClosed : ℕ → State → State → Type 0
IsClosed s old new = (t : ℕ) → index_of new t ≡ (if s == t then None else index_of old t)

closed_in : (s index : ℕ) (name : List ℕ) (g : RoomSessions) (o : Option Session) (old new : State)
    (answer : Answer) → IsSome o → ClosesIn s index name g o old answer new → IsClosed s old new
closed_in s index name g (Some x) old new Closed is step = step.home
closed_in s index name g (Some x) old new answer is step = absurd step
closed_in s index name g None old new answer is step = absurd (cc is)

closed_home : (s : ℕ) (old new : State) (answer : Answer) (home : Home old s)
    → ClosesAt s (Some home.room.index) old answer new → IsClosed s old new
closed_home s old new answer home step =
    closed_in s home.room.index home.room.name home.room.room_sessions
    (session_in home.room.room_sessions.sessions s) old new answer (rw home.is refl)
    (rw home.room.there at step)

closed : (s : ℕ) (o : Option ℕ) (old new : State) (answer : Answer) → IsHub old
    → index_of old s ≡ o → IsSome o → ClosesAt s o old answer new → IsClosed s old new
closed s (Some index) old new answer is at some step =
    let home = is.homes s index at in
    let same : Some index ≡ Some home.room.index = sym at ∙ home.at in
    closed_home s old new answer home (subst (λ o. ClosesAt s o old answer new) same step)
closed s None old new answer is at some step = absurd (cc some)

-- No session's room changes by an event of the house.

will_homes : (wills : List Will) (old new : State) (answer : Answer) → DoesWill wills old answer new
    → (t : ℕ) → index_of new t ≡ index_of old t
will_homes [] old new NoWill step t = ap (λ hub. index_of hub t) step
will_homes [] old new answer step t = absurd step
will_homes (w ∷ wills) old new (WillDone short) step t =
    ap (λ hub. index_of hub t) step.1
    ∙ in_room_homes w.room_index (slice_get old.rooms w.room_index) old step.0 (WillDone short) _
    step.2 t
will_homes (w ∷ wills) old new answer step t = absurd step

forget_homes : (name : List ℕ) (old new : State) (answer : Answer)
    → Step old (Forget name) answer new
    → (t : ℕ) → index_of new t ≡ index_of old t
forget_homes name old new (Forgotten rev) step t = ap (λ hub. index_of hub t) step.1.0.begins
forget_homes name old new (NotForgotten fault) step t = ap (λ hub. index_of hub t) step.1
forget_homes name old new answer step t = absurd step

house_homes : (event : Event) (answer : Answer) (old new : State) → IsOfHouse event
    → Step old event answer new → (t : ℕ) → index_of new t ≡ index_of old t
house_homes DoWill answer old new of_house step = will_homes old.wills old new answer step
house_homes (Forget name) answer old new of_house step = forget_homes name old new answer step
house_homes event answer old new of_house step = absurd of_house

-- One link's event.

module _ (key : ℕ) (sessions : Sessions) where
  mine_there : (mine : Option ℕ) → with_session key mine sessions key ≡ mine
  mine_there mine =
      by_number (λ k b. (if b then mine else sessions k) ≡ mine) key key refl (λ apart.
      absurd (apart refl))

  away : (mine : Option ℕ) (k : ℕ) → key ≢ k → with_session key mine sessions k ≡ sessions k
  away mine k apart = elim (eqb_tells key k) [
    | inl same ↦ absurd (apart same.1)
    | inr other ↦ rw other.0 refl
  ]

  -- a session is the key's own, or another key's
  whose : (mine : Option ℕ) (k s : ℕ) → with_session key mine sessions k ≡ Some s
      → ((key ≡ k) × (mine ≡ Some s)) ⊎ ((key ≢ k) × (sessions k ≡ Some s))
  whose mine k s is = elim (eqb_tells key k) [
    | inl same ↦ inl (same.1, rw same.0 at is)
    | inr other ↦ inr (other.1, rw other.0 at is)
  ]

  -- a link without a session opened session n, which was not open before
  opens : (n index : ℕ) (old new : State) → index_of old n ≡ None
      → ((t : ℕ) → index_of new t ≡ (if n == t then Some index else index_of old t))
      → OneEach old (with_session key None sessions)
      → OneEach new (with_session key (Some n) sessions)
  opens n index old new fresh home each = record { opened = opened; once = once; all = all }
    where
      was_open : (k s : ℕ) → key ≢ k → sessions k ≡ Some s → IsSome (index_of old s)
      was_open k s apart is = each.opened k s (away None k apart ∙ is)

      -- session n is no other connection's
      never : (k s : ℕ) → key ≢ k → sessions k ≡ Some s → Some n ≡ Some s → ⊥
      never k s apart is same =
          let number : n ≡ s = cc same in
          let some : IsSome (index_of old n) =
          subst (λ t. IsSome (index_of old t)) (sym number) (was_open k s apart is) in
          cc (some, fresh)

      opened : (k s : ℕ) → with_session key (Some n) sessions k ≡ Some s → IsSome (index_of new s)
      opened k s is = elim (whose (Some n) k s is) [
        | inl mine ↦
            let number : n ≡ s = cc mine.1 in
            rw (home s) (by_number (λ t b. n ≡ t
            → IsSome (if b then Some index else index_of old t)) n s (λ same.
            refl) (λ apart same. absurd (apart same)) number)
        | inr other ↦ rw (home s) (by_number (λ t b. IsSome (index_of old t)
            → IsSome (if b then Some index else index_of old t)) n s (λ was.
            refl) (λ apart was. was) (was_open k s other.0 other.1))
      ]

      once : (k o s : ℕ) → with_session key (Some n) sessions k ≡ Some s
          → with_session key (Some n) sessions o ≡ Some s → k ≡ o
      once k o s is also = elim (whose (Some n) k s is) [
        | inl mine ↦ elim (whose (Some n) o s also) [
          | inl both ↦ sym mine.0 ∙ both.0
          | inr other ↦ absurd (never o s other.0 other.1 mine.1)
        ]
        | inr other ↦ elim (whose (Some n) o s also) [
          | inl mine ↦ absurd (never k s other.0 other.1 mine.1)
          | inr both ↦ each.once k o s (away None k other.0 ∙ other.1) (away None o both.0 ∙ both.1)
        ]
      ]

      all : (s : ℕ) → IsSome (index_of new s)
          → (k : ℕ) × (with_session key (Some n) sessions k ≡ Some s)
      all s some = elim (eqb_tells n s) [
        | inl same ↦ (key, mine_there (Some n) ∙ ap Some same.1)
        | inr other ↦
            let found = each.all s (rw (home s, other.0) at some) in
            elim (whose None found.0 s found.1) [
              | inl mine ↦ absurd (cc mine.1)
              | inr another ↦ (found.0, away (Some n) found.0 another.0 ∙ another.1)
            ]
      ]

  -- a link closed its session c
  closes : (c : ℕ) (old new : State) → IsClosed c old new
      → OneEach old (with_session key (Some c) sessions)
      → OneEach new (with_session key None sessions)
  closes c old new home each = record { opened = opened; once = once; all = all }
    where
      other_key : (k s : ℕ) → with_session key None sessions k ≡ Some s
          → (key ≢ k) × (sessions k ≡ Some s)
      other_key k s is = elim (whose None k s is) [
        | inl mine ↦ absurd (cc mine.1)
        | inr other ↦ other
      ]

      was : (k s : ℕ) → key ≢ k → sessions k ≡ Some s
          → with_session key (Some c) sessions k ≡ Some s
      was k s apart is = away (Some c) k apart ∙ is

      opened : (k s : ℕ) → with_session key None sessions k ≡ Some s → IsSome (index_of new s)
      opened k s is =
          let other = other_key k s is in
          elim (eqb_tells c s) [
            | inl same ↦ absurd (other.0
                (each.once key k s (mine_there (Some c)
                ∙ ap Some same.1) (was k s other.0 other.1)))
            | inr apart ↦ rw (home s, apart.0) (each.opened k s (was k s other.0 other.1))
          ]

      once : (k o s : ℕ) → with_session key None sessions k ≡ Some s
          → with_session key None sessions o ≡ Some s → k ≡ o
      once k o s is also =
          let one = other_key k s is in
          let two = other_key o s also in
          each.once k o s (was k s one.0 one.1) (was o s two.0 two.1)

      all : (s : ℕ) → IsSome (index_of new s)
          → (k : ℕ) × (with_session key None sessions k ≡ Some s)
      all s some = elim (eqb_tells c s) [
        | inl same ↦ let none : IsSome {T = ℕ} None = rw (home s, same.0) at some in
            absurd (cc none)
        | inr apart ↦
            let found = each.all s (rw (home s, apart.0) at some) in
            elim (whose (Some c) found.0 s found.1) [
              | inl mine ↦ absurd (apart.1 (cc mine.1))
              | inr other ↦ (found.0, away None found.0 other.0 ∙ other.1)
            ]
      ]

  one_event : (rooms : Rooms) (mine : Option ℕ) (event : Event) (answer : Answer) (old new : State)
      → IsHub old → IsOwn rooms mine event → Step old event answer new
      → OneEach old (with_session key mine sessions)
      → OneEach new (with_session key (session_after mine event answer) sessions)
  one_event rooms mine (Open name access) (Opened opening) old new is own step each =
      let o = step.1 in
      opens opening.session o.index old new (ap (λ t. index_of old t) o.number
      ∙ is.below old.next (omega arith)) o.home (subst (λ session.
      OneEach old (with_session key session sessions)) own.0 each)
  one_event rooms mine (Open name access) (NotOpened fault) old new is own step each =
      one_each_same (λ t. ap (λ hub. index_of hub t) step.1) (λ k. refl) each
  one_event rooms mine (Receive s text) answer old new is own step each =
      one_each_same (at_index_homes (index_of old s) old new answer _ step) (λ k. refl) each
  one_event rooms mine (Draw s) answer old new is own step each =
      one_each_same (at_index_homes (index_of old s) old new answer _ step) (λ k. refl) each
  one_event rooms mine (Close s) answer old new is own step each =
      let some = each.opened key s (mine_there mine ∙ own) in
      closes s old new (closed s (index_of old s) old new answer is refl some step)
      (subst (λ session. OneEach old (with_session key session sessions)) own each)
  one_event rooms mine (Open name access) answer old new is own step each = absurd step
  one_event rooms mine event answer old new is own step each = absurd own

  -- several events of a link
  one_link : {rooms : Rooms} {p q : Point} → Follows rooms p q → IsHub p.hub
      → OneEach p.hub (with_session key p.session sessions)
      → IsHub q.hub × OneEach q.hub (with_session key q.session sessions)
  one_link none is each = (is, each)
  one_link {rooms = rooms} (makes {q = q} {hub = hub} event answer before own step) is each =
      let was = one_link before is each in (
        step_is_hub q.hub hub event answer was.0 step,
        one_event rooms q.session event answer q.hub hub was.0 own step was.1,
      )

-- the same sessions at the next keys, before which there is a key without a session
abbrev with_guest : Sessions → Sessions
with_guest sessions zero = None
with_guest sessions (suc key) = sessions key

guest_comes : (hub : State) (sessions : Sessions) → OneEach hub sessions
    → OneEach hub (with_guest sessions)
guest_comes hub sessions each = record { opened = opened; once = once; all = all }
  where
    opened : (key s : ℕ) → with_guest sessions key ≡ Some s → IsSome (index_of hub s)
    opened zero s is = absurd (cc is)
    opened (suc key) s is = each.opened key s is

    once : (key other s : ℕ) → with_guest sessions key ≡ Some s
        → with_guest sessions other ≡ Some s → key ≡ other
    once zero other s is also = absurd (cc is)
    once (suc key) zero s is also = absurd (cc also)
    once (suc key) (suc other) s is also = ap suc (each.once key other s is also)

    all : (s : ℕ) → IsSome (index_of hub s) → (key : ℕ) × (with_guest sessions key ≡ Some s)
    all s some = let found = each.all s some in (suc found.0, found.1)

guest_leaves : (hub : State) (sessions : Sessions) → OneEach hub (with_guest sessions)
    → OneEach hub sessions
guest_leaves hub sessions each = record { opened = opened; once = once; all = all }
  where
    opened : (key s : ℕ) → sessions key ≡ Some s → IsSome (index_of hub s)
    opened key s is = each.opened (suc key) s is

    once : (key other s : ℕ) → sessions key ≡ Some s → sessions other ≡ Some s → key ≡ other
    once key other s is also = cc (each.once (suc key) (suc other) s is also)

    at_next : (key s : ℕ) → with_guest sessions key ≡ Some s → (k : ℕ) × (sessions k ≡ Some s)
    at_next zero s is = absurd (cc is)
    at_next (suc key) s is = (key, is)

    all : (s : ℕ) → IsSome (index_of hub s) → (key : ℕ) × (sessions key ≡ Some s)
    all s some = let found = each.all s some in at_next found.0 s found.1

-- a link's session changes, and no other
set_back : (key : ℕ) (mine : Option ℕ) (held new : Sessions) → new key ≡ mine
    → ((other : ℕ) → other ≢ key → new other ≡ held other) → (k : ℕ)
    → new k ≡ with_session key mine held k
set_back key mine held new has others k = elim (eqb_tells key k) [
  | inl same ↦ rw same.0 (sym (ap new same.1) ∙ has)
  | inr apart ↦ rw apart.0 (others k (λ same. apart.1 (sym same)))
]

new_none : {S : Type 0} (link : Link S) → IsNew link → session_of link ≡ None
new_none (Head stream bytes) fresh = refl
new_none (Replying stream reply) fresh = absurd fresh
new_none (Opening socket s) fresh = absurd fresh
new_none (Closing socket left) fresh = absurd fresh
new_none Gone fresh = absurd fresh

-- the sessions are the same if no other key has another link, and this key's has the same session
kept_sessions : {S : Type 0} (held new : Links S) (key : ℕ)
    → sessions_in new key ≡ sessions_in held key
    → ((other : ℕ) → other ≢ key → new other ≡ held other)
    → (k : ℕ) → sessions_in new k ≡ sessions_in held k
kept_sessions held new key same others k = elim (eqb_tells k key) [
  | inl here ↦ subst (λ k. sessions_in new k ≡ sessions_in held k) (sym here.1) same
  | inr apart ↦ ap (option_and_then session_of) (others k apart.1)
]

-- a session that no link has was opened and closed
one_guest : (sessions : Sessions) {rooms : Rooms} {p q : Point} → Follows rooms p q
    → p.session ≡ None → q.session ≡ None → IsHub p.hub → OneEach p.hub sessions
    → IsHub q.hub × OneEach q.hub sessions
one_guest sessions {p = p} {q = q} follows bare gone is each =
    let none : (mine : Option ℕ) → mine ≡ None → (k : ℕ)
    → with_guest sessions k ≡ with_session 0 mine (with_guest sessions) k =
    λ mine same k.
    set_back 0 mine (with_guest sessions) (with_guest sessions) (sym same) (λ other apart. refl) k
    in
    let came = guest_comes p.hub sessions each in
    let before = one_each_same (λ t. refl) (λ k. sym (none p.session bare k)) came in
    let done = one_link 0 (with_guest sessions) follows is before in
    let after = one_each_same (λ t. refl) (none q.session gone) done.1 in
    (done.0, guest_leaves q.hub sessions after)

module _ {S : Type 0} {remaining contents : S → Option (List ℕ)} where
  advance_each : {hub next : State} {old new : Links S}
      → Advances remaining contents hub old next new → IsHub hub → OneEach hub (sessions_in old)
      → IsHub next × OneEach next (sessions_in new)
  advance_each (stays same) is each =
      (is, one_each_same (λ t. refl) (λ k. ap (option_and_then session_of) (same k)) each)
  advance_each (turns {held = held} {new = new} {was = was} {is = now} before key events had has
      others follows received passes sends) is each =
      let earlier = advance_each before is each in
      let mine = one_each_same (λ t. refl) (λ k.
      sym (set_back key (session_of was) (sessions_in held) (sessions_in held)
      (ap (option_and_then session_of) had) (λ other apart. refl) k)) earlier.1 in
      let done = one_link key (sessions_in held) follows earlier.0 mine in (
        done.0,
        one_each_same (λ t.
            refl) (set_back key (session_of now) (sessions_in held) (sessions_in new)
            (ap (option_and_then session_of) has) (λ other apart.
            ap (option_and_then session_of) (others other apart))) done.1,
      )
  advance_each (adds {held = held} {new = new} {is = now} before key had has others fresh) is each =
      let earlier = advance_each before is each in
      let same = ap (option_and_then session_of) has ∙ new_none now fresh
      ∙ sym (ap (option_and_then session_of) had) in
      (earlier.0, one_each_same (λ t. refl) (kept_sessions held new key same others) earlier.1)
  advance_each (removes {held = held} {new = new} {was = was} before key had has others bare) is
      each =
      let earlier = advance_each before is each in
      let same = ap (option_and_then session_of) has ∙ sym bare
      ∙ sym (ap (option_and_then session_of) had) in
      (earlier.0, one_each_same (λ t. refl) (kept_sessions held new key same others) earlier.1)
  advance_each (visits {new = new} before room access text visit made) is each =
      let earlier = advance_each before is each in
      one_guest (sessions_in new) made.opens.follows refl refl earlier.0 earlier.1
  advance_each (sheds {mid = mid} before) is each =
      let earlier = advance_each before is each in
      (shed_is_hub mid earlier.0, one_each_same (λ t. refl) (λ k. refl) earlier.1)
  advance_each (acts {mid = mid} {next = next} before event answer of_house step) is each =
      let earlier = advance_each before is each in
      let same = house_homes event answer mid next of_house step in
      (step_is_hub mid next event answer earlier.0 step, one_each_same same (λ k. refl) earlier.1)

  pub connected_after : {hub next : State} {old new : Links S}
      → Advances remaining contents hub old next new → Connected hub (sessions_in old)
      → Connected next (sessions_in new)
  connected_after advances was = advance_each advances was.0 was.1

-- a hub without open sessions, and no connection with one
pub none_connected : (hub : State) (sessions : Sessions) → IsHub hub → hub.homes ≡ []
    → ((key : ℕ) → sessions key ≡ None) → Connected hub sessions
none_connected hub sessions is empty bare = (
  is,
  record {
    opened = λ key s is. absurd (let none = bare key in cc (is, none));
    once = λ key other s is also. absurd (let none = bare key in cc (is, none));
    all = λ s some. absurd (cc (subst (λ homes. IsSome (lookup (nat_eq s) homes)) empty some));
  },
)
