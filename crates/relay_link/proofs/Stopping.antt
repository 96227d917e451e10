-- The causes for which draws stop.
use Rattle.std.proofs.Common.{◌≡◌, ◌+◌, ◌≤◌, ◌==◌, ℕ, true, List, [], ◌∷◌, ◌++◌, Option, Some, None}
use Rattle.std.proofs.Common.{option_map, slice_get, nat_eq, Result, Ok, Err, IfOk, OnOk, refl, ap}
use Rattle.std.proofs.Common.{◌∙◌, arith}
use Rattle.std.proofs.lemmas.Bool.Decides.{nat_tests}
use Rattle.std.proofs.lemmas.List.Sums.{sum_by-append}
use Rattle.std.specs.Map.{lookup}
use Rattle.tungstenite.specs.Socket.{Socket}
use Rattle.relay_hub.specs.Session.{Session, front_message, message_text, drawn, waiting}
use Rattle.relay_hub.specs.State.{State as Hub, RoomSessions, session_in, session_of}
use Rattle.relay_hub.specs.Step.{Draws, with_room, InRoom, Step}
use Rattle.relay_hub.specs.declared.event.Answer.TheVariants.{Drawn, NoSession}
use Rattle.relay_hub.specs.declared.event.Event.{Event}
use Rattle.relay_hub.specs.declared.event.Event.TheVariants.{Draw}
use Rattle.relay_hub.proofs.Cases.{by_finding}
use Rattle.relay_hub.proofs.Lists.{slice_get-set}
use Rattle.relay_link.specs.Adds.{draws}
use Rattle.relay_link.specs.Ends.{settled}
use Rattle.relay_link.specs.Follows.{Point, Rooms, Follows, stays, makes}
use Rattle.relay_link.specs.Stops.{NothingWaits, Stops, StopsIn}
use Rattle.relay_link.specs.declared.corked_writer.CorkedWriter.{CorkedWriter}
use Rattle.relay_link.specs.declared.draw_stop.DrawStop.{DrawStop}
use Rattle.relay_link.specs.declared.draw_stop.DrawStop.TheVariants.{Empty, Limit, Pending, Memory}
use Rattle.relay_link.specs.declared.opened.Ending.{Ending}
use Rattle.relay_link.specs.declared.opened.Ending.TheVariants as ending
use Rattle.relay_link.specs.declared.state.State.TheVariants.{Open}
use Rattle.relay_link.specs.declared.transition.Transition.{Transition}

-- ---- a draw that gave no text

by_list : {X : Type 0} (P : Type 0) (xs : List X) → (xs ≡ [] → P)
    → ((y : X) (ys : List X) → xs ≡ y ∷ ys → P) → P
by_list P [] none some = none refl
by_list P (y ∷ ys) none some = some y ys refl

-- nothing was at the front of the session, so nothing waits once the front was taken
emptied : (g : RoomSessions) (x : Session)
    → None ≡ option_map message_text (front_message g.room x) → waiting (drawn x) ≡ 0
emptied g x none =
    by_list (waiting (drawn x) ≡ 0) x.outbox.replies
    (λ no_reply.
    by_list (waiting (drawn x) ≡ 0) x.outbox.patches
    (λ no_patch. rw (no_reply, no_patch) refl)
    (λ p ps is. absurd (cc (rw (no_reply, is) at none))))
    (λ r rs is. absurd (cc (rw is at none)))

-- a session in its room, of which what is stored changed
session_at : (hub : Hub) (s index : ℕ) (home : List ℕ × RoomSessions) (g : RoomSessions)
    → lookup (nat_eq s) hub.homes ≡ Some index → slice_get hub.rooms index ≡ Some home
    → session_of (with_room index home.0 g hub) s ≡ session_in g.sessions s
session_at hub s index home g at there =
    rw (at, slice_get-set hub.rooms index home (home.0, g) there) refl

module _ (old new : Hub) (s : ℕ) where
  in_room : (index : ℕ) (home : List ℕ × RoomSessions) (g : RoomSessions) (o : Option Session)
      → lookup (nat_eq s) old.homes ≡ Some index → slice_get old.rooms index ≡ Some home
      → session_in home.1.sessions s ≡ o → Draws s o (Drawn None) home.1 g
      → new ≡ with_room index home.0 g old → NothingWaits new s
  in_room index home g (Some x) at there is (none, changes, reads) same =
      let one : (s == s) ≡ true = grind (arith, nat_tests) in
      let found = session_at old s index home g at there in
      rw (same, found, changes.1.found s, one) (emptied home.1 x none)
  in_room index home g None at there is does same = absurd does

  at_home : (index : ℕ) (home : Option (List ℕ × RoomSessions))
      → lookup (nat_eq s) old.homes ≡ Some index → slice_get old.rooms index ≡ home
      → InRoom index home old (Drawn None)
      (λ g h. Draws s (session_in g.sessions s) (Drawn None) g h) new → NothingWaits new s
  at_home index (Some home) at there (g, does, same) =
      in_room index home g (session_in home.1.sessions s) at there refl does same
  at_home index None at there (e, same) = absurd (cc e)

  pub nothing_left : Step old (Draw s) (Drawn None) new → NothingWaits new s
  nothing_left step =
      by_finding (NothingWaits new s) (lookup (nat_eq s) old.homes)
      (λ none. absurd (cc (rw none at step).0))
      (λ index at. at_home index (slice_get old.rooms index) at refl (rw at at step))

  -- ---- the same of a session that is not open

  not_in_room : (index : ℕ) (home : List ℕ × RoomSessions) (g : RoomSessions) (o : Option Session)
      → lookup (nat_eq s) old.homes ≡ Some index → slice_get old.rooms index ≡ Some home
      → session_in home.1.sessions s ≡ o → Draws s o NoSession home.1 g
      → new ≡ with_room index home.0 g old → NothingWaits new s
  not_in_room index home g None at there is does same =
      let found = session_at old s index home g at there in
      rw (same, found, does, is) tt
  not_in_room index home g (Some x) at there is does same = absurd does

  not_at_home : (index : ℕ) (home : Option (List ℕ × RoomSessions))
      → lookup (nat_eq s) old.homes ≡ Some index → slice_get old.rooms index ≡ home
      → InRoom index home old NoSession
      (λ g h. Draws s (session_in g.sessions s) NoSession g h) new → NothingWaits new s
  not_at_home index (Some home) at there (g, does, same) =
      not_in_room index home g (session_in home.1.sessions s) at there refl does same
  not_at_home index None at there (e, same) = rw (same, at, there) tt

  pub nobody_left : Step old (Draw s) NoSession new → NothingWaits new s
  nobody_left step =
      by_finding (NothingWaits new s) (lookup (nat_eq s) old.homes)
      (λ none. rw ((rw none at step).1, none) tt)
      (λ index at. not_at_home index (slice_get old.rooms index) at refl (rw at at step))

-- ---- how many draws were made

-- one more
pub draws_one : (before after : List Event) (s : ℕ) → after ≡ before ++ Draw s ∷ []
    → draws after ≡ draws before + 1
draws_one before after s m = ap draws m ∙ sum_by-append _ before (Draw s ∷ [])

-- never fewer
pub draws_grow : {rooms : Rooms} {p q : Point} → Follows rooms p q
    → draws p.events ≤ draws q.events
draws_grow stays = omega arith
draws_grow (makes {q = q} event answer before own step) =
    let earlier = draws_grow before in
    let more : draws (q.events ++ event ∷ []) ≡ draws q.events + draws (event ∷ []) =
    sum_by-append _ q.events (event ∷ []) in
    omega (arith, earlier, more)

module _ {S : Type 0} where
  -- ---- a turn

  -- events before them that draw nothing change nothing of why draws stopped
  pub stops_after : (stop : DrawStop) (most s : ℕ) (hub : Hub) (before mid after : List Event)
      (socket : Socket (CorkedWriter S)) → draws before ≤ draws mid
      → draws mid ≤ draws before + 0 → Stops stop most s hub mid after socket
      → Stops stop most s hub before after socket
  stops_after Limit most s hub before mid after socket grown few made =
      omega (arith, grown, few, made)
  stops_after Empty most s hub before mid after socket grown few nothing = nothing
  stops_after Pending most s hub before mid after socket grown few blocked = blocked
  stops_after Memory most s hub before mid after socket grown few something = something

  -- what was framed is sent, unless the draws stopped for the socket
  pub stops_sent : (stop : DrawStop) (most s : ℕ) (hub : Hub) (before after : List Event)
      (a b : Socket (CorkedWriter S)) → (stop ≡ Pending → ⊥)
      → Stops stop most s hub before after a → Stops stop most s hub before after b
  stops_sent Pending most s hub before after a b other blocked = absurd (other refl)
  stops_sent Empty most s hub before after a b other nothing = nothing
  stops_sent Limit most s hub before after a b other made = made
  stops_sent Memory most s hub before after a b other something = something

  -- the link after the turn
  pub stops_into : (turned : Result DrawStop Ending) (most s : ℕ) (hub next : Hub)
      (before mid after : List Event) (b : Socket (CorkedWriter S)) (result : Transition S)
      → IfOk turned (λ stop. Stops stop most s hub before mid b)
      → OnOk turned ((result.state ≡ Open b s) × (next ≡ hub) × (after ≡ mid))
      → result ≡ settled turned b s → StopsIn result.state result.stop most next before after
  stops_into (Ok stop) most s hub next before mid after b result stops stayed is =
      rw (is, stayed.1, stayed.2) stops
  stops_into (Err (ending.Closing cause)) most s hub next before mid after b result stops stayed
      is = rw is refl
  stops_into (Err (ending.Gone cause)) most s hub next before mid after b result stops stayed is =
      rw is refl
