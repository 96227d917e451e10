-- Rooms of a hub that begin behind the others, one after another.
use Rattle.std.proofs.Common.{◌≡◌, ◌∙◌, ◌==◌, ℕ, true, false, Bool, List}
use Rattle.std.proofs.Common.{[], ◌∷◌, ◌++◌, length, append-nil, Some, None}
use Rattle.std.proofs.Common.{slice_get, slice_set, nat_le, arith}
use Rattle.std.proofs.Common.{ap, subst, sym, refl, if◌then◌else◌}
use Rattle.std.proofs.lemmas.Bool.Decides.{nat_tests}
use Rattle.relay_access.specs.declared.access.Access.{Access}
use Rattle.relay_hub.specs.Session.{Session, newcomer}
use Rattle.relay_hub.specs.State.{RoomSessions, room_sessions, State, index_named, index_of}
use Rattle.relay_hub.specs.State.{session_in, vacant_in, floor_at}
use Rattle.relay_hub.specs.Step.{BeginsAnew, Closes, ClosesAt, ClosesIn, ClosesInRoom}
use Rattle.relay_hub.specs.Step.{EntersRooms, Founds, Opens, floor_after}
use Rattle.relay_hub.specs.declared.event.Answer.{Answer}
use Rattle.relay_hub.specs.declared.event.Answer.TheVariants.{Closed}
use Rattle.relay_hub.specs.declared.event.Opening.{Opening}
use Rattle.relay_hub.proofs.Lists.{slice_get-last}
use Rattle.relay_hub.proofs.Rooms.{named_last}
use Rattle.relay_room.specs.Room.{State as Room, begun}
use Rattle.relay_tree.specs.Document.{Document, null}
use Rattle.relay_keeping.specs.Begun.{AddsRoom, HasPlace}

slice_set-last : {X : Type 0} (xs : List X) (old new : X)
    → slice_set (xs ++ old ∷ []) (length xs) new ≡ xs ++ new ∷ []
slice_set-last [] old new = refl
slice_set-last (x ∷ xs) old new = ap (λ ys. x ∷ ys) (slice_set-last xs old new)

same_number : (s : ℕ) → (s == s) ≡ true
same_number s = grind (arith, nat_tests)

nobody : (xs : List Session) → ((t : ℕ) → session_in xs t ≡ None) → xs ≡ []
nobody [] none = refl
nobody (x ∷ xs) none =
    let no : (if x.number == x.number then Some x else session_in xs x.number) ≡ None =
    none x.number in
    absurd (cc (rw same_number at no))

-- A session that opens a room and is closed.

module _ (old mid new : State) (name : List ℕ) (access : Access) (o : Opening) (closed : Answer)
    (place : HasPlace name old) (opens : Opens old name access o mid)
    (closes : ClosesAt o.session (index_of mid o.session) mid closed new) where
  none_vacant : vacant_in old ≡ None
  none_vacant =
      let fits : nat_le old.config.rooms (length old.rooms) ≡ false =
      grind (arith, nat_tests, place.space) in
      rw (place.wills, fits) refl

  abbrev comes : Session
  comes = newcomer old.config access mid.floor o.session

  abbrev one : RoomSessions
  one = room_sessions (begun null mid.floor old.config.history) (comes ∷ [])

  entered : (o.rev ≡ mid.floor) × Founds None (name, one) old.rooms opens.index mid.rooms
  entered =
      subst (λ vacant.
      (o.rev ≡ mid.floor) × Founds vacant (name, one) old.rooms opens.index mid.rooms)
      none_vacant (subst (λ at. EntersRooms o (λ rev. newcomer old.config access rev o.session)
      (vacant_in old) old.config.history mid.floor name at old.rooms opens.index mid.rooms)
      place.absent opens.enters)

  floor_stays : mid.floor ≡ old.floor
  floor_stays = opens.floor ∙ ap (λ at. floor_after at old) place.absent
      ∙ ap (λ vacant. floor_at vacant old) none_vacant

  at : index_of mid o.session ≡ Some opens.index
  at = opens.home o.session
      ∙ ap (λ b. if b then Some opens.index else index_of old o.session) (same_number o.session)

  there : slice_get mid.rooms opens.index ≡ Some (name, one)
  there = ap (λ rooms. slice_get rooms opens.index) entered.1.1
      ∙ ap (slice_get (old.rooms ++ (name, one) ∷ [])) entered.1.0
      ∙ slice_get-last old.rooms (name, one)

  is : session_in one.sessions o.session ≡ Some comes
  is = ap (λ b. if b then Some comes else None) (same_number o.session)

  closing : Closes o.session opens.index name one comes mid new
  closing = left closed (subst (λ x. ClosesIn o.session opens.index name one x mid closed new) is
      (subst (λ room. ClosesInRoom o.session opens.index room mid closed new) there
      (subst (λ at. ClosesAt o.session at mid closed new) at closes)))
    where
      left : (closed : Answer)
          → ClosesIn o.session opens.index name one (Some comes) mid closed new
          → Closes o.session opens.index name one comes mid new
      left Closed does = does
      left _ does = absurd does

  emptied : closing.left ≡ room_sessions (begun null o.rev old.config.history) []
  emptied =
      let gone = nobody closing.left.sessions (λ t. closing.leaves.1.found t ∙ none t) in
      let same = closing.leaves.0
      ∙ ap (λ rev. begun null rev old.config.history) (sym entered.0) in
      λ i. room_sessions (same i) (gone i)
    where
      none : (t : ℕ) → (if o.session == t then None else session_in one.sessions t) ≡ None
      none t = go (o.session == t)
        where
          go : (b : Bool) → (if b then None else if b then Some comes else None) ≡ None
          go true = refl
          go false = refl

  pub opened_and_closed : AddsRoom name (begun null o.rev old.config.history) old new
  opened_and_closed = record {
    rooms = closing.rooms
        ∙ ap (λ rooms. slice_set rooms opens.index (name, closing.left)) entered.1.1
        ∙ ap (λ i. slice_set (old.rooms ++ (name, one) ∷ []) i (name, closing.left)) entered.1.0
        ∙ slice_set-last old.rooms (name, one) (name, closing.left)
        ∙ ap (λ g. old.rooms ++ (name, g) ∷ []) emptied;
    config = closing.config ∙ opens.config;
    floor = closing.floor ∙ floor_stays;
    wills = closing.wills ∙ append-nil mid.wills ∙ opens.wills;
  }

-- the last room begins anew
pub begun_anew : (old mid new : State) (name : List ℕ) (first : Room) (rev : ℕ) (d : Document)
    → HasPlace name old → AddsRoom name first old mid → BeginsAnew mid name rev d new
    → AddsRoom name (begun d rev old.config.history) old new
begun_anew old mid new name first rev d place added anew =
    let was = room_sessions first [] in
    let now = room_sessions (begun d rev mid.config.history) [] in
    let found = ap (index_named name) added.rooms ∙ named_last old.rooms name was place.absent in
    let both : Some anew.index ≡ Some (length old.rooms) = sym anew.named ∙ found in
    let last : anew.index ≡ length old.rooms = cc in
    record {
      rooms = ap (λ (hub : State). hub.rooms) anew.begins
          ∙ ap (λ rooms. slice_set rooms anew.index (name, now)) added.rooms
          ∙ ap (λ i. slice_set (old.rooms ++ (name, was) ∷ []) i (name, now)) last
          ∙ slice_set-last old.rooms (name, was) (name, now)
          ∙ ap (λ (b : ℕ). old.rooms ++ (name, room_sessions (begun d rev b) []) ∷ [])
          (ap (λ c. c.history) added.config);
      config = ap (λ (hub : State). hub.config) anew.begins ∙ added.config;
      floor = ap (λ (hub : State). hub.floor) anew.begins ∙ added.floor;
      wills = ap (λ (hub : State). hub.wills) anew.begins ∙ added.wills;
    }
