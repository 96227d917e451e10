-- The effect of one request.
use Rattle.std.proofs.Common.{◌≡◌, ℕ, ◌<◌, true, List, Some, Result, position, nat_le, refl, sym}
use Rattle.std.proofs.Common.{◌∙◌, subst, arith}
use Rattle.std.proofs.lemmas.Bool.Decides.{nat_tests}
use Rattle.relay_view.specs.View.{View}
use Rattle.relay_proto.specs.Request.{request_of_text}
use Rattle.relay_access.specs.declared.access.Access.{Access}
use Rattle.relay_proto.specs.declared.refusal.Refusal.{Refusal}
use Rattle.relay_proto.specs.declared.request.Request.{Request}
use Rattle.relay_room.specs.CatchUp.{caught_up_within, LeadsOn, Fits}
use Rattle.relay_room.specs.Room.{State as Room, revision}
use Rattle.relay_room.specs.declared.catch_up.CatchUp.{CatchUp}
use Rattle.relay_room.specs.declared.catch_up.CatchUp.TheVariants.{Nothing}
use Rattle.relay_tree.specs.declared.budget.Budget.{Budget}
use Rattle.relay_hub.proofs.Sessions.{session_there}
use Rattle.relay_hub.specs.Admitted.{admitted}
use Rattle.relay_hub.specs.Call.{HasSpace}
use Rattle.relay_hub.specs.Session.{Session, resumes}
use Rattle.relay_hub.specs.State.{RoomSessions, room_sessions, is_number, session_in}
use Rattle.relay_hub.specs.Step.{OnlyAt, ResumeServed, Serves, Receives}
use Rattle.relay_hub.specs.declared.config.HubConfig.{HubConfig}
use Rattle.relay_hub.specs.declared.event.Answer.TheVariants.{Heard}
use Rattle.relay_hub.specs.declared.event.Heard.TheVariants.{Answered}

-- a text of a session that is there, and in whose outbox a reply fits, is answered
pub answered : (config : HubConfig) (s i short : ℕ) (text : List ℕ) (asked : Result Request Refusal)
    (old new : RoomSessions) →
    position (is_number s) old.sessions ≡ Some i → HasSpace old.sessions s →
    ((x : Session) → session_in old.sessions s ≡ Some x
    → (admitted config.view_weight x.access (request_of_text text) ≡ asked)
    × Serves config s x asked short old new) →
    Receives config s (session_in old.sessions s) text (Heard (Answered short)) old new
answered config s i short text asked old new at space serves =
    let there = session_there old.sessions s i at in
    let served = serves there.0 there.1 in
    rw (there.1, served.0) (space there.0 there.1, served.1)

-- what is admitted of a session's text depends on what it may do
pub admitted_of : (xs : List Session) (s : ℕ) (x : Session) (budget : Budget) (access : Access)
    (sent asked : Result Request Refusal) → session_in xs s ≡ Some x → access ≡ x.access
    → admitted budget access sent ≡ asked → (y : Session) → session_in xs s ≡ Some y
    → admitted budget y.access sent ≡ asked
admitted_of xs s x budget access sent asked at may is y there =
    let both : Some x ≡ Some y = sym at ∙ there in
    let same : x ≡ y = cc in
    subst (λ (z : Session). admitted budget z.access sent ≡ asked) same (rw may at is)

-- a session that resumes watches the view that it names
pub resumes-view : (rev id : ℕ) (pointers : View) (how : CatchUp) (x : Session)
    → (resumes rev id pointers how x).view ≡ Some pointers
resumes-view rev id pointers Nothing x = refl
resumes-view rev id pointers _ x = refl

-- a session resumes from a revision that exists
pub resume_served : (room : Room) (s id rev : ℕ) (pointers : View) (how : CatchUp) (x : Session)
    (xs ys : List Session) →
    (revision room < rev → ⊥) → how ≡ caught_up_within x.budget room rev pointers
    → LeadsOn room rev pointers how → Fits how →
    OnlyAt s (Some (resumes (revision room) id pointers how x)) xs ys →
    ResumeServed true (nat_le rev (revision room)) id rev pointers s x (room_sessions room xs)
    (room_sessions room ys)
resume_served room s id rev pointers how x xs ys past is leads fits only =
    let test : nat_le rev (revision room) ≡ true = grind (arith, nat_tests, past) in
    rw (test, ← is) (leads, fits, (refl, only))
