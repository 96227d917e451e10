-- The text that a room keeps of a snapshot stays that of its present one.
use Rattle.std.proofs.Common.{◌≡◌, ℕ, Bool, true, false, ap, Option, Some, Result, Ok, Err, IfOk}
use Rattle.std.proofs.Common.{OnErr, List, ◌==◌, nat_le, sym, subst, position}
use Rattle.std.specs.declared.alloc.AllocError.{AllocError}
use Rattle.relay_proto.specs.declared.refusal.Refusal.{Refusal}
use Rattle.relay_proto.specs.declared.request.Request.{Request}
use Rattle.relay_proto.specs.declared.request.Request.TheVariants.{Edit, Will, Watch, Resume}
use Rattle.relay_proto.specs.declared.request.Request.TheVariants.{Unwatch}
use Rattle.relay_room.specs.Room.{State as Room, revision}
use Rattle.relay_view.specs.View.{View}
use Rattle.relay_hub.specs.Session.{Session}
use Rattle.relay_hub.specs.SnapshotText.{IsSnapshotText, kept_over}
use Rattle.relay_hub.specs.State.{RoomSessions, room_sessions, is_number, session_in}
use Rattle.relay_hub.specs.Step.{ResumeServed, Serves}
use Rattle.relay_hub.specs.declared.config.HubConfig.{HubConfig}
use Rattle.relay_hub.proofs.Sessions.{session_there}

-- a room that stays keeps its text
same_room : (old new : Room) (kept : Option (View × List ℕ)) → new ≡ old
    → IsSnapshotText old kept → IsSnapshotText new kept
same_room old new kept same is = subst (λ room. IsSnapshotText room kept) (sym same) is

-- a resume leaves the room as it was
resumes_in : (here past : Bool) (id rev s : ℕ) (pointers : View) (x : Session)
    (old new : RoomSessions) → ResumeServed here past id rev pointers s x old new
    → new.room ≡ old.room
resumes_in false past id rev s pointers x old new h = h.0
resumes_in true false id rev s pointers x old new h = h.0
resumes_in true true id rev s pointers x old new h = h.2.0

-- a request that is served leaves the text of the room's present snapshot, or none
served : (config : HubConfig) (s : ℕ) (x : Session) (request : Result Request Refusal) (short : ℕ)
    (old new : RoomSessions) (kept : Option (View × List ℕ))
    → Serves config s x request short old new → IsSnapshotText old.room kept
    → IsSnapshotText new.room (kept_over request kept)
served config s x (Ok (Edit id base patch)) short old new kept h is = tt
served config s x (Ok (Resume id e rev pointers)) short old new kept h is =
    same_room old.room new.room kept
    (resumes_in (e == config.epoch) (nat_le rev (revision old.room)) id rev s pointers x old new
    h.1) is
served config s x (Ok (Watch id pointers)) short old new kept h is =
    same_room old.room new.room kept h.1.0 is
served config s x (Ok (Unwatch id)) short old new kept h is =
    same_room old.room new.room kept h.1.0 is
served config s x (Ok (Will id patch)) short old new kept h is =
    same_room old.room new.room kept h.1.0 is
served config s x (Err refusal) short old new kept h is =
    same_room old.room new.room kept h.1.0 is

-- the same of a request that is answered, or for which there was no memory
pub text_stays : (config : HubConfig) (s i : ℕ) (request : Result Request Refusal)
    (room next : Room) (xs ys : List Session) (kept after : Option (View × List ℕ))
    (result : Result ℕ AllocError) → position (is_number s) xs ≡ Some i
    → IfOk result (λ short. (x : Session) → session_in xs s ≡ Some x
    → Serves config s x request short (room_sessions room xs) (room_sessions next ys))
    → OnErr result (room_sessions next ys ≡ room_sessions room xs)
    → after ≡ kept_over request kept → IsSnapshotText room kept → IsSnapshotText next after
text_stays config s i request room next xs ys kept after (Ok short) at ok err same is =
    let there = session_there xs s i at in
    rw same
    (served config s there.0 request short (room_sessions room xs) (room_sessions next ys) kept
    (ok there.0 there.1) is)
text_stays config s i request room next xs ys kept after (Err e) at ok err same is =
    rw same
    (unserved request
    (same_room room next kept (ap (λ (g : RoomSessions). g.room) err) is))
  where
    unserved : (request : Result Request Refusal) → IsSnapshotText next kept
        → IsSnapshotText next (kept_over request kept)
    unserved (Ok (Edit id base patch)) h = tt
    unserved (Ok (Resume id e rev pointers)) h = h
    unserved (Ok (Watch id pointers)) h = h
    unserved (Ok (Unwatch id)) h = h
    unserved (Ok (Will id patch)) h = h
    unserved (Err refusal) h = h
