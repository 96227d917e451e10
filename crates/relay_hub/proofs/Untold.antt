-- The sessions that a text left as they were.
use Rattle.std.proofs.Common.{◌≡◌, ℕ, Bool, true, false, List, Some, refl, ◌∙◌}
use Rattle.relay_room.specs.CatchUp.{caught_up_within}
use Rattle.relay_room.specs.Room.{revision}
use Rattle.relay_room.specs.declared.catch_up.CatchUp.TheVariants.{Snapshot}
use Rattle.relay_view.specs.View.{View}
use Rattle.relay_hub.specs.Call.{ChangesBy}
use Rattle.relay_hub.specs.Refusal.{refused, future_refusal}
use Rattle.relay_hub.specs.Session.{Session, replied, resumes}
use Rattle.relay_hub.specs.State.{RoomSessions, session_in}
use Rattle.relay_hub.specs.Step.{OnlyAt, ResumeServed}
use Rattle.relay_hub.specs.Told.{ChangesToldAnd}
use Rattle.relay_hub.specs.declared.told.Told.{Told}

-- a session changed alone
pub only_told : (s : ℕ) (told : Told) (xs ys : List Session) (x : Session)
    → OnlyAt s (Some x) xs ys → ChangesToldAnd s told xs ys
only_told s told xs ys x only t other absent = only.found t ∙ rw other refl

pub changed_told : (s : ℕ) (told : Told) (f : Session
    → Session) (xs ys : List Session) (x : Session) → session_in xs s ≡ Some x
    → ChangesBy s f xs ys → ChangesToldAnd s told xs ys
changed_told s told f xs ys x there changed = only_told s told xs ys (f x) (changed x there)

pub resumed_told : (current past : Bool) (id rev : ℕ) (pointers : View) (s : ℕ) (x : Session)
    (old new : RoomSessions) (told : Told) → ResumeServed current past id rev pointers s x old new
    → ChangesToldAnd s told old.sessions new.sessions
resumed_told false past id rev pointers s x old new told h =
    only_told s told old.sessions new.sessions (resumes (revision old.room) id pointers Snapshot x)
    h.1
resumed_told true false id rev pointers s x old new told h =
    only_told s told old.sessions new.sessions (replied (refused (future_refusal id)) x) h.1
resumed_told true true id rev pointers s x old new told h =
    only_told s told old.sessions new.sessions
    (resumes (revision old.room) id pointers (caught_up_within x.budget old.room rev pointers)
    x) h.2.1
