-- The texts that a turn of a link brings to the client of its session.
use Rattle.std.specs.Prelude.{◌≡◌, ◌≢◌, ◌⊎◌, ⊤, ℕ, List, [], Option, None, Some, Ok, slice_get}
use Rattle.std.specs.Prelude.{IsUtf8}
use Rattle.std.specs.List.{AllByRecursion}
use Rattle.relay_delivery.specs.Texts.{told_all}
use Rattle.relay_hub.specs.Log.{Log, Stay, Watching, home, documents, watching}
use Rattle.relay_hub.specs.Session.{Session, later}
use Rattle.relay_hub.specs.Stands.{StandsFor, HoldsPresent}
use Rattle.relay_hub.specs.State.{State, RoomSessions, home_of, session_in}
use Rattle.relay_hub.specs.declared.config.HubConfig.{HubConfig}
use Rattle.relay_hub.specs.declared.event.Event.{Event}
use Rattle.relay_hub.specs.declared.event.Event.TheVariants.{Receive, Draw}
use Rattle.relay_link.specs.Follows.{Point, at, no_opening, Follows, stays, makes, with_events}
use Rattle.relay_link.specs.Follows.{drawn}
use Rattle.relay_link.specs.Frames.{text_frames}
use Rattle.relay_proto.specs.Client.{Client, nothing, holds, client_after}
use Rattle.relay_proto.specs.Request.{request_of_text}
use Rattle.relay_proto.specs.declared.request.Request.TheVariants.{Resume}
use Rattle.relay_tree.specs.Document.{Document}
use Rattle.relay_view.specs.View.{View, view}

-- An open link of session s made these events in a turn, and framed these bytes: the frames of the
-- texts that the events drew, each in UTF-8.
pub record FramedTurn (s : ℕ) (hub next : State) (events : List Event)
    (frames : List ℕ) : Type 0 where
  pub after : ℕ
  pub follows : Follows no_opening (at hub (Some s) []) (at next (Some after) events)
  pub utf8 : AllByRecursion IsUtf8 (drawn follows)
  pub frames_are : frames ≡ text_frames (drawn follows)

-- The state of a session's client, if the session watches: what the messages drawn for it make of
-- what it held at the start of the watch. A watch that starts from nothing begins with a snapshot,
-- and until that comes the client may still hold what it held before.
abbrev pub Tracks : Client → Option Watching → Type 0
Tracks c None = ⊤
Tracks c (Some w) = (c ≡ client_after w.start w.heard) ⊎ ((w.start ≡ nothing) × (w.heard ≡ []))

-- The hub stands for the log, and the client of session s has heard what was drawn for it.
pub record KeepsUp (b : HubConfig) (E : Log) (hub : State) (s : ℕ) (c : Client) : Type 0 where
  pub stands : StandsFor b E hub
  pub tracks : Tracks c (watching b E s)

-- if an event is a request to resume from a revision of this run, the client of session s holds its
-- view of that revision
abbrev pub StartsAsHeld : HubConfig → Log → ℕ → Client → Event → Type 0
StartsAsHeld b E s c (Receive t text) =
    (id rev : ℕ) (pointers : View) (there : Stay) (d : Document) → home E s ≡ Some there
    → request_of_text text ≡ Ok (Resume id b.epoch rev pointers)
    → slice_get (documents E there.room) rev ≡ Some d → c ≡ holds rev (view pointers d)
StartsAsHeld b E s c _ = ⊤

-- the same of all events of a turn, each time of what the client holds by then
abbrev pub Resumes : HubConfig → Log → ℕ → Client → {p q : Point} → Follows no_opening p q → Type 0
Resumes b E s c stays = ⊤
Resumes b E s c (makes event answer before own step) = Resumes b E s c before
    × ((m : Client) → told_all c (drawn before) ≡ Some m
    → StartsAsHeld b (with_events before E) s m event)

-- the event is no request and no draw of session s
abbrev pub IsOthers : ℕ → Event → Type 0
IsOthers s (Receive t text) = t ≢ s
IsOthers s (Draw t) = t ≢ s
IsOthers s _ = ⊤

-- A turn that passes no text to the hub: nobody resumes in it.
pub record FramedWriteTurn (s : ℕ) (hub next : State) (events : List Event)
    (frames : List ℕ) : Type 0 where
  pub turn : FramedTurn s hub next events frames
  pub resumes : (b : HubConfig) (E : Log) (c : Client) → Resumes b E s c turn.follows

-- A client that keeps up. If its session watches, and neither a patch nor a snapshot waits for it,
-- it holds exactly its view of the present document.
pub record Delivered (b : HubConfig) (E : Log) (hub : State) (s : ℕ) (c : Client) : Type 0 where
  pub keeps_up : KeepsUp b E hub s c
  pub exactly : (name : List ℕ) (g : RoomSessions) (x : Session) (w : Watching)
      → home_of hub s ≡ Some (name, g) → session_in g.sessions s ≡ Some x
      → watching b E s ≡ Some w → later g.room w.view x.outbox ≡ []
      → HoldsPresent (documents E name) w.view c
