-- The bytes that a turn gives to the stream of its link: the reply to a head, and the frames of
-- what the link's session drew.
use Rattle.std.specs.Prelude.{⊤, ℕ, List, [], Option, Some}
use Rattle.tungstenite.specs.Socket.{Socket}
use Rattle.relay_hub.specs.State.{State as Hub}
use Rattle.relay_hub.specs.declared.event.Event.{Event}
use Rattle.relay_link.specs.EntryRules.{Denials}
use Rattle.relay_link.specs.Replies.{Replies}
use Rattle.relay_link.specs.Tells.{FramesTexts, ReadsFirst}
use Rattle.relay_link.specs.declared.corked_writer.CorkedWriter.{CorkedWriter}
use Rattle.relay_link.specs.declared.state.State.{State}
use Rattle.relay_link.specs.declared.state.State.TheVariants.{Open}

module _ {S : Type 0} where
  -- an open link framed these texts, and may have read before
  pub data FramesInTurn (remaining contents : S → Option (List ℕ)) (hub : Hub) (session : ℕ)
      (events : List Event) (old new : Socket (CorkedWriter S)) (texts : List (List ℕ))
      : Type 0 where
    writes : FramesTexts contents old new texts
        → FramesInTurn remaining contents hub session events old new texts
    reads : (heard : Socket (CorkedWriter S))
        → ReadsFirst remaining contents hub (Some session) [] events old heard
        → FramesTexts contents heard new texts
        → FramesInTurn remaining contents hub session events old new texts

  -- the same of any link: what it says of one that the turn finds open and leaves open
  abbrev pub FramesIn : (S → Option (List ℕ)) → (S → Option (List ℕ)) → Hub → State S → List Event
      → State S → List (List ℕ) → Type 0
  FramesIn remaining contents hub (Open old s) events (Open new t) texts =
      FramesInTurn remaining contents hub s events old new texts
  FramesIn remaining contents hub _ events _ texts = ⊤

  -- A turn gives its link's stream the reply to a head, byte by byte, and then the frames of these
  -- texts.
  pub record Sends (remaining contents : S → Option (List ℕ)) (hub : Hub) (was : State S)
      (events : List Event) (is : State S) (texts : List (List ℕ)) : Type 0 where
    pub denied : Denials
    pub replies : Replies remaining contents denied was is
    pub frames : FramesIn remaining contents hub was events is texts
