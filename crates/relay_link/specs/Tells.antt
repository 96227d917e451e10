-- The output that an open link sends in a turn: the frames of the texts that it draws.
use Rattle.std.specs.Prelude.{◌≡◌, ⊤, ℕ, List, [], Option, Some, IsUtf8}
use Rattle.std.specs.List.{AllByRecursion}
use Rattle.std.specs.Io.KnownBytes.{Appends}
use Rattle.relay_hub.specs.State.{State as Hub}
use Rattle.relay_hub.specs.declared.event.Event.{Event}
use Rattle.tungstenite.specs.Socket.{Socket}
use Rattle.relay_link.specs.Follows.{Point, at, no_opening, Follows, drawn}
use Rattle.relay_link.specs.Frames.{text_frames, framed, Frames}
use Rattle.relay_link.specs.Hears.{allowed_reads, HearsUnlessBlocked, Passes, ReadsOn}
use Rattle.relay_link.specs.Terms.{Serves, KeepsTerms}
use Rattle.relay_link.specs.declared.corked_writer.CorkedWriter.{CorkedWriter}
use Rattle.relay_link.specs.declared.state.State.{State}
use Rattle.relay_link.specs.declared.state.State.TheVariants.{Open}

-- the events from one point to another drew these texts, each in UTF-8
pub record Drew (texts : List (List ℕ)) (p q : Point) : Type 0 where
  pub follows : Follows no_opening p q
  pub texts_are : drawn follows ≡ texts
  pub utf8 : AllByRecursion IsUtf8 texts

module _ {S : Type 0} where
  -- Between two points, and in the calls on the socket beside them, each text that was drawn was
  -- framed: all of them, whole, in order, and nothing else. Each is UTF-8.
  pub record Tells (contents : S → Option (List ℕ)) (p q : Point)
      (old new : Socket (CorkedWriter S)) : Type 0 where
    pub follows : Follows no_opening p q
    pub utf8 : AllByRecursion IsUtf8 (drawn follows)
    pub frames : Frames contents old new (text_frames (drawn follows))

  -- the link hears at most so many messages, unless its stream is blocked, and passes texts on
  pub record Hearing (remaining : S → Option (List ℕ)) (most : ℕ) (before after : List Event)
      (old new : Socket (CorkedWriter S)) : Type 0 where
    pub texts : List (List ℕ)
    pub passes : Passes before after texts
    pub hears : HearsUnlessBlocked remaining most old new texts
    pub terms : KeepsTerms old.conn new.conn

  -- a link that has nothing to send hears, and then tells
  pub record Exchanges (remaining contents : S → Option (List ℕ)) (most : ℕ) (p q : Point)
      (old new : Socket (CorkedWriter S)) : Type 0 where
    pub heard : Socket (CorkedWriter S)
    pub hearing : Hearing remaining (allowed_reads p.hub p.session most) p.events q.events old heard
    pub tells : Tells contents p q heard new

  -- the same of a link that may have something to send, which goes first
  pub record Talks (remaining contents : S → Option (List ℕ)) (most : ℕ) (p q : Point)
      (old new : Socket (CorkedWriter S)) : Type 0 where
    pub ready : Socket (CorkedWriter S)
    pub sent : Frames contents old ready []
    pub exchanges : Exchanges remaining contents most p q ready new

  -- an open link speaks as a server, within its limits
  abbrev pub IsServing : State S → Type 0
  IsServing (Open socket s) = Serves socket.conn
  IsServing _ = ⊤

  -- a relation of an open link before a turn, which begins at the point, to it after the turn, if
  -- the turn leaves it open
  abbrev pub IfOpen : (Point → Point → Socket (CorkedWriter S) → Socket (CorkedWriter S) → Type 0)
      → Point → Socket (CorkedWriter S) → Hub → List Event → State S → Type 0
  IfOpen P p old next events (Open new t) = P p (at next (Some t) events) old new
  IfOpen P p old next events _ = ⊤

  -- the same of any link: what it says of one that a turn finds open and leaves open
  abbrev pub WhileOpen :
      (Point → Point → Socket (CorkedWriter S) → Socket (CorkedWriter S) → Type 0)
      → Hub → List Event → State S → Hub → List Event → State S → Type 0
  WhileOpen P hub before (Open old s) next events new =
      IfOpen P (at hub (Some s) before) old next events new
  WhileOpen P hub before _ next events new = ⊤

  -- ---- what a public turn says

  -- The frames of these texts, each whole and in order, were framed behind what was framed before:
  -- these, and nothing else. Each text is UTF-8. Nothing was read.
  pub record FramesTexts (contents : S → Option (List ℕ)) (old new : Socket (CorkedWriter S))
      (texts : List (List ℕ)) : Type 0 where
    pub utf8 : AllByRecursion IsUtf8 texts
    pub frames : Appends (framed contents old) (framed contents new) (text_frames texts)
    pub reads_on : ReadsOn old new

  -- A session's link reads once if the hub hears the session, unless its stream takes no output.
  -- What was framed before it reads stays, and what the read itself sends is as the WebSocket says
  -- of it. The text that the read finds is what the events pass to the hub; the next turn reads on
  -- behind it.
  pub record ReadsFirst (remaining contents : S → Option (List ℕ)) (hub : Hub)
      (session : Option ℕ) (before after : List Event) (old heard : Socket (CorkedWriter S))
      : Type 0 where
    pub ready : Socket (CorkedWriter S)
    pub sent : Appends (framed contents old) (framed contents ready) []
    pub reads_on : ReadsOn old ready
    pub texts : List (List ℕ)
    pub passes : Passes before after texts
    pub hears : HearsUnlessBlocked remaining (allowed_reads hub session 1) ready heard texts

  -- the texts that the events drew were framed, and nothing else
  pub record Told (contents : S → Option (List ℕ)) (p q : Point) (old new : Socket (CorkedWriter S))
      : Type 0 where
    pub follows : Follows no_opening p q
    pub framed : FramesTexts contents old new (drawn follows)

  -- the same of a turn that reads before, if it may
  pub record Answered (remaining contents : S → Option (List ℕ)) (p q : Point)
      (old new : Socket (CorkedWriter S)) : Type 0 where
    pub heard : Socket (CorkedWriter S)
    pub reads : ReadsFirst remaining contents p.hub p.session p.events q.events old heard
    pub told : Told contents p q heard new
