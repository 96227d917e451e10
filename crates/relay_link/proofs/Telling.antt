-- The texts that a link draws and those that it frames go on together.
use Rattle.std.proofs.Common.{◌≡◌, ℕ, Bool, true, false, if◌then◌else◌, Result, Ok, Err, IfOk, OnOk}
use Rattle.std.proofs.Common.{OnErr, arith, List, [], ◌∷◌, ◌++◌, Option, Some}
use Rattle.std.proofs.Common.{IsUtf8, refl, sym, subst, ap, ◌∙◌}
use Rattle.std.proofs.Common.{append_assoc, append-nil}
use Rattle.std.proofs.ByRecursion.{All-append}
use Rattle.std.proofs.KnownBytes.{Appends-trans, Appends-nil}
use Rattle.std.specs.List.{AllByRecursion}
use Rattle.websocket.specs.declared.protocol.config.Role.TheVariants.{Server}
use Rattle.tungstenite.specs.Socket.{Socket}
use Rattle.relay_hub.specs.State.{State as Hub}
use Rattle.relay_hub.specs.Step.{Step}
use Rattle.relay_hub.specs.declared.event.Answer.{Answer}
use Rattle.relay_hub.specs.declared.event.Event.{Event}
use Rattle.relay_link.specs.Follows.{Point, at, IsOwn, no_opening, session_after, stays}
use Rattle.relay_link.specs.Follows.{makes, drawn_by, drawn}
use Rattle.relay_link.specs.Frames.{text_frame, text_frames, framed, Frames}
use Rattle.relay_link.specs.Stage.{stage_of, is_over, IsForward}
use Rattle.relay_link.specs.Hears.{allowed_reads, Passes, HearsUnlessBlocked, SendsAndPassesOn}
use Rattle.relay_link.specs.Hears.{GoesOn, ReadsTexts}
use Rattle.relay_link.specs.Tells.{Drew, Tells, Hearing, Exchanges, Talks, IsServing, IfOpen}
use Rattle.relay_link.specs.Tells.{WhileOpen, Told, Answered}
use Rattle.relay_link.specs.declared.stage.Stage.TheVariants as stage
use Rattle.relay_link.specs.declared.state.State.{State}
use Rattle.relay_link.specs.declared.turn.Turn.{Turn}
use Rattle.relay_link.specs.declared.state.State.TheVariants.{Head, Replying, Open, Closing, Gone}
use Rattle.relay_link.specs.declared.corked_writer.CorkedWriter.{CorkedWriter}
use Rattle.relay_link.specs.Stream.{is_blocked}
use Rattle.relay_link.specs.Terms.{Serves}
use Rattle.relay_link.proofs.Hearing.{reads_on_same, reads_on_then, terms_kept, hears_at_most}
use Rattle.relay_link.proofs.Hearing.{hearing_blocked, hearing_then, passes_then}
use Rattle.relay_link.proofs.Following.{went_on}
use Rattle.relay_link.proofs.Terms.{keeps_then, serves_then}

-- ---- what was drawn

-- no event was made
pub drew_same : (old new : Hub) (session : Option ℕ) (before after : List Event) → new ≡ old
    → after ≡ before → Drew [] (at old session before) (at new session after)
drew_same old new session before after h m =
    rw (h, m) (record { follows = stays; texts_are = refl; utf8 = tt })

-- one event was made
pub drew_one : (old new : Hub) (session : Option ℕ) (before after : List Event) (event : Event)
    (answer : Answer)
    → after ≡ before ++ event ∷ [] → IsOwn no_opening session event → Step old event answer new
    → AllByRecursion IsUtf8 (drawn_by event answer)
    → Drew (drawn_by event answer) (at old session before)
    (at new (session_after session event answer) after)
drew_one old new session before after event answer m own step utf8 =
    subst (λ x.
    Drew (drawn_by event answer) (at old session before)
    (at new (session_after session event answer) x)) (sym m)
    (record { follows = makes event answer stays own step; texts_are = refl; utf8 = utf8 })

-- one run of events after another
pub drew_then : (first second : List (List ℕ)) (p q r : Point) → Drew first p q
    → Drew second q r → Drew (first ++ second) p r
drew_then first second p q r f g =
    let both = went_on f.follows g.follows in
    record {
      follows = both.0;
      texts_are = both.1 ∙ ap (λ l. l ++ drawn g.follows) f.texts_are
          ∙ ap (λ l. first ++ l) g.texts_are;
      utf8 = All-append IsUtf8 first second f.utf8 g.utf8;
    }

frames_then : (texts more : List (List ℕ))
    → text_frames (texts ++ more) ≡ text_frames texts ++ text_frames more
frames_then [] more = refl
frames_then (text ∷ texts) more =
    ap (λ l. text_frame text ++ l) (frames_then texts more)
    ∙ sym (append_assoc (text_frame text) (text_frames texts) (text_frames more))

module _ {S : Type 0} {contents : S → Option (List ℕ)} where
  -- ---- what was framed

  pub frames_none : (a b : Socket (CorkedWriter S)) → b ≡ a → Frames contents a b []
  frames_none a b same =
      rw same
      (record { reads_on = reads_on_same a; bytes = λ server. Appends-nil (framed contents a) })

  pub frames_more : {a b c : Socket (CorkedWriter S)} (first second : List ℕ)
      → Frames contents a b first → Frames contents b c second
      → Frames contents a c (first ++ second)
  frames_more {a = a} {b = b} {c = c} first second f g = record {
    reads_on = reads_on_then f.reads_on g.reads_on;
    bytes =
        λ server.
        Appends-trans (framed contents a) (framed contents b) (framed contents c) first second
        (f.bytes server) (g.bytes ((terms_kept f.reads_on).role ∙ server));
  }

  frames_as : {a b : Socket (CorkedWriter S)} {first second : List ℕ} → second ≡ first
      → Frames contents a b first → Frames contents a b second
  frames_as {a = a} {b = b} same f = subst (Frames contents a b) (sym same) f

  -- ---- both

  -- one after another
  tells_then : {p q r : Point} {a b c : Socket (CorkedWriter S)} → Tells contents p q a b
      → Tells contents q r b c → Tells contents p r a c
  tells_then f g =
      let both = went_on f.follows g.follows in
      record {
        follows = both.0;
        utf8 =
            subst (AllByRecursion IsUtf8) (sym both.1)
            (All-append IsUtf8 (drawn f.follows) (drawn g.follows) f.utf8 g.utf8);
        frames =
            frames_as (ap text_frames both.1
            ∙ frames_then (drawn f.follows) (drawn g.follows)) (frames_more _ _ f.frames g.frames);
      }

  -- what was drawn was framed
  tells_drawn : {p q : Point} {a b : Socket (CorkedWriter S)} (texts : List (List ℕ))
      → Drew texts p q → Frames contents a b (text_frames texts) → Tells contents p q a b
  tells_drawn texts drew f = record {
    follows = drew.follows;
    utf8 = subst (AllByRecursion IsUtf8) (sym drew.texts_are) drew.utf8;
    frames = frames_as (ap text_frames drew.texts_are) f;
  }

  -- nothing was drawn, and nothing framed
  pub tells_none : (p q : Point) (a b : Socket (CorkedWriter S)) → Drew [] p q → b ≡ a
      → Tells contents p q a b
  tells_none p q a b drew same = tells_drawn [] drew (frames_none a b same)

  pub tells_start : (p : Point) (a : Socket (CorkedWriter S)) → Tells contents p p a a
  tells_start p a = record { follows = stays; utf8 = tt; frames = frames_none a a refl }

  -- then nothing more was drawn
  pub tells_on : (p q r : Point) (a b c : Socket (CorkedWriter S)) → Tells contents p q a b
      → Drew [] q r → c ≡ b → Tells contents p r a c
  tells_on p q r a b c f drew same = tells_then f (tells_none q r b c drew same)

  -- then one more text was drawn, and framed
  pub tells_text : (p q r : Point) (a b c : Socket (CorkedWriter S)) (text : List ℕ)
      → Tells contents p q a b → Drew (text ∷ []) q r → Frames contents b c (text_frame text)
      → Tells contents p r a c
  tells_text p q r a b c text f drew framed =
      tells_then f (tells_drawn (text ∷ []) drew (frames_as (append-nil (text_frame text)) framed))

  -- of a server's socket the frames are known
  told : {p q : Point} {a b : Socket (CorkedWriter S)} → Tells contents p q a b
      → a.conn.role ≡ Server → Told contents p q a b
  told tells server = record {
    follows = tells.follows;
    framed = record {
      utf8 = tells.utf8;
      frames = tells.frames.bytes server;
      reads_on = tells.frames.reads_on;
    };
  }

over_goes : {S : Type 0} (a : Socket (CorkedWriter S)) (state : State S)
    → is_over (stage_of state) ≡ true → GoesOn a state
over_goes a (Open socket s) over = absurd (cc over)
over_goes a (Head stream bytes) over = tt
over_goes a (Replying stream reply) over = tt
over_goes a (Closing socket turns) over = tt
over_goes a Gone over = tt

module _ {S : Type 0} (remaining contents : S → Option (List ℕ)) where
  -- ---- a turn

  -- what was heard comes before what was told
  pub exchanged : (most : ℕ) (p m q : Point) (a b c : Socket (CorkedWriter S)) → Drew [] p m
      → Hearing remaining (allowed_reads p.hub p.session most) p.events m.events a b
      → Passes m.events q.events [] → Tells contents m q b c
      → Exchanges remaining contents most p q a c
  exchanged most p m q a b c drew hearing quiet tells =
      let reads = allowed_reads p.hub p.session most in
      record {
        heard = b;
        hearing = hearing_then remaining reads p.events m.events q.events a b hearing quiet;
        tells = tells_then (tells_none p m b b drew refl) tells;
      }

  -- what waits has still to wait
  pub talked_none : (most : ℕ) (p : Point) (a b : Socket (CorkedWriter S)) → Frames contents a b []
      → is_blocked b.stream ≡ true → Talks remaining contents most p p a b
  talked_none most p a b sent blocked =
      let reads = allowed_reads p.hub p.session most in
      record {
        ready = b;
        sent = sent;
        exchanges = record {
          heard = b;
          hearing = hearing_blocked remaining reads p.events b blocked;
          tells = tells_start p b;
        };
      }

  -- what waited was sent, and what was told was sent or has to wait
  pub talked : {A E : Type 0} (result : Result A E) (most : ℕ) (p q : Point)
      (a b c d : Socket (CorkedWriter S)) → Frames contents a b []
      → OnOk result (Exchanges remaining contents most p q b c) → Frames contents c d []
      → OnOk result (Talks remaining contents most p q a d)
  talked (Err e) most p q a b c d sent exchanges last = tt
  talked (Ok u) most p q a b c d sent exchanges last = record {
    ready = b;
    sent = sent;
    exchanges = record {
      heard = exchanges.heard;
      hearing = exchanges.hearing;
      tells = record {
        follows = exchanges.tells.follows;
        utf8 = exchanges.tells.utf8;
        frames = frames_as (sym (append-nil _)) (frames_more _ _ exchanges.tells.frames last);
      };
    };
  }

  -- ---- a turn of a link

  pub talked_into : {A E : Type 0} (turned : Result A E) (texts : ℕ) (p : Point)
      (hub next : Hub) (events after : List Event) (s : ℕ) (a b : Socket (CorkedWriter S))
      (state : State S)
      → OnOk turned (Talks remaining contents texts p (at hub (Some s) events) a b)
      → OnOk turned ((state ≡ Open b s) × (next ≡ hub) × (after ≡ events))
      → OnErr turned (is_over (stage_of state) ≡ true)
      → IfOpen (Talks remaining contents texts) p a next after state
  talked_into (Ok u) texts p hub next events after s a b state talks stayed over =
      rw (stayed.0, stayed.1, stayed.2) talks
  talked_into (Err e) texts p hub next events after s a b (Open socket t) talks stayed over =
      absurd (cc over)
  talked_into (Err e) texts p hub next events after s a b (Head stream bytes) talks stayed over = tt
  talked_into (Err e) texts p hub next events after s a b
      (Replying stream reply) talks stayed over =
      tt
  talked_into (Err e) texts p hub next events after s a b (Closing socket turns) talks stayed over =
      tt
  talked_into (Err e) texts p hub next events after s a b Gone talks stayed over = tt

  -- what was read and passed on: if the link is still open, its next turn reads on
  pub reads_into : {A E : Type 0} (turned : Result A E) (most : ℕ) (p : Point)
      (hub next : Hub) (events after : List Event) (s : ℕ) (a b : Socket (CorkedWriter S))
      (state : State S)
      → OnOk turned (Talks remaining contents most p (at hub (Some s) events) a b)
      → SendsAndPassesOn remaining (allowed_reads p.hub p.session most) a p.events events
      → OnOk turned ((state ≡ Open b s) × (next ≡ hub) × (after ≡ events))
      → OnErr turned (is_over (stage_of state) ≡ true) → Passes events after []
      → ReadsTexts remaining (allowed_reads p.hub p.session most) a state p.events after
  reads_into (Ok u) most p hub next events after s a b state talks sends stayed over quiet =
      rw (stayed.0, stayed.2) (record {
        sends = record {
          ready = talks.ready;
          reads_on = talks.sent.reads_on;
          passes_on = record {
            texts = talks.exchanges.hearing.texts;
            passes = talks.exchanges.hearing.passes;
            heard = talks.exchanges.heard;
            hears = hears_at_most remaining _ talks.ready talks.exchanges.heard
                talks.exchanges.hearing.texts talks.exchanges.hearing.hears;
          };
        };
        goes_on = talks.exchanges.tells.frames.reads_on;
      })
  reads_into (Err e) most p hub next events after s a b state talks sends stayed over quiet =
      record {
        sends = record {
          ready = sends.ready;
          reads_on = sends.reads_on;
          passes_on = record {
            texts = sends.passes_on.texts;
            passes = passes_then sends.passes_on.texts p.events events after sends.passes_on.passes
                quiet;
            heard = sends.passes_on.heard;
            hears = sends.passes_on.hears;
          };
        };
        goes_on = over_goes sends.passes_on.heard state over;
      }

  -- the terms stay
  pub serves_on : (texts : ℕ) (p : Point) (next : Hub) (events : List Event)
      (a : Socket (CorkedWriter S)) (state : State S)
      → IfOpen (Talks remaining contents texts) p a next events state
      → Serves a.conn → IsServing state
  serves_on texts p next events a (Open b t) talks serves =
      serves_then serves (keeps_then (terms_kept talks.sent.reads_on)
      (keeps_then talks.exchanges.hearing.terms
      (terms_kept talks.exchanges.tells.frames.reads_on)))
  serves_on texts p next events a (Head stream bytes) talks serves = tt
  serves_on texts p next events a (Replying stream reply) talks serves = tt
  serves_on texts p next events a (Closing socket turns) talks serves = tt
  serves_on texts p next events a Gone talks serves = tt

  -- of no reads none is made
  reads_nothing : (may : Bool) (a b : Socket (CorkedWriter S)) (texts : List (List ℕ))
      → HearsUnlessBlocked remaining (if may then 0 else 0) a b texts → (b ≡ a) × (texts ≡ [])
  reads_nothing true a b texts nothing = nothing
  reads_nothing false a b texts nothing = nothing

  told_alone : (p q : Point) (a b : Socket (CorkedWriter S)) → Talks remaining contents 0 p q a b
      → a.conn.role ≡ Server → Told contents p q a b
  told_alone p q a b talks server =
      let hearing = talks.exchanges.hearing in
      let same =
      (reads_nothing _ talks.ready talks.exchanges.heard hearing.texts hearing.hears).0 in
      let tells = subst (λ x. Tells contents p q x b) same talks.exchanges.tells in
      told (record {
        follows = tells.follows;
        utf8 = tells.utf8;
        frames = frames_more [] _ talks.sent tells.frames;
      }) server

  answered : (p q : Point) (a b : Socket (CorkedWriter S)) → Talks remaining contents 1 p q a b
      → a.conn.role ≡ Server → Answered remaining contents p q a b
  answered p q a b talks server = record {
    heard = talks.exchanges.heard;
    reads = record {
      ready = talks.ready;
      sent = talks.sent.bytes server;
      reads_on = talks.sent.reads_on;
      texts = talks.exchanges.hearing.texts;
      passes = talks.exchanges.hearing.passes;
      hears = talks.exchanges.hearing.hears;
    };
    told = told talks.exchanges.tells
        (talks.exchanges.hearing.terms.role ∙ (terms_kept talks.sent.reads_on).role ∙ server);
  }

module _ {S : Type 0}
    (P Q : Point → Point → Socket (CorkedWriter S) → Socket (CorkedWriter S) → Type 0)
    (told_of : (p q : Point) (a b : Socket (CorkedWriter S)) → P p q a b → a.conn.role ≡ Server
    → Q p q a b) where
  if_open : (p : Point) (a : Socket (CorkedWriter S)) (next : Hub) (events : List Event)
      (new : State S) → IfOpen P p a next events new → a.conn.role ≡ Server
      → IfOpen Q p a next events new
  if_open p a next events (Open b t) holds server =
      told_of p (at next (Some t) events) a b holds server
  if_open p a next events (Head stream bytes) holds server = tt
  if_open p a next events (Replying stream reply) holds server = tt
  if_open p a next events (Closing socket turns) holds server = tt
  if_open p a next events Gone holds server = tt

  while_open : (hub : Hub) (before : List Event) (old : State S) (next : Hub) (events : List Event)
      (new : State S) → IsServing old → WhileOpen P hub before old next events new
      → WhileOpen Q hub before old next events new
  while_open hub before (Open a s) next events new serves holds =
      if_open (at hub (Some s) before) a next events new holds serves.role
  while_open hub before (Head stream bytes) next events new serves holds = tt
  while_open hub before (Replying stream reply) next events new serves holds = tt
  while_open hub before (Closing socket turns) next events new serves holds = tt
  while_open hub before Gone next events new serves holds = tt

module _ {S : Type 0} (remaining contents : S → Option (List ℕ)) where
  -- what a turn returns says so of a link
  pub tells_if : {E : Type 0} (result : Result Turn E) (hub : Hub) (old : State S) (next : Hub)
      (new : State S) → OnOk result (IsServing old)
      → IfOk result (λ turn.
      WhileOpen (Talks remaining contents 0) hub [] old next turn.events.items new)
      → IfOk result (λ turn. WhileOpen (Told contents) hub [] old next turn.events.items new)
  tells_if (Ok turn) hub old next new server talks =
      while_open (Talks remaining contents 0) (Told contents) (told_alone remaining contents) hub
      [] old next turn.events.items new server talks
  tells_if (Err e) hub old next new server talks = tt

  pub answers_if : {E : Type 0} (result : Result Turn E) (hub : Hub) (old : State S) (next : Hub)
      (new : State S) → OnOk result (IsServing old)
      → IfOk result (λ turn.
      WhileOpen (Talks remaining contents 1) hub [] old next turn.events.items new)
      → IfOk result (λ turn.
      WhileOpen (Answered remaining contents) hub [] old next turn.events.items new)
  answers_if (Ok turn) hub old next new server talks =
      while_open (Talks remaining contents 1) (Answered remaining contents)
      (answered remaining contents) hub [] old next turn.events.items new server talks
  answers_if (Err e) hub old next new server talks = tt

module _ {S : Type 0} where
  -- a link that closes, or is gone, serves nobody
  pub serves_over : (state : State S) → IsForward stage.Closing (stage_of state) → IsServing state
  serves_over (Open socket s) is = absurd (omega (arith, is))
  serves_over (Head stream bytes) is = tt
  serves_over (Replying stream reply) is = tt
  serves_over (Closing socket turns) is = tt
  serves_over Gone is = tt
