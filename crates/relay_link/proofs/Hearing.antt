-- The texts that a link reads and those that it passes to the hub go on together.
use Rattle.std.proofs.Common.{◌≡◌, inl, inr, ℕ, zero, suc, Bool, true, false, if◌then◌else◌, List}
use Rattle.std.proofs.Common.{[], ◌∷◌, ◌++◌, Option, None, Some, Result, Ok, Err, OnOk, refl, sym}
use Rattle.std.proofs.Common.{subst, ap, ◌∙◌, append_assoc, append-nil, arith}
use Rattle.tungstenite.specs.Socket.{Socket, Reads}
use Rattle.tungstenite.specs.declared.error.Error.{Error}
use Rattle.tungstenite.specs.declared.message.Message.{Message}
use Rattle.relay_hub.specs.Queries.{may_hear}
use Rattle.relay_hub.specs.State.{State as Hub, session_of as hub_session}
use Rattle.relay_hub.specs.declared.event.Event.{Event}
use Rattle.relay_hub.specs.declared.event.Event.TheVariants.{Receive}
use Rattle.relay_link.specs.Follows.{closing_of}
use Rattle.relay_link.specs.Hears.{received_by, received, Passes, allowed_reads, text_of, ends_link}
use Rattle.relay_link.specs.Hears.{ReadsOn, ReadsOnce, Finds, Hears, HearsUnlessBlocked, PassesOn}
use Rattle.relay_link.specs.Hears.{SendsAndPassesOn, GoesOn, BeginsFresh, ReadsTexts, PassesTexts}
use Rattle.relay_link.specs.Stage.{stage_of, session_of, entered, IsForward}
use Rattle.relay_link.specs.Stream.{stream_of, is_blocked}
use Rattle.relay_link.specs.Tells.{Hearing}
use Rattle.relay_link.specs.Terms.{KeepsTerms}
use Rattle.relay_link.proofs.Terms.{keeps_same}
use Rattle.relay_link.specs.declared.corked_writer.CorkedWriter.{CorkedWriter}
use Rattle.relay_link.specs.declared.stage.Stage.TheVariants as stage
use Rattle.relay_link.specs.declared.state.State.{State}
use Rattle.relay_link.specs.declared.state.State.TheVariants.{Head, Replying, Open, Closing, Gone}

-- ---- how many reads

-- none of them, if the turn does not read, or the hub may not hear the session
pub reads_none_of : (hub : Hub) (s most : ℕ) → most ≡ 0 → allowed_reads hub (Some s) most ≡ 0
reads_none_of hub s most none = go (may_hear (hub_session hub s))
  where
    go : (may : Bool) → (if may then most else 0) ≡ 0
    go true = none
    go false = refl

pub reads_none_busy : (hub : Hub) (s most : ℕ) → may_hear (hub_session hub s) ≡ false
    → allowed_reads hub (Some s) most ≡ 0
reads_none_busy hub s most busy = rw busy refl

-- all of them, if the hub may hear the session
reads_one : (hub : Hub) (s most : ℕ) → may_hear (hub_session hub s) ≡ true → most ≡ 1
    → allowed_reads hub (Some s) most ≡ 1
reads_one hub s most may one = rw (may, one) refl

-- ---- the texts of events

received_both : (events more : List Event)
    → received (events ++ more) ≡ received events ++ received more
received_both [] more = refl
received_both (event ∷ events) more =
    ap (λ l. received_by event ++ l) (received_both events more)
    ∙ sym (append_assoc (received_by event) (received events) (received more))

-- one more event passes the text that it has
passes_event : (before after : List Event) (event : Event) → after ≡ before ++ event ∷ []
    → Passes before after (received_by event)
passes_event before after event events =
    ap received events ∙ received_both before (event ∷ [])
    ∙ ap (λ l. received before ++ l) (append-nil (received_by event))

-- no event was made
pub passes_same : (before after : List Event) → after ≡ before → Passes before after []
passes_same before after same = ap received same ∙ sym (append-nil (received before))

-- one was made that passes nothing
pub passes_none : (before after : List Event) (event : Event) → after ≡ before ++ event ∷ []
    → received_by event ≡ [] → Passes before after []
passes_none before after event events none =
    subst (Passes before after) none (passes_event before after event events)

pub passes_text : (before after : List Event) (s : ℕ) (text : List ℕ)
    → after ≡ before ++ Receive s text ∷ [] → Passes before after (text ∷ [])
passes_text before after s text events = passes_event before after (Receive s text) events

-- then no more
pub passes_then : (texts : List (List ℕ)) (a b c : List Event) → Passes a b texts → Passes b c []
    → Passes a c texts
passes_then texts a b c some none = none ∙ append-nil (received b) ∙ some

module _ {S : Type 0} where
  -- ---- reading on

  pub reads_on_same : (a : Socket (CorkedWriter S)) → ReadsOn a a
  reads_on_same a = record { conn = refl; input = refl }

  pub reads_on_then : {a b c : Socket (CorkedWriter S)} → ReadsOn a b → ReadsOn b c → ReadsOn a c
  reads_on_then f g = record { conn = g.conn ∙ f.conn; input = g.input ∙ f.input }

  pub terms_kept : {a b : Socket (CorkedWriter S)} → ReadsOn a b → KeepsTerms a.conn b.conn
  terms_kept {a = a} {b = b} f = keeps_same a.conn b.conn f.conn

module _ {S : Type 0} (remaining : S → Option (List ℕ)) where
  -- ---- what a read found

  pub reads_message : (a b : Socket (CorkedWriter S)) (message : Message)
      → Reads (λ w. remaining (stream_of w)) a b (Ok message)
      → ReadsOnce remaining a b (Some message)
  reads_message a b message reads = (Ok message, reads, refl)

  pub reads_none : (a b : Socket (CorkedWriter S)) (error : Error)
      → Reads (λ w. remaining (stream_of w)) a b (Err error) → ReadsOnce remaining a b None
  reads_none a b error reads = (Err error, reads, refl)

  -- the link goes on behind this message, which has these texts
  pub finds_texts : (a b : Socket (CorkedWriter S)) (found : Option Message)
      (texts : List (List ℕ)) → ReadsOnce remaining a b found → ends_link found ≡ false
      → texts ≡ text_of found → Finds remaining a b texts
  finds_texts a b found texts reads stays is = (found, reads, stays, is)

  -- ---- what was heard

  hears_nothing : (most : ℕ) (a : Socket (CorkedWriter S)) → Hears remaining most a a []
  hears_nothing zero a = (refl, refl)
  hears_nothing (suc n) a = inl (refl, refl)

  unread : (most : ℕ) (a : Socket (CorkedWriter S)) → most ≡ 0
      → HearsUnlessBlocked remaining most a a []
  unread most a none = rw none (refl, refl)

  blocked : (most : ℕ) (a : Socket (CorkedWriter S)) → is_blocked a.stream ≡ true
      → HearsUnlessBlocked remaining most a a []
  blocked zero a is = (refl, refl)
  blocked (suc n) a is = inl (is, (refl, refl))

  pub hears_at_most : (most : ℕ) (a b : Socket (CorkedWriter S)) (texts : List (List ℕ))
      → HearsUnlessBlocked remaining most a b texts → Hears remaining most a b texts
  hears_at_most zero a b texts nothing = nothing
  hears_at_most (suc n) a b texts (inl none) = inl none.1
  hears_at_most (suc n) a b texts (inr finds) = inr finds

  -- no message may be read, and no text was passed on
  pub hearing_none : (most : ℕ) (before after : List Event) (a b : Socket (CorkedWriter S))
      → most ≡ 0 → b ≡ a → after ≡ before → Hearing remaining most before after a b
  hearing_none most before after a b none same quiet = rw same (record {
    texts = [];
    passes = passes_same before after quiet;
    hears = unread most a none;
    terms = keeps_same a.conn a.conn refl;
  })

  -- the stream takes no output, so nothing was read
  pub hearing_blocked : (most : ℕ) (before : List Event) (a : Socket (CorkedWriter S))
      → is_blocked a.stream ≡ true → Hearing remaining most before before a a
  hearing_blocked most before a is = record {
    texts = [];
    passes = passes_same before before refl;
    hears = blocked most a is;
    terms = keeps_same a.conn a.conn refl;
  }

  -- the text that a read found was passed on, if it found one
  pub hearing_found : (before after : List Event) (a b : Socket (CorkedWriter S))
      (texts : List (List ℕ)) → Finds remaining a b texts → KeepsTerms a.conn b.conn
      → Passes before after texts → Hearing remaining 1 before after a b
  hearing_found before after a b texts finds terms passes =
      record { texts = texts; passes = passes; hears = inr finds; terms = terms }

  pub hearing_most : {E : Type 0} (result : Result (Unit {0}) E) (hub : Hub) (s most : ℕ)
      (before after : List Event) (a b : Socket (CorkedWriter S))
      → may_hear (hub_session hub s) ≡ true → most ≡ 1
      → OnOk result (Hearing remaining 1 before after a b)
      → OnOk result (Hearing remaining (allowed_reads hub (Some s) most) before after a b)
  hearing_most (Ok u) hub s most before after a b may one hearing =
      subst (λ n. Hearing remaining n before after a b) (sym (reads_one hub s most may one)) hearing
  hearing_most (Err e) hub s most before after a b may one hearing = tt

  -- then no more was passed on
  pub hearing_then : (most : ℕ) (before middle after : List Event) (a b : Socket (CorkedWriter S))
      → Hearing remaining most before middle a b → Passes middle after []
      → Hearing remaining most before after a b
  hearing_then most before middle after a b hearing none = record {
    texts = hearing.texts;
    passes = passes_then hearing.texts before middle after hearing.passes none;
    hears = hearing.hears;
    terms = hearing.terms;
  }

  -- ---- what was passed on, whatever comes of it

  pub passes_on_none : (most : ℕ) (a : Socket (CorkedWriter S)) (before after : List Event)
      → Passes before after [] → PassesOn remaining most a before after
  passes_on_none most a before after none =
      record { texts = []; passes = none; heard = a; hears = hears_nothing most a }

  pub passes_on_heard : (most : ℕ) (a b : Socket (CorkedWriter S))
      (before middle after : List Event) → Hearing remaining most before middle a b
      → Passes middle after []
      → PassesOn remaining most a before after
  passes_on_heard most a b before middle after hearing none =
      let on = hearing_then most before middle after a b hearing none in
      record {
        texts = on.texts;
        passes = on.passes;
        heard = b;
        hears = hears_at_most most a b on.texts on.hears;
      }

  -- the same of a link that sends first
  pub sends_none : (most : ℕ) (a : Socket (CorkedWriter S)) (before after : List Event)
      → after ≡ before → SendsAndPassesOn remaining most a before after
  sends_none most a before after none = record {
    ready = a;
    reads_on = reads_on_same a;
    passes_on = passes_on_none most a before after (passes_same before after none);
  }

  pub sends_and_passes : (most : ℕ) (a b : Socket (CorkedWriter S)) (before after : List Event)
      → ReadsOn a b → PassesOn remaining most b before after
      → SendsAndPassesOn remaining most a before after
  sends_and_passes most a b before after reads_on passes =
      record { ready = b; reads_on = reads_on; passes_on = passes }

  -- ---- a turn of a link

  fresh_closing : (state : State S) → IsForward stage.Closing (stage_of state) → BeginsFresh state
  fresh_closing (Head stream bytes) is = tt
  fresh_closing (Replying stream reply) is = tt
  fresh_closing (Open socket s) is = absurd (omega (arith, is))
  fresh_closing (Closing socket left) is = tt
  fresh_closing Gone is = tt

  pub passes_closing : (most : ℕ) (hub : Hub) (socket : Socket (CorkedWriter S)) (left : ℕ)
      (new : State S) (before after : List Event) → IsForward stage.Closing (stage_of new)
      → after ≡ before
      → PassesTexts remaining most hub (Closing socket left) new before after
  passes_closing most hub socket left new before after over same =
      (passes_same before after same, fresh_closing new over)

  -- one that changes nothing
  unchanged : (most : ℕ) (hub : Hub) (state : State S) (before : List Event)
      → PassesTexts remaining most hub state state before before
  unfolding sends_none passes_on_none
  unchanged most hub (Open socket s) before = record {
    sends = sends_none (allowed_reads hub (Some s) most) socket before before refl;
    goes_on = reads_on_same socket;
  }
  unchanged most hub (Head stream bytes) before = (passes_same before before refl, tt)
  unchanged most hub (Replying stream reply) before = (passes_same before before refl, tt)
  unchanged most hub (Closing socket left) before = (passes_same before before refl, tt)
  unchanged most hub Gone before = (passes_same before before refl, tt)

  pub passes_unchanged : (most : ℕ) (hub : Hub) (old new : State S) (before after : List Event)
      → new ≡ old → after ≡ before → PassesTexts remaining most hub old new before after
  passes_unchanged most hub old new before after same none =
      rw (same, none) (unchanged most hub old before)

  -- a turn that reads nothing is one that reads at most once
  hears_wider : (may : Bool) (a b : Socket (CorkedWriter S)) (texts : List (List ℕ))
      → Hears remaining (if may then 0 else 0) a b texts
      → Hears remaining (if may then 1 else 0) a b texts
  hears_wider true a b texts nothing = inl nothing
  hears_wider false a b texts nothing = nothing

  reads_wider : (may : Bool) (a : Socket (CorkedWriter S)) (new : State S)
      (before after : List Event)
      → ReadsTexts remaining (if may then 0 else 0) a new before after
      → ReadsTexts remaining (if may then 1 else 0) a new before after
  reads_wider may a new before after reads =
      let on = reads.sends.passes_on in
      record {
        sends = record {
          ready = reads.sends.ready;
          reads_on = reads.sends.reads_on;
          passes_on = record {
            texts = on.texts;
            passes = on.passes;
            heard = on.heard;
            hears = hears_wider may reads.sends.ready on.heard on.texts on.hears;
          };
        };
        goes_on = reads.goes_on;
      }

  pub passes_wider : (hub : Hub) (old new : State S) (before after : List Event)
      → PassesTexts remaining 0 hub old new before after
      → PassesTexts remaining 1 hub old new before after
  passes_wider hub (Open socket s) new before after passes =
      reads_wider (may_hear (hub_session hub s)) socket new before after passes
  passes_wider hub (Head stream bytes) new before after passes = passes
  passes_wider hub (Replying stream reply) new before after passes = passes
  passes_wider hub (Closing socket left) new before after passes = passes
  passes_wider hub Gone new before after passes = passes

  -- a link that ends passes nothing
  closing_passes : (session : Option ℕ) → Passes [] (closing_of session) []
  closing_passes None = refl
  closing_passes (Some s) = refl

  ended_goes : (a : Socket (CorkedWriter S)) (new : State S) → stage_of new ≡ stage.Gone
      → GoesOn a new
  ended_goes a (Head stream bytes) gone = tt
  ended_goes a (Replying stream reply) gone = tt
  ended_goes a (Open socket s) gone = absurd (cc gone)
  ended_goes a (Closing socket left) gone = tt
  ended_goes a Gone gone = tt

  ended_fresh : (new : State S) → stage_of new ≡ stage.Gone → BeginsFresh new
  ended_fresh (Head stream bytes) gone = tt
  ended_fresh (Replying stream reply) gone = tt
  ended_fresh (Open socket s) gone = absurd (cc gone)
  ended_fresh (Closing socket left) gone = tt
  ended_fresh Gone gone = tt

  pub passes_ended : (hub : Hub) (old new : State S) (events : List Event)
      → events ≡ closing_of (session_of old) → stage_of new ≡ stage.Gone
      → PassesTexts remaining 1 hub old new [] events
  unfolding passes_on_none
  passes_ended hub (Open socket s) new events is gone = record {
    sends = record {
      ready = socket;
      reads_on = reads_on_same socket;
      passes_on = passes_on_none (allowed_reads hub (Some s) 1) socket [] events
          (subst (λ m. Passes [] m []) (sym is) (closing_passes (Some s)));
    };
    goes_on = ended_goes socket new gone;
  }
  passes_ended hub (Head stream bytes) new events is gone =
      (subst (λ m. Passes [] m []) (sym is) refl, ended_fresh new gone)
  passes_ended hub (Replying stream reply) new events is gone = (
    subst (λ m. Passes [] m []) (sym is) (closing_passes (entered reply.verdict)),
    ended_fresh new gone,
  )
  passes_ended hub (Closing socket left) new events is gone =
      (subst (λ m. Passes [] m []) (sym is) refl, ended_fresh new gone)
  passes_ended hub Gone new events is gone =
      (subst (λ m. Passes [] m []) (sym is) refl, ended_fresh new gone)
