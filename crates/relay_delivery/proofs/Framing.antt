-- The promise of a write turn of a link about the bytes that it framed.
use Rattle.std.proofs.Common.{◌≡◌, ◌≤◌, ℕ, ◌+◌, cond, List, [], ◌∷◌, ◌++◌, Option, Some, Result, Ok}
use Rattle.std.proofs.Common.{Err, IfOk, subst, arith}
use Rattle.std.proofs.lemmas.List.Sums.{sum_by-append}
use Rattle.std.specs.Io.KnownBytes.{Appends}
use Rattle.relay_hub.specs.Log.{Log}
use Rattle.relay_hub.specs.State.{State as Hub}
use Rattle.relay_hub.specs.declared.config.HubConfig.{HubConfig}
use Rattle.relay_hub.specs.declared.event.Event.{Event}
use Rattle.relay_hub.specs.declared.event.Event.TheVariants.{Open as OpenEvent, Receive, Draw}
use Rattle.relay_hub.specs.declared.event.Event.TheVariants.{Close, DoWill, Forget}
use Rattle.relay_hub.specs.declared.event.Event.TheVariants.{Adopt, RaiseFloor}
use Rattle.relay_link.specs.Adds.{is_receive, receives}
use Rattle.relay_link.specs.Follows.{Point, at, no_opening, Follows, stays, makes, drawn}
use Rattle.relay_link.specs.Frames.{framed, text_frames}
use Rattle.relay_link.specs.Tells.{Told, WhileOpen}
use Rattle.relay_link.specs.Turns.{Turns}
use Rattle.relay_link.specs.declared.corked_writer.CorkedWriter.{CorkedWriter}
use Rattle.relay_link.specs.declared.state.State.{State}
use Rattle.relay_link.specs.declared.state.State.TheVariants.{Open}
use Rattle.relay_link.specs.declared.turn.Turn.{Turn}
use Rattle.tungstenite.specs.Socket.{Socket}
use Rattle.relay_proto.specs.Client.{Client}
use Rattle.relay_delivery.specs.Turn.{FramedWriteTurn, Resumes}

same_rest : (before xs ys : List ℕ) → before ++ xs ≡ before ++ ys → xs ≡ ys
same_rest [] xs ys is = is
same_rest (b ∷ before) xs ys is = same_rest before xs ys (cc is)

appended : (old new : Option (List ℕ)) (before frames texts : List ℕ) → Appends old new texts
    → old ≡ Some before → new ≡ Some (before ++ frames) → frames ≡ texts
appended old new before frames texts appends was is =
    let whole : before ++ frames ≡ before ++ texts = (rw (was, is) at appends) in
    same_rest before frames texts whole

-- ---- no request

one_more : (events : List Event) (event : Event)
    → receives (events ++ event ∷ []) ≡ receives events + receives (event ∷ [])
one_more events event = sum_by-append (λ e. cond (is_receive e) 1 0) events (event ∷ [])

nobody_resumes : (b : HubConfig) (E : Log) (s : ℕ) (c : Client) {p q : Point}
    (follows : Follows no_opening p q) → receives q.events ≡ 0 → Resumes b E s c follows
nobody_resumes b E s c stays none = tt
nobody_resumes b E s c (makes (OpenEvent room access) answer follows own step) none = absurd own.1
nobody_resumes b E s c (makes {q = q} (Receive t text) answer follows own step) none =
    absurd (omega (arith, none, one_more q.events (Receive t text)))
nobody_resumes b E s c (makes {q = q} (Draw t) answer follows own step) none =
    let before : receives q.events ≡ 0 = omega (arith, none, one_more q.events (Draw t)) in
    (nobody_resumes b E s c follows before, λ m told. tt)
nobody_resumes b E s c (makes {q = q} (Close t) answer follows own step) none =
    let before : receives q.events ≡ 0 = omega (arith, none, one_more q.events (Close t)) in
    (nobody_resumes b E s c follows before, λ m told. tt)
nobody_resumes b E s c (makes DoWill answer follows own step) none = absurd own
nobody_resumes b E s c (makes (Forget room) answer follows own step) none = absurd own
nobody_resumes b E s c (makes (Adopt room rev d) answer follows own step) none = absurd own
nobody_resumes b E s c (makes (RaiseFloor rev) answer follows own step) none = absurd own

-- ---- a turn

module _ {S : Type 0} (remaining contents : S → Option (List ℕ)) where
  told_turn : (hub next : Hub) (events : List Event) (s t : ℕ) (old new : Socket (CorkedWriter S))
      (before frames : List ℕ)
      → Told contents (at hub (Some s) []) (at next (Some t) events) old new
      → receives events ≤ 0 → framed contents old ≡ Some before
      → framed contents new ≡ Some (before ++ frames) → FramedWriteTurn s hub next events frames
  told_turn hub next events s t old new before frames told few was is =
      let none : receives events ≡ 0 = omega (arith, few) in
      record {
        turn = record {
          after = t;
          follows = told.follows;
          utf8 = told.framed.utf8;
          frames_are = appended (framed contents old) (framed contents new) before frames
              (text_frames (drawn told.follows)) told.framed.frames was is;
        };
        resumes = λ b E c. nobody_resumes b E s c told.follows none;
      }

  framed_turn : (hub next : Hub) (old new : State S) (draws : ℕ) (turn : Turn)
      → Turns remaining 0 draws hub old next new turn
      → WhileOpen (Told contents) hub [] old next turn.events.items new
      → (was is : Socket (CorkedWriter S)) (s t : ℕ) (before frames : List ℕ)
      → old ≡ Open was s → new ≡ Open is t → framed contents was ≡ Some before
      → framed contents is ≡ Some (before ++ frames)
      → FramedWriteTurn s hub next turn.events.items frames
  framed_turn hub next old new draws turn turns tells was is s t before frames from to known grown =
      told_turn hub next turn.events.items s t was is before frames
      (subst (λ x. WhileOpen (Told contents) hub [] (Open was s) next turn.events.items x) to
      (subst (λ x. WhileOpen (Told contents) hub [] x next turn.events.items new) from tells))
      turns.heard known grown

  pub framed_if : {E : Type 0} (result : Result Turn E) (hub next : Hub) (old new : State S)
      (draws : ℕ) → IfOk result (Turns remaining 0 draws hub old next new)
      → IfOk result (λ turn. WhileOpen (Told contents) hub [] old next turn.events.items new)
      → IfOk result (λ turn. (was is : Socket (CorkedWriter S)) (s t : ℕ) (before frames : List ℕ)
      → old ≡ Open was s → new ≡ Open is t → framed contents was ≡ Some before
      → framed contents is ≡ Some (before ++ frames)
      → FramedWriteTurn s hub next turn.events.items frames)
  framed_if (Ok turn) hub next old new draws turns tells =
      framed_turn hub next old new draws turn turns tells
  framed_if (Err e) hub next old new draws turns tells = tt
