-- The progress of a client's socket with the texts of a turn.
use Rattle.std.proofs.Common.{◌≡◌, ℕ, ◌+◌, ◌<◌, ◌≤◌, ◌^◌, List, [], ◌∷◌, ◌++◌, length, Option, Some}
use Rattle.std.proofs.Common.{Result, Ok, Err, OnOk, refl, sym, ◌∙◌, ap, subst, arith, append_assoc}
use Rattle.std.proofs.Common.{append-nil, length-append}
use Rattle.tungstenite.specs.Socket.{Socket}
use Rattle.relay_follow.specs.Hearing.{as_client, told}
use Rattle.relay_hub.specs.Log.{Log}
use Rattle.relay_hub.specs.State.{State}
use Rattle.relay_hub.specs.declared.config.HubConfig.{HubConfig}
use Rattle.relay_hub.specs.declared.event.Event.{Event}
use Rattle.relay_link.specs.Follows.{with_events, drawn}
use Rattle.relay_link.specs.Frames.{text_frame, text_frames}
use Rattle.relay_tree.specs.Document.{Document}
use Rattle.relay_delivery.specs.Socket.{Listens, IsNextFault, FitFrames}
use Rattle.relay_delivery.specs.Texts.{told_all, StopsAt, HearsAll}
use Rattle.relay_delivery.specs.Turn.{FramedTurn, Resumes, KeepsUp, Delivered}
use Rattle.relay_delivery.specs.declared.fault.SocketFault.{SocketFault}
use Rattle.relay_delivery.proofs.Progress.{told_next}
use Rattle.relay_delivery.proofs.Turns.{held}

module _ {S : Type 0} (remaining : S → Option (List ℕ)) where
  -- so many of the texts were heard, in order, and the frames of the others are still to be read
  pub record Ahead (old new : Option (ℕ
      × Document)) (texts : List (List ℕ)) (rest : List ℕ) (n : ℕ) (socket : Socket S) : Type 0
    where
      pub heard : List (List ℕ)
      pub others : List (List ℕ)
      pub all : texts ≡ heard ++ others
      pub count : length heard ≡ n
      pub holds : told_all (as_client old) heard ≡ Some (as_client new)
      pub listens : Listens remaining socket (text_frames others ++ rest)
      pub fit : FitFrames others

  pub begins : (old : Option (ℕ
      × Document)) (texts : List (List ℕ)) (rest : List ℕ) (socket : Socket S)
      → FitFrames texts → Listens remaining socket (text_frames texts ++ rest)
      → Ahead old old texts rest 0 socket
  begins old texts rest socket fit listens =
      record {
        heard = [];
        others = texts;
        all = refl;
        count = refl;
        holds = refl;
        listens = listens;
        fit = fit;
      }

  -- the next text
  record Next (others : List (List ℕ)) : Type 0 where
    text : List ℕ
    more : List (List ℕ)
    is : others ≡ text ∷ more

  next_of : (others : List (List ℕ)) → 0 < length others → Next others
  next_of [] some = absurd (omega (arith, some))
  next_of (text ∷ more) some = record { text = text; more = more; is = refl }

  some_left : (heard others texts : List (List ℕ)) (n count : ℕ) → texts ≡ heard ++ others
      → length heard ≡ n → length texts ≡ count → n < count → 0 < length others
  some_left heard others texts n count all is whole less =
      omega (arith, less, is, whole, ap length all, length-append heard others)

  module _ (old mid : Option (ℕ
      × Document)) (texts : List (List ℕ)) (rest : List ℕ) (n count : ℕ) (socket : Socket S)
      (h : Ahead old mid texts rest n socket) (whole : length texts
      ≡ count) (less : n < count) where
    coming : Next h.others
    coming = next_of h.others (some_left h.heard h.others texts n count h.all h.count whole less)

    all_is : texts ≡ h.heard ++ coming.text ∷ coming.more
    all_is = h.all ∙ ap (λ l. h.heard ++ l) coming.is

    ahead_fit : FitFrames (coming.text ∷ coming.more)
    ahead_fit = subst FitFrames coming.is h.fit

    ahead_listens : Listens remaining socket (text_frame coming.text
        ++ (text_frames coming.more ++ rest))
    ahead_listens =
        let is : text_frames h.others ++ rest
        ≡ text_frame coming.text ++ (text_frames coming.more ++ rest) =
        ap (λ l. text_frames l ++ rest) coming.is
        ∙ append_assoc (text_frame coming.text) (text_frames coming.more) rest in
        subst (Listens remaining socket) is h.listens

    pub ahead_next : (new : Option (ℕ × Document)) (after : Socket S)
        → ((text bytes : List ℕ) → length text < 2 ^ 63
        → Listens remaining socket (text_frame text ++ bytes)
        → (told (as_client mid) text ≡ Some (as_client new)) × Listens remaining after bytes)
        → Ahead old new texts rest (n + 1) after
    ahead_next new after hears =
        let did = hears coming.text (text_frames coming.more ++ rest) ahead_fit.0 ahead_listens in
        record {
          heard = h.heard ++ coming.text ∷ [];
          others = coming.more;
          all = all_is ∙ sym (append_assoc h.heard (coming.text ∷ []) coming.more);
          count = length-append h.heard (coming.text ∷ []) ∙ ap (λ m. m + 1) h.count;
          holds =
              told_next (as_client old) (as_client mid) (as_client new) h.heard coming.text h.holds
              did.0;
          listens = did.1;
          fit = ahead_fit.1;
        }

    pub stops_ahead : (new : Option (ℕ × Document)) (Why : Option (ℕ × Document) → List ℕ → Type 0)
        → ((text bytes : List ℕ) → length text < 2 ^ 63
        → Listens remaining socket (text_frame text ++ bytes) → Why mid text) → new ≡ mid
        → StopsAt old new texts Why
    stops_ahead new Why refuses same = record {
      heard = h.heard;
      text = coming.text;
      rest = coming.more;
      all = all_is;
      holds = rw same h.holds;
      why =
          rw same (refuses coming.text (text_frames coming.more ++ rest) ahead_fit.0 ahead_listens);
    }

  none_left : (others : List (List ℕ)) → length others ≡ 0 → others ≡ []
  none_left [] none = refl
  none_left (text ∷ others) none = absurd (omega (arith, none))

  pub ends : (old new : Option (ℕ
      × Document)) (texts : List (List ℕ)) (rest : List ℕ) (n count : ℕ) (socket : Socket S)
      → Ahead old new texts rest n socket → length texts ≡ count → count ≤ n
      → (told_all (as_client old) texts ≡ Some (as_client new)) × Listens remaining socket rest
  ends old new texts rest n count socket h whole past =
      let none : h.others ≡ [] =
      none_left h.others (omega (
        arith,
        past,
        h.count,
        whole,
        ap length h.all,
        length-append h.heard h.others,
      )) in
      let all : texts ≡ h.heard = h.all ∙ ap (λ l. h.heard ++ l) none ∙ append-nil h.heard in
      (rw all h.holds, subst (λ l. Listens remaining socket (text_frames l ++ rest)) none h.listens)

  -- ---- a turn

  pub delivers_turn : (b : HubConfig) (E : Log) (hub next : State) (s : ℕ) (events : List Event)
      (frames rest : List ℕ) (count : ℕ) (old new : Option (ℕ × Document)) (before after : Socket S)
      (turn : FramedTurn s hub next events frames) (result : Result (Unit {0}) SocketFault)
      → ((texts : List (List ℕ)) (more : List ℕ) → length texts ≡ count → FitFrames texts
      → Listens remaining before (text_frames texts ++ more)
      → HearsAll IsNextFault old new texts result × OnOk result (Listens remaining after more))
      → length (drawn turn.follows) ≡ count → FitFrames (drawn turn.follows)
      → Listens remaining before (frames ++ rest) → Resumes b E s (as_client old) turn.follows
      → KeepsUp b E hub s (as_client old)
      → OnOk result (Delivered b (with_events turn.follows E) next s (as_client new)
      × Listens remaining after rest)
  delivers_turn b E hub next s events frames rest count old new before after turn
      (Err e) hears whole fit listens resumes keeps = tt
  delivers_turn b E hub next s events frames rest count old new before after turn (Ok u) hears whole
      fit listens resumes keeps =
      let did =
      hears (drawn turn.follows) rest whole fit (subst (λ l.
      Listens remaining before (l ++ rest)) turn.frames_are listens) in
      (held b E hub next s events frames old new turn resumes keeps did.0.heard, did.1)
