-- The progress of a client with the frames that it receives.
use Rattle.std.proofs.Common.{◌≡◌, ℕ, ◌<◌, ◌≤◌, List, [], ◌∷◌, ◌++◌, length, drop, Option, Some}
use Rattle.std.proofs.Common.{None, refl, sym, ◌∙◌, ap, arith, append_assoc, append-nil}
use Rattle.std.proofs.Common.{length-append}
use Rattle.std.specs.Prelude.{option_and_then}
use Rattle.std.proofs.lemmas.List.{drop_at, drop_all}
use Rattle.relay_follow.specs.Hearing.{as_client, told}
use Rattle.relay_proto.specs.Client.{Client}
use Rattle.relay_tree.specs.Document.{Document}
use Rattle.websocket.specs.FrameHeader.{encode_header}
use Rattle.relay_link.specs.Frames.{text_frame, text_frames}
use Rattle.relay_delivery.specs.Texts.{told_all, HearsOne, HearsTexts, IsFaultOf, StopsAt}
use Rattle.relay_delivery.specs.declared.fault.ReceiveFault.{ReceiveFault}

-- ---- texts, one after another

after_told : (o : Option Client) (xs ys : List (List ℕ))
    → ((m : Client) → told_all m (xs ++ ys) ≡ option_and_then (λ n. told_all n ys) (told_all m xs))
    → option_and_then (λ m. told_all m (xs ++ ys)) o ≡ option_and_then (λ n.
    told_all n ys) (option_and_then (λ m. told_all m xs) o)
after_told None xs ys each = refl
after_told (Some m) xs ys each = each m

pub told_all-append : (c : Client) (xs ys : List (List ℕ))
    → told_all c (xs ++ ys) ≡ option_and_then (λ n. told_all n ys) (told_all c xs)
told_all-append c [] ys = refl
told_all-append c (x ∷ xs) ys = after_told (told c x) xs ys (λ m. told_all-append m xs ys)

-- one more
pub told_next : (c m n : Client) (xs : List (List ℕ)) (text : List ℕ) → told_all c xs ≡ Some m
    → told m text ≡ Some n → told_all c (xs ++ text ∷ []) ≡ Some n
told_next c m n xs text before next = rw (told_all-append c xs (text ∷ []), before, next) refl

-- whatever was read: a follower hears one text, and so some texts

pub hears_one : (old new : Option (ℕ × Document)) (text : List ℕ)
    → told (as_client old) text ≡ Some (as_client new) → HearsOne old new
hears_one old new text holds = record { text = text; holds = holds }

pub hears_none : (held : Option (ℕ × Document)) → HearsTexts held held
hears_none held = record { texts = []; holds = refl }

pub hears_more : (old mid new : Option (ℕ × Document)) → HearsTexts old mid → HearsOne mid new
    → HearsTexts old new
hears_more old mid new before next = record {
  texts = before.texts ++ next.text ∷ [];
  holds =
      told_next (as_client old) (as_client mid) (as_client new) before.texts next.text before.holds
      next.holds;
}

pub hears_no_more : (old mid new : Option (ℕ × Document)) → HearsTexts old mid → new ≡ mid
    → HearsTexts old new
hears_no_more old mid new before same = rw same before

-- ---- frames

-- a frame has a header
frame_length : (text : List ℕ) → 0 < length (text_frame text)
unfolding encode_header
frame_length text = omega arith

no_frames : (texts : List (List ℕ)) → text_frames texts ≡ [] → texts ≡ []
no_frames [] none = refl
no_frames (text ∷ texts) none =
    let h = frame_length text in
    let whole = length-append (text_frame text) (text_frames texts) in
    let empty : length (text_frames (text ∷ texts)) ≡ 0 = ap length none in
    absurd (omega (arith, h, whole, empty))

-- some of the texts were heard, in order, and these are the frames of the others
pub record HasHeard (old new : Option (ℕ
    × Document)) (texts : List (List ℕ)) (frames : List ℕ) : Type 0 where
  pub heard : List (List ℕ)
  pub rest : List (List ℕ)
  pub all : texts ≡ heard ++ rest
  pub left : frames ≡ text_frames rest
  pub holds : told_all (as_client old) heard ≡ Some (as_client new)

-- no frame is left
pub heard_all : (old new : Option (ℕ
    × Document)) (texts : List (List ℕ)) (frames : List ℕ) (start : ℕ) → length frames ≤ start
    → HasHeard old new texts (drop start frames)
    → told_all (as_client old) texts ≡ Some (as_client new)
heard_all old new texts frames start end h =
    let none : h.rest ≡ [] = no_frames h.rest (sym h.left ∙ drop_all start frames end) in
    let all : texts ≡ h.heard = h.all ∙ ap (λ l. h.heard ++ l) none ∙ append-nil h.heard in
    rw all h.holds

-- the next text, and the frames of those behind it
record Next (heard rest : List (List ℕ)) (frames : List ℕ) : Type 0 where
  text : List ℕ
  more : List (List ℕ)
  rest_is : rest ≡ text ∷ more
  frames_are : frames ≡ text_frame text ++ text_frames more

next_of : (heard rest : List (List ℕ)) (frames : List ℕ) → 0 < length frames
    → frames ≡ text_frames rest → Next heard rest frames
next_of heard [] frames some left = absurd (omega (arith, some, ap length left))
next_of heard (text ∷ more) frames some left =
    record { text = text; more = more; rest_is = refl; frames_are = left }

module _ (old mid new : Option (ℕ
    × Document)) (texts : List (List ℕ)) (frames part : List ℕ) (some : 0 < length frames)
    (h : HasHeard old mid texts frames) (is : part ≡ frames) where
  -- a frame was read, and its text was heard
  pub heard_next : {P : Type 0} (consumed : ℕ) (after : List ℕ)
      → ((text rest : List ℕ) → part ≡ text_frame text ++ rest
      → P × (consumed ≡ length (text_frame text))
      × (told (as_client mid) text ≡ Some (as_client new)))
      → after ≡ drop consumed part → P × HasHeard old new texts after
  heard_next consumed after reads behind =
      let next = next_of h.heard h.rest frames some h.left in
      let did = reads next.text (text_frames next.more) (is ∙ next.frames_are) in (
        did.0,
        record {
          heard = h.heard ++ next.text ∷ [];
          rest = next.more;
          all = h.all ∙ ap (λ l. h.heard ++ l) next.rest_is
              ∙ sym (append_assoc h.heard (next.text ∷ []) next.more);
          left = behind ∙ ap (drop consumed) (is ∙ next.frames_are)
              ∙ drop_at (text_frame next.text) (text_frames next.more) consumed (sym did.1);
          holds =
              told_next (as_client old) (as_client mid) (as_client new) h.heard next.text h.holds
              did.2;
        },
      )

  -- its text was not heard
  pub stops_next : (fault : ReceiveFault)
      → ((text rest : List ℕ) → part ≡ text_frame text ++ rest → IsFaultOf fault mid text)
      → new ≡ mid → StopsAt old new texts (IsFaultOf fault)
  stops_next fault refuses same =
      let next = next_of h.heard h.rest frames some h.left in
      record {
        heard = h.heard;
        text = next.text;
        rest = next.more;
        all = h.all ∙ ap (λ l. h.heard ++ l) next.rest_is;
        holds = rw same h.holds;
        why = rw same (refuses next.text (text_frames next.more) (is ∙ next.frames_are));
      }
