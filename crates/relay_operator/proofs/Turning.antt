-- The turns of the connections, one after another.
use Rattle.std.proofs.Common.{◌≡◌, ◌⊎◌, inl, inr, ℕ, ◌+◌, ◌<◌, ◌≤◌, List, [], ◌∷◌, ◌++◌, length}
use Rattle.std.proofs.Common.{take, drop, zero, suc, Option, Some, None}
use Rattle.std.proofs.Common.{slice_get, slice_set, refl, sym, ap, subst, ◌∙◌, arith, append-nil}
use Rattle.std.proofs.lemmas.List.{drop_all, take-append-drop, take_all, take_more}
use Rattle.std.proofs.lemmas.Option.{get_or_from_slice_get, slice_get_cases, slice_get_within}
use Rattle.relay_hub.proofs.Lists.{slice_get-set}
use Rattle.relay_admin.specs.declared.answer.Ask.{Ask}
use Rattle.relay_admin.specs.declared.request.AdminRequest.{AdminRequest}
use Rattle.relay_operator.specs.Connection.{Turns}
use Rattle.relay_operator.specs.Port.{Answered, OnlyAt, noted}
use Rattle.relay_operator.specs.Response.{AnswersAsk}
use Rattle.relay_operator.specs.Turning.{ServesAll, ServesAt, WaitsNotAt, goes, kept_before}
use Rattle.relay_operator.specs.Turning.{request_in, stays}
use Rattle.relay_operator.specs.declared.admin_connection.AdminConnection.{AdminConnection}
use Rattle.relay_operator.specs.declared.admin_connection.Found.{Found}
use Rattle.relay_operator.specs.declared.admin_connection.Found.TheVariants.{More, Nothing, Over}
use Rattle.relay_operator.specs.declared.admin_connection.Heard.TheVariants as heard
use Rattle.relay_operator.specs.declared.admin_port.AdminTurn.{AdminTurn}
use Rattle.relay_operator.specs.declared.admin_view.AdminView.{AdminView}
use Rattle.relay_operator.specs.declared.counters.Counters.{Counters}

-- the elements up to one of them
take_next : {A : Type 0} (xs : List A) (index : ℕ) (x : A) → slice_get xs index ≡ Some x
    → take (index + 1) xs ≡ take index xs ++ x ∷ []
take_next xs index x there =
    take_more xs index x (slice_get_within xs index x there)
    ∙ ap (λ y. take index xs ++ y ∷ []) (get_or_from_slice_get xs index x x there)

slice_get-drop : {A : Type 0} (index : ℕ) (xs : List A)
    → slice_get (drop index xs) 0 ≡ slice_get xs index
slice_get-drop zero xs = refl
slice_get-drop (suc index) [] = refl
slice_get-drop (suc index) (x ∷ xs) = slice_get-drop index xs

-- the next elements of two lists, if their rests are the same
same_next : {A : Type 0} (old now : List A) (index turn : ℕ) → drop index now ≡ drop turn old
    → slice_get old turn ≡ slice_get now index
same_next old now index turn same =
    sym (slice_get-drop turn old) ∙ ap (λ l. slice_get l 0) (sym same) ∙ slice_get-drop index now

module _ {S : Type 0} (remaining contents : S → Option (List ℕ)) (view : AdminView)
    (counters : Counters) where
  -- a connection had its turn, and there is nothing to answer
  pub serves_found : (index : ℕ) (found : Found) (c turned : AdminConnection S)
      (old : List (AdminConnection S)) → slice_get old index ≡ Some c
      → Turns remaining contents (heard.Found found) c turned
      → ServesAt remaining contents view counters index (found, None) old
      (slice_set old index turned)
  serves_found index found c turned old there turns = record {
    asker = c;
    there = there;
    turned = turned;
    at = slice_get-set old index c turned there;
    serves = record {
      what = heard.Found found;
      between = turned;
      finds = (refl, refl);
      turns = turns;
      responds = refl;
    };
  }

  -- it had its turn, and has the response to what was heard
  pub serves_answer : (index : ℕ) (answer : Ask) (result : Found × Option AdminRequest)
      (c between : AdminConnection S) (old new : List (AdminConnection S))
      → slice_get old index ≡ Some c → Turns remaining contents (heard.Answer answer) c between
      → result.1 ≡ request_in answer
      → Answered contents index (AnswersAsk view counters answer) (slice_set old index between) new
      → ServesAt remaining contents view counters index result old new
  serves_answer index answer result c between old new there turns serves answered =
      let set = slice_get-set old index c between there in
      let same : answered.asker ≡ between = cc (answered.there, set) in
      record {
        asker = c;
        there = there;
        turned = answered.told;
        at = answered.at;
        serves = record {
          what = heard.Answer answer;
          between = answered.asker;
          finds = serves;
          turns = subst (λ b. Turns remaining contents (heard.Answer answer) c b) (sym same) turns;
          responds = (answered.reply, answered.says, answered.tells);
        };
      }

  -- one more connection had its turn, and stays
  stays_next : (turn : AdminTurn) (result : Found × Option AdminRequest)
      (old now new : List (AdminConnection S)) (index count : ℕ)
      → slice_get old count ≡ slice_get now index → OnlyAt index now new
      → ServesAll remaining contents view counters turn (take count old) (take index now)
      → ServesAt remaining contents view counters index result now new
      → ServesAll remaining contents view counters (noted result.0 result.1 turn)
      (take (count + 1) old) (take (index + 1) new)
  stays_next turn result old now new index count next only before at =
      rw (
        take_next old count at.asker (next ∙ at.there),
        take_next new index at.turned at.at,
        only.before,
      )
      (stays turn result.0 result.1 (take count old) (take index now) at.asker at.turned before
      at.serves)

  -- or is gone
  serves_by : (turn : AdminTurn) (found : Found) (served : Option AdminRequest)
      (old now new : List (AdminConnection S)) (index count : ℕ) (c : AdminConnection S)
      → slice_get old count ≡ Some c → slice_get old count ≡ slice_get now index
      → OnlyAt index now new
      → ServesAll remaining contents view counters turn (take count old) (take index now)
      → (found ≡ Over) ⊎ ServesAt remaining contents view counters index (found, served) now new
      → (found ≡ Over → WaitsNotAt index now)
      → ServesAll remaining contents view counters (noted found served turn)
      (take (count + 1) old) (kept_before found index new)
  serves_by turn Over served old now new index count c there next only before serves over =
      rw (take_next old count c there, only.before)
      (goes turn served (take count old) (take index now) c before
      (over refl c (sym next ∙ there)))
  serves_by turn Nothing served old now new index count c there next only before (inl is) over =
      absurd (cc is)
  serves_by turn More served old now new index count c there next only before (inl is) over =
      absurd (cc is)
  serves_by turn Nothing served old now new index count c there next only before (inr at) over =
      stays_next turn (Nothing, served) old now new index count next only before at
  serves_by turn More served old now new index count c there next only before (inr at) over =
      stays_next turn (More, served) old now new index count next only before at

  pub serves_next : (was : Counters) (turn after : AdminTurn) (result : Found × Option AdminRequest)
      (old now new left : List (AdminConnection S)) (index count next : ℕ) → was ≡ counters
      → after ≡ noted result.0 result.1 turn → count < length old
      → drop index now ≡ drop count old → OnlyAt index now new
      → ServesAll remaining contents view counters turn (take count old) (take index now)
      → (result ≡ (Over, None)) ⊎ ServesAt remaining contents view was index result now new
      → (result.0 ≡ Over → WaitsNotAt index now)
      → take next left ≡ kept_before result.0 index new
      → ServesAll remaining contents view counters after (take (count + 1) old) (take next left)
  serves_next was turn after result old now new left index count next counted notes within same
      only before serves over kept =
      rw (notes, kept) (elim (slice_get_cases old count).1 [
        | inl there ↦
            serves_by turn result.0 result.1 old now new index count there.0 there.2
            (same_next old now index count same) only before (is_over serves) over
        | inr past ↦ absurd (omega (arith, within, past.0))
      ])
    where
      is_over : (result ≡ (Over, None)) ⊎ ServesAt remaining contents view was index result now new
          → (result.0 ≡ Over) ⊎ ServesAt remaining contents view counters index result now new
      is_over (inl gone) = inl (ap (λ r. r.0) gone)
      is_over (inr at) =
          inr (subst (λ n. ServesAt remaining contents view n index result now new) counted at)

  -- all had their turns
  pub serves_all : (turn : AdminTurn) (old now : List (AdminConnection S)) (index count : ℕ)
      → length old ≤ count → drop index now ≡ drop count old
      → ServesAll remaining contents view counters turn (take count old) (take index now)
      → ServesAll remaining contents view counters turn old now
  serves_all turn old now index count past same serves =
      let none : drop index now ≡ [] = same ∙ drop_all count old past in
      let all : take index now ≡ now =
      sym (append-nil (take index now)) ∙ ap (λ l. take index now ++ l) (sym none)
      ∙ take-append-drop index now in
      subst (λ l. ServesAll remaining contents view counters turn old l) all
      (subst (λ l. ServesAll remaining contents view counters turn l (take index now))
      (take_all count old past) serves)
