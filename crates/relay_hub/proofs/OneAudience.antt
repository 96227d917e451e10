-- The sessions of one audience are told of an edit.
use Rattle.std.proofs.Common.{◌≡◌, ◌∙◌, ℕ, ◌-◌, ◌<◌, Bool, true, false, cond, List, []}
use Rattle.std.proofs.Common.{Option, Some, None, refl, sym, ap, subst, nat_eq}
use Rattle.std.specs.List.{list_any}
use Rattle.relay_audience.specs.Audiences.{is_view}
use Rattle.relay_audience.specs.declared.audience.Audience.{Audience}
use Rattle.relay_audience.proofs.Views.{view_is}
use Rattle.relay_history.specs.History.{Reaches, changes_since}
use Rattle.relay_outbox.specs.Outbox.{Contents}
use Rattle.relay_patch.specs.Change.{Leads}
use Rattle.relay_patch.specs.declared.change.Change.{Change}
use Rattle.relay_patch.specs.declared.op.Op.{Op}
use Rattle.relay_proto.specs.declared.reply.Reply.{Reply}
use Rattle.relay_room.specs.Room.{State as Room, IsRoom, revision}
use Rattle.relay_room.specs.declared.catch_up.CatchUp.{CatchUp}
use Rattle.relay_room.specs.declared.catch_up.CatchUp.TheVariants.{Nothing, Patch, Snapshot}
use Rattle.relay_tree.specs.Document.{Document}
use Rattle.relay_tree.specs.declared.budget.Budget.{Budget}
use Rattle.relay_view.specs.View.{View}
use Rattle.relay_hub.specs.Allowance.{after_update, smaller}
use Rattle.relay_hub.specs.Session.{Session, led_outbox, notified_outbox, with_outbox}
use Rattle.relay_hub.specs.State.{numbers, session_in}
use Rattle.relay_hub.specs.Step.{making, telling, NotifiedAs, NotifiedView}
use Rattle.relay_hub.specs.Telling.{updates_with, AreDue, Given, GivenIf, GivenTo, IsAudienceOf}
use Rattle.relay_hub.specs.Telling.{NotifiedIf, Tells, ToldOne}
use Rattle.relay_hub.specs.Update.{heard, left_of, update_of}
use Rattle.relay_hub.specs.Watched.{view_in}
use Rattle.relay_hub.specs.declared.update.Update.{Update}
use Rattle.relay_hub.proofs.Audiences.{nobody, shown}
use Rattle.relay_hub.proofs.Due.{due_as, due_notified}

heard_as : (budget : Budget) (rev : ℕ) (how : CatchUp) (o : Contents Reply (ℕ × List Op))
    → heard budget (update_of rev how) o ≡ led_outbox budget rev how o
heard_as budget rev Nothing o = refl
heard_as budget rev (Patch ops) o = refl
heard_as budget rev Snapshot o = refl

left_as : (rev : ℕ) (how : CatchUp) (left : Budget)
    → left_of (update_of rev how) left ≡ after_update how left
left_as rev Nothing left = refl
left_as rev (Patch ops) left = refl
left_as rev Snapshot left = refl

module _ (room : Room) (d : Document) (changes : List Change) (is : IsRoom room)
    (edited : 0 < revision room) (reaches : Reaches room.history (revision room - 1))
    (since : changes ≡ changes_since (revision room - 1) room.history)
    (leads : Leads d changes room.document) (most : Budget) (a : Audience) (xs : List Session)
    (agree : IsAudienceOf a xs) where
  -- whoever is given the update watches the view, and is notified; any other is unchanged
  module _ (update : Option Update) (given : View → Budget)
      (one : (x y : Session) (short : Bool) → Given update short x y
      → NotifiedAs d room (updates_with (making most changes room) given) (Some a.view) short x y)
    where
      as_watched : (v : Option View) (short : Bool) (x y : Session) → is_view a.view v ≡ true
          → Given update short x y
          → NotifiedAs d room (updates_with (making most changes room) given) v short x y
      as_watched (Some v) short x y same h =
          subst (λ u. NotifiedAs d room (updates_with (making most changes room) given) (Some u)
          short x y) (view_is a.view v same) (one x y short h)
      as_watched None short x y same h = cc

      if_given : (b : Bool) (short : Bool) (o p : Option Session) → is_view a.view (shown o) ≡ b
          → GivenIf b update short o p
          → NotifiedIf b d room (updates_with (making most changes room) given) short o p
      if_given true short (Some x) (Some y) same h = as_watched x.view short x y same h
      if_given true short None None same h = tt
      if_given true short (Some x) None same h = absurd h
      if_given true short None (Some y) same h = absurd h
      if_given false short o p same h = h

      pub all_given : (ys : List Session) (n : ℕ) (h : GivenTo update a.sessions xs ys n) (t : ℕ)
          → NotifiedIf (is_view a.view (view_in xs t)) d room
          (updates_with (making most changes room) given) (list_any (nat_eq t) h.short)
          (session_in xs t) (session_in ys t)
      all_given ys n h t =
          if_given (is_view a.view (view_in xs t)) (list_any (nat_eq t) h.short) (session_in xs t)
          (session_in ys t) refl
          (subst (λ b. GivenIf b update (list_any (nat_eq t) h.short) (session_in xs t)
          (session_in ys t)) (agree t) (h.each t))

  -- a session that watches the view is one of them
  attends_it : (t : ℕ) (x : Session) → session_in xs t ≡ Some x → is_view a.view x.view ≡ true
      → list_any (nat_eq t) a.sessions ≡ true
  attends_it t x there watches =
      let shown : is_view a.view (view_in xs t) ≡ true = rw there watches in agree t ∙ shown

  -- a snapshot is due for each of them
  pub told_due : (left : Budget) → AreDue a.sessions xs
      → ToldOne d room (making most changes room) left left a.view xs xs 0
  told_due left due = record {
    made = false;
    paid = refl;
    short = [];
    count = nobody (numbers xs);
    same = refl;
    each = λ t given holds. go t given (is_view a.view (view_in xs t)) refl (session_in xs t) refl;
    unmade = λ not_made t x there watches undue.
        absurd (cc (due t x (attends_it t x there watches) there, undue));
  }
    where
      go : (t : ℕ) (given : View → Budget) (b : Bool) → is_view a.view (view_in xs t) ≡ b
          → (o : Option Session) → session_in xs t ≡ o
          → NotifiedIf b d room (updates_with (making most changes room) given) false o o
      go t given true same (Some x) there =
          due_notified room d changes is edited reaches since leads most given x
          (due t x (agree t ∙ same) there)
      go t given true same None there = tt
      go t given false same o there = (refl, refl)

  -- memory ran out for the update
  pub told_short : (left : Budget) (ys : List Session) (n : ℕ) → GivenTo None a.sessions xs ys n
      → ToldOne d room (making most changes room) left left a.view xs ys n
  told_short left ys n h = record {
    made = false;
    paid = refl;
    short = h.short;
    count = h.count;
    same = h.same;
    each = λ t given holds. all_given None given (one given) ys n h t;
    unmade = λ not_made t x there watches undue. folds t x there watches undue;
  }
    where
      folds : (t : ℕ) (x : Session) → session_in xs t ≡ Some x → is_view a.view x.view ≡ true
          → x.outbox.due ≡ false → list_any (nat_eq t) h.short ≡ true
      folds t x there watches undue =
          go (list_any (nat_eq t) h.short) refl (session_in ys t)
          (subst (λ b. GivenIf b None (list_any (nat_eq t) h.short) (Some x) (session_in ys t))
          (attends_it t x there watches)
          (subst (λ o. GivenIf (list_any (nat_eq t) a.sessions) None (list_any (nat_eq t) h.short) o
          (session_in ys t)) there (h.each t)))
        where
          go : (short : Bool) → list_any (nat_eq t) h.short ≡ short → (p : Option Session)
              → GivenIf true None short (Some x) p → list_any (nat_eq t) h.short ≡ true
          go true is p k = is
          go false is (Some y) k = absurd (cc (k.0, undue))
          go false is None k = absurd k

      one : (given : View → Budget) (x y : Session) (short : Bool) → Given None short x y
          → NotifiedAs d room (updates_with (making most changes room) given) (Some a.view) short x
          y
      one given x y true k = k
      one given x y false k =
          subst (λ z. NotifiedAs d room (updates_with (making most changes room) given)
          (Some a.view) false x z) (sym k.1)
          (due_as room d changes is edited reaches since leads most given x k.0 (Some a.view))

  -- each takes the update
  pub told_made : (left rest : Budget) (update : Update)
      → Tells (smaller most left) room a.view update d changes → rest ≡ left_of update left
      → (ys : List Session) (n : ℕ) → GivenTo (Some update) a.sessions xs ys n
      → ToldOne d room (making most changes room) left rest a.view xs ys n
  told_made left rest update tells pays ys n h =
      let how = telling (smaller most left) changes room a.view in record {
        made = true;
        paid = pays ∙ (ap (λ u. left_of u left) tells.notified ∙ left_as (revision room) how left);
        short = h.short;
        count = h.count;
        same = h.same;
        each = λ t given holds. all_given (Some update) given (one given (holds refl)) ys n h t;
        unmade = λ not_made. absurd (cc not_made);
      }
    where
      outbox : (x : Session)
          → cond x.outbox.due x.outbox (heard x.budget update x.outbox)
          ≡ notified_outbox x.budget (revision room)
          (telling (smaller most left) changes room a.view) x.outbox
      outbox x =
          ap (λ o. cond x.outbox.due x.outbox o)
          (ap (λ u. heard x.budget u x.outbox) tells.notified
          ∙ heard_as x.budget (revision room) (telling (smaller most left) changes room a.view)
          x.outbox)

      viewed : (x y : Session) (short : Bool) → Given (Some update) short x y
          → NotifiedView d room (telling (smaller most left) changes room a.view) a.view short x y
      viewed x y true k = k
      viewed x y false k = (k ∙ ap (λ o. with_outbox o x) (outbox x), tells.makes, tells.fits)

      one : (given : View → Budget) → given a.view ≡ left → (x y : Session) (short : Bool)
          → Given (Some update) short x y
          → NotifiedAs d room (updates_with (making most changes room) given) (Some a.view) short x
          y
      one given holds x y short k =
          subst (λ b. NotifiedView d room (making most changes room b a.view) a.view short x y)
          (sym holds) (viewed x y short k)
