-- A session that an edit does not touch is notified of nothing; so if those that it touches are
-- notified, all are.
use Rattle.std.proofs.Common.{◌≡◌, ◌⊎◌, ℕ, ◌-◌, ◌<◌, ◌==◌, Bool, true, false, cond, nat_eq}
use Rattle.std.proofs.Common.{List, [], inl, inr}
use Rattle.std.proofs.Common.{◌∷◌, Option, Some, None, Ok, refl, sym, ap, ◌∙◌, ◌||◌, subst, arith}
use Rattle.std.proofs.Common.{take}
use Rattle.std.proofs.Common.{length, ◌≤◌, option_map}
use Rattle.std.specs.List.{list_any}
use Rattle.std.proofs.Math.Bool.{or-true}
use Rattle.std.proofs.lemmas.Bool.Decides.{nat_tests}
use Rattle.relay_audience.specs.Audiences.{numbered, slots_at, IsAudiences}
use Rattle.relay_audience.specs.Audiences.{OthersStay}
use Rattle.relay_audience.specs.ViewOrder.{same_view}
use Rattle.relay_audience.specs.declared.audience.Audience.{Audience}
use Rattle.relay_audience.proofs.Laws.{audience_of}
use Rattle.relay_audience.proofs.Views.{view_itself}
use Rattle.relay_history.specs.History.{Past, Reaches, in_order, changes_since}
use Rattle.relay_outbox.specs.Outbox.{Contents}
use Rattle.relay_patch.specs.After.{after}
use Rattle.relay_patch.specs.Change.{Leads}
use Rattle.relay_patch.specs.Patch.{free}
use Rattle.relay_patch.specs.declared.change.Change.{Change}
use Rattle.relay_patch.specs.declared.op.Op.{Op}
use Rattle.relay_proto.specs.declared.reply.Reply.{Reply}
use Rattle.relay_room.specs.Newest.{newest_changes, newest_of}
use Rattle.relay_room.specs.Room.{State as Room, revision}
use Rattle.relay_room.specs.declared.catch_up.CatchUp.TheVariants.{Nothing}
use Rattle.relay_room.proofs.Missed.{afforded_none}
use Rattle.relay_translate.specs.Translate.{local}
use Rattle.relay_translate.specs.Watches.{slots_of}
use Rattle.relay_translate.proofs.Slots.{translation}
use Rattle.relay_tree.specs.Document.{Document}
use Rattle.relay_tree.specs.declared.budget.Budget.{Budget}
use Rattle.relay_view.specs.View.{View, view}
use Rattle.relay_hub.specs.Allowance.{left_for, smaller}
use Rattle.relay_hub.specs.Session.{Session, notified_outbox, with_outbox}
use Rattle.relay_hub.specs.State.{session_in}
use Rattle.relay_hub.specs.Step.{making, telling, AllNotified, NotifiedAs, NotifiedIn, NotifiedView}
use Rattle.relay_hub.specs.Telling.{is_one_of, is_some_of, named, updates_with, views_of}
use Rattle.relay_hub.specs.Telling.{with_first, NotifiedIf, ToldThose}
use Rattle.relay_hub.specs.Watched.{view_in, AreAudiencesOf}
use Rattle.relay_hub.proofs.Audiences.{shown}
use Rattle.relay_hub.proofs.Waiting.{by_due}

-- ---- an edit that does not touch a view

-- an outbox that is notified of nothing is unchanged, whether a snapshot is due or not
unnotified_outbox : (budget : Budget) (rev : ℕ) (o : Contents Reply (ℕ × List Op))
    → notified_outbox budget rev Nothing o ≡ o
unnotified_outbox budget rev o =
    by_due (λ p. p ≡ o) budget rev Nothing o (λ due. refl) (λ due. refl)

module _ (room : Room) (d : Document) (changes : List Change)
    (leads : Leads d changes room.document) where
  unseen : (v : View) → local changes room.document v ≡ [] → view v d ≡ view v room.document
  unseen v none =
      let after_none : after (view v d) [] free ≡ Ok (view v room.document) =
      subst (λ ops. after (view v d) ops free
      ≡ Ok (view v room.document)) none (translation changes room.document v d leads) in
      cc after_none

  quiet_view : (budget : Budget) (v : View) (x : Session) → local changes room.document v ≡ []
      → NotifiedView d room (telling budget changes room v) v false x x
  quiet_view budget v x none =
      rw (none, afforded_none budget) (
        ap (λ o. with_outbox o x) (sym (unnotified_outbox x.budget (revision room) x.outbox)),
        unseen v none,
        tt,
      )

  module _ (most total rest : Budget) (views : List View) (xs ys : List Session) (n : ℕ)
      (told : ToldThose d room (making most changes room) total rest views xs ys n)
      (others : (t : ℕ) (v : View) → view_in xs t ≡ Some v → is_one_of views v ≡ false
      → local changes room.document v ≡ []) where
    abbrev given : View → Budget
    given = left_for (making most changes room) total told.made

    quiet_as : (o : Option View) (x : Session)
        → ((v : View) → o ≡ Some v → local changes room.document v ≡ [])
        → NotifiedAs d room (updates_with (making most changes room) given) o false x x
    quiet_as (Some v) x none = quiet_view (smaller most (given v)) v x (none v refl)
    quiet_as None x none = (refl, refl)

    quiet_in : (o : Option Session)
        → ((v : View) → shown o ≡ Some v → local changes room.document v ≡ [])
        → NotifiedIn d room (updates_with (making most changes room) given) false o o
    quiet_in (Some x) none = quiet_as x.view x none
    quiet_in None none = tt

    either : (b short : Bool) (o p : Option Session)
        → (b ≡ false → (v : View) → shown o ≡ Some v → local changes room.document v ≡ [])
        → NotifiedIf b d room (updates_with (making most changes room) given) short o p
        → NotifiedIn d room (updates_with (making most changes room) given) short o p
    either true short o p quiet h = h
    either false short o p quiet h = rw (h.0, h.1) (quiet_in o (quiet refl))

    outside : (t : ℕ) → is_some_of views (view_in xs t) ≡ false → (v : View)
        → view_in xs t ≡ Some v → local changes room.document v ≡ []
    outside t none v has = others t v has (rw has at none)

    -- an edit that touches a view has had its update made
    touched_or_made : (t : ℕ) (x : Session) (v : View) → session_in xs t ≡ Some x
        → x.view ≡ Some v → x.outbox.due ≡ false → list_any (nat_eq t) told.short ≡ false
        → (b : Bool) → is_one_of views v ≡ b
        → (local changes room.document v ≡ []) ⊎ (is_one_of told.made v ≡ true)
    touched_or_made t x v there watches undue folds true one =
        inr (told.all t x v there watches one undue folds)
    touched_or_made t x v there watches undue folds false none =
        inl (others t v (rw there watches) none)

    -- whoever watches a view of which the edit changes nothing is notified by nothing
    pub all_told : AllNotified d changes room most total xs ys n
    all_told = record {
      made = told.made;
      short = told.short;
      count = told.count;
      same = told.same;
      each =
          λ t.
          either (is_some_of views (view_in xs t)) (list_any (nat_eq t) told.short)
          (session_in xs t) (session_in ys t) (outside t)
          (told.each t given (λ v there. refl));
      all = λ t x v there watches undue folds.
          touched_or_made t x v there watches undue folds (is_one_of views v) refl;
    }

-- ---- which views are told

-- the view of each audience
pub watched_there : (audiences : List Audience) (n : ℕ) (a : Audience)
    → numbered n audiences ≡ Some a → is_one_of (views_of audiences) a.view ≡ true
watched_there [] n a at = cc
watched_there (b ∷ audiences) n a at = go (b.number == n) at (watched_there audiences n a)
  where
    go : (c : Bool) → cond c (Some b) (numbered n audiences) ≡ Some a
        → (numbered n audiences ≡ Some a → is_one_of (views_of audiences) a.view ≡ true)
        → (same_view a.view b.view || is_one_of (views_of audiences) a.view) ≡ true
    go true is rest = let same : b ≡ a = cc in rw (same, view_itself a.view) refl
    go false is rest = rw (rest is) (or-true (same_view a.view b.view))

-- the view of each audience with one of the numbers
pub named_there : (audiences : List Audience) (n : ℕ) (a : Audience) (ns : List ℕ)
    → numbered n audiences ≡ Some a → list_any (nat_eq n) ns ≡ true
    → is_one_of (views_of (named audiences ns)) a.view ≡ true
named_there audiences n a [] at among = cc
named_there audiences n a (m ∷ ns) at among =
    go (nat_eq n m) refl (numbered m audiences) refl among (named_there audiences n a ns at)
  where
    go : (c : Bool) → nat_eq n m ≡ c → (o : Option Audience) → numbered m audiences ≡ o
        → (c || list_any (nat_eq n) ns) ≡ true
        → (list_any (nat_eq n) ns ≡ true
        → is_one_of (views_of (named audiences ns)) a.view ≡ true)
        → is_one_of (views_of (with_first o (named audiences ns))) a.view ≡ true
    go true is o there h rest =
        let same : n ≡ m = grind (arith, nat_tests, is) in
        let found : o ≡ Some a = sym there ∙ (ap (λ k. numbered k audiences) (sym same) ∙ at) in
        rw (found, view_itself a.view) refl
    go false is None there h rest = rest h
    go false is (Some b) there h rest = rw (rest h) (or-true (same_view a.view b.view))

module _ (audiences : List Audience) (apart : IsAudiences audiences) (xs : List Session)
    (agree : AreAudiencesOf audiences xs) (t : ℕ) (v : View) (has : view_in xs t ≡ Some v) where
  watching : (a : Audience) × (numbered a.number audiences ≡ Some a)
      × (a.view ≡ v)
  watching =
      let some = audience_of t v audiences apart.rising (agree.agrees t ∙ has) in
      (some.0, some.1, some.3)

  -- no view of a session is left out
  pub not_outside : is_one_of (views_of audiences) v ≡ false → ⊥
  not_outside none =
      let a = watching in
      let there : is_one_of (views_of audiences) v ≡ true =
      rw a.2 at (watched_there audiences a.0.number a.0 a.1) in
      cc (none, there)

  -- of one that is left out an edit changes nothing
  pub quiet_outside : (changes : List Change) (ns : List ℕ) → OthersStay changes audiences ns
      → is_one_of (views_of (named audiences ns)) v ≡ false → (now : Document)
      → local changes now v ≡ []
  quiet_outside changes ns others none now =
      let a = watching in
      let slots : slots_at audiences a.0.number ≡ v =
      ap (λ o. slots_of (option_map (λ (b : Audience). b.view) o)) a.1 ∙ a.2 in
      subst (λ u. local changes now u ≡ []) slots
      (others a.0.number now (unnamed (list_any (nat_eq a.0.number) ns) refl))
    where
      unnamed : (b : Bool) → list_any (nat_eq watching.0.number) ns ≡ b
          → list_any (nat_eq watching.0.number) ns ≡ false
      unnamed true is =
          let there : is_one_of (views_of (named audiences ns)) v ≡ true =
          rw watching.2 at
          (named_there audiences watching.0.number watching.0 ns watching.1 is) in
          cc (none, there)
      unnamed false is = is

-- ---- the changes of the newest revision

pub newest_since : (past : Past) → 0 < past.newest → Reaches past (past.newest - 1)
    → newest_changes past ≡ changes_since (past.newest - 1) past
newest_since past made reaches =
    let one : past.newest - (past.newest - 1) ≡ 1 = omega (arith, made) in
    rw one (go past.changes reaches.back)
  where
    go : (changes : List (List Change)) → past.newest - length changes ≤ past.newest - 1
        → newest_of changes ≡ in_order (take 1 changes)
    go [] back = absurd (omega (arith, made, back))
    go (newest ∷ older) back = refl
