-- The views of sessions, and the slots that stand for them in the index.
use Rattle.std.proofs.Common.{subst, ◌≡◌, ◌≤◌, length, ℕ, ◌==◌, zero, suc, List, [], ◌∷◌, take}
use Rattle.std.proofs.Common.{Option, Some, None, Bool, true, false, not, ◌&&◌, ◌||◌, cond, refl}
use Rattle.std.proofs.Common.{sym, ap, ◌∙◌, arith, nat_cmp}
use Rattle.std.specs.List.{list_any}
use Rattle.std.specs.Ordering.{eq_by_cmp}
use Rattle.std.specs.Cmp.{nat_cmp_total, unsigned_ties, eq_by_cmp_equiv}
use Rattle.std.specs.BTreeMap as tree
use Rattle.std.specs.BTreeMap.{BTreeMap, Updates, is_at}
use Rattle.std.specs.Map.{lookup}
use Rattle.std.specs.FinMap as fin
use Rattle.std.specs.FinMap.{find, get-from_entries, get-insert, get-remove, get-empty, same_map}
use Rattle.std.specs.FinMap.{nat_cmp-IsAntisymmetric}
use Rattle.std.proofs.lemmas.Bool.Decides.{nat_tests}
use Rattle.relay_view.specs.View.{View}
use Rattle.std.specs.Option.{option_map_or}
use Rattle.relay_pointer.specs.Path.{path_of, same_path}
use Rattle.relay_translate.specs.declared.watchers.Watchers.{Watchers}
use Rattle.relay_translate.specs.Watches.{Watches, slots_of}
use Rattle.relay_translate.proofs.Keys.{Key}
use Rattle.relay_translate.proofs.Standing.{slots_same}
use Rattle.relay_view.specs.declared.slot.Slot.{Slot}
use Rattle.relay_translate.specs.SlotIndex.{SlotIndex, IsIndex, IsWithin, AreWithin, Joins, Leaves}
use Rattle.relay_translate.specs.SlotIndex.{same_slot, watches_by, watches_of}

-- ---- the map

seen_at : (es : List (ℕ × View)) (q : ℕ) → find nat_cmp q es ≡ lookup (is_at (nat_cmp q)) es
seen_at [] q = refl
seen_at (e ∷ es) q = ap (cond (is_at (nat_cmp q) e.0) (Some e.1)) (seen_at es q)

-- a look-up in the map built from the entries
pub get_seen : (views : BTreeMap ℕ View) (q : ℕ)
    → fin.get (watches_of views) q ≡ lookup (is_at (nat_cmp q)) views.entries
get_seen views q = get-from_entries nat_cmp_total views.entries q ∙ seen_at views.entries q

pub watched : (old new : BTreeMap ℕ View) (s : ℕ) (view : View)
    → Updates nat_cmp old new s (Some view) → watches_of new ≡ fin.insert (watches_of old) s view
watched old new s view h = same_map nat_cmp_total nat_cmp-IsAntisymmetric _ _ (λ q.
    get_seen new q ∙ h.0 q
    ∙ ap (λ b. cond b (Some view) (tree.get nat_cmp old q))
    ((eq_by_cmp_equiv nat_cmp_total).symm s q)
    ∙ sym (get-insert nat_cmp_total (watches_of old) s view q
    ∙ ap (cond (eq_by_cmp nat_cmp q s) (Some view)) (get_seen old q)))

pub left : (old new : BTreeMap ℕ View) (s : ℕ) → Updates nat_cmp old new s None
    → watches_of new ≡ fin.remove (watches_of old) s
left old new s h = same_map nat_cmp_total nat_cmp-IsAntisymmetric _ _ (λ q.
    get_seen new q ∙ h.0 q
    ∙ ap (λ b. cond b None (tree.get nat_cmp old q)) ((eq_by_cmp_equiv nat_cmp_total).symm s q)
    ∙ sym (get-remove nat_cmp_total (watches_of old) s q
    ∙ ap (cond (eq_by_cmp nat_cmp q s) None) (get_seen old q)))

tied : (s t : ℕ) → eq_by_cmp nat_cmp t s ≡ (t == s)
tied s t = sym (unsigned_ties t s)

-- ---- the index

pub index_none : (index : SlotIndex) → index.entries ≡ [] → IsIndex index fin.empty
index_none index none v s = rw (get-empty nat_cmp s, none) refl

-- the slots of the new view joined, and those that only the former had left
pub index_put : (old between new : SlotIndex) (watches : Watches) (session : ℕ)
    (former : Option View) (view : View) → fin.get watches session ≡ former → IsIndex old watches
    → Joins old between session view → Leaves between new session (slots_of former) view
    → IsIndex new (fin.insert watches session view)
index_put old between new watches session former view was h joins leaves v s =
    leaves v s ∙ ap
    (λ b. b && not
    ((s == session)
    && (list_any (same_slot v) (slots_of former) && not (list_any (same_slot v) view))))
    (joins v s ∙ ap (λ b. b || ((s == session) && list_any (same_slot v) view)) (h v s))
    ∙ go (s == session) refl
  where
    own : (f n : Bool) → ((f || (true && n)) && not (true && (f && not n))) ≡ n
    own true true = refl
    own true false = refl
    own false true = refl
    own false false = refl

    other : (x f n : Bool) → ((x || (false && n)) && not (false && (f && not n))) ≡ x
    other true f n = refl
    other false f n = refl

    go : (b : Bool) → (s == session) ≡ b
        → ((list_any (same_slot v) (slots_of (fin.get watches s))
        || (b && list_any (same_slot v) view))
        && not (b && (list_any (same_slot v) (slots_of former)
        && not (list_any (same_slot v) view))))
        ≡ list_any (same_slot v) (slots_of (fin.get (fin.insert watches session view) s))
    go true is =
        let same : s ≡ session = grind (arith, nat_tests) in
        let got : fin.get watches s ≡ former = ap (fin.get watches) same ∙ was in
        rw (got, get-insert nat_cmp_total watches session view s, tied session s, is)
        (own (list_any (same_slot v) (slots_of former)) (list_any (same_slot v) view))
    go false is =
        rw (get-insert nat_cmp_total watches session view s, tied session s, is)
        (other (list_any (same_slot v) (slots_of (fin.get watches s)))
        (list_any (same_slot v) (slots_of former)) (list_any (same_slot v) view))

any_first : {X : Type 0} (p : X → Bool) (n : ℕ) (xs : List X) → list_any p (take n xs) ≡ true
    → list_any p xs ≡ true
any_first p zero xs h = cc
any_first p (suc n) [] h = cc
any_first p (suc n) (x ∷ xs) h = go (p x) h (any_first p n xs)
  where
    go : (b : Bool) → (b || list_any p (take n xs)) ≡ true
        → (list_any p (take n xs) ≡ true → list_any p xs ≡ true) → (b || list_any p xs) ≡ true
    go true k rest = refl
    go false k rest = rest k

-- some slots of a view joined, and those that are not the session's left
pub index_stays : (old between new : SlotIndex) (watches : Watches) (session n : ℕ) (view : View)
    → IsIndex old watches → Joins old between session (take n view)
    → Leaves between new session view (slots_of (fin.get watches session)) → IsIndex new watches
index_stays old between new watches session n view h joins leaves v s =
    leaves v s ∙ ap
    (λ b. b && not
    ((s == session)
    && (list_any (same_slot v) view
    && not (list_any (same_slot v) (slots_of (fin.get watches session))))))
    (joins v s ∙ ap (λ b. b || ((s == session) && list_any (same_slot v) (take n view)))
    (h v s))
    ∙ go (s == session) refl
  where
    own : (f t n : Bool) → (t ≡ true → n ≡ true)
        → ((f || (true && t)) && not (true && (n && not f))) ≡ f
    own true t true more = refl
    own true t false more = refl
    own false true true more = refl
    own false true false more = let no = more refl in cc
    own false false n more = refl

    other : (x t n f : Bool) → ((x || (false && t)) && not (false && (n && not f))) ≡ x
    other true t n f = refl
    other false t n f = refl

    go : (b : Bool) → (s == session) ≡ b
        → ((list_any (same_slot v) (slots_of (fin.get watches s))
        || (b && list_any (same_slot v) (take n view)))
        && not (b && (list_any (same_slot v) view
        && not (list_any (same_slot v) (slots_of (fin.get watches session))))))
        ≡ list_any (same_slot v) (slots_of (fin.get watches s))
    go true is =
        let same : s ≡ session = grind (arith, nat_tests) in
        rw (← same) (own (list_any (same_slot v) (slots_of (fin.get watches s)))
        (list_any (same_slot v) (take n view)) (list_any (same_slot v) view)
        (any_first (same_slot v) n view))
    go false is =
        other (list_any (same_slot v) (slots_of (fin.get watches s)))
        (list_any (same_slot v) (take n view)) (list_any (same_slot v) view)
        (list_any (same_slot v) (slots_of (fin.get watches session)))

-- the slots of the session left
pub index_left : (old new : SlotIndex) (watches : Watches) (session : ℕ) (former : Option View)
    → fin.get watches session ≡ former → IsIndex old watches
    → Leaves old new session (slots_of former) [] → IsIndex new (fin.remove watches session)
index_left old new watches session former was h leaves v s =
    leaves v s ∙ ap
    (λ b. b && not ((s == session) && (list_any (same_slot v) (slots_of former) && not false)))
    (h v s) ∙ go (s == session) refl
  where
    own : (f : Bool) → (f && not (true && (f && not false))) ≡ false
    own true = refl
    own false = refl

    other : (x f : Bool) → (x && not (false && (f && not false))) ≡ x
    other true f = refl
    other false f = refl

    go : (b : Bool) → (s == session) ≡ b
        → (list_any (same_slot v) (slots_of (fin.get watches s))
        && not (b && (list_any (same_slot v) (slots_of former) && not false)))
        ≡ list_any (same_slot v) (slots_of (fin.get (fin.remove watches session) s))
    go true is =
        let same : s ≡ session = grind (arith, nat_tests) in
        let got : fin.get watches s ≡ former = ap (fin.get watches) same ∙ was in
        rw (got, get-remove nat_cmp_total watches session s, tied session s, is)
        (own (list_any (same_slot v) (slots_of former)))
    go false is =
        rw (get-remove nat_cmp_total watches session s, tied session s, is)
        (other (list_any (same_slot v) (slots_of (fin.get watches s)))
        (list_any (same_slot v) (slots_of former)))

-- a copy of the view was put, and the slots of the former view that the new one lacks left
module _ (views after : BTreeMap ℕ View) (session : ℕ) (copy view : View) (same : copy ≡ view)
    (updates : Updates nat_cmp views after session (Some copy)) where
  pub put_copy : watches_of after ≡ fin.insert (watches_of views) session view
  put_copy = watched views after session copy updates
      ∙ ap (fin.insert (watches_of views) session) same

  pub index_replaced : (former : Option View)
      → former ≡ lookup (is_at (nat_cmp session)) views.entries
      → (old between new : SlotIndex) (slots : List Slot) → slots ≡ view
      → IsIndex old (watches_of views) → Joins old between session slots
      → Leaves between new session (slots_of former) view → IsIndex new (watches_of after)
  index_replaced former was old between new slots listed h joins leaves =
      subst (IsIndex new) (sym put_copy)
      (index_put old between new (watches_of views) session former view
      (get_seen views session ∙ sym was) h
      (subst (λ us. Joins old between session us) listed joins) leaves)

-- ---- the longest pointer

-- one slot more
pub within_more : (deepest most : ℕ) (us more : List Slot) (u : Slot)
    → ((p : Slot → Bool) → list_any p more ≡ (list_any p us || p u)) → deepest ≤ most
    → length u.pointer ≤ most → AreWithin deepest us → AreWithin most more
within_more deepest most us more u next le fits h v there =
    go (list_any (same_slot v) us) refl (sym (next (same_slot v)) ∙ there)
  where
    go : (b : Bool) → list_any (same_slot v) us ≡ b → (b || same_slot v u) ≡ true
        → length v.pointer ≤ most
    go true is k = omega (arith, h v is, le)
    go false is k = subst (λ w. length w.pointer ≤ most) (sym (slots_same v u k)) fits

pub within_put : (old new : SlotIndex) (watches : Watches) (session : ℕ) (view : View)
    (deepest depth most : ℕ) → IsIndex old watches → IsIndex new (fin.insert watches session view)
    → IsWithin deepest old → AreWithin depth view → deepest ≤ most → depth ≤ most
    → IsWithin most new
within_put old new watches session view deepest depth most was is within fits le less v s there =
    go (s == session) refl (sym (is v s) ∙ there)
  where
    go : (b : Bool) → (s == session) ≡ b
        → list_any (same_slot v) (slots_of (fin.get (fin.insert watches session view) s)) ≡ true
        → length v.pointer ≤ most
    go true same h =
        let mine : list_any (same_slot v) view ≡ true =
        subst (λ o. list_any (same_slot v) (slots_of o) ≡ true)
        (get-insert nat_cmp_total watches session view s
        ∙ ap (λ b. cond b (Some view) (fin.get watches s)) (tied session s ∙ same)) h in
        omega (arith, fits v mine, less)
    go false other h =
        let old_one : list_any (same_slot v) (slots_of (fin.get watches s)) ≡ true =
        subst (λ o. list_any (same_slot v) (slots_of o) ≡ true)
        (get-insert nat_cmp_total watches session view s
        ∙ ap (λ b. cond b (Some view) (fin.get watches s)) (tied session s ∙ other)) h in
        omega (arith, within v s (was v s ∙ old_one), le)

pub within_left : (old new : SlotIndex) (watches : Watches) (session deepest : ℕ)
    → IsIndex old watches → IsIndex new (fin.remove watches session) → IsWithin deepest old
    → IsWithin deepest new
within_left old new watches session deepest was is within v s there =
    go (s == session) refl (sym (is v s) ∙ there)
  where
    go : (b : Bool) → (s == session) ≡ b
        → list_any (same_slot v) (slots_of (fin.get (fin.remove watches session) s)) ≡ true
        → length v.pointer ≤ deepest
    go true same h =
        let gone : false ≡ true =
        subst (λ o. list_any (same_slot v) (slots_of o) ≡ true)
        (get-remove nat_cmp_total watches session s
        ∙ ap (λ b. cond b None (fin.get watches s)) (tied session s ∙ same)) h in
        cc
    go false other h =
        let old_one : list_any (same_slot v) (slots_of (fin.get watches s)) ≡ true =
        subst (λ o. list_any (same_slot v) (slots_of o) ≡ true)
        (get-remove nat_cmp_total watches session s
        ∙ ap (λ b. cond b None (fin.get watches s)) (tied session s ∙ other)) h in
        within v s (was v s ∙ old_one)

pub within_none : (index : SlotIndex) (deepest : ℕ) → index.entries ≡ [] → IsWithin deepest index
within_none index deepest none v s there =
    let no : false ≡ true =
    sym (ap (λ (es : List (Key × Watchers)). option_map_or (watches_by v.kind s)
    (lookup (λ key. same_path (path_of key.items) v.pointer) es) false) none) ∙ there in
    cc

-- ---- slots that pass a test

-- some element passes
pub any_some : {X : Type 0} (p : X → Bool) (xs : List X) → list_any p xs ≡ true
    → (x : X) × (p x ≡ true) × ((q : X → Bool) → q x ≡ true → list_any q xs ≡ true)
any_some p [] h = cc
any_some {X} p (x ∷ xs) h = go (p x) refl h (any_some p xs)
  where
    go : (b : Bool) → p x ≡ b → (b || list_any p xs) ≡ true
        → (list_any p xs ≡ true
        → (y : X) × (p y ≡ true) × ((q : X → Bool) → q y ≡ true → list_any q xs ≡ true))
        → (y : X) × (p y ≡ true) × ((q : X → Bool) → q y ≡ true → (q x || list_any q xs) ≡ true)
    go true is k rest = (x, is, λ q j. rw j refl)
    go false is k rest =
        let some = rest k in
        (some.0, some.1, λ q j. or_true (q x) (list_any q xs) (some.2 q j))
      where
        or_true : (a b : Bool) → b ≡ true → (a || b) ≡ true
        or_true true b j = refl
        or_true false b j = j
