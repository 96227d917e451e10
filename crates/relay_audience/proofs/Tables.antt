-- The tables of audiences, as an audience comes or goes.
use Rattle.std.proofs.Common.{◌≡◌, ◌∙◌, ℕ, ◌==◌, Bool, cond, [], ◌∷◌, ◌++◌, Some, None, refl}
use Rattle.std.proofs.Common.{Result, Ok, Err, List, true, false, sym, ap, subst, arith, nat_cmp}
use Rattle.std.proofs.lemmas.Bool.Decides.{nat_tests}
use Rattle.std.specs.Result.{IfOk, OnOk, OnErr}
use Rattle.std.specs.BTreeMap.{Updates}
use Rattle.std.specs.Cmp.{nat_cmp_total, nat_eq_equiv, unsigned_ties}
use Rattle.std.specs.FinMap as fin
use Rattle.std.specs.FinMap.{get-empty, get-insert, get-remove}
use Rattle.std.specs.Ordering.{eq_by_cmp}
use Rattle.relay_view.specs.View.{View}
use Rattle.relay_translate.specs.Watches.{Watches}
use Rattle.relay_audience.specs.ViewOrder.{same_view, view_cmp}
use Rattle.relay_audience.specs.declared.audience.Audience.{Audience}
use Rattle.relay_audience.specs.Table.{keys, Keys, Places, number_in, view_in, dropped, IsKeyed}
use Rattle.relay_audience.proofs.KeyLists.{AreBefore, none_before, number_push, view_push}
use Rattle.relay_audience.proofs.KeyLists.{order_push, once_push, number_drop, view_drop}
use Rattle.relay_audience.proofs.KeyLists.{order_drop, once_drop}

same_number : (n m : ℕ) → eq_by_cmp nat_cmp m n ≡ (n == m)
same_number n m = sym (unsigned_ties m n) ∙ nat_eq_equiv.symm m n

pub keyed_none : (places : Places) → places.entries ≡ [] → IsKeyed [] places fin.empty
keyed_none places none = record {
  order = tt;
  once = tt;
  by_view = λ v. rw none refl;
  by_number = λ n. get-empty nat_cmp n;
}

module _ (ks : Keys) (places : Places) (index : Watches) (h : IsKeyed ks places index) where
  -- a view is added behind the others
  pub keyed_push : (n : ℕ) (v : View) (new : Places) → AreBefore n ks → number_in v ks ≡ None
      → Updates view_cmp places new v (Some n)
      → IsKeyed (ks ++ (n, v) ∷ []) new (fin.insert index n v)
  keyed_push n v new before none updates = record {
    order = order_push n v ks before h.order;
    once = once_push n v ks none h.once;
    by_view = λ q. updates.0 q ∙ (ap (cond (same_view v q) (Some n)) (h.by_view q)
        ∙ sym (number_push n v ks q none));
    by_number = λ m. get-insert nat_cmp_total index n v m
        ∙ (ap (λ b. cond b (Some v) (fin.get index m)) (same_number n m)
        ∙ (ap (cond (n == m) (Some v)) (h.by_number m) ∙ sym (view_push n v ks m before)));
  }

  -- a view is added to the index, and removed from it
  pub keyed_back : (n : ℕ) (v : View) (new : Places) → AreBefore n ks
      → new.entries ≡ places.entries
      → IsKeyed ks new (fin.remove (fin.insert index n v) n)
  keyed_back n v new before same = record {
    order = h.order;
    once = h.once;
    by_view = λ q. rw same (h.by_view q);
    by_number = λ m. get-remove nat_cmp_total (fin.insert index n v) n m
        ∙ (ap (cond (eq_by_cmp nat_cmp m n) None) (get-insert nat_cmp_total index n v m)
        ∙ (ap (λ b. cond b None (cond b (Some v) (fin.get index m))) (same_number n m)
        ∙ absent m (n == m) refl));
  }
    where
      absent : (m : ℕ) (b : Bool) → (n == m) ≡ b
          → cond b None (cond b (Some v) (fin.get index m)) ≡ view_in m ks
      absent m true is =
          let same : n ≡ m = grind (arith, nat_tests) in
          sym (subst (λ x. view_in x ks ≡ None) same (none_before n ks before))
      absent m false is = h.by_number m

  -- the view of a number is dropped
  pub keyed_drop : (n : ℕ) (v : View) (new : Places) → number_in v ks ≡ Some n
      → Updates view_cmp places new v None → IsKeyed (dropped n ks) new (fin.remove index n)
  keyed_drop n v new there updates = record {
    order = order_drop n ks h.order;
    once = once_drop n ks h.once;
    by_view = λ q. updates.0 q ∙ (ap (cond (same_view v q) None) (h.by_view q)
        ∙ sym (number_drop n v ks q h.order h.once there));
    by_number = λ m. get-remove nat_cmp_total index n m
        ∙ (ap (λ b. cond b None (fin.get index m)) (same_number n m)
        ∙ (ap (cond (n == m) None) (h.by_number m) ∙ sym (view_drop n ks m h.order)));
  }

pub keys_push : (xs : List Audience) (a : Audience)
    → keys (xs ++ a ∷ []) ≡ keys xs ++ (a.number, a.view) ∷ []
keys_push [] a = refl
keys_push (x ∷ xs) a = ap (λ ks. (x.number, x.view) ∷ ks) (keys_push xs a)

-- what holds after either outcome
pub either_outcome : {T E P Q G : Type 0} (r : Result T E) → (P → G) → (Q → G) → OnOk r P
    → OnErr r Q → G
either_outcome (Ok x) ok err p q = ok p
either_outcome (Err e) ok err p q = err q

-- what follows from two clauses together
pub both_ok : {T E : Type 0} (r : Result T E) (P Q R : T → Type 0) → ((x : T) → P x → Q x → R x)
    → IfOk r P → IfOk r Q → IfOk r R
both_ok (Ok x) P Q R f p q = f x p q
both_ok (Err e) P Q R f p q = tt

-- ---- a new audience, with all that it takes

-- it comes, if memory is there
pub keyed_begun : (xs ys zs : List Audience) (a : Audience) (places new : Places)
    (index later : Watches) (v : View) → IsKeyed (keys xs) places index
    → AreBefore a.number (keys xs) → number_in v (keys xs) ≡ None → a.view ≡ v → ys ≡ xs
    → zs ≡ ys ++ a ∷ [] → later ≡ fin.insert index a.number v
    → Updates view_cmp places new v (Some a.number) → IsKeyed (keys zs) new later
keyed_begun xs ys zs a places new index later v h before none view same pushed put updates =
    let ks : keys zs ≡ keys xs ++ (a.number, v) ∷ [] =
    ap keys pushed ∙ keys_push ys a
    ∙ (λ i. keys (same i) ++ (a.number, view i) ∷ []) in
    subst (λ l. IsKeyed l new later) (sym ks)
    (subst (IsKeyed (keys xs ++ (a.number, v) ∷ []) new) (sym put)
    (keyed_push (keys xs) places index h a.number v new before none updates))

-- and if it is not, what was put in the index is taken out
pub keyed_undone : (xs ys : List Audience) (places new : Places) (index between later : Watches)
    (n : ℕ) (v : View) → IsKeyed (keys xs) places index → AreBefore n (keys xs) → ys ≡ xs
    → between ≡ fin.insert index n v → new.entries ≡ places.entries
    → later ≡ fin.remove between n → IsKeyed (keys ys) new later
keyed_undone xs ys places new index between later n v h before same put entries out =
    let is : later ≡ fin.remove (fin.insert index n v) n =
    out ∙ ap (λ w. fin.remove w n) put in
    subst (λ l. IsKeyed (keys l) new later) (sym same)
    (subst (IsKeyed (keys xs) new) (sym is)
    (keyed_back (keys xs) places index h n v new before entries))
