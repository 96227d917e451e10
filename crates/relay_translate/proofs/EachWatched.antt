-- Each pointer of an index has a watcher, after one pointer's watchers changed.
use Rattle.std.proofs.Common.{◌≡◌, ℕ, ◌==◌, List, [], ◌∷◌, Bool, true, false, cond, length, ◌&&◌}
use Rattle.std.proofs.Common.{◌||◌, refl, sym, ap, ◌∙◌, subst, eq-eqb, is_eq, nat_cmp, Result, Ok}
use Rattle.std.proofs.Common.{Err, OnOk, OnErr, IsTrue, ◌↔◌, arith}
use Rattle.std.specs.Bool.{MatchBool}
use Rattle.std.specs.List.{All, IsAmong, list_any}
use Rattle.std.specs.Map.{values_of, set_value, remove_entry}
use Rattle.std.specs.BTreeMap.{insert_entry, is_at}
use Rattle.std.specs.Cmp.{nat_cmp_total, tied_itself}
use Rattle.std.proofs.lemmas.List.Elements.{All-nil}
use Rattle.std.proofs.lemmas.Map.Views.{All-values-set_value, All-values-insert_entry}
use Rattle.std.proofs.lemmas.Map.Views.{All-map-remove_entry}
use Rattle.relay_view.specs.declared.slot.SlotKind.{SlotKind}
use Rattle.relay_view.specs.declared.slot.SlotKind.TheVariants.{Value, Size}
use Rattle.relay_translate.specs.declared.watchers.Watchers.{Watchers}
use Rattle.relay_translate.specs.SlotIndex.{SlotIndex, IsWatched, EachIsWatched, same_kind}
use Rattle.relay_translate.specs.SlotIndex.{watches_by}
use Rattle.relay_translate.proofs.Keys.{Key, against}

-- ---- the watchers of one pointer

some_member : (keys : List ℕ) → (length keys ≡ 0 → ⊥)
    → (s : ℕ) × (list_any (is_at (nat_cmp s)) keys ≡ true)
some_member [] some = absurd (some refl)
some_member (k ∷ ks) some =
    (k, ap (λ r. is_eq r || list_any (is_at (nat_cmp k)) ks) (tied_itself nat_cmp_total k))

no_member : (keys : List ℕ) (s : ℕ) → length keys ≡ 0 → list_any (is_at (nat_cmp s)) keys ≡ false
no_member [] s h = refl
no_member (k ∷ ks) s h = absurd (omega arith)

nobody_watches : (w : Watchers) → length w.values.keys ≡ 0 → length w.sizes.keys ≡ 0
    → (k : SlotKind) (s : ℕ) → watches_by k s w ≡ false
nobody_watches w values sizes Value s = no_member w.values.keys s values
nobody_watches w values sizes Size s = no_member w.sizes.keys s sizes

-- some session watches if the set of those that see the value is not empty
pub values_decide : (w : Watchers) (b : Bool) → b ≡ false → (IsTrue b ↔ (length w.values.keys ≡ 0))
    → MatchBool b ((k : SlotKind) (s : ℕ) → watches_by k s w ≡ false) (IsWatched w)
values_decide w true is empty = let no : ⊥ = cc in absurd no
values_decide w false is empty =
    let m = some_member w.values.keys (λ e. let no : false ≡ true = empty.1 e in cc) in
    (Value, m.0, m.1)

-- if it is empty, the other set decides
pub sizes_decide : (w : Watchers) (b : Bool) → length w.values.keys ≡ 0
    → (IsTrue b ↔ (length w.sizes.keys ≡ 0))
    → MatchBool b ((k : SlotKind) (s : ℕ) → watches_by k s w ≡ false) (IsWatched w)
sizes_decide w true none empty = nobody_watches w none (empty.0 refl)
sizes_decide w false none empty =
    let m = some_member w.sizes.keys (λ e. let no : false ≡ true = empty.1 e in cc) in
    (Size, m.0, m.1)

own_slot : (b : Bool) (kind : SlotKind) (s : ℕ) → (b || (same_kind kind kind && (s == s))) ≡ true
own_slot true kind s = refl
own_slot false Value s = eq-eqb s s refl
own_slot false Size s = eq-eqb s s refl

-- who joined watches
pub joined_watches : (v w : Watchers) (kind : SlotKind) (session : ℕ)
    → ((k : SlotKind) (s : ℕ)
    → watches_by k s w ≡ (watches_by k s v || (same_kind k kind && (s == session)))) → IsWatched w
joined_watches v w kind session own =
    (kind, session, own kind session ∙ own_slot (watches_by kind session v) kind session)

-- the same sessions watch
same_watches : (v w : Watchers) → ((k : SlotKind) (s : ℕ) → watches_by k s w ≡ watches_by k s v)
    → IsWatched v → IsWatched w
same_watches v w own h = (h.0, h.1, own h.0 h.1 ∙ h.2)

-- some session watches after an insertion, whether it succeeded or not
pub insert_watches : {T E : Type 0} (v w : Watchers) (kind : SlotKind) (session : ℕ)
    (r : Result T E)
    → OnOk r ((k : SlotKind) (s : ℕ)
    → watches_by k s w ≡ (watches_by k s v || (same_kind k kind && (s == session))))
    → OnErr r ((k : SlotKind) (s : ℕ) → watches_by k s w ≡ watches_by k s v) → IsWatched v
    → IsWatched w
insert_watches v w kind session (Ok x) joins stays h = joined_watches v w kind session joins
insert_watches v w kind session (Err e) joins stays h = same_watches v w stays h

-- ---- the index

-- a removal takes the entry that was written
removed_written : {K X : Type 0} (test : K → Bool) (es : List (K × X)) (w : X)
    → remove_entry test (set_value test es w) ≡ remove_entry test es
removed_written test [] w = refl
removed_written test (e ∷ es) w = go (test e.0) refl (removed_written test es w)
  where
    go : (b : Bool) → test e.0 ≡ b → remove_entry test (set_value test es w) ≡ remove_entry test es
        → remove_entry test (cond b ((e.0, w) ∷ es) (e ∷ set_value test es w))
        ≡ cond b es (e ∷ remove_entry test es)
    go true is rest = rw is refl
    go false is rest = rw (is, rest) refl

pub each_none : (index : SlotIndex) → index.entries ≡ [] → EachIsWatched index
each_none index none = subst (λ es. All IsWatched (values_of es)) (sym none) (All-nil IsWatched)

module _ (index : SlotIndex) (h : EachIsWatched index) where
  pub each_same : (new : SlotIndex) → new.entries ≡ index.entries → EachIsWatched new
  each_same new same = subst (λ es. All IsWatched (values_of es)) (sym same) h

  -- the watchers that a look-up finds
  pub found_watches : (w : Watchers) → IsAmong (values_of index.entries) w → IsWatched w
  found_watches w among = subst IsWatched (sym among.1.1) (h among.0 w among.1.0)

  pub each_written : (new : SlotIndex) (test : Key → Bool) (w : Watchers)
      → new.entries ≡ set_value test index.entries w → IsWatched w → EachIsWatched new
  each_written new test w is some =
      subst (λ es. All IsWatched (values_of es)) (sym is)
      (All-values-set_value test IsWatched index.entries w h some)

  pub each_inserted : (new : SlotIndex) (key : Key) (w : Watchers)
      → new.entries ≡ insert_entry (λ a b. against a.items b) index.entries key w → IsWatched w
      → EachIsWatched new
  each_inserted new key w is some =
      subst (λ es. All IsWatched (values_of es)) (sym is)
      (All-values-insert_entry (λ a b. against a.items b) key w IsWatched index.entries h some)

  -- the entry that was written is removed
  pub each_removed : (between new : SlotIndex) (test : Key → Bool) (w : Watchers)
      → between.entries ≡ set_value test index.entries w
      → new.entries ≡ remove_entry test between.entries → EachIsWatched new
  each_removed between new test w written is =
      subst (λ es. All IsWatched (values_of es))
      (sym (is ∙ ap (remove_entry test) written ∙ removed_written test index.entries w))
      (All-map-remove_entry test (λ e. e.1) IsWatched index.entries h)
