-- The sessions that a list gains from the watchers of one pointer, and from those of a run of
-- pointers.
use Rattle.std.proofs.Common.{◌≡◌, ℕ, ◌⊎◌, inl, inr, List, [], ◌∷◌, filter, Some, None, Bool, true}
use Rattle.std.proofs.Common.{false, not, ◌&&◌, ◌||◌, cond, if◌then◌else◌, refl, sym, ap, subst}
use Rattle.std.proofs.Common.{◌∙◌, is_gt, is_le, Ordering, Less, Equal, Greater}
use Rattle.std.specs.Bool.{⊤}
use Rattle.std.specs.List.{All, AllByRecursion}
use Rattle.std.specs.List.Sorted.{IsStrictlySortedBy}
use Rattle.std.specs.Map.{keys_of, lookup}
use Rattle.std.specs.Option.{option_map_or}
use Rattle.std.specs.BTreeMap.Range.{entries_between, range_contains, IsEntryInRange}
use Rattle.std.specs.declared.ops.Bound.TheVariants.{Included, Unbounded}
use Rattle.std.proofs.lemmas.List.Elements.{recursion_from_All}
use Rattle.std.proofs.lemmas.List.Kept.{IsStrictlySortedBy-filter}
use Rattle.relay_pointer.specs.Path.{Path, path_of, same_path, is_prefix}
use Rattle.relay_pointer.proofs.Prefixes.{equal_paths}
use Rattle.relay_patch.specs.declared.change.Change.{Change}
use Rattle.relay_view.specs.declared.slot.Slot.{Slot}
use Rattle.relay_view.specs.declared.slot.SlotKind.{SlotKind}
use Rattle.relay_view.specs.declared.slot.SlotKind.TheVariants.{Value, Size}
use Rattle.relay_translate.specs.declared.watchers.Watchers.{Watchers}
use Rattle.relay_translate.specs.Watches.{touches}
use Rattle.relay_translate.specs.SlotIndex.{SlotIndex, named, Gains, stands, watches_by}
use Rattle.relay_translate.specs.SlotIndex.{watchers_at, slot_of, tells}
use Rattle.relay_translate.proofs.Paths.{path_cmp, texts_cmp, prefix_first, between_prefix}
use Rattle.relay_translate.proofs.Keys.{Key, against, at_tokens}

-- the new list has the sessions of the old one and the watchers of the path whose slots the change
-- touches
abbrev pub Told : Change → Path → Watchers → List ℕ → List ℕ → Type 0
Told c path w old new = (s : ℕ) → named new s ≡ (named old s || tells c path s w)

or_left : (a b : Bool) → a ≡ true → (a || b) ≡ true
or_left true b h = refl
or_left false b h = cc

or_right : (a b : Bool) → b ≡ true → (a || b) ≡ true
or_right true b h = refl
or_right false b h = h

either : (a b : Bool) → (a || b) ≡ true → (a ≡ true) ⊎ (b ≡ true)
either true b h = inl refl
either false b h = inr h

both : (a b : Bool) → (a && b) ≡ true → (a ≡ true) × (b ≡ true)
both true b h = (refl, h)
both false b h = cc

told_by : (c : Change) (path : Path) (w : Watchers) (kind : SlotKind) (s : ℕ)
    → watches_by kind s w ≡ true → touches c (slot_of path kind) ≡ true → tells c path s w ≡ true
told_by c path w Value s h k = rw (h, k) refl
told_by c path w Size s h k =
    or_right (watches_by Value s w && touches c (slot_of path Value))
    (watches_by Size s w && touches c (slot_of path Size)) (rw (h, k) refl)

module _ (c : Change) (path : Path) (w : Watchers) (index : SlotIndex) (old new : List ℕ)
    (there : watchers_at index path ≡ Some w) (told : Told c path w old new) where
  pub told_kept : (s : ℕ) → named old s ≡ true → named new s ≡ true
  told_kept s h = told s ∙ or_left (named old s) (tells c path s w) h

  pub told_found : (v : Slot) (s : ℕ) → path ≡ v.pointer → stands index v s ≡ true
      → touches c v ≡ true → named new s ≡ true
  told_found v s at h k =
      let mine : watches_by v.kind s w ≡ true =
      sym (ap (λ o. option_map_or (watches_by v.kind s) o false)
      (ap (watchers_at index) (sym at) ∙ there)) ∙ h in
      let touched : touches c (slot_of path v.kind) ≡ true =
      subst (λ p. touches c (slot_of p v.kind) ≡ true) (sym at) k in
      told s ∙ or_right (named old s) (tells c path s w) (told_by c path w v.kind s mine touched)

  told_only_by : (kind : SlotKind) (s : ℕ)
      → (watches_by kind s w && touches c (slot_of path kind)) ≡ true
      → (v : Slot) × (stands index v s ≡ true) × (touches c v ≡ true)
  told_only_by kind s h =
      let parts = both (watches_by kind s w) (touches c (slot_of path kind)) h in
      (slot_of path kind, rw there parts.0, parts.1)

  pub told_only : (s : ℕ) → named new s ≡ true
      → (named old s ≡ true) ⊎ ((v : Slot) × (stands index v s ≡ true) × (touches c v ≡ true))
  told_only s h = go (either (named old s) (tells c path s w) (sym (told s) ∙ h))
    where
      by_kind : ((watches_by Value s w && touches c (slot_of path Value)) ≡ true)
          ⊎ ((watches_by Size s w && touches c (slot_of path Size)) ≡ true)
          → (v : Slot) × (stands index v s ≡ true) × (touches c v ≡ true)
      by_kind (inl k) = told_only_by Value s k
      by_kind (inr k) = told_only_by Size s k

      go : (named old s ≡ true) ⊎ (tells c path s w ≡ true)
          → (named old s ≡ true) ⊎ ((v : Slot) × (stands index v s ≡ true) × (touches c v ≡ true))
      go (inl k) = inl k
      go (inr k) =
          inr (by_kind
          (either (watches_by Value s w && touches c (slot_of path Value))
          (watches_by Size s w && touches c (slot_of path Size)) k))

  pub gains_at : Gains (same_path path) c index old new
  gains_at = record {
    kept = told_kept;
    found = λ v s h k at. told_found v s (equal_paths path v.pointer at) h k;
    only = told_only;
  }

pub gains_nowhere : (c : Change) (path : Path) (index : SlotIndex) (sessions : List ℕ)
    → watchers_at index path ≡ None → Gains (same_path path) c index sessions sessions
gains_nowhere c path index sessions none =
    record {
      kept = λ s h. h;
      found = λ v s h k at. nobody v s (equal_paths path v.pointer at) h;
      only = λ s h. inl h;
    }
  where
    nobody : (v : Slot) (s : ℕ) → path ≡ v.pointer → stands index v s ≡ true
        → named sessions s ≡ true
    nobody v s at h =
        let no : false ≡ true =
        sym (ap (λ o. option_map_or (watches_by v.kind s) o false)
        (ap (watchers_at index) (sym at) ∙ none)) ∙ h in
        cc

-- ---- a run of pointers

abbrev pub Entry : Type 0
Entry = Key × Watchers

abbrev pub at_entry : Entry → Path
at_entry e = path_of e.0.items

abbrev Begins : Path → Entry → Type 0
Begins path e = is_prefix path (at_entry e) ≡ true

abbrev Others : Path → List Entry → Type 0
Others path es = AllByRecursion (λ e. is_prefix path (at_entry e) ≡ false) es

-- behind an entry that does not begin with the path, none does
abbrev Settled : Path → List Entry → Type 0
Settled path [] = ⊤
Settled path (e ∷ es) = (is_prefix path (at_entry e) ≡ false → Others path es) × Settled path es

-- the list after a walk over the entries of the run but for the rest
pub record Walked (c : Change) (path : Path) (index : SlotIndex) (rest : List Entry)
    (old now : List ℕ) : Type 0 where
  pub kept : (s : ℕ) → named old s ≡ true → named now s ≡ true
  pub found : (v : Slot) (s : ℕ) → stands index v s ≡ true → touches c v ≡ true
      → is_prefix path v.pointer ≡ true
      → (named now s ≡ true)
      ⊎ (lookup (λ key. same_path (path_of key.items) v.pointer) rest ≡ watchers_at index v.pointer)
  pub only : (s : ℕ) → named now s ≡ true
      → (named old s ≡ true) ⊎ ((v : Slot) × (stands index v s ≡ true) × (touches c v ≡ true))
  pub settled : Settled path rest
  pub among : AllByRecursion (λ e. watchers_at index (at_entry e) ≡ Some e.1) rest

-- none of the rest is at a path that begins with this one
not_there : (path q : Path) (rest : List Entry) → Others path rest → is_prefix path q ≡ true
    → lookup (λ key. same_path (path_of key.items) q) rest ≡ None
not_there path q [] others h = refl
not_there path q (e ∷ es) others h =
    go (same_path (at_entry e) q) refl (not_there path q es others.1 h)
  where
    go : (b : Bool) → same_path (at_entry e) q ≡ b
        → lookup (λ key. same_path (path_of key.items) q) es ≡ None
        → cond b (Some e.1) (lookup (λ key. same_path (path_of key.items) q) es) ≡ None
    go true is rest =
        let same : at_entry e ≡ q = equal_paths (at_entry e) q is in
        let no : false ≡ true = sym others.0 ∙ ap (is_prefix path) same ∙ h in
        cc
    go false is rest = rest

module _ {c : Change} {path : Path} {index : SlotIndex} {rest : List Entry} {old now : List ℕ}
    (w : Walked c path index rest old now) where
  -- no other entry begins with the path
  walked_past : Others path rest → Gains (is_prefix path) c index old now
  walked_past others =
      record {
        kept = w.kept;
        found = λ v s h k at. by_found v s h at (w.found v s h k at);
        only = w.only;
      }
    where
      by_found : (v : Slot) (s : ℕ) → stands index v s ≡ true → is_prefix path v.pointer ≡ true
          → (named now s ≡ true)
          ⊎ (lookup (λ key. same_path (path_of key.items) v.pointer) rest
          ≡ watchers_at index v.pointer) → named now s ≡ true
      by_found v s h at (inl there) = there
      by_found v s h at (inr same) =
          let none : watchers_at index v.pointer ≡ None =
          sym same ∙ not_there path v.pointer rest others at in
          let no : false ≡ true =
          sym (ap (λ o. option_map_or (watches_by v.kind s) o false) none) ∙ h in
          cc

  -- there are no other entries
  pub walked_end : rest ≡ [] → Gains (is_prefix path) c index old now
  walked_end none = walked_past (subst (λ es. Others path es) (sym none) tt)

  module _ (e : Entry) (more : List Entry) (next : rest ≡ e ∷ more) where
    -- the next entry is passed over
    pub walked_all : is_prefix path (at_entry e) ≡ false → Gains (is_prefix path) c index old now
    walked_all past =
        let settled : Settled path (e ∷ more) = subst (λ es. Settled path es) next w.settled in
        walked_past (subst (λ es. Others path es) (sym next) (past, settled.0 past))

    among_next : AllByRecursion (λ f. watchers_at index (at_entry f) ≡ Some f.1) (e ∷ more)
    among_next =
        subst (λ es. AllByRecursion (λ f. watchers_at index (at_entry f) ≡ Some f.1) es) next
        w.among

    -- the next entry's watchers are told
    pub walked_more : (new : List ℕ) → Told c (at_entry e) e.1 now new
        → Walked c path index more old new
    walked_more new told =
        let settled : Settled path (e ∷ more) = subst (λ es. Settled path es) next w.settled in
        record {
          kept = λ s h. told_kept c (at_entry e) e.1 index now new among_next.0 told s (w.kept s h);
          found = λ v s h k at. by_found v s h k (w.found v s h k at);
          only = λ s h. back s (told_only c (at_entry e) e.1 index now new among_next.0 told s h);
          settled = settled.1;
          among = among_next.1;
        }
      where
        by_found : (v : Slot) (s : ℕ) → stands index v s ≡ true → touches c v ≡ true
            → (named now s ≡ true)
            ⊎ (lookup (λ key. same_path (path_of key.items) v.pointer) rest
            ≡ watchers_at index v.pointer)
            → (named new s ≡ true)
            ⊎ (lookup (λ key. same_path (path_of key.items) v.pointer) more
            ≡ watchers_at index v.pointer)
        by_found v s h k (inl there) =
            inl (told_kept c (at_entry e) e.1 index now new among_next.0 told s there)
        by_found v s h k (inr same) =
            go (same_path (at_entry e) v.pointer) refl
            (sym (ap (lookup (λ key. same_path (path_of key.items) v.pointer)) next) ∙ same)
          where
            go : (b : Bool) → same_path (at_entry e) v.pointer ≡ b
                → cond b (Some e.1) (lookup (λ key. same_path (path_of key.items) v.pointer) more)
                ≡ watchers_at index v.pointer
                → (named new s ≡ true)
                ⊎ (lookup (λ key. same_path (path_of key.items) v.pointer) more
                ≡ watchers_at index v.pointer)
            go true is j =
                inl (told_found c (at_entry e) e.1 index now new among_next.0 told v s
                (equal_paths (at_entry e) v.pointer is) h k)
            go false is j = inr j

        back : (s : ℕ)
            → (named now s ≡ true) ⊎ ((v : Slot) × (stands index v s ≡ true) × (touches c v ≡ true))
            → (named old s ≡ true) ⊎ ((v : Slot) × (stands index v s ≡ true) × (touches c v ≡ true))
        back s (inl there) = w.only s there
        back s (inr some) = inr some

-- ---- where the walk begins

-- a look-up finds the same behind a filter that its keys pass
lookup_filter : (test r : Key → Bool) → ((k : Key) → test k ≡ true → r k ≡ true) → (es : List Entry)
    → lookup test (filter (λ e. r e.0) es) ≡ lookup test es
lookup_filter test r passes [] = refl
lookup_filter test r passes (e ∷ es) =
    go (r e.0) (test e.0) refl refl (lookup_filter test r passes es)
  where
    go : (b x : Bool) → r e.0 ≡ b → test e.0 ≡ x
        → lookup test (filter (λ e. r e.0) es) ≡ lookup test es
        → lookup test (if b then e ∷ filter (λ e. r e.0) es else filter (λ e. r e.0) es)
        ≡ cond x (Some e.1) (lookup test es)
    go true x is at rest = rw (at, rest) refl
    go false true is at rest = let no : false ≡ true = sym is ∙ passes e.0 at in cc
    go false false is at rest = rest

all_both : {X : Type 0} (P Q : X → Type 0) → ((x : X) → P x → Q x) → (xs : List X)
    → AllByRecursion P xs → AllByRecursion Q xs
all_both P Q f [] h = tt
all_both P Q f (x ∷ xs) h = (f x h.0, all_both P Q f xs h.1)

keys_filter : (r : Key → Bool) (es : List Entry)
    → keys_of (filter (λ e. r e.0) es) ≡ filter r (keys_of es)
keys_filter r [] = refl
keys_filter r (e ∷ es) = go (r e.0) (keys_filter r es)
  where
    go : (b : Bool) → keys_of (filter (λ e. r e.0) es) ≡ filter r (keys_of es)
        → keys_of (if b then e ∷ filter (λ e. r e.0) es else filter (λ e. r e.0) es)
        ≡ (if b then e.0 ∷ filter r (keys_of es) else filter r (keys_of es))
    go true rest = ap (λ ks. e.0 ∷ ks) rest
    go false rest = rest

abbrev key_cmp : Key → Key → Ordering
key_cmp a b = against a.items b

settled_run : (path : Path) (es : List Entry) → IsStrictlySortedBy key_cmp (keys_of es)
    → AllByRecursion (λ e. is_gt (path_cmp path (at_entry e)) ≡ false) es → Settled path es
unfolding IsStrictlySortedBy
settled_run path [] sorted late = tt
settled_run path (e ∷ es) sorted late =
    (λ past. others es sorted.0 past, settled_run path es sorted.1 late.1)
  where
    others : (fs : List Entry) → AllByRecursion (λ k. against e.0.items k ≡ Less) (keys_of fs)
        → is_prefix path (at_entry e) ≡ false → Others path fs
    others [] above past = tt
    others (f ∷ fs) above past = (go (is_prefix path (at_entry f)) refl, others fs above.1 past)
      where
        go : (b : Bool) → is_prefix path (at_entry f) ≡ b → is_prefix path (at_entry f) ≡ false
        go true is =
            let order : path_cmp (at_entry e) (at_entry f) ≡ Less =
            sym (texts_cmp e.0.items f.0.items) ∙ above.0 in
            let no : true ≡ false =
            sym (between_prefix path (at_entry e) (at_entry f) late.0 order is) ∙ past in
            cc
        go false is = is

pub walk_begins : (c : Change) (path : Path) (index : SlotIndex) (first : Key) (run : List Entry)
    (sessions : List ℕ) → path_of first.items ≡ path
    → run ≡ entries_between key_cmp (Included first) Unbounded index.entries
    → IsStrictlySortedBy key_cmp (keys_of index.entries)
    → All (IsEntryInRange key_cmp (Included first) Unbounded index) run
    → Walked c path index run sessions sessions
walk_begins c path index first run sessions at is sorted inside =
    record {
      kept = λ s h. h;
      found = λ v s h k begins. inr
          (ap (lookup (λ key. same_path (path_of key.items) v.pointer)) is
          ∙ lookup_filter _ (range_contains key_cmp (Included first) Unbounded)
          (passes v.pointer begins) index.entries);
      only = λ s h. inl h;
      settled = settled_run path run run_sorted
          (all_both _ _ (λ e there. late e there.0.0) run entries);
      among = all_both _ _ (λ e there. sym (at_tokens index e.0.items) ∙ there.1) run entries;
    }
  where
    entries : AllByRecursion (IsEntryInRange key_cmp (Included first) Unbounded index) run
    entries = recursion_from_All
        (IsEntryInRange key_cmp (Included first) Unbounded index) run inside

    run_sorted : IsStrictlySortedBy key_cmp (keys_of run)
    run_sorted =
        subst (λ ks. IsStrictlySortedBy key_cmp ks)
        (sym (ap keys_of is
        ∙ keys_filter (range_contains key_cmp (Included first) Unbounded) index.entries))
        (IsStrictlySortedBy-filter key_cmp (range_contains key_cmp (Included first) Unbounded)
        (keys_of index.entries) sorted)

    late : (e : Entry) → is_gt (against first.items e.0) ≡ false
        → is_gt (path_cmp path (at_entry e)) ≡ false
    late e h = ap (λ p. is_gt (path_cmp p (at_entry e))) (sym at)
        ∙ ap is_gt (sym (texts_cmp first.items e.0.items)) ∙ h

    passes : (q : Path) → is_prefix path q ≡ true → (key : Key)
        → same_path (path_of key.items) q ≡ true
        → range_contains key_cmp (Included first) Unbounded key ≡ true
    passes q begins key there =
        let same : path_of key.items ≡ q = equal_paths (path_of key.items) q there in
        go (against first.items key)
        (ap is_gt (texts_cmp first.items key.items)
        ∙ ap (λ p. is_gt (path_cmp p (path_of key.items))) at
        ∙ prefix_first path (path_of key.items) (ap (is_prefix path) same ∙ begins))
      where
        go : (r : Ordering) → is_gt r ≡ false → (is_le r && not false) ≡ true
        go Less h = refl
        go Equal h = refl
        go Greater h = cc
