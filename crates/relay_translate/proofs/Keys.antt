-- Look-ups in the index by paths.
use Rattle.std.proofs.Common.{◌≡◌, List, [], ◌∷◌, Some, Bool, true, false, cond, refl, sym, ap, ◌∙◌}
use Rattle.std.proofs.Common.{is_eq, Ordering, Less, Equal, Greater, String, Global}
use Rattle.std.specs.Ordering.{match_ordering}
use Rattle.std.specs.Global.{Vec}
use Rattle.std.specs.Map.{lookup, set_value, remove_entry}
use Rattle.std.specs.BTreeMap.{insert_entry, is_at}
use Rattle.std.specs.Cmp.Lexicographic.{slice_cmp}
use Rattle.relay_pointer.specs.Path.{Path, path_of, same_path}
use Rattle.relay_pointer.proofs.Prefixes.{equal_paths}
use Rattle.relay_translate.specs.declared.watchers.Watchers.{Watchers}
use Rattle.relay_translate.specs.SlotIndex.{SlotIndex, watchers_at}
use Rattle.relay_translate.proofs.Paths.{text_cmp, texts_cmp, same_path-cmp}

abbrev pub Key : Type 0
Key = Vec (String Global)

-- how the index compares the tokens ts with a key
abbrev pub against : List (String Global) → Key → Ordering
against ts key = slice_cmp text_cmp ts key.items

-- a key is at a path if its tokens are the path's
pub is_at-path : (ts : List (String Global)) (key : Key)
    → is_at (against ts) key ≡ same_path (path_of key.items) (path_of ts)
is_at-path ts key =
    ap is_eq (texts_cmp ts key.items) ∙ sym (same_path-cmp (path_of key.items) (path_of ts))

-- no key passes both tests
abbrev Apart : {K : Type 0} → (K → Bool) → (K → Bool) → Type 0
Apart {K} f g = (k : K) → g k ≡ true → f k ≡ false

pub key_path : (ts : List (String Global)) (key : Key) → against ts key ≡ Equal
    → path_of key.items ≡ path_of ts
key_path ts key same = equal_paths _ _ (sym (is_at-path ts key) ∙ ap is_eq same)

module _ {K X : Type 0} where
  lookup_agree : (f g : K → Bool) → ((k : K) → f k ≡ g k) → (es : List (K × X))
      → lookup f es ≡ lookup g es
  lookup_agree f g same [] = refl
  lookup_agree f g same (e ∷ es) = rw (same e.0, lookup_agree f g same es) refl

  set_other : (f g : K → Bool) → Apart f g → (es : List (K × X)) (w : X)
      → lookup f (set_value g es w) ≡ lookup f es
  set_other f g apart [] w = refl
  set_other f g apart (e ∷ es) w = go (g e.0) refl (set_other f g apart es w)
    where
      go : (b : Bool) → g e.0 ≡ b → lookup f (set_value g es w) ≡ lookup f es
          → lookup f (cond b ((e.0, w) ∷ es) (e ∷ set_value g es w))
          ≡ cond (f e.0) (Some e.1) (lookup f es)
      go true is rest = rw (apart e.0 is) refl
      go false is rest = rw rest refl

  set_same : (g : K → Bool) (es : List (K × X)) (v w : X) → lookup g es ≡ Some v
      → lookup g (set_value g es w) ≡ Some w
  set_same g [] v w h = cc
  set_same g (e ∷ es) v w h = go (g e.0) refl h (set_same g es v w)
    where
      go : (b : Bool) → g e.0 ≡ b → cond b (Some e.1) (lookup g es) ≡ Some v
          → (lookup g es ≡ Some v → lookup g (set_value g es w) ≡ Some w)
          → lookup g (cond b ((e.0, w) ∷ es) (e ∷ set_value g es w)) ≡ Some w
      go true is k rest = rw is refl
      go false is k rest = rw is (rest k)

  remove_other : (f g : K → Bool) → Apart f g → (es : List (K × X))
      → lookup f (remove_entry g es) ≡ lookup f es
  remove_other f g apart [] = refl
  remove_other f g apart (e ∷ es) = go (g e.0) refl (remove_other f g apart es)
    where
      go : (b : Bool) → g e.0 ≡ b → lookup f (remove_entry g es) ≡ lookup f es
          → lookup f (cond b es (e ∷ remove_entry g es)) ≡ cond (f e.0) (Some e.1) (lookup f es)
      go true is rest = rw (apart e.0 is) refl
      go false is rest = rw rest refl

  insert_other : (f : K → Bool) (cmp : K → K → Ordering) (k : K) → Apart f (is_at (cmp k))
      → f k ≡ false → (es : List (K × X)) (v : X) → lookup f (insert_entry cmp es k v) ≡ lookup f es
  insert_other f cmp k apart other [] v = rw other refl
  insert_other f cmp k apart other (e ∷ es) v =
      go (cmp k e.0) refl (insert_other f cmp k apart other es v)
    where
      go : (r : Ordering) → cmp k e.0 ≡ r → lookup f (insert_entry cmp es k v) ≡ lookup f es
          → lookup f (match_ordering r ((k, v) ∷ e ∷ es) ((e.0, v) ∷ es)
          (e ∷ insert_entry cmp es k v)) ≡ cond (f e.0) (Some e.1) (lookup f es)
      go Less is rest = rw other refl
      go Equal is rest = rw (apart e.0 (ap is_eq is)) refl
      go Greater is rest = rw rest refl

-- ---- the same in the index

apart_from : (ts : List (String Global)) (path : Path) → same_path (path_of ts) path ≡ false
    → (key : Key) → is_at (against ts) key ≡ true → same_path (path_of key.items) path ≡ false
apart_from ts path other key at =
    let same : path_of key.items ≡ path_of ts = equal_paths _ _ (sym (is_at-path ts key) ∙ at) in
    rw same other

-- the watchers at the tokens of a path
pub at_tokens : (index : SlotIndex) (ts : List (String Global))
    → lookup (is_at (against ts)) index.entries ≡ watchers_at index (path_of ts)
at_tokens index ts = lookup_agree _ _ (is_at-path ts) index.entries

module _ (ts : List (String Global)) (path : Path) (other : same_path (path_of ts) path ≡ false)
    (old new : SlotIndex) where
  apart : (key : Key) → is_at (against ts) key ≡ true → same_path (path_of key.items) path ≡ false
  apart = apart_from ts path other

  pub written_other : (w : Watchers) → new.entries ≡ set_value (is_at (against ts)) old.entries w
      → watchers_at new path ≡ watchers_at old path
  written_other w is =
      ap (lookup (λ key. same_path (path_of key.items) path)) is ∙ set_other _ _ apart old.entries w

  pub removed_other : new.entries ≡ remove_entry (is_at (against ts)) old.entries
      → watchers_at new path ≡ watchers_at old path
  removed_other is =
      ap (lookup (λ key. same_path (path_of key.items) path)) is
      ∙ remove_other _ _ apart old.entries

  pub inserted_other : (key : Key) (w : Watchers) → path_of key.items ≡ path_of ts
      → new.entries ≡ insert_entry (λ a b. against a.items b) old.entries key w
      → watchers_at new path ≡ watchers_at old path
  inserted_other key w at is =
      ap (lookup (λ key. same_path (path_of key.items) path)) is
      ∙ insert_other _ (λ a b. against a.items b) key (apart_from key.items path (rw at other))
      (rw at other) old.entries w

pub written_same : (ts : List (String Global)) (old new : SlotIndex) (v w : Watchers)
    → watchers_at old (path_of ts) ≡ Some v
    → new.entries ≡ set_value (is_at (against ts)) old.entries w
    → watchers_at new (path_of ts) ≡ Some w
written_same ts old new v w was is =
    sym (at_tokens new ts) ∙ ap (lookup (is_at (against ts))) is
    ∙ set_same _ old.entries v w (at_tokens old ts ∙ was)
