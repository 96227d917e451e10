-- The parts of a document after one of them was replaced, and tokens that are an index.
use Rattle.std.proofs.Common.{◌≡◌, ◌≢◌, ℕ, Bool, true, false, Option, Some, None, Ok, refl, sym}
use Rattle.std.proofs.Common.{subst, ◌∙◌, bytes_eq, true≢false}
use Rattle.relay_tree.specs.Document.{Document, list, object, Items}
use Rattle.relay_pointer.specs.Index.{Token, index_of}
use Rattle.relay_pointer.specs.Path.{put_element, with_child}
use Rattle.relay_patch.specs.Walk.{dash, element, step}
use Rattle.relay_patch.specs.Patch.{Act, place_in}
use Rattle.relay_patch.specs.Change.{at_element}
use Rattle.relay_tree.proofs.Names.{bytes_same, equal_bytes}
use Rattle.relay_tree.proofs.Named.{member_at-set_same, member_at-set_other}
use Rattle.relay_tree.proofs.Elements.{item_at-put_same, item_at-put_other}
use Rattle.relay_pointer.proofs.Indexes.{index_of_injective}
use Rattle.relay_patch.proofs.Refusals.{ok_or_some}

element-put_same : (ds : Items) (t : Token) (o : Option ℕ) (c x : Document) → element ds t o ≡ Ok c
    → element (put_element ds o x) t o ≡ Ok x
element-put_same ds t None c x h = cc
element-put_same ds t (Some i) c x h = rw (item_at-put_same ds i c x (ok_or_some _ _ _ h)) refl

pub step-with_same : (d : Document) (t : Token) (c x : Document) → step d t ≡ Ok c
    → step (with_child d t x) t ≡ Ok x
step-with_same (list ds) t c x h = element-put_same ds t (index_of t) c x h
step-with_same (object ms) t c x h = rw (member_at-set_same ms t c x (ok_or_some _ _ _ h)) refl
step-with_same _ t c x h = cc

element-put_other : (ds : Items) (t b : Token) (o p : Option ℕ) (x : Document) → index_of t ≡ o
    → index_of b ≡ p → t ≢ b → element (put_element ds o x) b p ≡ element ds b p
element-put_other ds t b (Some i) (Some j) x e f h =
    let other : i ≢ j =
    λ s. h (index_of_injective t b j (subst (λ n. index_of t ≡ Some n) s e) f) in
    rw (item_at-put_other ds i j x other) refl
element-put_other ds t b _ _ x e f h = refl

pub step-with_other : (d : Document) (t b : Token) (x : Document) → bytes_eq t b ≡ false
    → step (with_child d t x) b ≡ step d b
step-with_other (list ds) t b x h =
    element-put_other ds t b (index_of t) (index_of b) x refl refl
    (λ e. true≢false (sym (bytes_same b) ∙ (subst (λ s. bytes_eq s b ≡ false) e h)))
step-with_other (object ms) t b x h = rw (member_at-set_other ms t b x h) refl
step-with_other _ t b x h = refl

pub at_index : (act : Act) (t : Token) (d d' : Document) (o : Option ℕ)
    → at_element act t d o ≡ Ok d' → (i : ℕ) × (o ≡ Some i) × (act t d ≡ Ok d')
at_index act t d d' None h = cc
at_index act t d d' (Some i) h = (i, refl, h)

pub no_dash : (t : Token) (i : ℕ) → index_of t ≡ Some i → bytes_eq t dash ≡ false
unfolding index_of
no_dash t i h = go (bytes_eq t dash) refl
  where
    go : (x : Bool) → bytes_eq t dash ≡ x → bytes_eq t dash ≡ false
    go true e = let none : None
        ≡ Some i = subst (λ s. index_of s ≡ Some i) (equal_bytes t dash e) h in cc
    go false e = e

pub place_in_at_index : (ds : Items) (t : Token) (i : ℕ) → index_of t ≡ Some i
    → place_in ds t ≡ Some i
place_in_at_index ds t i h = rw (no_dash t i h) h
