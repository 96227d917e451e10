-- An act below some tokens, seen from a pointer.
use Rattle.std.proofs.Common.{◌≡◌, ℕ, [], ◌∷◌, length, drop, Bool, true, false, Option, Some, Ok}
use Rattle.std.proofs.Common.{refl, subst, bytes_eq, nat_le}
use Rattle.relay_tree.specs.Document.{Document}
use Rattle.relay_tree.proofs.Names.{equal_bytes}
use Rattle.relay_pointer.specs.Index.{Token, number_of}
use Rattle.relay_pointer.specs.Path.{Path}
use Rattle.relay_patch.specs.Walk.{step, walk}
use Rattle.relay_patch.specs.Patch.{Act, below}
use Rattle.relay_patch.proofs.Parts.{step-with_other}
use Rattle.relay_patch.proofs.Inside.{WasInside, was_inside, step-was_inside}
use Rattle.relay_translate.specs.Touch.{Apart, Inside, Reset, shifts, touch_last, touch_below}
use Rattle.relay_translate.proofs.Leaves.{Leaves}

pub below_apart : (is_item : Bool) (act : Act) → Leaves is_item act
    → (t : Token) (path q : Path) (d d' : Document) → below act t path d ≡ Ok d'
    → touch_below is_item t path q ≡ Apart → walk d' q ≡ walk d q
below_apart is_item act leaves t path [] d d' h k = cc
below_apart is_item act leaves t [] (b ∷ q) d d' h k = rw (leaves t b d d' h k) refl
below_apart is_item act leaves t (u ∷ path) (b ∷ q) d d' h k =
    go (bytes_eq t b) refl (below_apart is_item act leaves u path q)
  where
    w : WasInside (below act u path) t d d'
    w = was_inside (below act u path) t d d' h

    go : (x : Bool) → bytes_eq t b ≡ x
        → ((c c' : Document) → below act u path c ≡ Ok c' → touch_below is_item u path q ≡ Apart
        → walk c' q ≡ walk c q) → walk d' (b ∷ q) ≡ walk d (b ∷ q)
    go true e ih =
        let same : t ≡ b = equal_bytes t b e in
        let stood : step d b ≡ Ok w.before = subst (λ s. step d s ≡ Ok w.before) same w.stood in
        let stands : step d' b ≡ Ok w.later =
        subst (λ s. step d' s ≡ Ok w.later) same (step-was_inside _ t d d' w) in
        let apart : touch_below is_item u path q ≡ Apart = rw e at k in
        rw (stood, stands) (ih w.before w.later w.changed apart)
    go false e ih = rw (w.whole, step-with_other d t b w.later e) refl

-- an act at and below the value that a pointer leads to
pub record IsInside (act : Act) (path q : Path) (d d' : Document) : Type 0 where
  pub before : Document
  pub later : Document
  pub stood : walk d q ≡ Ok before
  pub stands : walk d' q ≡ Ok later
  pub token : Token
  pub rest : Path
  pub path_is : drop (length q) path ≡ token ∷ rest
  pub acted : below act token rest before ≡ Ok later

shifts_never_inside : (o p : Option ℕ) → shifts o p ≡ Inside → ⊥
shifts_never_inside (Some i) (Some j) h = go (nat_le i j) refl
  where
    go : (x : Bool) → nat_le i j ≡ x → ⊥
    go true e = let k : Reset ≡ Inside = rw e at h in cc
    go false e = let k : Apart ≡ Inside = rw e at h in cc
shifts_never_inside _ _ h = cc

pub last_never_inside : (is_item : Bool) (t b : Token) → touch_last is_item t b ≡ Inside → ⊥
last_never_inside true t b h = shifts_never_inside (number_of t) (number_of b) h
last_never_inside false t b h = go (bytes_eq t b) refl
  where
    go : (x : Bool) → bytes_eq t b ≡ x → ⊥
    go true e = let k : Reset ≡ Inside = rw e at h in cc
    go false e = let k : Apart ≡ Inside = rw e at h in cc

pub below_inside : (is_item : Bool) (act : Act) (t : Token) (path q : Path) (d d' : Document)
    → below act t path d ≡ Ok d' → touch_below is_item t path q ≡ Inside
    → IsInside act (t ∷ path) q d d'
below_inside is_item act t path [] d d' h k =
    record {
      before = d;
      later = d';
      stood = refl;
      stands = refl;
      token = t;
      rest = path;
      path_is = refl;
      acted = h;
    }
below_inside is_item act t [] (b ∷ q) d d' h k = absurd (last_never_inside is_item t b k)
below_inside is_item act t (u ∷ path) (b ∷ q) d d' h k =
    go (bytes_eq t b) refl (below_inside is_item act u path q)
  where
    w : WasInside (below act u path) t d d'
    w = was_inside (below act u path) t d d' h

    go : (x : Bool) → bytes_eq t b ≡ x
        → ((c c' : Document) → below act u path c ≡ Ok c' → touch_below is_item u path q ≡ Inside
        → IsInside act (u ∷ path) q c c') → IsInside act (t ∷ u ∷ path) (b ∷ q) d d'
    go true e ih =
        let same : t ≡ b = equal_bytes t b e in
        let stood : step d b ≡ Ok w.before = subst (λ s. step d s ≡ Ok w.before) same w.stood in
        let stands : step d' b ≡ Ok w.later =
        subst (λ s. step d' s ≡ Ok w.later) same (step-was_inside _ t d d' w) in
        let inside_touch : touch_below is_item u path q ≡ Inside = rw e at k in
        let i = ih w.before w.later w.changed inside_touch in
        record {
          before = i.before;
          later = i.later;
          stood = rw stood i.stood;
          stands = rw stands i.stands;
          token = i.token;
          rest = i.rest;
          path_is = i.path_is;
          acted = i.acted;
        }
    go false e ih = let apart : Apart ≡ Inside = rw e at k in cc
