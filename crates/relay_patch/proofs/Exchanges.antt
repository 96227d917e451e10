-- The effect of replacing a part, and an act at a path as a replacement of the container.
use Rattle.std.proofs.Common.{◌≡◌, [], ◌∷◌, ◌++◌, Option, Some, Result, Ok, Err, IsOk, refl, sym}
use Rattle.std.proofs.Common.{ap, ◌∙◌, IfSome}
use Rattle.relay_tree.specs.Document.{Document}
use Rattle.relay_pointer.specs.Index.{Token}
use Rattle.relay_pointer.specs.Path.{Path, with_child, at, put}
use Rattle.relay_patch.specs.Walk.{Cause, then_do, step, walk}
use Rattle.relay_patch.specs.Patch.{Act, inside, at_path, replaced}
use Rattle.relay_patch.proofs.Refusals.{then_ok}
use Rattle.relay_patch.proofs.Walks.{child_reached, at_reached}
use Rattle.relay_patch.proofs.Inside.{was_inside, step-was_inside}
use Rattle.relay_tree.proofs.Outcomes.{is_ok_then, some_ok}
use Rattle.relay_pointer.proofs.Puts.{put-twice}

pub replaced-step : (t : Token) (p : Path) (v d : Document)
    → replaced (t ∷ p) v d ≡ inside (replaced p v) t d
replaced-step t [] v d = refl
replaced-step t (u ∷ p) v d = refl

-- a value that is there can be replaced
pub replaced-put : (p : Path) (v d c : Document) → walk d p ≡ Ok c → replaced p v d ≡ Ok (put d p v)
replaced-put [] v d c h = refl
replaced-put (t ∷ p) v d c h =
    let s = then_ok (step d t) (λ b. walk b p) c h in
    rw (replaced-step t p v d, s.1, replaced-put p v s.0 c s.2, child_reached d t s.0 s.1) refl

pub walk-replaced : (p : Path) (v d e : Document) → replaced p v d ≡ Ok e → walk e p ≡ Ok v
walk-replaced [] v d e h = sym h
walk-replaced (t ∷ p) v d e h =
    let w = was_inside (replaced p v) t d e (rw (replaced-step t p v d) at h) in
    rw (step-was_inside (replaced p v) t d e w) (walk-replaced p v w.before w.later w.changed)

-- an act at a path replaces the container
pub at_end : (act : Act) (before : Path) (t : Token) (d : Document)
    → at_path act (before ++ t ∷ []) d
    ≡ then_do (walk d before) (λ c. then_do (act t c) (λ c'. replaced before c' d))
at_end act [] t d = go (act t d)
  where
    go : (r : Result Document Cause) → r ≡ then_do r (λ c'. Ok c')
    go (Ok e) = refl
    go (Err e) = refl
at_end act (u ∷ before) t d = deeper act u before t d (step d u) refl (λ c. at_end act before t c)
  where
    onward : (r : Result Document Cause) (u : Token) (p : Path) (c d : Document) → step d u ≡ Ok c
        → then_do (then_do r (λ c'. replaced p c' c)) (λ c'. Ok (with_child d u c'))
        ≡ then_do r (λ c'. replaced (u ∷ p) c' d)
    onward (Ok e) u p c d h = rw (replaced-step, h) refl
    onward (Err e) u p c d h = refl

    one : (act : Act) (u : Token) (p : Path) (t : Token) (c d : Document) → step d u ≡ Ok c
        → (r : Result Document Cause)
        → then_do (then_do r (λ b. then_do (act t b) (λ c'. replaced p c' c)))
        (λ c'. Ok (with_child d u c'))
        ≡ then_do r (λ b. then_do (act t b) (λ c'. replaced (u ∷ p) c' d))
    one act u p t c d h (Ok b) = onward (act t b) u p c d h
    one act u p t c d h (Err e) = refl

    at_path-step : (act : Act) (u : Token) (p : Path) (t : Token) (d : Document)
        → at_path act (u ∷ p ++ t ∷ []) d ≡ inside (at_path act (p ++ t ∷ [])) u d
    at_path-step act u [] t d = refl
    at_path-step act u (x ∷ p) t d = refl

    deeper : (act : Act) (u : Token) (p : Path) (t : Token) (d : Document)
        → (r : Result Document Cause) → step d u ≡ r
        → ((c : Document)
        → at_path act (p ++ t ∷ []) c
        ≡ then_do (walk c p) (λ b. then_do (act t b) (λ c'. replaced p c' c)))
        → at_path act (u ∷ p ++ t ∷ []) d
        ≡ then_do (then_do r (λ b. walk b p)) (λ c. then_do (act t c) (λ c'. replaced (u ∷ p) c' d))
    deeper act u p t d (Err e) h ih = rw (at_path-step act u p t d, h) refl
    deeper act u p t d (Ok c) h ih =
        rw (at_path-step act u p t d, h, ih c) (one act u p t c d h (walk c p))

pub replaced_fails : (p : Path) (v d : Document) (e : Cause) → walk d p ≡ Err e
    → replaced p v d ≡ Err e
replaced_fails [] v d e h = cc
replaced_fails (t ∷ p) v d e h = go (step d t) refl h (λ c. replaced_fails p v c e)
  where
    go : (r : Result Document Cause) → step d t ≡ r → then_do r (λ c. walk c p) ≡ Err e
        → ((c : Document) → walk c p ≡ Err e → replaced p v c ≡ Err e)
        → replaced (t ∷ p) v d ≡ Err e
    go (Ok c) s k ih = rw (replaced-step, s, ih c k) refl
    go (Err x) s k ih = rw (replaced-step, s) k

pub replaced_needs : (p : Path) (v d : Document) → IsOk (replaced p v d) → IsOk (walk d p)
replaced_needs p v d h = go (walk d p) refl
  where
    go : (r : Result Document Cause) → walk d p ≡ r → IsOk r
    go (Ok c) e = refl
    go (Err x) e = let k = rw (replaced_fails p v d x e) at h in cc

pub replaced_passes : (p : Path) (v d c : Document) → walk d p ≡ Ok c → IsOk (replaced p v d)
replaced_passes p v d c h = rw (replaced-put p v d c h) refl

-- a replacement of the part at a path puts the value there
pub replaced-is : (p : Path) (v d e : Document) → replaced p v d ≡ Ok e
    → (c : Document) × (at d p ≡ Some c) × (e ≡ put d p v)
replaced-is p v d e h =
    let c = some_ok (walk d p) (replaced_needs p v d (is_ok_then _ e h)) in
    let same : Ok e ≡ Ok (put d p v) = sym h ∙ replaced-put p v d c.0 c.1 in
    (c.0, at_reached p d c.0 c.1, cc)

-- a second replacement at the same place
pub replaced-twice : (p : Path) (v w d e f : Document) → replaced p v d ≡ Ok e
    → replaced p w e ≡ Ok f → replaced p w d ≡ Ok f
replaced-twice p v w d e f h k =
    let c = some_ok (walk d p) (replaced_needs p v d (is_ok_then _ e h)) in
    let first = replaced-is p v d e h in
    let second = replaced-is p w e f k in
    let whole : f ≡ put d p w =
    second.2 ∙ ap (λ x. put x p w) first.2 ∙ put-twice d p first.0 v w first.1 in
    replaced-put p w d c.0 c.1 ∙ ap Ok (sym whole)

-- the result of replacing a part that is there
pub exchanged : (p : Path) (v d e : Document) (r : Option Document) (c : Document) → r ≡ at d p
    → r ≡ Some c → IfSome r (λ _. e ≡ put d p v) → IsOk (walk d p) → replaced p v d ≡ Ok e
exchanged p v d e r c is some new there =
    let w = some_ok (walk d p) there in
    let made : e ≡ put d p v = rw some at new in
    replaced-put p v d w.0 w.1 ∙ ap Ok (sym made)
