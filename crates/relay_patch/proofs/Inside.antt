-- Acts inside a part.
use Rattle.std.proofs.Common.{◌≡◌, Result, Ok}
use Rattle.relay_tree.specs.Document.{Document}
use Rattle.relay_pointer.specs.Index.{Token}
use Rattle.relay_pointer.specs.Path.{with_child}
use Rattle.relay_patch.specs.Walk.{Cause, then_do, step}
use Rattle.relay_patch.specs.Patch.{inside}
use Rattle.relay_patch.proofs.Refusals.{then_ok}
use Rattle.relay_patch.proofs.Parts.{step-with_same}

pub record WasInside (change : Document → Result Document Cause) (t : Token)
    (d d' : Document) : Type 0 where
  pub before : Document
  pub later : Document
  pub stood : step d t ≡ Ok before
  pub changed : change before ≡ Ok later
  pub whole : d' ≡ with_child d t later

pub was_inside : (change : Document → Result Document Cause) (t : Token) (d d' : Document)
    → inside change t d ≡ Ok d' → WasInside change t d d'
was_inside change t d d' h =
    let s = then_ok (step d t) (λ c. then_do (change c) (λ c'. Ok (with_child d t c'))) d' h in
    let r = then_ok (change s.0) (λ c'. Ok (with_child d t c')) d' s.2 in
    record { before = s.0; later = r.0; stood = s.1; changed = r.1; whole = let e = r.2 in cc }

pub step-was_inside : (change : Document → Result Document Cause) (t : Token) (d d' : Document)
    → (w : WasInside change t d d') → step d' t ≡ Ok w.later
step-was_inside change t d d' w = rw w.whole (step-with_same d t w.before w.later w.stood)
