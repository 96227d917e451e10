-- The walk that gives the cause if it ends early, compared with the value at a path.
use Rattle.std.proofs.Common.{◌≡◌, ℕ, [], ◌∷◌, ◌++◌, Option, Some, None, option_and_then, Result}
use Rattle.std.proofs.Common.{Ok, Err, refl, sym, ap, ◌∙◌}
use Rattle.std.specs.Result.{result_ok}
use Rattle.relay_tree.specs.Document.{Document, list, object, Items}
use Rattle.relay_tree.specs.Part.{item_at, member_at}
use Rattle.relay_pointer.specs.Index.{Token, index_of}
use Rattle.relay_pointer.specs.Path.{Path, child, at}
use Rattle.relay_patch.specs.Walk.{Cause, Missing, then_do, element, step, walk}
use Rattle.relay_patch.proofs.Refusals.{ok_or_found}

element-at : (ds : Items) (t : Token) (o : Option ℕ)
    → result_ok (element ds t o) ≡ option_and_then (item_at ds) o
element-at ds t None = refl
element-at ds t (Some i) = ok_or_found (item_at ds i) Missing

pub child-step : (d : Document) (t : Token) → result_ok (step d t) ≡ child d t
child-step (list ds) t = element-at ds t (index_of t)
child-step (object ms) t = ok_or_found (member_at ms t) Missing
child-step _ t = refl

then-found : (path : Path) (r : Result Document Cause)
    → ((c : Document) → result_ok (walk c path) ≡ at c path)
    → result_ok (then_do r (λ c. walk c path)) ≡ option_and_then (λ c. at c path) (result_ok r)
then-found path (Ok c) ih = ih c
then-found path (Err e) ih = refl

pub at-walk : (path : Path) (d : Document) → result_ok (walk d path) ≡ at d path
at-walk [] d = refl
at-walk (t ∷ path) d =
    then-found path (step d t) (at-walk path)
    ∙ ap (option_and_then (λ c. at c path)) (child-step d t)

pub at_reached : (path : Path) (d v : Document) → walk d path ≡ Ok v → at d path ≡ Some v
at_reached path d v h = sym (at-walk path d) ∙ ap result_ok h

pub at_refused : (path : Path) (d : Document) (e : Cause) → walk d path ≡ Err e → at d path ≡ None
at_refused path d e h = sym (at-walk path d) ∙ ap result_ok h

pub child_reached : (d : Document) (t : Token) (c : Document) → step d t ≡ Ok c → child d t ≡ Some c
child_reached d t c h = sym (child-step d t) ∙ ap result_ok h

walk_then : (p q : Path) (r : Result Document Cause)
    → ((c : Document) → walk c (p ++ q) ≡ then_do (walk c p) (λ b. walk b q))
    → then_do r (λ c. walk c (p ++ q)) ≡ then_do (then_do r (λ c. walk c p)) (λ b. walk b q)
walk_then p q (Ok c) ih = ih c
walk_then p q (Err e) ih = refl

pub walk-append : (p q : Path) (d : Document) → walk d (p ++ q) ≡ then_do (walk d p) (λ c. walk c q)
walk-append [] q d = refl
walk-append (t ∷ p) q d = walk_then p q (step d t) (walk-append p q)

pub was_found : (r : Result Document Cause) (c : Document) → result_ok r ≡ Some c → r ≡ Ok c
was_found (Ok d) c h = cc
was_found (Err e) c h = cc

pub found_step : (d : Document) (t : Token) (c : Document) → child d t ≡ Some c → step d t ≡ Ok c
found_step d t c h = was_found (step d t) c (child-step d t ∙ h)
