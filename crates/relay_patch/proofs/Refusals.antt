-- Steps that may be refused.
use Rattle.std.proofs.Common.{◌≡◌, ◌≢◌, Bool, true, false, Option, Some, None, Bor, Result, Ok, Err}
use Rattle.std.proofs.Common.{IsOk, OnOk, IfErr, refl, ok_or, if◌then◌else◌, IfOk, option_copied}
use Rattle.std.specs.Result.{result_ok}
use Rattle.relay_tree.specs.Document.{Document}
use Rattle.relay_patch.specs.Walk.{Cause, NoMemory, then_do, Refuses}

pub then_ok : {A B : Type 0} (r : Result A Cause) (f : A → Result B Cause) (y : B)
    → then_do r f ≡ Ok y → (x : A) × (r ≡ Ok x) × (f x ≡ Ok y)
then_ok (Ok x) f y h = (x, refl, h)
then_ok (Err e) f y h = cc

pub then_itself : (r : Result Document Cause) → then_do r (λ c. Ok c) ≡ r
then_itself (Ok c) = refl
then_itself (Err e) = refl

pub ok_or_some : {A : Type 0} (o : Option A) (e : Cause) (x : A) → ok_or o e ≡ Ok x → o ≡ Some x
ok_or_some (Some y) e x h = cc
ok_or_some None e x h = cc

pub ok_or_found : (o : Option Document) (e : Cause) → result_ok (ok_or o e) ≡ o
ok_or_found (Some x) e = refl
ok_or_found None e = refl

pub not_refused : (b : Bool) (e : Cause) (r : Result Document Cause) (d : Document)
    → (if b then Err e else r) ≡ Ok d → (b ≡ false) × (r ≡ Ok d)
not_refused true e r d h = cc
not_refused false e r d h = (refl, h)

-- Clauses about a result.
pub if_found : {D : Type 0} {Q : Bor D → Type 0} (r : Result (Bor D) Cause) (o : Option (Bor D))
    (e : Cause) (s : Option D) → r ≡ ok_or o e → option_copied o ≡ s
    → ((part : Bor D) → ok_or s e ≡ Ok part.now → Q part) → IfOk r Q
if_found (Ok x) (Some y) e s h k f = let same : x ≡ y = cc in f x (rw (← k, same) refl)
if_found (Ok x) None e s h k f = cc
if_found (Err c) o e s h k f = tt

pub if_missing : {D : Type 0} {Q : Cause → Type 0} (r : Result (Bor D) Cause) (o : Option (Bor D))
    (e : Cause) (s : Option D) → r ≡ ok_or o e → option_copied o ≡ s
    → ((cause : Cause) → ok_or s e ≡ Err cause → Q cause) → IfErr r Q
if_missing (Ok x) o e s h k f = tt
if_missing (Err c) (Some y) e s h k f = cc
if_missing (Err c) None e s h k f = let same : c ≡ e = cc in f c (rw (← k, same) refl)

pub on_both : {A E : Type 0} {P Q R : Type 0} (r : Result A E) → OnOk r P → OnOk r Q → (P → Q → R)
    → OnOk r R
on_both (Ok x) p q f = f p q
on_both (Err e) p q f = tt

-- A fault is a refusal, or out of memory in a step that passes.

pub refused_by : (r : Result Document Cause) (cause : Cause) → r ≡ Err cause → cause ≢ NoMemory
    → Refuses r cause
refused_by r cause h other = (λ _. h, λ e. absurd (other e))

pub starved_by : (r : Result Document Cause) (cause : Cause) → IsOk r → cause ≡ NoMemory
    → Refuses r cause
starved_by r cause h is = (λ other. absurd (other is), λ _. h)
