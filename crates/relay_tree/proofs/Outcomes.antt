-- Facts about a result that follow from other facts about it.
use Rattle.std.proofs.Common.{◌≡◌, Result, Ok, Err, IsOk, refl, OnOk, OnErr, IfOk, IfErr, IsErrAnd}

pub is_ok_then : {A E : Type 0} (r : Result A E) (x : A) → r ≡ Ok x → IsOk r
is_ok_then r x h = rw h refl

pub some_ok : {A E : Type 0} (r : Result A E) → IsOk r → (x : A) × (r ≡ Ok x)
some_ok (Ok x) h = (x, refl)
some_ok (Err e) h = cc

pub refused_not_ok : {A E : Type 0} (r : Result A E) (e : E) → r ≡ Err e → IsOk r → ⊥
refused_not_ok (Ok x) e h k = cc
refused_not_ok (Err x) e h k = cc

pub on_ok : {A E : Type 0} {P Q : Type 0} (r : Result A E) → OnOk r P → (P → Q) → OnOk r Q
on_ok (Ok x) p f = f p
on_ok (Err e) p f = tt

pub if_ok : {A E : Type 0} {P Q : A → Type 0} (r : Result A E) → IfOk r P → ((x : A) → P x → Q x)
    → IfOk r Q
if_ok (Ok x) p f = f x p
if_ok (Err e) p f = tt

pub if_err : {A E : Type 0} {P Q : E → Type 0} (r : Result A E) → IfErr r P → ((e : E) → P e → Q e)
    → IfErr r Q
if_err (Ok x) p f = tt
if_err (Err e) p f = f e p

pub err_and : {A E : Type 0} {P Q : E → Type 0} (r : Result A E) → IsErrAnd r P
    → ((e : E) → P e → Q e) → IfErr r Q
err_and (Ok x) p f = tt
err_and (Err e) p f = f e p

pub on_err : {A E : Type 0} {P Q : Type 0} (r : Result A E) → OnErr r P → (P → Q) → OnErr r Q
on_err (Ok x) p f = tt
on_err (Err e) p f = f p
