-- A fault names an operation of the patch, and a patch that was read is within its limit of
-- operations.
use Rattle.std.proofs.Common.{◌≡◌, ℕ, suc, ◌+◌, ◌<◌, ◌≤◌, List, [], ◌∷◌, length, Bool, true, false}
use Rattle.std.proofs.Common.{Option, Some, None, Result, Ok, Err, nat_le, if◌then◌else◌, refl}
use Rattle.std.proofs.Common.{subst, arith, IfOk, IfErr, codes}
use Rattle.relay_tree.specs.Document.{Document, list}
use Rattle.relay_tree.specs.Part.{object_member, text_in}
use Rattle.relay_pointer.specs.Path.{Path}
use Rattle.relay_pointer.specs.Spelling.{path_of_text}
use Rattle.relay_patch.specs.Form.{with_part, and_then, kind_of, path_within, path_in, valued}
use Rattle.relay_patch.specs.Form.{sourced, op_of_kind, op_at, patch_of}
use Rattle.relay_patch.specs.Patch.{Op, Bounds}
use Rattle.relay_patch.specs.After.{ApplyFault, spent_after, performed, refused_at, go_on}
use Rattle.relay_patch.specs.After.{after_from, after}
use Rattle.relay_patch.specs.Walk.{Cause}
use Rattle.relay_patch.specs.declared.form.kind.Kind.{Kind}
use Rattle.relay_patch.specs.declared.form.kind.Kind.TheVariants as kind
use Rattle.relay_patch.specs.declared.limits.PatchFault.{PatchFault}
use Rattle.relay_patch.specs.declared.limits.PatchFault.TheVariants.{TooManyOps, Shape, UnknownOp}
use Rattle.relay_patch.specs.declared.limits.PatchFault.TheVariants.{Pointer}
use Rattle.relay_tree.proofs.Outcomes.{if_err}
use Rattle.relay_tree.proofs.Each.{IsBelow, few-length, few-place}

-- A patch that is refused names one of its operations.

at_step : (n m : ℕ) (r : Result Document Cause) (f : Document → Result Document ApplyFault)
    → ((d : Document) → IfErr (f d) (λ fault. fault.at < suc n + m))
    → IfErr (go_on (refused_at n r) f) (λ fault. fault.at < n + suc m)
at_step n m (Ok d) f h = if_err (f d) (h d) (λ fault k. omega (arith, k))
at_step n m (Err e) f h = omega arith

after_from-place : (n spent : ℕ) (bounds : Bounds) (d : Document) (ops : List Op)
    → IfErr (after_from n spent bounds d ops) (λ fault. fault.at < n + length ops)
after_from-place n spent bounds d [] = tt
after_from-place n spent bounds d (op ∷ ops) =
    let now = spent_after spent d op in
    at_step n (length ops) (performed bounds spent d op) (λ e. after_from (suc n) now bounds e ops)
    (λ e. after_from-place (suc n) now bounds e ops)

pub after-place : (d : Document) (ops : List Op) (bounds : Bounds) (fault : ApplyFault)
    → after d ops bounds ≡ Err fault → fault.at < length ops
after-place d ops bounds fault h =
    let place : fault.at < 0 + length ops =
    subst (λ r. IfErr r (λ e. e.at < 0 + length ops)) h (after_from-place 0 0 bounds d ops) in
    omega (arith, place)

-- A document that is read as a patch.

-- the operation that a fault names, if it names one
abbrev pub place : PatchFault → Option ℕ
place (Shape at) = at
place (UnknownOp at) = Some at
place (Pointer at) = Some at
place _ = None

abbrev Names : ℕ → PatchFault → Type 0
Names n fault = place fault ≡ Some n

part-names : {A B : Type 0} (n : ℕ) (o : Option A) (fault : PatchFault)
    (f : A → Result B PatchFault)
    → Names n fault → ((x : A) → IfErr (f x) (Names n)) → IfErr (with_part o fault f) (Names n)
part-names n (Some x) fault f h k = k x
part-names n None fault f h k = h

then-names : {A B : Type 0} (n : ℕ) (r : Result A PatchFault) (f : A → Result B PatchFault)
    → IfErr r (Names n) → ((x : A) → IfErr (f x) (Names n)) → IfErr (and_then r f) (Names n)
then-names n (Ok x) f h k = k x
then-names n (Err e) f h k = h

path-names : (most n : ℕ) (s : List ℕ) → IfErr (path_in most n s) (Names n)
path-names most n s = go (path_of_text s)
  where
    short : (b : Bool) (path : Path) → IfErr (if b then Ok path else Err (Pointer n)) (Names n)
    short true path = tt
    short false path = refl

    go : (o : Option Path) → IfErr (path_within most n o) (Names n)
    go None = refl
    go (Some path) = short (nat_le (length path) most) path

valued-names : (most n : ℕ) (value : Option Document) (path : List ℕ) (make : Path → Document → Op)
    → IfErr (valued most n value path make) (Names n)
valued-names most n value path make =
    part-names n value _ _ refl
    (λ v. then-names n (path_in most n path) _ (path-names most n path) (λ p. tt))

sourced-names : (most n : ℕ) (source : Option (List ℕ)) (path : List ℕ) (make : Path → Path → Op)
    → IfErr (sourced most n source path make) (Names n)
sourced-names most n source path make =
    part-names n source _ _ refl
    (λ from. then-names n (path_in most n path) _ (path-names most n path)
    (λ p. then-names n (path_in most n from) _ (path-names most n from) (λ f. tt)))

kind-names : (k : Kind) (most n : ℕ) (value : Option Document) (from : Option (List ℕ))
    (path : List ℕ) → IfErr (op_of_kind k most n value from path) (Names n)
kind-names kind.Remove most n value from path =
    then-names n (path_in most n path) _ (path-names most n path) (λ p. tt)
kind-names kind.Move most n value from path = sourced-names most n from path _
kind-names kind.Copy most n value from path = sourced-names most n from path _
kind-names _ most n value from path = valued-names most n value path _

-- the fault of an element that is not an operation names its place
op_at-names : (most n : ℕ) (d : Document) → IfErr (op_at most n d) (Names n)
op_at-names most n d =
    part-names n (text_in d (codes "op")) (Shape (Some n)) _ refl
    (λ name. part-names n (kind_of name) (UnknownOp n) _ refl (λ k.
    part-names n (text_in d (codes "path")) (Shape (Some n)) _ refl
    (λ path. kind-names k most n (object_member d (codes "value"))
    (text_in d (codes "from")) path)))

-- a patch that was read has no more operations than its limit
pub patch_of-length : (ops tokens : ℕ) (d : Document)
    → IfOk (patch_of ops tokens d) (λ xs. length xs ≤ ops)
patch_of-length ops tokens (list ds) = few-length (op_at tokens) ops TooManyOps ds
patch_of-length ops tokens _ = tt

-- a fault of an operation names one within the limit
pub patch_of-place : (ops tokens : ℕ) (d : Document)
    → IfErr (patch_of ops tokens d) (λ fault. IsBelow ops (place fault))
patch_of-place ops tokens (list ds) =
    few-place (op_at tokens) place (op_at-names tokens) ops TooManyOps tt ds
patch_of-place ops tokens _ = tt
