-- The weight of what waits in an outbox, after one more patch is added or the front is drawn, and
-- in several of them.
use Rattle.std.proofs.Common.{◌≡◌, ◌≢◌, ℕ, ◌+◌, ◌<◌, Bool, true, false, List, [], ◌∷◌, ◌++◌, Some}
use Rattle.std.proofs.Common.{length, take, slice_get, sum_by, refl, sym, ◌∙◌, ap, arith}
use Rattle.std.proofs.lemmas.List.Sums.{sum_by_more}
use Rattle.std.proofs.lemmas.Option.{slice_get_within, get_or_from_slice_get}
use Rattle.relay_outbox.specs.Outbox.{Contents, reply, patch, snapshot, nothing, first_of, rest_of}
use Rattle.relay_outbox.specs.Outbox.{front_of, without_front}
use Rattle.relay_patch.specs.Weight.{ops_weight}
use Rattle.relay_patch.specs.declared.op.Op.{Op}
use Rattle.relay_proto.specs.declared.reply.Reply.{Reply}
use Rattle.relay_tree.specs.Document.{saturated}
use Rattle.relay_tree.specs.declared.budget.Budget.{Budget}
use Rattle.relay_tree.specs.declared.budget.Budget.TheVariants.{Unbounded, Left}
use Rattle.relay_hub.specs.Load.{IsLoad, bounded_weight}
use Rattle.relay_hub.specs.Session.{patches_weight}

pub one_more : (ps : List (ℕ × List Op)) (p : ℕ × List Op)
    → patches_weight (ps ++ p ∷ []) ≡ patches_weight ps + ops_weight p.1
one_more [] p = omega arith
one_more (q ∷ ps) p = let ih = one_more ps p in omega (arith, ih)

-- a front that is no patch weighs nothing
after_other : (o : Contents Reply (ℕ × List Op)) → ((p : ℕ × List Op) → front_of o ≢ patch p)
    → patches_weight (without_front o).patches ≡ patches_weight o.patches
after_other o other = go o.replies o.patches o.due other
  where
    go : (replies : List Reply) (patches : List (ℕ × List Op)) (due : Bool)
        → ((p : ℕ × List Op) → first_of replies patches due ≢ patch p)
        → patches_weight (rest_of replies patches due o.max_waiting_patches).patches
        ≡ patches_weight patches
    go (a ∷ replies) patches due other = refl
    go [] (q ∷ patches) due other = absurd (other q refl)
    go [] [] due other = refl

pub after_reply : (o : Contents Reply (ℕ × List Op)) (r : Reply) → front_of o ≡ reply r
    → patches_weight (without_front o).patches ≡ patches_weight o.patches
after_reply o r h = after_other o (λ p k. absurd (cc (h, k)))

pub after_snapshot : (o : Contents Reply (ℕ × List Op)) → front_of o ≡ snapshot
    → patches_weight (without_front o).patches ≡ patches_weight o.patches
after_snapshot o h = after_other o (λ p k. absurd (cc (h, k)))

pub after_nothing : (o : Contents Reply (ℕ × List Op)) → front_of o ≡ nothing
    → patches_weight (without_front o).patches ≡ patches_weight o.patches
after_nothing o h = after_other o (λ p k. absurd (cc (h, k)))

pub after_patch : (o : Contents Reply (ℕ × List Op)) (p : ℕ × List Op) → front_of o ≡ patch p
    → ops_weight p.1 + patches_weight (without_front o).patches ≡ patches_weight o.patches
after_patch o p h = go o.replies o.patches o.due h
  where
    go : (replies : List Reply) (patches : List (ℕ × List Op)) (due : Bool)
        → first_of replies patches due ≡ patch p
        → ops_weight p.1 + patches_weight
        (rest_of replies patches due o.max_waiting_patches).patches ≡ patches_weight patches
    go (a ∷ replies) patches due h = absurd cc
    go [] (q ∷ patches) due h =
        let same : q ≡ p = cc in
        ap (λ (x : ℕ × List Op). ops_weight x.1 + patches_weight patches) (sym same)
    go [] [] true h = absurd cc
    go [] [] false h = absurd cc

-- the load of an outbox is what waits there, as far as that is bounded
pub load_is : (budget : Budget) (load : ℕ) (o : Contents Reply (ℕ × List Op))
    → IsLoad budget load o → load ≡ bounded_weight budget o
load_is Unbounded load o h = h
load_is (Left most) load o h = h.0

-- a sum that is held in 64 bits, after one more element
pub saturated_more : {A : Type 0} (f : A → ℕ) (xs : List A) (i : ℕ) (x : A) (sum more : ℕ)
    → slice_get xs i ≡ Some x → sum ≡ saturated (sum_by f (take i xs))
    → saturated more ≡ saturated (f x)
    → saturated (sum + more) ≡ saturated (sum_by f (take (i + 1) xs))
saturated_more f xs i x sum more at so_far is =
    let within : i < length xs = slice_get_within xs i x at in
    let next = sum_by_more f xs i x within ∙ ap (λ y. sum_by f (take i xs) + f y)
    (get_or_from_slice_get xs i x x at) in
    rw next (omega (arith, so_far, is))

pub saturated_twice : (n : ℕ) → saturated (saturated n) ≡ saturated n
saturated_twice n = omega arith
