-- One more operation of a patch.
use Rattle.std.proofs.Common.{◌≡◌, ℕ, zero, suc, ◌+◌, ◌<◌, List, [], ◌∷◌, ◌++◌, length, get_or}
use Rattle.std.proofs.Common.{take, drop, Result, Ok, Err, IsOk, refl, sym, ap, subst, ◌∙◌, add-one}
use Rattle.std.proofs.Common.{arith}
use Rattle.std.proofs.Math.Seq.{drop-cons}
use Rattle.std.proofs.lemmas.List.{append_assoc, append-nil}
use Rattle.relay_tree.specs.Document.{Document}
use Rattle.relay_patch.specs.declared.fault.Cause.{Cause}
use Rattle.relay_patch.specs.Patch.{effect}
use Rattle.relay_patch.specs.declared.op.Op.{Op}
use Rattle.relay_patch.specs.declared.bounds.Bounds.{Bounds}
use Rattle.relay_patch.specs.Change.{Leads, changes_of, all_changes}
use Rattle.relay_patch.specs.declared.change.Change.{Change}
use Rattle.relay_patch.specs.Weight.{changes_weight}
use Rattle.relay_patch.specs.After.{performed, spent_after, after_from, after}
use Rattle.relay_patch.proofs.Carried.{makes_made}
use Rattle.relay_patch.proofs.Passed.{went_on, performed_is}
use Rattle.relay_patch.proofs.Made.{effect_leads}
use Rattle.relay_apply.proofs.Spent.{changes_weight-append}

next_op : (ops : List Op) (k : ℕ) (op : Op) → k < length ops → op ≡ get_or ops k op
    → drop k ops ≡ op ∷ drop (suc k) ops
next_op ops k op inside is = drop-cons ops k op inside ∙ ap (λ o. o ∷ drop (suc k) ops) (sym is)

-- The operations to come.

pub after_more : (ops : List Op) (k : ℕ) (op : Op) (bounds : Bounds) (d e : Document)
    (cs ds : List Change) → k < length ops → op ≡ get_or ops k op
    → performed bounds (changes_weight cs) d op ≡ Ok e → ds ≡ cs ++ changes_of d op
    → after_from k (changes_weight cs) bounds d (drop k ops)
    ≡ after_from (k + 1) (changes_weight ds) bounds e (drop (k + 1) ops)
after_more ops k op bounds d e cs ds inside is passes made =
    let spent : changes_weight ds ≡ spent_after (changes_weight cs) d op =
    ap changes_weight made ∙ changes_weight-append cs (changes_of d op) in
    rw (next_op ops k op inside is, passes, add-one, spent) refl

-- The operations done.

all_changes-first : (op : Op) (ops : List Op) (d e : Document) → effect d op ≡ Ok e
    → all_changes d (op ∷ ops) ≡ changes_of d op ++ all_changes e ops
all_changes-first op ops d e h = rw h refl

module _ (bounds : Bounds) (op : Op) (e f : Document) where
  done_more : (ops : List Op) (k n spent : ℕ) (d : Document) → k < length ops → op ≡ get_or ops k op
      → after_from n spent bounds d (take k ops) ≡ Ok e
      → performed bounds (spent + changes_weight (all_changes d (take k ops))) e op ≡ Ok f
      → (after_from n spent bounds d (take (suc k) ops) ≡ Ok f)
      × (all_changes d (take (suc k) ops) ≡ all_changes d (take k ops) ++ changes_of e op)
  done_more [] k n spent d inside is done passes = absurd (omega arith)
  done_more (o ∷ ops) zero n spent d inside is done passes =
      let same : d ≡ e = cc in
      let none : spent + 0 ≡ spent = omega arith in
      let passes : performed bounds spent e op ≡ Ok f =
      subst (λ n. performed bounds n e op ≡ Ok f) none passes in
      let first : performed bounds spent d o ≡ Ok f = rw (same, ← is) passes in
      let made : changes_of d o ≡ changes_of e op = rw (same, ← is) refl in (
        rw first refl,
        rw (performed_is bounds spent d f o first).0 (append-nil (changes_of d o)
            ∙ made),
      )
  done_more (o ∷ ops) (suc k) n spent d inside is done passes =
      let now = spent_after spent d o in
      let s = went_on n (performed bounds spent d o) (λ x.
      after_from (suc n) now bounds x (take k ops)) e done in
      let first = (performed_is bounds spent d s.0 o s.1).0 in
      let made : all_changes d (o ∷ take k ops) ≡ changes_of d o ++ all_changes s.0 (take k ops) =
      all_changes-first o (take k ops) d s.0 first in
      let sum : spent + changes_weight (all_changes d (o ∷ take k ops))
      ≡ now + changes_weight (all_changes s.0 (take k ops)) =
      omega (
        arith,
        ap changes_weight made,
        changes_weight-append (changes_of d o) (all_changes s.0 (take k ops)),
      ) in
      let later =
      done_more ops k (suc n) now s.0 (omega (arith, inside)) is s.2 (rw sum at passes) in
      let more : all_changes d (o ∷ take (suc k) ops)
      ≡ all_changes d (o ∷ take k ops) ++ changes_of e op =
      all_changes-first o (take (suc k) ops) d s.0 first ∙ ap (λ cs. changes_of d o ++ cs) later.1
      ∙ sym (append_assoc (changes_of d o) (all_changes s.0 (take k ops)) (changes_of e op))
      ∙ ap (λ cs. cs ++ changes_of e op) (sym made) in
      (rw s.1 later.0, more)

  pub done_next : (ops : List Op) (k : ℕ) (d : Document) (cs : List Change) → k < length ops
      → op ≡ get_or ops k op
      → after d (take k ops) bounds ≡ Ok e → cs ≡ all_changes d (take k ops)
      → performed bounds (changes_weight cs) e op ≡ Ok f
      → (after d (take (k + 1) ops) bounds ≡ Ok f)
      × (cs ++ changes_of e op ≡ all_changes d (take (k + 1) ops))
  done_next ops k d cs inside is done made passes =
      let sum : changes_weight cs ≡ 0 + changes_weight (all_changes d (take k ops)) =
      omega (arith, ap changes_weight made) in
      let next =
      done_more ops k 0 0 d inside is done (subst (λ n.
      performed bounds n e op ≡ Ok f) sum passes) in
      rw add-one (next.0, ap (λ all. all ++ changes_of e op) made ∙ sym next.1)

-- One operation's change leads to one document.

pub leads_same : (cs : List Change) (d a b : Document) → Leads d cs a → Leads d cs b → a ≡ b
leads_same [] d a b h k = sym h ∙ k
leads_same (c ∷ cs) d a b h k =
    let same : Ok h.0 ≡ Ok k.0 = sym (makes_made c d h.0 h.1) ∙ makes_made c d k.0 k.1 in
    let between : h.0 ≡ k.0 = cc in
    leads_same cs k.0 a b (subst (λ x. Leads x cs a) between h.2) k.2

pub led_to : (op : Op) (d n : Document) (cs : List Change) → IsOk (effect d op)
    → cs ≡ changes_of d op → Leads d cs n → effect d op ≡ Ok n
led_to op d n cs passes are h = go (effect d op) refl passes
  where
    go : (r : Result Document Cause) → effect d op ≡ r → IsOk r → effect d op ≡ Ok n
    go (Ok e) is p =
        is
        ∙ ap Ok (leads_same cs d e n (subst (λ l.
        Leads d l e) (sym are) (effect_leads op d e is)) h)
    go (Err e) is p = cc

pub leads_on : (op : Op) (d : Document) (cs : List Change) → IsOk (effect d op)
    → cs ≡ changes_of d op → (n : Document) × Leads d cs n
leads_on op d cs passes are = go (effect d op) refl passes
  where
    go : (r : Result Document Cause) → effect d op ≡ r → IsOk r → (n : Document) × Leads d cs n
    go (Ok e) is p = (e, subst (λ l. Leads d l e) (sym are) (effect_leads op d e is))
    go (Err e) is p = cc
