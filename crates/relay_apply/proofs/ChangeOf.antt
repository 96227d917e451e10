-- Consequences of the checks of a replacement, a copy and a move for the operation and its change.
use Rattle.std.proofs.Common.{◌≡◌, [], ◌∷◌, ◌++◌, Bool, true, false, Ok, Err, IsOk, refl, sym, ap}
use Rattle.std.proofs.Common.{subst, ◌∙◌}
use Rattle.relay_tree.specs.Document.{Document}
use Rattle.relay_pointer.specs.Index.{Token}
use Rattle.relay_pointer.specs.Path.{Path, is_proper_prefix, same_path}
use Rattle.relay_patch.specs.Walk.{step, walk}
use Rattle.relay_patch.specs.declared.fault.Cause.{Cause}
use Rattle.relay_patch.specs.Place.{parent, last, place_of}
use Rattle.relay_patch.specs.Patch.{at_path, drop_child, added, effect}
use Rattle.relay_patch.specs.declared.op.Op.TheVariants.{Move, Copy}
use Rattle.relay_patch.specs.Change.{changes_of}
use Rattle.relay_patch.specs.declared.change.Change.TheVariants as change
use Rattle.relay_apply.specs.Steps.{InsertTarget, resolve_insert, insert_place}
use Rattle.relay_patch.proofs.Refusals.{then_ok, then_itself}
use Rattle.relay_patch.proofs.Walks.{at_reached, walk-append}
use Rattle.relay_patch.proofs.Sites.{parent-last}
use Rattle.relay_patch.proofs.Acts.{at_passes, drops}
use Rattle.relay_patch.proofs.Made.{drops_at}
use Rattle.relay_apply.proofs.Targets.{insert_passes, insert_refuses, insert_place-place_of}
use Rattle.relay_tree.proofs.Outcomes.{is_ok_then, some_ok}

-- Copies.

copy_is : (from path : Path) (d v : Document) → walk d from ≡ Ok v
    → effect d (Copy from path) ≡ added path v d
copy_is from path d v there = rw there refl

pub copy_passes : (from path : Path) (d v : Document) (s : InsertTarget) → walk d from ≡ Ok v
    → resolve_insert d path ≡ Ok s → IsOk (effect d (Copy from path))
copy_passes from path d v s there resolved =
    subst IsOk (sym (copy_is from path d v there)) (insert_passes path d s resolved v)

pub copy_refuses : (from path : Path) (d v : Document) (e : Cause) → walk d from ≡ Ok v
    → resolve_insert d path ≡ Err e → effect d (Copy from path) ≡ Err e
copy_refuses from path d v e there resolved =
    copy_is from path d v there ∙ insert_refuses path d e resolved v

pub copy-change : (from path : Path) (d v : Document) (s : InsertTarget) → walk d from ≡ Ok v
    → resolve_insert d path ≡ Ok s
    → change.Copy from (insert_place s path) v ∷ [] ≡ changes_of d (Copy from path)
copy-change from path d v s there resolved =
    rw (at_reached from d v there) (ap (λ p.
    change.Copy from p v ∷ []) (insert_place-place_of path d s resolved))

-- Moves.

-- a value that is there can be removed
left : (f : Token) (fs : Path) (d v : Document) → walk d (f ∷ fs) ≡ Ok v
    → (rest : Document) × (at_path drop_child (f ∷ fs) d ≡ Ok rest)
left f fs d v h =
    let before = parent f fs in
    let t = last f fs in
    let split : walk d (before ++ t ∷ []) ≡ Ok v =
    subst (λ p. walk d p ≡ Ok v) (sym (parent-last f fs)) h in
    let s = then_ok (walk d before) (λ c.
    walk c (t ∷ [])) v (sym (walk-append before (t ∷ []) d) ∙ split) in
    let there : step s.0 t ≡ Ok v = sym (then_itself (step s.0 t)) ∙ s.2 in
    some_ok _ (subst (λ p.
    IsOk (at_path drop_child p d)) (parent-last f fs)
    (at_passes drop_child before t d s.0 s.1 (drops s.0 t (is_ok_then _ v there))))

-- a move to its own place
pub move_stays : (from path : Path) (d v : Document) (b : Bool) → walk d from ≡ Ok v
    → is_proper_prefix from path ≡ false
    → ((rest : Document) → at_path drop_child from d ≡ Ok rest
    → b ≡ same_path from (place_of rest path).path) → b ≡ true
    → IsOk (effect d (Move from path)) × ([] ≡ changes_of d (Move from path))
move_stays [] path d v b there outside place stays = (rw outside refl, refl)
move_stays (f ∷ fs) path d v b there outside place stays =
    let l = left f fs d v there in
    let same : same_path (f ∷ fs) (place_of l.0 path).path ≡ true = sym (place l.0 l.1) ∙ stays in
    let plain = (drops_at f fs d l.0 l.1).plain in
    (rw (there, outside, l.1, same) refl, rw (at_reached (f ∷ fs) d v there, l.1, plain, same) refl)

pub move_passes : (from path : Path) (d v : Document) (s : InsertTarget) → walk d from ≡ Ok v
    → is_proper_prefix from path ≡ false
    → ((rest : Document) → at_path drop_child from d ≡ Ok rest
    → false ≡ same_path from (place_of rest path).path)
    → ((rest : Document) → at_path drop_child from d ≡ Ok rest → Ok s ≡ resolve_insert rest path)
    → IsOk (effect d (Move from path))
move_passes [] path d v s there outside goes resolved = rw outside refl
move_passes (f ∷ fs) path d v s there outside goes resolved =
    let l = left f fs d v there in
    rw (there, outside, l.1, ← goes l.0 l.1) (insert_passes path l.0 s (sym (resolved l.0 l.1)) v)

pub move_refuses : (from path : Path) (d v : Document) (e : Cause) → walk d from ≡ Ok v
    → is_proper_prefix from path ≡ false → same_path from path ≡ false
    → ((rest : Document) → at_path drop_child from d ≡ Ok rest
    → false ≡ same_path from (place_of rest path).path)
    → ((rest : Document) → at_path drop_child from d ≡ Ok rest → Err e ≡ resolve_insert rest path)
    → effect d (Move from path) ≡ Err e
move_refuses [] [] d v e there outside other goes resolved = cc
move_refuses [] (u ∷ path) d v e there outside other goes resolved = cc
move_refuses (f ∷ fs) path d v e there outside other goes resolved =
    let l = left f fs d v there in
    rw (there, outside, l.1, ← goes l.0 l.1) (insert_refuses path l.0 e (sym (resolved l.0 l.1)) v)

pub move-change : (from path : Path) (d v : Document) (s : InsertTarget) (item : Bool)
    → walk d from ≡ Ok v → is_proper_prefix from path ≡ false → same_path from path ≡ false
    → item ≡ (place_of d from).item
    → ((rest : Document) → at_path drop_child from d ≡ Ok rest
    → false ≡ same_path from (place_of rest path).path)
    → ((rest : Document) → at_path drop_child from d ≡ Ok rest → Ok s ≡ resolve_insert rest path)
    → change.Move (record { path = from; item = item }) (insert_place s path) v ∷ []
    ≡ changes_of d (Move from path)
move-change [] [] d v s item there outside other kind goes resolved = cc
move-change [] (u ∷ path) d v s item there outside other kind goes resolved = cc
move-change (f ∷ fs) path d v s item there outside other kind goes resolved =
    let l = left f fs d v there in
    let plain = (drops_at f fs d l.0 l.1).plain in
    let place : record { path = f ∷ fs; item = item } ≡ place_of d (f ∷ fs) =
    ap (λ i. record { path = f ∷ fs; item = i }) kind
    ∙ ap (λ p. record { path = p; item = (place_of d (f ∷ fs)).item }) (sym plain) in
    let apart : same_path (place_of d (f ∷ fs)).path (place_of l.0 path).path ≡ false =
    ap (λ p. same_path p (place_of l.0 path).path) plain ∙ sym (goes l.0 l.1) in
    rw (
      at_reached (f ∷ fs) d v there,
      l.1,
      apart,
    ) (ap (λ p. change.Move p (insert_place s path) v ∷ []) place
    ∙ ap (λ p. change.Move (place_of d (f ∷ fs)) p v ∷ [])
    (insert_place-place_of path l.0 s (sym (resolved l.0 l.1))))
