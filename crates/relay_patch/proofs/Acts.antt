-- Acts at a path whose last token is split off.
use Rattle.std.proofs.Common.{◌≡◌, ℕ, [], ◌∷◌, ◌++◌, Option, Some, None, Ok, Err, Result, IsOk}
use Rattle.std.proofs.Common.{refl, sym, ap, ◌∙◌, ok_or}
use Rattle.relay_tree.specs.Document.{Document, list, object, Items}
use Rattle.relay_tree.specs.Part.{item_at, member_at}
use Rattle.relay_pointer.specs.Index.{Token, index_of}
use Rattle.relay_pointer.specs.Path.{put, Path, with_child}
use Rattle.relay_patch.specs.Walk.{Cause, Missing, then_do, element, step, walk}
use Rattle.relay_patch.specs.Patch.{Act, at_path, drop_child, drop_element, replaced}
use Rattle.relay_patch.proofs.Refusals.{then_ok}
use Rattle.relay_patch.proofs.Exchanges.{at_end, replaced-put}
use Rattle.relay_tree.proofs.Outcomes.{is_ok_then, some_ok}
use Rattle.relay_tree.proofs.Elements.{drop_item-there, drop_item-none}
use Rattle.relay_tree.proofs.Named.{drop_member-none, drop_member-there}

pub at_ok : (act : Act) (before : Path) (t : Token) (d c c' d' : Document) → walk d before ≡ Ok c
    → act t c ≡ Ok c' → replaced before c' d ≡ Ok d' → at_path act (before ++ t ∷ []) d ≡ Ok d'
at_ok act before t d c c' d' there acted put = rw (at_end act before t d, there, acted) put

pub at_no_container : (act : Act) (before : Path) (t : Token) (d : Document) (e : Cause)
    → walk d before ≡ Err e → at_path act (before ++ t ∷ []) d ≡ Err e
at_no_container act before t d e there = rw (at_end act before t d, there) refl

pub at_stops : (act : Act) (before : Path) (t : Token) (d c : Document) (e : Cause)
    → walk d before ≡ Ok c → act t c ≡ Err e → at_path act (before ++ t ∷ []) d ≡ Err e
at_stops act before t d c e there acted = rw (at_end act before t d, there, acted) refl

pub at_passes : (act : Act) (before : Path) (t : Token) (d c : Document) → walk d before ≡ Ok c
    → IsOk (act t c) → IsOk (at_path act (before ++ t ∷ []) d)
at_passes act before t d c there acted =
    let a = some_ok (act t c) acted in
    is_ok_then _ _
    (at_ok act before t d c a.0 (put d before a.0) there a.1
    (replaced-put before a.0 d c there))

-- the container in which an act passes
pub record Passed (act : Act) (before : Path) (t : Token) (d : Document) : Type 0 where
  pub container : Document
  pub there : walk d before ≡ Ok container
  pub passes : IsOk (act t container)

pub passed : (act : Act) (before : Path) (t : Token) (d : Document)
    → IsOk (at_path act (before ++ t ∷ []) d) → Passed act before t d
passed act before t d h =
    let r = some_ok _ h in
    let whole = sym (at_end act before t d) ∙ r.1 in
    let w = then_ok (walk d before)
    (λ c. then_do (act t c) (λ c'. replaced before c' d)) r.0 whole in
    let a = then_ok (act t w.0) (λ c'. replaced before c' d) r.0 w.2 in
    record { container = w.0; there = w.1; passes = is_ok_then _ a.0 a.1 }

-- a child that is there can be dropped

drops_element : (ds : Items) (t : Token) (o : Option ℕ) → IsOk (element ds t o)
    → IsOk (drop_element ds t o)
drops_element ds t None h = cc
drops_element ds t (Some i) h = go (item_at ds i) refl h
  where
    go : (o : Option Document) → item_at ds i ≡ o → IsOk (ok_or o Missing)
        → IsOk (drop_element ds t (Some i))
    go None e k = cc
    go (Some c) e k = let r = drop_item-there ds i c e in rw r.1 refl

pub drops : (d : Document) (t : Token) → IsOk (step d t) → IsOk (drop_child t d)
drops (list ds) t h = drops_element ds t (index_of t) h
drops (object ms) t h = go (member_at ms t) refl h
  where
    go : (o : Option Document) → member_at ms t ≡ o → IsOk (ok_or o Missing)
        → IsOk (drop_child t (object ms))
    go None e k = cc
    go (Some c) e k = let r = drop_member-there ms t c e in rw r.1 refl
drops _ t h = cc

no_element_dropped : (ds : Items) (t : Token) (o : Option ℕ) (e : Cause) → element ds t o ≡ Err e
    → drop_element ds t o ≡ Err e
no_element_dropped ds t None e h = h
no_element_dropped ds t (Some i) e h = go (item_at ds i) refl h
  where
    go : (o : Option Document) → item_at ds i ≡ o → ok_or o Missing ≡ Err e
        → drop_element ds t (Some i) ≡ Err e
    go None g k = rw (drop_item-none ds i g) k
    go (Some c) g k = cc

pub drop_refused : (d : Document) (t : Token) (e : Cause) → step d t ≡ Err e
    → drop_child t d ≡ Err e
drop_refused (list ds) t e h = no_element_dropped ds t (index_of t) e h
drop_refused (object ms) t e h = go (member_at ms t) refl h
  where
    go : (o : Option Document) → member_at ms t ≡ o → ok_or o Missing ≡ Err e
        → drop_child t (object ms) ≡ Err e
    go None g k = rw (drop_member-none ms t g) k
    go (Some c) g k = cc
drop_refused _ t e h = h

-- a child that can be dropped is there
pub droppable : (d : Document) (t : Token) → IsOk (drop_child t d) → IsOk (step d t)
droppable d t h = go (step d t) refl
  where
    go : (r : Result Document Cause) → step d t ≡ r → IsOk r
    go (Ok c) e = refl
    go (Err c) e = let k = rw (drop_refused d t c e) at h in cc

-- an act below a part
pub acts_below : (act : Act) (d c n later : Document) (t u : Token) (p : Path) → step d t ≡ Ok c
    → n ≡ with_child d t later → at_path act (u ∷ p) c ≡ Ok later → at_path act (t ∷ u ∷ p) d ≡ Ok n
acts_below act d c n later t u p found is acted = rw (found, acted) (ap Ok (sym is))
