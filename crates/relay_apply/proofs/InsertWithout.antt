-- The place of an insertion in a document from which a part was removed.
use Rattle.std.proofs.Common.{◌≡◌, [], ◌∷◌, Bool, true, false, Result, Ok, Err, refl, sym, ap, ◌∙◌}
use Rattle.std.proofs.Common.{bytes_eq}
use Rattle.relay_tree.specs.Document.{Document, list, object}
use Rattle.relay_tree.proofs.Names.{equal_bytes}
use Rattle.relay_pointer.specs.Index.{Token, index_of}
use Rattle.relay_pointer.specs.Path.{Path, with_child}
use Rattle.relay_patch.specs.Walk.{then_do, step, walk}
use Rattle.relay_patch.specs.declared.fault.Cause.{Cause}
use Rattle.relay_patch.specs.Place.{parent, last}
use Rattle.relay_patch.specs.Patch.{at_path, below, drop_child}
use Rattle.relay_apply.specs.Steps.{InsertTarget, resolve_insert_in, resolve_insert}
use Rattle.relay_patch.proofs.Parts.{step-with_other}
use Rattle.relay_patch.proofs.Inside.{was_inside, step-was_inside}
use Rattle.relay_pointer.proofs.Puts.{put_element-length}
use Rattle.relay_tree.proofs.Named.{set_member-names}

-- Replacing a part keeps the length and the names of its container.
resolve_insert_in-with_child : (d : Document) (g u : Token) (e : Document)
    → resolve_insert_in (with_child d g e) u ≡ resolve_insert_in d u
resolve_insert_in-with_child (list ds) g u e = rw (put_element-length ds (index_of g) e) refl
resolve_insert_in-with_child (object ms) g u e = rw (set_member-names ms g u e) refl
resolve_insert_in-with_child _ g u e = refl

resolve_insert-step : (d : Document) (u w : Token) (ws : Path)
    → resolve_insert d (u ∷ w ∷ ws) ≡ then_do (step d u) (λ c. resolve_insert c (w ∷ ws))
resolve_insert-step d u w ws = go (step d u)
  where
    go : (r : Result Document Cause)
        → then_do (then_do r (λ c. walk c (parent w ws))) (λ c. resolve_insert_in c (last w ws))
        ≡ then_do r (λ c. resolve_insert c (w ∷ ws))
    go (Ok c) = refl
    go (Err e) = refl

-- The cases of both paths.

pub path_ends : (from path : Path) (g h u : Token) (hs : Path) (d : Document)
    (r : Result InsertTarget Cause) → from ≡ g ∷ h ∷ hs → path ≡ u ∷ [] → r ≡ resolve_insert_in d u
    → (rest : Document) → at_path drop_child from d ≡ Ok rest → r ≡ resolve_insert rest path
path_ends from path g h u hs d r is goes resolved rest dropped =
    let w = was_inside (below drop_child h hs) g d rest (rw is at dropped) in
    rw (goes, w.whole, resolve_insert_in-with_child d g u w.later) resolved

pub from_ends : (from path : Path) (g u w : Token) (ws : Path) (d part : Document)
    (r : Result InsertTarget Cause) → from ≡ g ∷ [] → path ≡ u ∷ w ∷ ws
    → ((rest : Document) → drop_child g d ≡ Ok rest → step rest u ≡ Ok part)
    → r ≡ resolve_insert part (w ∷ ws) → (rest : Document) → at_path drop_child from d ≡ Ok rest
    → r ≡ resolve_insert rest path
from_ends from path g u w ws d part r is goes steps resolved rest dropped =
    rw (goes, resolve_insert-step rest u w ws, steps rest (rw is at dropped)) resolved

pub from_ends_refused : (from path : Path) (g u w : Token) (ws : Path) (d : Document) (e : Cause)
    → from ≡ g ∷ [] → path ≡ u ∷ w ∷ ws
    → ((rest : Document) → drop_child g d ≡ Ok rest → step rest u ≡ Err e) → (rest : Document)
    → at_path drop_child from d ≡ Ok rest → Err e ≡ resolve_insert rest path
from_ends_refused from path g u w ws d e is goes steps rest dropped =
    rw (goes, resolve_insert-step rest u w ws, steps rest (rw is at dropped)) refl

pub both_go_on : (from path : Path) (g h u w : Token) (hs ws : Path) (d part : Document)
    (r : Result InsertTarget Cause) → from ≡ g ∷ h ∷ hs → path ≡ u ∷ w ∷ ws → g ≡ u
    → step d u ≡ Ok part → ((rest : Document) → at_path drop_child (h ∷ hs) part ≡ Ok rest
    → r ≡ resolve_insert rest (w ∷ ws)) → (rest : Document) → at_path drop_child from d ≡ Ok rest
    → r ≡ resolve_insert rest path
both_go_on from path g h u w hs ws d part r is goes same there resolved rest dropped =
    let i = was_inside (below drop_child h hs) g d rest (rw is at dropped) in
    let stood : Ok i.before ≡ Ok part = sym i.stood ∙ ap (step d) same ∙ there in
    let whole : i.before ≡ part = cc in
    let stands : step rest u ≡ Ok i.later =
    rw (← same) (step-was_inside (below drop_child h hs) g d rest i) in
    rw (goes, resolve_insert-step rest u w ws, stands) (resolved i.later (rw (← whole) i.changed))

apart_step : (from : Path) (g h u : Token) (hs : Path) (d rest : Document) → from ≡ g ∷ h ∷ hs
    → bytes_eq g u ≡ false → at_path drop_child from d ≡ Ok rest → step rest u ≡ step d u
apart_step from g h u hs d rest is other dropped =
    let i = was_inside (below drop_child h hs) g d rest (rw is at dropped) in
    rw i.whole (step-with_other d g u i.later other)

pub paths_part : (from path : Path) (g h u w : Token) (hs ws : Path) (d part : Document)
    (r : Result InsertTarget Cause) → from ≡ g ∷ h ∷ hs → path ≡ u ∷ w ∷ ws → bytes_eq g u ≡ false
    → step d u ≡ Ok part → r ≡ resolve_insert part (w ∷ ws) → (rest : Document)
    → at_path drop_child from d ≡ Ok rest → r ≡ resolve_insert rest path
paths_part from path g h u w hs ws d part r is goes other there resolved rest dropped =
    rw (
      goes,
      resolve_insert-step rest u w ws,
      apart_step from g h u hs d rest is other dropped,
      there,
    ) resolved

pub path_breaks : (from path : Path) (g h u w : Token) (hs ws : Path) (d : Document) (e : Cause)
    → from ≡ g ∷ h ∷ hs → path ≡ u ∷ w ∷ ws → step d u ≡ Err e → (rest : Document)
    → at_path drop_child from d ≡ Ok rest → Err e ≡ resolve_insert rest path
path_breaks from path g h u w hs ws d e is goes gone rest dropped = go (bytes_eq g u) refl
  where
    go : (x : Bool) → bytes_eq g u ≡ x → Err e ≡ resolve_insert rest path
    go true same =
        let i = was_inside (below drop_child h hs) g d rest (rw is at dropped) in
        let stood : Ok i.before ≡ Err e = sym i.stood ∙ ap (step d) (equal_bytes g u same) ∙ gone in
        cc
    go false other =
        rw (
          goes,
          resolve_insert-step rest u w ws,
          apart_step from g h u hs d rest is other dropped,
          gone,
        ) refl
