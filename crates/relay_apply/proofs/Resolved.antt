-- The place on which an operation acts, found at the end of a walk.
use Rattle.std.proofs.Common.{◌≡◌, ◌-◌, ◌≤◌, List, [], ◌∷◌, ◌++◌, length, take, get_or, Bool, true}
use Rattle.std.proofs.Common.{false, Option, Some, None, is_some, Bor, Result, Ok, Err, String}
use Rattle.std.proofs.Common.{Global, string_bytes, refl, option_copied}
use Rattle.std.specs.declared.vec.Vec.{Vec}
use Rattle.relay_tree.specs.Document.{Document, list, object, Items, Members}
use Rattle.relay_tree.specs.Seen.{document_of}
use Rattle.relay_tree.specs.declared.tree.Node.{Node}
use Rattle.relay_tree.specs.declared.tree.Node.TheVariants as node
use Rattle.relay_patch.specs.Place.{place_within, place_of}
use Rattle.relay_patch.proofs.Walks.{at_reached, at_refused}
use Rattle.relay_tree.specs.Part.{member_at, object_member}
use Rattle.relay_pointer.specs.Index.{Token}
use Rattle.relay_pointer.specs.Path.{Path, path_of}
use Rattle.relay_patch.specs.Walk.{then_do, walk}
use Rattle.relay_patch.specs.declared.fault.Cause.{Cause}
use Rattle.relay_apply.specs.declared.insert_target.InsertTarget.TheVariants as insert_target
use Rattle.relay_apply.specs.Steps.{resolve_insert_in, resolve_insert, resolve_existing_in}
use Rattle.relay_apply.specs.Steps.{resolve_existing}
use Rattle.relay_patch.proofs.Tokens.{place_of-end, parent_end, last_end}
use Rattle.relay_pointer.proofs.Tokens.{tokens_back, tokens_last}

pub resolve_insert-end : (d : Document) (before : Path) (t : Token)
    → resolve_insert d (before ++ t ∷ []) ≡ then_do (walk d before) (λ c. resolve_insert_in c t)
resolve_insert-end d [] t = refl
resolve_insert-end d (u ∷ before) t = rw (parent_end u before t, last_end u before t) refl

pub resolve_existing-end : (d : Document) (before : Path) (t : Token)
    → resolve_existing d (before ++ t ∷ []) ≡ then_do (walk d before) (λ c. resolve_existing_in c t)
resolve_existing-end d [] t = refl
resolve_existing-end d (u ∷ before) t = rw (parent_end u before t, last_end u before t) refl

-- The part that a path names is found in the container of its last token, or not at all.
module _ {A : Type 0} (found : Document → Path → Result A Cause)
    (found_in : Document → Token → Result A Cause)
    (ends : (d : Document) (before : Path) (t : Token)
    → found d (before ++ t ∷ []) ≡ then_do (walk d before) (λ c. found_in c t))
    (ts : List (String Global)) (s : String Global) (d : Document) (h : 1 ≤ length ts)
    (is : s ≡ get_or ts (length ts - 1) s) where
  pub in_container : (c : Document) (u : Token) → walk d (path_of (take (length ts - 1) ts)) ≡ Ok c
      → u ≡ string_bytes s → found_in c u ≡ found d (path_of ts)
  in_container c u there named =
      rw (
        tokens_back ts s h is,
        ends d (path_of (take (length ts - 1) ts)) (string_bytes s),
        there,
        named,
      ) refl

  pub no_container : (e : Cause) → walk d (path_of (take (length ts - 1) ts)) ≡ Err e
      → Err e ≡ found d (path_of ts)
  no_container e there =
      rw (
        tokens_back ts s h is,
        ends d (path_of (take (length ts - 1) ts)) (string_bytes s),
        there,
      ) refl

pub resolve_insert_in-object : (r : Option (Bor Document)) (b : Bool) (d : Document) (ms : Members)
    (t : Token) → object ms ≡ d → option_copied r ≡ object_member d t → b ≡ is_some r
    → Ok (insert_target.Member b) ≡ resolve_insert_in d t
resolve_insert_in-object None b d ms t is found known =
    let none : None ≡ member_at ms t = rw (← is) at found in rw (← is, ← none, known) refl
resolve_insert_in-object (Some x) b d ms t is found known =
    let there : Some x.now ≡ member_at ms t = rw (← is) at found in rw (← is, ← there, known) refl

pub item_there : (ts : List (String Global)) (d c : Document) (ds : Items) → 1 ≤ length ts
    → walk d (path_of (take (length ts - 1) ts)) ≡ Ok c → c ≡ list ds
    → true ≡ (place_of d (path_of ts)).item
item_there ts d c ds h there is =
    let l = tokens_last ts h in
    rw (
      l.1,
      place_of-end d (path_of (take (length ts - 1) ts)) l.0,
      at_reached (path_of (take (length ts - 1) ts)) d c there,
      is,
    ) refl

other_place : (n : Node) (before : Path) (t : Token)
    → ((x : Vec Document Global) → n ≡ node.List x → ⊥)
    → false ≡ (place_within (Some (document_of n)) before t).item
other_place (node.List v) before t l = absurd (l v refl)
other_place _ before t l = refl

pub no_item_there : (ts : List (String Global)) (d c : Document) (n : Node) → 1 ≤ length ts
    → walk d (path_of (take (length ts - 1) ts)) ≡ Ok c → c ≡ document_of n
    → ((x : Vec Document Global) → n ≡ node.List x → ⊥) → false ≡ (place_of d (path_of ts)).item
no_item_there ts d c n h there is l =
    let e = tokens_last ts h in
    rw (
      e.1,
      place_of-end d (path_of (take (length ts - 1) ts)) e.0,
      at_reached (path_of (take (length ts - 1) ts)) d c there,
      is,
    ) (other_place n (path_of (take (length ts - 1) ts)) e.0 l)

pub no_place : (ts : List (String Global)) (d : Document) (e : Cause) → 1 ≤ length ts
    → walk d (path_of (take (length ts - 1) ts)) ≡ Err e → false ≡ (place_of d (path_of ts)).item
no_place ts d e h there =
    let l = tokens_last ts h in
    rw (
      l.1,
      place_of-end d (path_of (take (length ts - 1) ts)) l.0,
      at_refused (path_of (take (length ts - 1) ts)) d e there,
    ) refl
