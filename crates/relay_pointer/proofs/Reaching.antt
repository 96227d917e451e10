-- The state of a walk along a path at a node d, after i tokens: the final value of the whole
-- document is a function F of that of d.
use Rattle.std.proofs.Common.{◌≡◌, ℕ, zero, suc, ◌<◌, ◌≤◌, Some, None, List, [], ◌∷◌, length}
use Rattle.std.proofs.Common.{get_or, take, drop, refl, sym, ap, ◌∙◌, arith}
use Rattle.relay_tree.specs.Document.{Document}
use Rattle.relay_tree.specs.Seen.{document_of}
use Rattle.relay_tree.specs.declared.tree.Node.{Node}
use Rattle.relay_pointer.specs.Path.{child, with_child, at, put}
use Rattle.relay_pointer.proofs.Walks.{with_child-same, put_step, at_step, at_missing}

abbrev pub Reached : Document → List (List ℕ) → ℕ → Node → (Node → Document) → Type 0
Reached top ts i d F =
    (at top ts ≡ at (document_of d) (drop i ts))
    × ((w : Node) (e : Document) → document_of w ≡ put (document_of d) (drop i ts) e
    → F w ≡ put top ts e) × ((w : Node) → document_of w ≡ document_of d → F w ≡ top)

cut : (ts : List (List ℕ)) (i : ℕ) → i < length ts → drop i ts ≡ get_or ts i [] ∷ drop (suc i) ts
cut [] i h = absurd (omega arith)
cut (t ∷ ts) zero h = refl
cut (t ∷ ts) (suc i) h = cut ts i (omega arith)

spent : (ts : List (List ℕ)) (i : ℕ) → length ts ≤ i → drop i ts ≡ []
spent (t ∷ ts) zero h = absurd (omega arith)
spent (t ∷ ts) (suc i) h = spent ts i (omega arith)
spent [] zero h = refl
spent [] (suc i) h = refl

pub starts : (top : Document) (ts : List (List ℕ)) (d : Node) → document_of d ≡ top
    → Reached top ts 0 d document_of
starts top ts d is =
    (ap (λ x. at x ts) (sym is), λ w e h. h ∙ ap (λ x. put x ts e) is, λ w h. h ∙ is)

pub steps : (top : Document) (ts : List (List ℕ)) (t : List ℕ) (i : ℕ) (d : Node)
    (F : Node → Document) (c : Document) (d' : Node) (G : Document → Node) → i < length ts
    → get_or ts i [] ≡ t → child (document_of d) t ≡ Some c → document_of d' ≡ c
    → ((x : Document) → document_of (G x) ≡ with_child (document_of d) t x) → Reached top ts i d F
    → Reached top ts (suc i) d' (λ w. F (G (document_of w)))
steps top ts t i d F c d' G inside same found is holds r =
    let rest = drop (suc i) ts in
    let at_cut = cut ts i inside ∙ ap (λ x. x ∷ rest) same in (
      r.0 ∙ ap (at (document_of d)) at_cut ∙ at_step (document_of d) c t rest found
          ∙ ap (λ x. at x rest) (sym is),
      λ w e h. r.1 (G (document_of w)) e
          (put_step (document_of d) c (document_of w)
          (document_of (G (document_of w))) t rest e found (holds (document_of w))
          (h ∙ ap (λ x. put x rest e) is) ∙ ap (λ p. put (document_of d) p e) (sym at_cut)),
      λ w h. r.2 (G (document_of w))
          (holds (document_of w) ∙ ap (with_child (document_of d) t) (h ∙ is)
          ∙ with_child-same (document_of d) t c found),
    )

pub missing : (top : Document) (ts : List (List ℕ)) (t : List ℕ) (i : ℕ) (d : Node)
    (F : Node → Document) → i < length ts → get_or ts i [] ≡ t → child (document_of d) t ≡ None
    → Reached top ts i d F → at top ts ≡ None
missing top ts t i d F inside same gone r =
    r.0 ∙ ap (at (document_of d)) (cut ts i inside ∙ ap (λ x. x ∷ drop (suc i) ts) same)
    ∙ at_missing (document_of d) t (drop (suc i) ts) gone

-- the first n tokens
pub front_length : (n : ℕ) (ts : List (List ℕ)) → n ≤ length ts → length (take n ts) ≡ n
front_length zero ts h = refl
front_length (suc n) [] h = absurd (omega arith)
front_length (suc n) (t ∷ ts) h = ap suc (front_length n ts (omega arith))

pub front_token : (n : ℕ) (ts : List (List ℕ)) (i : ℕ) → i < n
    → get_or (take n ts) i [] ≡ get_or ts i []
front_token zero ts i h = absurd (omega arith)
front_token (suc n) (t ∷ ts) (suc i) h = front_token n ts i (omega arith)
front_token (suc n) _ _ h = refl

pub ends : (top : Document) (ts : List (List ℕ)) (i : ℕ) (d : Node) (F : Node → Document)
    → length ts ≤ i → Reached top ts i d F
    → (Some (document_of d) ≡ at top ts) × ((w : Node) → F w ≡ put top ts (document_of w))
ends top ts i d F over r =
    let none_left = spent ts i over in (
      sym (r.0 ∙ ap (at (document_of d)) none_left),
      λ w. r.1 w (document_of w)
          (ap (λ p. put (document_of d) p (document_of w)) (sym none_left)),
    )
