-- A text spells a path exactly if it reads as that path, so it spells no other.
use Rattle.std.proofs.Common.{◌≡◌, ◌↔◌, ℕ, List, [], ◌∷◌, ◌++◌, Bool, true, false, ◌==◌, Option}
use Rattle.std.proofs.Common.{Some, None, option_map, flat_map, append_assoc, refl, sym, ap, subst}
use Rattle.std.proofs.Common.{◌∙◌, arith}
use Rattle.std.specs.List.{slice_split}
use Rattle.std.proofs.lemmas.Bool.Decides.{nat_tests}
use Rattle.relay_pointer.specs.Index.{Token}
use Rattle.relay_pointer.specs.Path.{Path}
use Rattle.relay_pointer.proofs.Parts.{Kind, tilde, slash, letter, kind, Behind, zero_digit}
use Rattle.relay_pointer.proofs.Parts.{one_digit, stroke, other, behind_kind, Parts, parts}
use Rattle.relay_pointer.specs.Spelling.{escaped, spelling, Spells, SpellsNone, unescaped, begun}
use Rattle.relay_pointer.specs.Spelling.{tokens_of, path_of_text}

-- a path that consists of a first token and a rest
pub record Begins (o : Option Token) (rest : Option Path) (path : Path) : Type 0 where
  pub token : Token
  pub tokens : Path
  pub first : o ≡ Some token
  pub more : rest ≡ Some tokens
  pub are : path ≡ token ∷ tokens

pub begins : (o : Option Token) (rest : Option Path) (path : Path) → begun o rest ≡ Some path
    → Begins o rest path
begins (Some t) (Some ts) path h =
    record { token = t; tokens = ts; first = refl; more = refl; are = cc }
begins _ _ path h = cc

-- one more byte before the first token
longer : (b : ℕ) (o : Option Token) (rest : Option Path) (t : Token) (path : Path)
    → begun o rest ≡ Some (t ∷ path)
    → begun (option_map (λ t. b ∷ t) o) rest ≡ Some ((b ∷ t) ∷ path)
longer b (Some s) (Some ts) t path h = let e : s ≡ t = cc in let f : ts ≡ path = cc in
    rw (e, f) refl
longer b _ _ t path h = cc

shorter : (b : ℕ) (o : Option Token) (rest : Option Path) (path : Path)
    → begun (option_map (λ t. b ∷ t) o) rest ≡ Some path
    → (q : Path) × (t : Token) × (begun o rest ≡ Some (t ∷ q)) × (path ≡ (b ∷ t) ∷ q)
shorter b (Some t) (Some ts) path h = (ts, t, refl, cc)
shorter b _ _ path h = cc

-- Reading what was written.

tokens_of-escaped : (b : ℕ) (text : List ℕ) (t : Token) (path : Path)
    → tokens_of (slice_split (λ c. c == 47) text) ≡ Some (t ∷ path)
    → tokens_of (slice_split (λ c. c == 47) (escaped b ++ text)) ≡ Some ((b ∷ t) ∷ path)
tokens_of-escaped b text t path h = go b (kind b)
  where
    p : Parts text
    p = parts text

    known : begun (unescaped p.first) (tokens_of p.more) ≡ Some (t ∷ path)
    known = subst (λ l. tokens_of l ≡ Some (t ∷ path)) p.are h

    go : (b : ℕ) → Kind b
        → tokens_of (slice_split (λ c. c == 47) (escaped b ++ text)) ≡ Some ((b ∷ t) ∷ path)
    go _ tilde = rw p.are (longer 126 (unescaped p.first) (tokens_of p.more) t path known)
    go _ slash = rw p.are (longer 47 (unescaped p.first) (tokens_of p.more) t path known)
    go _ (letter b e f) =
        rw (e, f) (rw (f, p.are)
        (rw e (longer b (unescaped p.first) (tokens_of p.more) t path known)))

pub tokens_of-spelling : (t : Token) (path : Path)
    → tokens_of (slice_split (λ c. c == 47) (flat_map escaped t ++ spelling path)) ≡ Some (t ∷ path)
tokens_of-spelling [] [] = refl
tokens_of-spelling [] (u ∷ path) = rw (tokens_of-spelling u path) refl
tokens_of-spelling (b ∷ t) path =
    rw (append_assoc (escaped b) (flat_map escaped t) (spelling path))
    (tokens_of-escaped b (flat_map escaped t ++ spelling path) t path
    (tokens_of-spelling t path))

pub path_of_text-spelling : (path : Path) → path_of_text (spelling path) ≡ Some path
unfolding path_of_text
path_of_text-spelling [] = refl
path_of_text-spelling (t ∷ path) = tokens_of-spelling t path

-- Writing what was read.

record IsWritten (text : List ℕ) : Type 0 where
  whole : (path : Path) → tokens_of (slice_split (λ c. c == 47) text) ≡ Some path
      → 47 ∷ text ≡ spelling path
  escape : (path : Path) → tokens_of (slice_split (λ c. c == 47) (126 ∷ text)) ≡ Some path
      → 47 ∷ 126 ∷ text ≡ spelling path

-- a first byte that stands for itself or, if escaped, for another
one_more : (b : ℕ) (text : List ℕ) (path : Path) → IsWritten text → (p : Parts text)
    → begun (option_map (λ t. b ∷ t) (unescaped p.first)) (tokens_of p.more) ≡ Some path
    → 47 ∷ (escaped b ++ text) ≡ spelling path
one_more b text path w p h =
    let s = shorter b (unescaped p.first) (tokens_of p.more) path h in
    let q = s.0 in
    let t = s.1 in
    let rest : 47 ∷ text ≡ 47 ∷ (flat_map escaped t ++ spelling q) =
    w.whole (t ∷ q) (rw p.are s.2) in
    let same : text ≡ flat_map escaped t ++ spelling q = cc in
    rw (s.3, append_assoc (escaped b) (flat_map escaped t) (spelling q))
    (ap (λ l. 47 ∷ (escaped b ++ l)) same)

written : (text : List ℕ) → IsWritten text
written [] =
    record {
      whole = λ path h. let e : [] ∷ [] ≡ path = cc in
          rw (sym e) refl;
      escape = λ path h. cc;
    }
written (b ∷ text) =
    record {
      whole = whole b (kind b) (written text) (parts text);
      escape = escape b (behind_kind b) (written text) (parts text);
    }
  where
    whole : (b : ℕ) → Kind b → IsWritten text → Parts text → (path : Path)
        → tokens_of (slice_split (λ c. c == 47) (b ∷ text)) ≡ Some path
        → 47 ∷ b ∷ text ≡ spelling path
    whole _ tilde w p path h = w.escape path h
    whole _ slash w p path h =
        let s = begins (Some []) (tokens_of (slice_split (λ c. c == 47) text)) path h in
        let none : [] ≡ s.token = cc in
        rw (s.are, sym none) (ap (λ l. 47 ∷ l) (w.whole s.tokens s.more))
    whole _ (letter b e f) w p path h =
        let k : begun (option_map (λ t. b ∷ t) (unescaped p.first)) (tokens_of p.more) ≡ Some path =
        rw (f, p.are, e) at h in
        let g : 47 ∷ (escaped b ++ text) ≡ spelling path = one_more b text path w p k in
        rw (e, f) at g

    escape : (b : ℕ) → Behind b → IsWritten text → Parts text → (path : Path)
        → tokens_of (slice_split (λ c. c == 47) (126 ∷ b ∷ text)) ≡ Some path
        → 47 ∷ 126 ∷ b ∷ text ≡ spelling path
    escape _ zero_digit w p path h = one_more 126 text path w p (rw p.are at h)
    escape _ one_digit w p path h = one_more 47 text path w p (rw p.are at h)
    escape _ stroke w p path h = cc
    escape _ (other b e f g) w p path h = let k : None ≡ Some path = rw (g, p.are, e, f) at h in cc

-- The two definitions of a text that spells a path are equivalent.

pub reads-spelled : (text : List ℕ) (path : Path) → path_of_text text ≡ Some path → Spells text path
unfolding path_of_text
reads-spelled [] path h = let e : [] ≡ path = cc in rw (sym e) refl
reads-spelled (b ∷ text) path h = go (b == 47) refl
  where
    go : (x : Bool) → (b == 47) ≡ x → Spells (b ∷ text) path
    go true e =
        let is : b ≡ 47 = grind (arith, nat_tests) in
        let k : tokens_of (slice_split (λ c. c == 47) text) ≡ Some path = rw e at h in
        let w = written text in
        rw is (w.whole path k)
    go false e = let k : None ≡ Some path = rw e at h in cc

pub spelled-reads : (text : List ℕ) (path : Path) → Spells text path → path_of_text text ≡ Some path
spelled-reads text path h = rw h (path_of_text-spelling path)

pub reads_where_spelled : (text : List ℕ) (path : Path)
    → (path_of_text text ≡ Some path) ↔ Spells text path
reads_where_spelled text path = (reads-spelled text path, spelled-reads text path)

-- different lists of tokens have different spellings
pub spelling_injective : (p q : Path) → spelling p ≡ spelling q → p ≡ q
spelling_injective p q h =
    let e : Some p ≡ Some q =
    sym (path_of_text-spelling p) ∙ ap path_of_text h ∙ path_of_text-spelling q in cc

pub spells_none : (text : List ℕ) → path_of_text text ≡ None → SpellsNone text
spells_none text h = λ path s. let e : None ≡ Some path = sym h ∙ spelled-reads text path s in cc
