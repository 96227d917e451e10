-- Lemmas about the lines of a text.
use Rattle.std.proofs.Common.{◌≡◌, ◌≢◌, ℕ, ◌+◌, ◌-◌, ◌<◌, ◌≤◌, List, [], ◌∷◌, ◌++◌, length, take}
use Rattle.std.proofs.Common.{drop, Bool, true, false, cond, ne_eqb, refl, sym, ◌∙◌, ap, subst}
use Rattle.std.proofs.Common.{arith, not, ◌==◌, length-append, append_assoc, append-nil, Option}
use Rattle.std.proofs.Common.{Some, None}
use Rattle.std.proofs.lemmas.List.{drop-take, drop-drop}
use Rattle.std.proofs.lemmas.List.Elements.{All-head, All-tail, All-append}
use Rattle.relay_script.specs.Lines.{onto_first, lines_of, HasNoBreak, TakesLine, BeginsTooLong}
use Rattle.std.specs.Io.KnownBytes.{Consumes, IsAtEnd, prepend_known}

-- a whole line at the front
pub lines_of-line : (part rest : List ℕ) → HasNoBreak part
    → lines_of (part ++ 10 ∷ rest) ≡ part ∷ lines_of rest
lines_of-line [] rest h = refl
lines_of-line (b ∷ part) rest h =
    ap (λ t.
    cond t ([] ∷ lines_of (part ++ 10 ∷ rest)) (onto_first b (lines_of (part ++ 10 ∷ rest))))
    (ne_eqb b 10 (All-head (λ y. y ≢ 10) b part h))
    ∙ ap (onto_first b) (lines_of-line part rest (All-tail (λ y. y ≢ 10) b part h))

-- with a byte there is a line
onto_first-some : (b : ℕ) (lines : List (List ℕ)) → onto_first b lines ≢ []
onto_first-some b [] e = cc
onto_first-some b (line ∷ lines) e = cc

pub lines_of-some : (b : ℕ) (rest : List ℕ) → lines_of (b ∷ rest) ≢ []
lines_of-some b rest = go (b == 10)
  where
    go : (t : Bool) → cond t ([] ∷ lines_of rest) (onto_first b (lines_of rest)) ≢ []
    go true e = cc
    go false e = onto_first-some b (lines_of rest) e

-- a part without a line feed is at the front of the first line
pub lines_of-part : (b : ℕ) (part rest : List ℕ) → HasNoBreak (b ∷ part)
    → (line : List ℕ) × (lines : List (List ℕ))
    × (lines_of ((b ∷ part) ++ rest) ≡ ((b ∷ part) ++ line) ∷ lines)
lines_of-part b [] rest h = first (lines_of rest) refl
  where
    step : lines_of (b ∷ rest) ≡ onto_first b (lines_of rest)
    step =
        ap (λ t. cond t ([] ∷ lines_of rest) (onto_first b (lines_of rest)))
        (ne_eqb b 10 (All-head (λ y. y ≢ 10) b [] h))

    first : (lines : List (List ℕ)) → lines_of rest ≡ lines
        → (line : List ℕ) × (more : List (List ℕ)) × (lines_of (b ∷ rest) ≡ (b ∷ line) ∷ more)
    first [] e = ([], [], step ∙ ap (onto_first b) e)
    first (l ∷ ls) e = (l, ls, step ∙ ap (onto_first b) e)
lines_of-part b (c ∷ part) rest h =
    let (line, lines, e) = lines_of-part c part rest (All-tail (λ y. y ≢ 10) b (c ∷ part) h) in (
      line,
      lines,
      ap (λ t.
          cond t ([] ∷ lines_of ((c ∷ part) ++ rest))
          (onto_first b (lines_of ((c ∷ part) ++ rest))))
          (ne_eqb b 10 (All-head (λ y. y ≢ 10) b (c ∷ part) h))
          ∙ ap (onto_first b) e,
    )

-- a last line that lacks its line feed
pub lines_of-last : (b : ℕ) (part : List ℕ) → HasNoBreak (b ∷ part)
    → lines_of (b ∷ part) ≡ (b ∷ part) ∷ []
lines_of-last b [] h =
    ap (λ t. cond t ([] ∷ []) (onto_first b [])) (ne_eqb b 10 (All-head (λ y. y ≢ 10) b [] h))
lines_of-last b (c ∷ part) h =
    ap (λ t. cond t ([] ∷ lines_of (c ∷ part)) (onto_first b (lines_of (c ∷ part))))
    (ne_eqb b 10 (All-head (λ y. y ≢ 10) b (c ∷ part) h))
    ∙ ap (onto_first b) (lines_of-last c part (All-tail (λ y. y ≢ 10) b (c ∷ part) h))

-- what is left of a window after its first `k` bytes are consumed
pub window_rest : (start end k : ℕ) (bytes : List ℕ) → start + k ≤ end
    → drop k (take (end - start) (drop start bytes))
    ≡ take (end - (start + k)) (drop (start + k) bytes)
window_rest start end k bytes within =
    let rest : ℕ = end - (start + k) in
    let long : end - start ≡ k + rest = omega arith in
    ap (λ n. drop k (take n (drop start bytes))) long ∙ drop-take k rest (drop start bytes)
    ∙ ap (take rest) (drop-drop k start bytes)

-- the input ends after the bytes read of a line; they are the last line unless there are none
pub TakesLine-end : (old new : Option (List ℕ)) (line : List ℕ) (n : ℕ) → n ≡ length line
    → HasNoBreak line → Consumes old new line → IsAtEnd new
    → TakesLine old new (not (n == 0)) line
TakesLine-end None new line n long h p e = tt
TakesLine-end (Some xs) None line n long h p e = absurd p
TakesLine-end (Some xs) (Some ys) [] n long h p e = rw long (p ∙ e)
TakesLine-end (Some xs) (Some ys) (b ∷ line) n long h p e =
    let some : n == 0 ≡ false = ne_eqb n 0 (λ none. omega arith) in
    rw some (ap lines_of (p ∙ ap (λ r. (b ∷ line) ++ r) e ∙ append-nil (b ∷ line))
    ∙ lines_of-last b line h ∙ ap (λ r. (b ∷ line) ∷ lines_of r) (sym e))

-- the next part ends the line
pub TakesLine-part : (old ahead : Option (List ℕ)) (chunk rest line part : List ℕ)
    → HasNoBreak line → HasNoBreak part
    → Consumes old (prepend_known chunk ahead) line → chunk ≡ part ++ 10 ∷ rest
    → TakesLine old (prepend_known rest ahead) true (line ++ part)
TakesLine-part None ahead chunk rest line part h k p e = tt
TakesLine-part (Some xs) None chunk rest line part h k p e = absurd p
TakesLine-part (Some xs) (Some ys) chunk rest line part h k p e =
    ap lines_of (p ∙ ap (λ r. line ++ (r ++ ys)) e
    ∙ ap (λ r. line ++ r) (append_assoc part (10 ∷ rest) ys)
    ∙ sym (append_assoc line part (10 ∷ rest ++ ys)))
    ∙ lines_of-line (line ++ part) (rest ++ ys) (All-append (λ b. b ≢ 10) line part h k)

-- the next part makes the line too long
pub BeginsTooLong-part : (most : ℕ) (old ahead : Option (List ℕ)) (chunk rest line part : List ℕ)
    → HasNoBreak line → HasNoBreak part
    → Consumes old (prepend_known chunk ahead) line → chunk ≡ part ++ rest
    → most < length line + length part → BeginsTooLong most old
BeginsTooLong-part most None ahead chunk rest line part h k p e long = tt
BeginsTooLong-part most (Some xs) None chunk rest line part h k p e long = absurd p
BeginsTooLong-part most (Some xs) (Some ys) chunk rest line part h k p e long =
    begins (line ++ part) refl
  where
    whole : xs ≡ (line ++ part) ++ (rest ++ ys)
    whole =
        p ∙ ap (λ r. line ++ (r ++ ys)) e ∙ ap (λ r. line ++ r) (append_assoc part rest ys)
        ∙ sym (append_assoc line part (rest ++ ys))

    begins : (front : List ℕ) → line ++ part ≡ front → BeginsTooLong most (Some xs)
    begins [] same = absurd (omega (arith, length-append line part, ap length same))
    begins (b ∷ front) same =
        let clean : HasNoBreak (b ∷ front) =
        subst HasNoBreak same (All-append (λ y. y ≢ 10) line part h k) in
        let (more, lines, first) = lines_of-part b front (rest ++ ys) clean in (
          (b ∷ front) ++ more,
          lines,
          ap lines_of (whole ∙ ap (λ f. f ++ (rest ++ ys)) same) ∙ first,
          omega (arith, length-append line part, ap length same, length-append (b ∷ front) more),
        )
