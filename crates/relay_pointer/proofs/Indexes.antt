-- A number has one index that spells it, and its decimal text is that index.
use Rattle.std.proofs.Common.{◌≡◌, ◌⊎◌, ℕ, zero, suc, ◌+◌, ◌-◌, ◌*◌, ◌/◌, ◌%◌, ◌<◌, ◌≤◌, ◌^◌, List}
use Rattle.std.proofs.Common.{[], ◌∷◌, ◌++◌, length, Bool, true, false, ◌||◌, ◌==◌, nat_lt, nat_le}
use Rattle.std.proofs.Common.{Some, None, decimal, refl, sym, ap, subst, ◌∙◌, inl, inr, ⊎_elim}
use Rattle.std.proofs.Common.{arith, div-add-mod', mod-lt, min, option_map, bytes_eq, slice_get}
use Rattle.std.specs.List.{list_all}
use Rattle.std.proofs.lemmas.Bool.{cases_lt}
use Rattle.std.proofs.lemmas.List.Folds.{list_all-append}
use Rattle.std.proofs.lemmas.Fmt.{decimal_by_steps}
use Rattle.relay_pointer.specs.Index.{Token, is_digit, is_index, number_onto, index_of, spell}
use Rattle.relay_pointer.specs.Index.{index_text, number_of}
use Rattle.relay_tree.specs.Document.{Document}
use Rattle.std.proofs.lemmas.Bool.Decides.{nat_tests}
use Rattle.std.proofs.lemmas.Slice.Eq.{bytes_eq-Decides}
use Rattle.relay_tree.proofs.Names.{equal_bytes}
use Rattle.relay_tree.proofs.Equal.{both}

either : (a b : Bool) → (a || b) ≡ true → (a ≡ true) ⊎ (b ≡ true)
either true b h = inl refl
either false b h = inr h

lt_from : (a b : ℕ) → nat_lt a b ≡ true → a < b
lt_from a b h = grind arith

not_lt : (a b : ℕ) → nat_lt a b ≡ false → b ≤ a
not_lt a b h = grind arith

le_from : (a b : ℕ) → nat_le a b ≡ true → a ≤ b
le_from a b h = grind arith

no_length : (bs : List ℕ) → (length bs == 0) ≡ true → bs ≡ []
no_length [] h = refl
no_length (b ∷ bs) h = let e : suc (length bs) ≡ 0 = grind arith in absurd (omega arith)

record Digit (b : ℕ) : Type 0 where
  low : 48 ≤ b
  high : b ≤ 57

digit : (b : ℕ) → is_digit b ≡ true → Digit b
digit b h = let p = both (nat_le 48 b) (nat_le b 57) h in
    record { low = le_from 48 b p.0; high = le_from b 57 p.1 }

-- equally many digits that spell the same number are the same digits
same_digits : (s t : List ℕ) (m n : ℕ) → list_all is_digit s ≡ true → list_all is_digit t ≡ true
    → length s ≡ length t → number_onto m s ≡ number_onto n t → (m ≡ n) × (s ≡ t)
same_digits [] [] m n h k l e = (e, refl)
same_digits (b ∷ s) (c ∷ t) m n h k l e =
    let p = both (is_digit b) (list_all is_digit s) h in
    let q = both (is_digit c) (list_all is_digit t) k in
    let x = digit b p.0 in
    let y = digit c q.0 in
    let ih = same_digits s t (m * 10 + (b - 48)) (n * 10 + (c - 48)) p.1 q.1 (omega arith) e in
    let first : b ≡ c = omega (arith, ih.0) in
    let tail : s ≡ t = ih.1 in
    (omega (arith, ih.0), cc)
same_digits _ _ m n h k l e = absurd (omega arith)

-- a smaller number continued by equally many digits stays smaller
smaller : (s t : List ℕ) (m n : ℕ) → list_all is_digit s ≡ true → length s ≡ length t → m < n
    → number_onto m s < number_onto n t
smaller [] [] m n h l less = less
smaller (b ∷ s) (c ∷ t) m n h l less =
    let p = both (is_digit b) (list_all is_digit s) h in
    let x = digit b p.0 in
    smaller s t (m * 10 + (b - 48)) (n * 10 + (c - 48)) p.1 (omega arith) (omega arith)
smaller _ _ m n h l less = absurd (omega arith)

fewer : (s t : List ℕ) (n : ℕ) → list_all is_digit s ≡ true → length s ≤ length t → 0 < n
    → number_onto 0 s < number_onto n t
fewer s [] n h l positive = smaller s [] 0 n h (omega arith) positive
fewer s (c ∷ t) n h l positive =
    ⊎_elim
    (λ shorter. fewer s t (n * 10 + (c - 48)) h (omega arith) (omega arith))
    (λ longer. smaller s (c ∷ t) 0 n h (omega arith) positive)
    (cases_lt (length s) (length (c ∷ t)))

-- digits, of which the first is above 0 if there are more
record IsSpelled (b : ℕ) (bs : List ℕ) : Type 0 where
  digits : list_all is_digit (b ∷ bs) ≡ true
  led : (48 < b) ⊎ (bs ≡ [])

spelled : (b : ℕ) (bs : List ℕ) → is_index (b ∷ bs) ≡ true → IsSpelled b bs
spelled b bs h =
    let p = both (list_all is_digit (b ∷ bs)) (nat_lt 48 b || (length bs == 0)) h in
    record {
      digits = p.0;
      led = ⊎_elim (λ x. inl (lt_from 48 b x)) (λ x. inr (no_length bs x))
          (either (nat_lt 48 b) (length bs == 0) p.1);
    }

fewer_digits : (s t : List ℕ) → is_index s ≡ true → is_index t ≡ true → length s < length t
    → number_onto 0 s < number_onto 0 t
fewer_digits (b ∷ s) (c ∷ t) h k l =
    let x = spelled b s h in
    let y = spelled c t k in
    ⊎_elim
    (λ above. fewer (b ∷ s) t (0 * 10 + (c - 48)) x.digits (omega arith) (omega arith))
    (λ alone. let none : length t ≡ 0 = ap length alone in absurd (omega arith))
    y.led
fewer_digits _ _ h k l = cc

all_digits : (s : List ℕ) → is_index s ≡ true → list_all is_digit s ≡ true
all_digits [] h = cc
all_digits (b ∷ s) h = let x = spelled b s h in x.digits

same_index : (s t : List ℕ) → is_index s ≡ true → is_index t ≡ true
    → number_onto 0 s ≡ number_onto 0 t → s ≡ t
same_index s t h k e =
    ⊎_elim
    (λ shorter. let less = fewer_digits s t h k shorter in absurd (omega arith))
    (λ more. ⊎_elim
    (λ longer. let less = fewer_digits t s k h longer in absurd (omega arith))
    (λ fits. (same_digits s t 0 0 (all_digits s h) (all_digits t k) (omega arith) e).1)
    (cases_lt (length t) (length s)))
    (cases_lt (length s) (length t))

-- the token is an index, and its number is i
record Spells (t : Token) (i : ℕ) : Type 0 where
  index : is_index t ≡ true
  number : number_onto 0 t ≡ i

spells : (t : Token) (i : ℕ) → index_of t ≡ Some i → Spells t i
unfolding index_of
spells t i h = go (is_index t) refl
  where
    go : (x : Bool) → is_index t ≡ x → Spells t i
    go true e = let k : Some (number_onto 0 t) ≡ Some i = rw e at h in
        record { index = e; number = cc }
    go false e = let k : None ≡ Some i = rw e at h in cc

from_spells : (t : Token) (i : ℕ) → Spells t i → index_of t ≡ Some i
unfolding index_of
from_spells t i s = rw s.index (ap Some s.number)

pub index_of_injective : (s t : Token) (i : ℕ) → index_of s ≡ Some i → index_of t ≡ Some i → s ≡ t
index_of_injective s t i h k =
    let x = spells s i h in
    let y = spells t i k in
    same_index s t x.index y.index (x.number ∙ sym y.number)

number_onto-append : (s : List ℕ) (m b : ℕ)
    → number_onto m (s ++ b ∷ []) ≡ number_onto m s * 10 + (b - 48)
number_onto-append [] m b = refl
number_onto-append (c ∷ s) m b = number_onto-append s (m * 10 + (c - 48)) b

le_test : (a b : ℕ) → a ≤ b → nat_le a b ≡ true
le_test a b h = grind arith

lt_test : (a b : ℕ) → a < b → nat_lt a b ≡ true
lt_test a b h = grind arith

is_digit-add : (n : ℕ) → n < 10 → is_digit (48 + n) ≡ true
is_digit-add n h = rw (le_test 48 (48 + n) (omega arith), le_test (48 + n) 57 (omega arith)) refl

or_true : (a : Bool) → (a || true) ≡ true
or_true true = refl
or_true false = refl

one_digit : (n : ℕ) → n < 10 → Spells ((48 + n) ∷ []) n
one_digit n h =
    record { index = rw (is_digit-add n h) (or_true (nat_lt 48 (48 + n))); number = omega arith }

one_more : (n : ℕ) (ds : List ℕ) → 10 ≤ n → Spells ds (n / 10)
    → Spells (ds ++ ((48 + n % 10) ∷ [])) n
one_more n [] h s = let k = s.index in cc
one_more n (c ∷ ds) h s = record { index = rw (digits, first) refl; number = value }
  where
    x : IsSpelled c ds
    x = spelled c ds s.index

    last : ℕ
    last = 48 + n % 10

    below : n % 10 < 10
    below = mod-lt n {m = 10} (omega arith)

    whole : n / 10 * 10 + n % 10 ≡ n
    whole = div-add-mod' n 10

    digits : list_all is_digit (c ∷ (ds ++ last ∷ [])) ≡ true
    digits = list_all-append is_digit (c ∷ ds) (last ∷ [])
        ∙ rw (x.digits, is_digit-add (n % 10) below) refl

    alone : ds ≡ [] → 48 < c
    alone e = let v : c - 48
        ≡ n / 10 = let number = subst (λ l. number_onto 0 (c ∷ l) ≡ n / 10) e s.number in
        omega (arith, number) in omega arith

    first : nat_lt 48 c ≡ true
    first = lt_test 48 c (⊎_elim (λ above. above) alone x.led)

    value : number_onto 0 (c ∷ (ds ++ last ∷ [])) ≡ n
    value = number_onto-append (c ∷ ds) 0 last ∙ rw s.number (omega arith)

spell_spells : (k n : ℕ) → n ≤ k → Spells (spell k n) n
spell_spells zero n h = let none : 0 ≡ n = omega arith in
    subst (λ m. Spells (spell zero m) m) none (one_digit 0 (omega arith))
spell_spells (suc k) n h = go (nat_lt n 10) refl (spell_spells k (n / 10))
  where
    go : (x : Bool) → nat_lt n 10 ≡ x → (n / 10 ≤ k → Spells (spell k (n / 10)) (n / 10))
        → Spells (spell (suc k) n) n
    go true e ih = rw e (one_digit n (lt_from n 10 e))
    go false e ih = let large : 10 ≤ n = not_lt n 10 e in
        rw e (one_more n (spell k (n / 10)) large (ih (omega arith)))

pub index_of-index_text : (n : ℕ) → index_of (index_text n) ≡ Some n
unfolding index_text
index_of-index_text n = from_spells (spell n n) n (spell_spells n n (omega arith))

-- `{}` writes a number of 64 bits as the index that spells it
pub index_text-decimal : (n : ℕ) → n < 2 ^ 64 → index_text n ≡ decimal n
index_text-decimal n h =
    index_of_injective (index_text n) (decimal n) n (index_of-index_text n)
    (from_spells (decimal n) n (decimal_by_steps (λ n ds. Spells ds n) one_digit one_more n h))

-- the element that a token names
pub record Named (xs : List Document) (t : Token) : Type 0 where
  pub index : ℕ
  pub is : index_of t ≡ Some index
  pub within : index < length xs
  pub value : Document
  pub there : slice_get xs index ≡ Some value

-- the number that fits in 64 bits is the index
pub index_is : (xs : List Document) (t : Token) (n : ℕ) → length xs < 2 ^ 64 → Some n ≡ number_of t
    → (m : Named xs t) → n ≡ m.index
index_is xs t n few is m =
    let least : Some n ≡ Some (min (2 ^ 64 - 1) m.index) =
    is ∙ ap (option_map (min (2 ^ 64 - 1))) m.is in
    let same : n ≡ min (2 ^ 64 - 1) m.index = cc in
    omega (arith, same, m.within)

-- the token of the last of n + 1 elements
pub last_index : (t : Token) (i n : ℕ) → index_of t ≡ Some i
    → bytes_eq t (index_text n) ≡ (i + 1 == suc n)
last_index t i n named = go (i + 1 == suc n) refl
  where
    go : (x : Bool) → (i + 1 == suc n) ≡ x → bytes_eq t (index_text n) ≡ x
    go true e =
        let same : i ≡ n = grind (arith, nat_tests) in
        (bytes_eq-Decides t (index_text n)).1
        (index_of_injective t (index_text n) n (named ∙ ap Some same) (index_of-index_text n))
    go false e = unlike (bytes_eq t (index_text n)) refl
      where
        unlike : (y : Bool) → bytes_eq t (index_text n) ≡ y → y ≡ false
        unlike false k = refl
        unlike true k =
            let spelt : Some i ≡ Some n =
            sym named ∙ ap index_of (equal_bytes t (index_text n) k) ∙ index_of-index_text n in
            let same : i ≡ n = cc in
            let yes : (i + 1 == suc n) ≡ true = grind (arith, nat_tests) in
            cc
