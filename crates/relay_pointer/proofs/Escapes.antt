-- The escapes of a text, by the text before its first `~` and after it.
use Rattle.std.proofs.Common.{◌≡◌, ◌≢◌, ℕ, suc, ◌+◌, ◌<◌, List, [], ◌∷◌, ◌++◌, length, get_or, drop}
use Rattle.std.proofs.Common.{append-nil, Bool, true, false, ◌&&◌, ◌==◌, Option, Some, None}
use Rattle.std.proofs.Common.{is_some, IsSome, IsNone, option_map, IsSomeAnd, count_by, cond}
use Rattle.std.proofs.Common.{append_assoc, refl, sym, ap, subst, ◌∙◌, arith}
use Rattle.std.specs.List.{slice_split}
use Rattle.std.proofs.lemmas.Bool.Decides.{nat_tests}
use Rattle.std.proofs.lemmas.List.Splits.{length-slice_split}
use Rattle.std.proofs.lemmas.List.{at_drop_more, at_drop_all}
use Rattle.std.proofs.lemmas.List.Sums.{sum_by-cons}
use Rattle.relay_pointer.proofs.Spellings.{begins}
use Rattle.relay_pointer.proofs.Parts.{Kind, tilde, slash, letter, kind, Behind, zero_digit}
use Rattle.relay_pointer.proofs.Parts.{one_digit, stroke, other, behind_kind, Parts, parts}
use Rattle.relay_pointer.specs.Index.{Token}
use Rattle.relay_pointer.specs.Path.{Path}
use Rattle.relay_pointer.specs.Spelling.{unescaped, after_tilde, begun, tokens_of, path_of_text}
use Rattle.relay_pointer.specs.Spelling.{begins_escape, is_escaped}

abbrev pub NoTilde : List ℕ → Type 0
NoTilde bs = (i : ℕ) → i < length bs → get_or bs i 0 ≢ 126

no_tilde_first : (b : ℕ) (bs : List ℕ) → NoTilde (b ∷ bs) → (b == 126) ≡ false
no_tilde_first b bs none = go (b == 126) refl
  where
    go : (x : Bool) → (b == 126) ≡ x → (b == 126) ≡ false
    go true e = absurd (none 0 (omega arith) (grind (arith, nat_tests)))
    go false e = e

no_tilde_rest : (b : ℕ) (bs : List ℕ) → NoTilde (b ∷ bs) → NoTilde bs
no_tilde_rest b bs none = λ i h. none (suc i) (omega arith)

pub unescaped-plain : (bs : List ℕ) → NoTilde bs → unescaped bs ≡ Some bs
unescaped-plain [] none = refl
unescaped-plain (b ∷ bs) none =
    rw (no_tilde_first b bs none, unescaped-plain bs (no_tilde_rest b bs none)) refl

unescaped-append : (plain behind : List ℕ) → NoTilde plain
    → unescaped (plain ++ 126 ∷ behind) ≡ option_map (λ t. plain ++ t) (after_tilde behind)
unescaped-append [] behind none = go (after_tilde behind)
  where
    go : (o : Option Token) → o ≡ option_map (λ t. t) o
    go None = refl
    go (Some t) = refl
unescaped-append (b ∷ plain) behind none =
    rw (no_tilde_first b plain none, unescaped-append plain behind (no_tilde_rest b plain none))
    (go (after_tilde behind))
  where
    go : (o : Option Token)
        → option_map (λ t. b ∷ t) (option_map (λ t. plain ++ t) o)
        ≡ option_map (λ t. b ∷ (plain ++ t)) o
    go None = refl
    go (Some t) = refl

-- one step of reading: the token so far, the text before the escape, and the character that the
-- escape stands for
pub unescaped_more : (written rest plain behind after token new : List ℕ) (b : ℕ)
    → rest ≡ plain ++ 126 ∷ behind → NoTilde plain
    → after_tilde behind ≡ option_map (λ t. b ∷ t) (unescaped after)
    → new ≡ (token ++ plain) ++ b ∷ []
    → unescaped written ≡ option_map (λ t. token ++ t) (unescaped rest)
    → unescaped written ≡ option_map (λ t. new ++ t) (unescaped after)
unescaped_more written rest plain behind after token new b cut none found made so_far =
    rw (so_far, cut, unescaped-append plain behind none, found, made) (go (unescaped after))
  where
    go : (o : Option Token)
        → option_map (λ t. token ++ t) (option_map (λ t. plain ++ t) (option_map (λ t. b ∷ t) o))
        ≡ option_map (λ t. ((token ++ plain) ++ b ∷ []) ++ t) o
    go None = refl
    go (Some t) =
        rw (append_assoc (token ++ plain) (b ∷ []) t, append_assoc token plain (b ∷ t)) refl

-- if the whole text spells a token, each `~` begins an escape
pub escape_there : {A : Type 0} (written rest plain behind token : List ℕ) (found : Option A)
    → rest ≡ plain ++ 126 ∷ behind → NoTilde plain
    → unescaped written ≡ option_map (λ t. token ++ t) (unescaped rest) → IsSome (unescaped written)
    → (IsNone found → after_tilde behind ≡ None) → IsSome found
escape_there written rest plain behind token (Some e) cut none so_far there missing = refl
escape_there written rest plain behind token None cut none so_far there missing =
    let gone : unescaped written ≡ None =
    rw (so_far, cut, unescaped-append plain behind none, missing refl) refl in
    rw gone at there

pub is_escaped-plain : (bs : List ℕ) → NoTilde bs → is_escaped bs ≡ true
is_escaped-plain [] none = refl
is_escaped-plain (b ∷ bs) none =
    rw (no_tilde_first b bs none) (is_escaped-plain bs (no_tilde_rest b bs none))

is_escaped-append : (plain behind : List ℕ) → NoTilde plain
    → is_escaped (plain ++ 126 ∷ behind) ≡ (begins_escape behind && is_escaped behind)
is_escaped-append [] behind none = refl
is_escaped-append (b ∷ plain) behind none =
    rw (no_tilde_first b plain none) (is_escaped-append plain behind (no_tilde_rest b plain none))

pub is_escaped-cut : (rest plain behind : List ℕ) → rest ≡ plain ++ 126 ∷ behind → NoTilde plain
    → is_escaped rest ≡ (begins_escape behind && is_escaped behind)
is_escaped-cut rest plain behind cut none = rw cut (is_escaped-append plain behind none)

-- A text after a first `/` spells tokens if its escapes are complete.

is_some-begun : (o : Option Token) (path : Option Path)
    → is_some (begun o path) ≡ (is_some o && is_some path)
is_some-begun (Some t) None = refl
is_some-begun _ _ = refl

is_some-map : (b : ℕ) (o : Option Token) → is_some (option_map (λ t. b ∷ t) o) ≡ is_some o
is_some-map b None = refl
is_some-map b (Some t) = refl

record IsChecked (text : List ℕ) : Type 0 where
  whole : is_some (tokens_of (slice_split (λ c. c == 47) text)) ≡ is_escaped text
  escape : is_some (tokens_of (slice_split (λ c. c == 47) (126 ∷ text)))
      ≡ (begins_escape text && is_escaped text)

-- a first byte that stands for itself or, if escaped, for another
one_more : (b : ℕ) (text : List ℕ) → IsChecked text → (p : Parts text)
    → is_some (begun (option_map (λ t. b ∷ t) (unescaped p.first)) (tokens_of p.more))
    ≡ is_escaped text
one_more b text w p =
    let k : is_some (begun (unescaped p.first) (tokens_of p.more)) ≡ is_escaped text =
    rw p.are at w.whole in
    is_some-begun (option_map (λ t. b ∷ t) (unescaped p.first)) (tokens_of p.more)
    ∙ ap (λ x. x && is_some (tokens_of p.more)) (is_some-map b (unescaped p.first))
    ∙ sym (is_some-begun (unescaped p.first) (tokens_of p.more)) ∙ k

checked : (text : List ℕ) → IsChecked text
checked [] = record { whole = refl; escape = refl }
checked (b ∷ text) =
    record {
      whole = whole b (kind b) (checked text) (parts text);
      escape = escape b (behind_kind b) (checked text) (parts text);
    }
  where
    whole : (b : ℕ) → Kind b → IsChecked text → Parts text
        → is_some (tokens_of (slice_split (λ c. c == 47) (b ∷ text))) ≡ is_escaped (b ∷ text)
    whole _ tilde w p = w.escape
    whole _ slash w p =
        is_some-begun (Some []) (tokens_of (slice_split (λ c. c == 47) text)) ∙ w.whole
    whole _ (letter b e f) w p = rw (f, p.are, e) (one_more b text w p)

    escape : (b : ℕ) → Behind b → IsChecked text → Parts text
        → is_some (tokens_of (slice_split (λ c. c == 47) (126 ∷ b ∷ text)))
        ≡ (begins_escape (b ∷ text) && is_escaped (b ∷ text))
    escape _ zero_digit w p = rw p.are (one_more 126 text w p)
    escape _ one_digit w p = rw p.are (one_more 47 text w p)
    escape _ stroke w p = refl
    escape _ (other b e f g) w p = rw (g, p.are, e, f) refl

-- The checks of a text before it is read.

pub empty_spells : (text : List ℕ) → (length text == 0) ≡ true → is_some (path_of_text text) ≡ true
unfolding path_of_text
empty_spells [] h = refl
empty_spells (b ∷ text) h = let e : suc (length text) ≡ 0 = grind (arith, nat_tests) in
    absurd (omega arith)

pub slash_spells : (text : List ℕ) → get_or text 0 0 ≡ 47
    → is_some (path_of_text text) ≡ is_escaped text
unfolding path_of_text
slash_spells [] h = absurd (omega arith)
slash_spells (b ∷ text) h = let w = checked text in rw h w.whole

pub other_spells : (text : List ℕ) → (length text == 0) ≡ false → get_or text 0 0 ≢ 47
    → is_some (path_of_text text) ≡ false
unfolding path_of_text
other_spells [] h none = cc
other_spells (b ∷ text) h none = go (b == 47) refl
  where
    go : (x : Bool) → (b == 47) ≡ x → is_some (path_of_text (b ∷ text)) ≡ false
    go true e = absurd (none (grind (arith, nat_tests)))
    go false e = rw e refl

length-tokens_of : (parts : List (List ℕ)) (path : Path) → tokens_of parts ≡ Some path
    → length path ≡ length parts
length-tokens_of [] path h = let e : [] ≡ path = cc in rw (sym e) refl
length-tokens_of (part ∷ parts) path h =
    let s = begins (unescaped part) (tokens_of parts) path h in
    rw s.are (ap suc (length-tokens_of parts s.tokens s.more))

-- a text has one token for each `/`
pub length-path_of_text : (text : List ℕ) (path : Path) → path_of_text text ≡ Some path
    → length path ≡ count_by (λ b. b == 47) text
unfolding path_of_text
length-path_of_text [] path h = let e : [] ≡ path = cc in rw (sym e) refl
length-path_of_text (b ∷ text) path h = go (b == 47) refl
  where
    go : (x : Bool) → (b == 47) ≡ x → length path ≡ count_by (λ b. b == 47) (b ∷ text)
    go true e =
        let is : b ≡ 47 = grind (arith, nat_tests) in
        let k : tokens_of (slice_split (λ c. c == 47) text) ≡ Some path = rw e at h in
        let more : count_by (λ c. c == 47) (47 ∷ text) ≡ 1 + count_by (λ c. c == 47) text =
        sum_by-cons (λ c. cond (c == 47) 1 0) 47 text in
        rw is (omega (
          arith,
          length-tokens_of (slice_split (λ c. c == 47) text) path k,
          length-slice_split (λ c. c == 47) text,
          more,
        ))
    go false e = let k : None ≡ Some path = rw e at h in cc

-- what holds for the number of slashes in a text that spells a path holds for the path's length
pub path_counts : (text : List ℕ) (P : ℕ → Type 0) → is_some (path_of_text text) ≡ true
    → P (count_by (λ b. b == 47) text) → IsSomeAnd (path_of_text text) (λ path. P (length path))
path_counts text P there h = go (path_of_text text) refl
  where
    go : (o : Option Path) → path_of_text text ≡ o → IsSomeAnd o (λ path. P (length path))
    go None e = let k : false ≡ true = rw e at there in cc
    go (Some path) e = subst P (sym (length-path_of_text text path e)) h

-- One step of reading parts: the tokens so far, and the one that the next part spells.

pub tokens_turn : (parts : List (List ℕ)) (n : ℕ) (part : List ℕ)
    → (n < length parts) × (part ≡ get_or parts n part)
    → tokens_of (drop n parts) ≡ begun (unescaped part) (tokens_of (drop (n + 1) parts))
tokens_turn parts n part h =
    at_drop_more tokens_of parts n part h.0
    ∙ ap (λ x. begun (unescaped x) (tokens_of (drop (n + 1) parts))) (sym h.1)

pub part_written : (parts : List (List ℕ)) (n : ℕ) (part : List ℕ) (done : Path)
    → (n < length parts) × (part ≡ get_or parts n part)
    → tokens_of parts ≡ option_map (λ ts. done ++ ts) (tokens_of (drop n parts))
    → IsSome (tokens_of parts) → IsSome (unescaped part)
part_written parts n part done h so_far there = go (unescaped part) refl
  where
    go : (o : Option Token) → unescaped part ≡ o → IsSome o
    go (Some t) e = refl
    go None e =
        let gone : tokens_of parts ≡ None = rw (so_far, tokens_turn parts n part h, e) refl in
        rw gone at there

pub tokens_more : (parts : List (List ℕ)) (n : ℕ) (part token : List ℕ) (done new : Path)
    → (n < length parts) × (part ≡ get_or parts n part) → unescaped part ≡ Some token
    → new ≡ done ++ token ∷ []
    → tokens_of parts ≡ option_map (λ ts. done ++ ts) (tokens_of (drop n parts))
    → tokens_of parts ≡ option_map (λ ts. new ++ ts) (tokens_of (drop (n + 1) parts))
tokens_more parts n part token done new h wrote made so_far =
    rw (so_far, tokens_turn parts n part h, wrote, made) (go (tokens_of (drop (n + 1) parts)))
  where
    go : (o : Option Path)
        → option_map (λ ts. done ++ ts) (option_map (λ path. token ∷ path) o)
        ≡ option_map (λ ts. (done ++ token ∷ []) ++ ts) o
    go None = refl
    go (Some path) = rw (append_assoc done (token ∷ []) path) refl

pub tokens_all : (parts : List (List ℕ)) (n : ℕ) (done : Path) → n ≡ length parts
    → tokens_of parts ≡ option_map (λ ts. done ++ ts) (tokens_of (drop n parts))
    → tokens_of parts ≡ Some done
tokens_all parts n done all so_far =
    rw (so_far, at_drop_all tokens_of parts n (omega (arith, all)), append-nil done) refl

pub behind_slash : (text written : List ℕ) → text ≡ 47 ∷ written
    → path_of_text text ≡ tokens_of (slice_split (λ b. b == 47) written)
unfolding path_of_text
behind_slash text written h = rw h refl

pub without_slash : (text : List ℕ) → ((rest : List ℕ) → text ≢ 47 ∷ rest)
    → IsSome (path_of_text text) → path_of_text text ≡ Some []
unfolding path_of_text
without_slash [] none there = refl
without_slash (b ∷ text) none there = go (b == 47) refl
  where
    go : (x : Bool) → (b == 47) ≡ x → path_of_text (b ∷ text) ≡ Some []
    go true e = let is : b ≡ 47 = grind (arith, nat_tests) in absurd (none text (rw is refl))
    go false e = let k : false ≡ true = rw e at there in cc
