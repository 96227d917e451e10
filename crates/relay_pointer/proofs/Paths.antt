-- The first tokens of a list of texts, and the bytes of a token written one by one.
use Rattle.std.proofs.Common.{◌≡◌, ◌≢◌, ℕ, zero, suc, ◌+◌, ◌<◌, List, [], ◌∷◌, ◌++◌, length, get_or}
use Rattle.std.proofs.Common.{take, String, Global, string_bytes, Bool, true, false, ◌==◌, flat_map}
use Rattle.std.proofs.Common.{append_assoc, append-nil, encode_utf8, encode_utf8_all, refl, sym, ap}
use Rattle.std.proofs.Common.{◌∙◌, arith}
use Rattle.std.proofs.lemmas.Bool.Decides.{nat_tests}
use Rattle.std.proofs.lemmas.List.Concat.{flat_map-append}
use Rattle.std.proofs.lemmas.Str.{encodes-append, encode_ascii, inside_one}
use Rattle.relay_pointer.specs.Path.{path_of}
use Rattle.relay_pointer.specs.Spelling.{escaped, spelling, spelled}

take_more : (tokens : List (String Global)) (i : ℕ) (token : String Global) → i < length tokens
    → token ≡ get_or tokens i token
    → take (suc i) (path_of tokens) ≡ take i (path_of tokens) ++ string_bytes token ∷ []
take_more [] i token h is = absurd (omega arith)
take_more (t ∷ tokens) zero token h is = rw is refl
take_more (t ∷ tokens) (suc i) token h is =
    ap (λ path. string_bytes t ∷ path) (take_more tokens i token (omega arith) is)

pub path_more : (tokens : List (String Global)) (i : ℕ) (token : String Global) → i < length tokens
    → token ≡ get_or tokens i token
    → take (i + 1) (path_of tokens) ≡ take i (path_of tokens) ++ string_bytes token ∷ []
path_more tokens i token h is = let next : i + 1 ≡ suc i = omega arith in
    rw next (take_more tokens i token h is)

pub spelling_more : (tokens : List (String Global)) (i : ℕ) (token : String Global)
    → i < length tokens → token ≡ get_or tokens i token
    → spelling (take (i + 1) (path_of tokens)) ≡ spelling (take i (path_of tokens))
    ++ spelled (string_bytes token)
spelling_more tokens i token h is =
    rw (path_more tokens i token h is)
    (flat_map-append spelled (take i (path_of tokens)) (string_bytes token ∷ [])
    ∙ ap (λ l. spelling (take i (path_of tokens)) ++ l)
    (append-nil (spelled (string_bytes token))))

-- one more character of a token
pub escaped_more : (text old new characters : List ℕ) (c : ℕ)
    → old ≡ text ++ flat_map escaped (encode_utf8_all characters)
    → new ≡ old ++ flat_map escaped (encode_utf8 c)
    → new ≡ text ++ flat_map escaped (encode_utf8_all (characters ++ c ∷ []))
escaped_more text old new characters c so_far pushed =
    rw (
      encodes-append characters (c ∷ []),
      append-nil (encode_utf8 c),
      flat_map-append escaped (encode_utf8_all characters) (encode_utf8 c),
      pushed,
      so_far,
    )
    (append_assoc text (flat_map escaped (encode_utf8_all characters))
    (flat_map escaped (encode_utf8 c)))

pub escaped_tilde : flat_map escaped (encode_utf8 126) ≡ 126 ∷ 48 ∷ []
escaped_tilde = rw (encode_ascii 126 (omega arith)) refl

pub escaped_slash : flat_map escaped (encode_utf8 47) ≡ 126 ∷ 49 ∷ []
escaped_slash = rw (encode_ascii 47 (omega arith)) refl

differs : (a b : ℕ) → a ≢ b → (a == b) ≡ false
differs a b h = go (a == b) refl
  where
    go : (x : Bool) → (a == b) ≡ x → (a == b) ≡ false
    go true e = absurd (h (grind (arith, nat_tests)))
    go false e = e

escaped_same : (bs : List ℕ)
    → ((k : ℕ) → k < length bs → (get_or bs k 0 ≢ 126) × (get_or bs k 0 ≢ 47))
    → flat_map escaped bs ≡ bs
escaped_same [] h = refl
escaped_same (b ∷ bs) h =
    let first = h 0 (omega arith) in
    rw (
      differs b 126 first.0,
      differs b 47 first.1,
      escaped_same bs (λ k less. h (suc k) (omega arith)),
    ) refl

pub escaped_plain : (c : ℕ) → c ≢ 126 → c ≢ 47 → flat_map escaped (encode_utf8 c) ≡ encode_utf8 c
escaped_plain c tilde slash =
    escaped_same (encode_utf8 c) (λ k less. (
      λ e. tilde (inside_one c [] (encode_utf8 c) k (sym (append-nil (encode_utf8 c))) less
          (omega (arith, e)) ∙ e),
      λ e. slash (inside_one c [] (encode_utf8 c) k (sym (append-nil (encode_utf8 c))) less
          (omega (arith, e)) ∙ e),
    ))
