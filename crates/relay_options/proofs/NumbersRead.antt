-- The number that a typed getter reads is the one that its text writes.
use Rattle.std.proofs.Common.{◌≡◌, ◌∙◌, ◌^◌, ◌&&◌, ℕ, Bool, cond, true, false, refl, sym, ap}
use Rattle.std.proofs.Common.{List, [], ◌∷◌, length, Option, Some, None, Result, Ok, Err, nat_lt}
use Rattle.std.proofs.Common.{lt-ltb, ltb-true}
use Rattle.std.specs.List.{list_all}
use Rattle.std.specs.Result.{result_ok}
use Rattle.std.specs.Char.{digit_value}
use Rattle.std.specs.Prelude.{option_and_then}
use Rattle.std.specs.Str.Parse.{AllDigits, ParsesUnsigned, digits_value, without_leading_plus}
use Rattle.clap.proofs.WalkLemmas.{both, one_text-rows}
use Rattle.clap.specs.Words.{ReadsOne, Text, found_of, one_text, rows_of}
use Rattle.clap.specs.declared.parser.ArgMatches.{ArgMatches}
use Rattle.relay_options.specs.CommandLine.{number_in, number_of_text}

digits_pass : (ds : List ℕ) → AllDigits 10 ds → list_all (λ d. nat_lt (digit_value d) 10) ds ≡ true
digits_pass [] h = refl
digits_pass (d ∷ ds) h = rw (lt-ltb (digit_value d) 10 h.0) (digits_pass ds h.1)

digits_from : (ds : List ℕ) → list_all (λ d. nat_lt (digit_value d) 10) ds ≡ true → AllDigits 10 ds
digits_from [] e = tt
digits_from (d ∷ ds) e =
    let parts = both _ _ e in
    (ltb-true _ _ parts.0, digits_from ds parts.1)

abbrev is_number : List ℕ → Bool
is_number ds = nat_lt 0 (length ds) && list_all (λ d. nat_lt (digit_value d) 10) ds
    && nat_lt (digits_value 10 ds) (2 ^ 64)

text_read : {E : Type 0} (text : Text) (r : Result ℕ E) → ParsesUnsigned 64 10 text r
    → number_of_text text ≡ result_ok r
unfolding number_of_text
text_read text (Ok n) h =
    let ds = without_leading_plus text in
    let some = lt-ltb 0 (length ds) h.0.0.0 in
    let small = lt-ltb (digits_value 10 ds) (2 ^ 64) h.0.1 in
    rw (some, digits_pass ds h.0.0.1, small) (sym (ap Some h.1))
text_read text (Err e) h = go (is_number (without_leading_plus text)) refl
  where
    go : (b : Bool) → is_number (without_leading_plus text) ≡ b
        → cond b (Some (digits_value 10 (without_leading_plus text))) None ≡ None
    go false t = refl
    go true t =
        let outer = both _ _ t in
        let inner = both _ _ outer.0 in
        let digits = digits_from (without_leading_plus text) inner.1 in
        absurd (h ((ltb-true _ _ inner.0, digits), ltb-true _ _ outer.1))

one_read : {E : Type 0} (gives : Text → Result ℕ E → Type 0) (text : Text) (r : Option ℕ)
    → ((t : Text) (x : Result ℕ E) → gives t x → ParsesUnsigned 64 10 t x)
    → ReadsOne gives text r → number_of_text text ≡ r
one_read {E} gives text (Some n) parses h = text_read {E = E} text (Ok n) (parses text (Ok n) h)
one_read {E} gives text None parses h = text_read {E = E} text (Err h.0) (parses text (Err h.0) h.1)

found_read : {E : Type 0} (gives : Text → Result ℕ E → Type 0) (found : Option Text) (r : Option ℕ)
    → ((t : Text) (x : Result ℕ E) → gives t x → ParsesUnsigned 64 10 t x)
    → (found ≡ None → r ≡ None) → ((t : Text) → found ≡ Some t → ReadsOne gives t r)
    → option_and_then number_of_text found ≡ r
found_read gives None r parses none value = sym (none refl)
found_read gives (Some t) r parses none value = one_read gives t r parses (value t refl)

-- what `get_one::<u64>` reads
pub number_read : {E : Type 0} (gives : Text → Result ℕ E → Type 0) (m : ArgMatches) (name : Text)
    (r : Option ℕ) → ((t : Text) (x : Result ℕ E) → gives t x → ParsesUnsigned 64 10 t x)
    → (one_text (found_of m) name ≡ None → r ≡ None)
    → ((t : Text) → one_text (found_of m) name ≡ Some t → ReadsOne gives t r)
    → number_in name (rows_of (found_of m)) ≡ r
unfolding number_in
number_read gives m name r parses none value =
    ap (option_and_then number_of_text) (sym (one_text-rows (found_of m) name))
    ∙ found_read gives (one_text (found_of m) name) r parses none value
