-- The text before a suffix is what `strip_suffix` finds.
use Rattle.std.proofs.Common.{◌≡◌, ◌≢◌, ◌∙◌, ℕ, ◌-◌, Bool, true, false, if◌then◌else◌, List, ◌++◌}
use Rattle.std.proofs.Common.{length, take, nat_eq, Option, Some, None, refl, sym, ap}
use Rattle.std.proofs.Common.{option_copied, MatchOption}
use denote.Ref.{Bor}
use Rattle.std.specs.List.{ends_with}
use Rattle.std.specs.Str.Pattern.{FindsTextSuffix, StripsSuffix}
use Rattle.std.proofs.lemmas.Bool.Decides.{Decides-eqb}
use Rattle.std.proofs.lemmas.Slice.Eq.{ends_is}
use Rattle.relay_shake.specs.Route.{before}

-- if the text does not end with the suffix, nothing is before it
none_before : (suffix text : List ℕ) → ((front : List ℕ) → text ≢ front ++ suffix)
    → before suffix text ≡ None
none_before suffix text none = by_test (ends_with nat_eq text suffix) refl
  where
    by_test : (ends : Bool) → ends ≡ ends_with nat_eq text suffix
        → (if ends then Some (take (length text - length suffix) text) else None) ≡ None
    by_test true e = absurd (none _ ((ends_is Decides-eqb text suffix true e).0 refl))
    by_test false e = refl

-- what `strip_suffix` finds
pub stripped : (suffix text : List ℕ) (found : Option (Bor (List ℕ)))
    → MatchOption found (FindsTextSuffix suffix text None)
    (λ front. StripsSuffix (FindsTextSuffix suffix) text front.now)
    → option_copied found ≡ before suffix text
stripped suffix text None none = sym (none_before suffix text none)
stripped suffix text (Some front) (n, (same, splits, boundary), is, len) =
    let ends : ends_with nat_eq text suffix ≡ true =
    (ends_is Decides-eqb text suffix _ refl).1 _ splits in
    rw ends (ap Some (is ∙ ap (λ k. take (length text - k) text) same))
