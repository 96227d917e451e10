-- The text behind a prefix is what `strip_prefix` finds.
use Rattle.std.proofs.Common.{◌≡◌, ◌≢◌, ◌∙◌, ℕ, Bool, true, false, if◌then◌else◌, List, ◌++◌}
use Rattle.std.proofs.Common.{length, drop, nat_eq, Option, Some, None, refl, sym, ap}
use Rattle.std.proofs.Common.{option_copied, MatchOption}
use denote.Ref.{Bor}
use Rattle.std.specs.List.{starts_with}
use Rattle.std.specs.Str.Pattern.{FindsTextPrefix, StripsPrefix}
use Rattle.std.proofs.lemmas.Bool.Decides.{Decides-eqb}
use Rattle.std.proofs.lemmas.Slice.Eq.{starts_is}
use Rattle.relay_admin.specs.Cut.{behind}

-- if the text does not begin with the prefix, nothing is behind it
none_behind : (prefix text : List ℕ) → ((rest : List ℕ) → text ≢ prefix ++ rest)
    → behind prefix text ≡ None
none_behind prefix text none = by_test (starts_with nat_eq text prefix) refl
  where
    by_test : (starts : Bool) → starts ≡ starts_with nat_eq text prefix
        → (if starts then Some (drop (length prefix) text) else None) ≡ None
    by_test true e = absurd (none _ ((starts_is Decides-eqb text prefix true e).0 refl))
    by_test false e = refl

-- what `strip_prefix` finds
pub stripped : (prefix text : List ℕ) (found : Option (Bor (List ℕ)))
    → MatchOption found (FindsTextPrefix prefix text None)
    (λ rest. StripsPrefix (FindsTextPrefix prefix) text rest.now)
    → option_copied found ≡ behind prefix text
stripped prefix text None none = sym (none_behind prefix text none)
stripped prefix text (Some rest) (n, (same, splits, boundary), is, len) =
    let starts : starts_with nat_eq text prefix ≡ true =
    (starts_is Decides-eqb text prefix _ refl).1 _ splits in
    rw starts (ap Some (is ∙ ap (λ k. drop k text) same))

-- the text behind a prefix
pub behind_is : (prefix text rest : List ℕ) → behind prefix text ≡ Some rest → text ≡ prefix ++ rest
behind_is prefix text rest e = by_test (starts_with nat_eq text prefix) refl e
  where
    by_test : (starts : Bool) → starts ≡ starts_with nat_eq text prefix
        → (if starts then Some (drop (length prefix) text) else None) ≡ Some rest
        → text ≡ prefix ++ rest
    by_test true s e =
        let same : drop (length prefix) text ≡ rest = cc e in
        (starts_is Decides-eqb text prefix true s).0 refl ∙ ap (λ r. prefix ++ r) same
    by_test false s e = absurd (cc e)

-- if nothing is behind a prefix, the text does not begin with it
pub never_behind : (prefix text rest : List ℕ) → behind prefix text ≡ None → text ≢ prefix ++ rest
never_behind prefix text rest none e =
    let starts : starts_with nat_eq text prefix ≡ true =
    (starts_is Decides-eqb text prefix _ refl).1 rest e in
    let found : behind prefix text ≡ Some (drop (length prefix) text) = rw starts refl in
    absurd (cc (sym none ∙ found))
