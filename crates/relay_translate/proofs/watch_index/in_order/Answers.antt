use Rattle.std.proofs.Common.{◌≡◌, ℕ, List, sym, subst, nat_eq, eqb-true, true}
use Rattle.std.specs.List.{list_any, dedup, Contains}
use Rattle.std.specs.List.Sorted.{IsPermutation, IsStrictlyIncreasing}
use Rattle.std.specs.Cmp.{both_ways, nat_eq_equiv}
use Rattle.std.proofs.lemmas.List.Filters.{dedup_is}
use Rattle.std.proofs.lemmas.List.Kept.{Contains-dedup_nat, Contains-from_dedup}
use Rattle.std.proofs.lemmas.List.Sorted.{Contains-permutation, IsPermutation-sym}
use Rattle.std.proofs.lemmas.Map.Keys.{IsStrictlyIncreasing-dedup}
use Rattle.std.proofs.lemmas.Map.Views.{Contains-from_any, list_any-from_Contains}
use Rattle.relay_translate.proofs.watch_index.in_order.Goals as goal

-- a sort and a `dedup` leave the numbers that there were
same_numbers : (old sorted new : List ℕ) → IsPermutation old sorted → new ≡ dedup nat_eq sorted
    → (s : ℕ) → list_any (nat_eq s) new ≡ list_any (nat_eq s) old
same_numbers old sorted new moved is s = both_ways _ _ back there
  where
    back : list_any (nat_eq s) new ≡ true → list_any (nat_eq s) old ≡ true
    back h =
        let kept : Contains (dedup nat_eq sorted) s =
        subst (λ xs. Contains xs s) is (Contains-from_any eqb-true s new h) in
        list_any-from_Contains nat_eq_equiv s old
        (Contains-permutation sorted old s (IsPermutation-sym old sorted moved)
        (Contains-from_dedup nat_eq sorted s kept))

    there : list_any (nat_eq s) old ≡ true → list_any (nat_eq s) new ≡ true
    there h =
        let kept : Contains (dedup nat_eq sorted) s =
        Contains-dedup_nat sorted s
        (Contains-permutation old sorted s moved (Contains-from_any eqb-true s old h)) in
        list_any-from_Contains nat_eq_equiv s new (subst (λ xs. Contains xs s) (sym is) kept)

pub returns-clause-same : goal.returns-clause-same
returns-clause-same c =
    same_numbers c.args.sessions.items c.sort_unstable.new.self.items c.dedup.new.self.items
    c.sort_unstable.ensures.permutation (dedup_is nat_eq _ _ c.dedup.ensures.filtered)

pub returns-clause-rising : goal.returns-clause-rising
returns-clause-rising c =
    subst IsStrictlyIncreasing (sym (dedup_is nat_eq _ _ c.dedup.ensures.filtered))
    (IsStrictlyIncreasing-dedup c.sort_unstable.new.self.items c.sort_unstable.ensures.sorted)
