use Rattle.std.proofs.Common.{◌≡◌, ◌∙◌, ap, subst, map, Bor, nat_eq, ℕ, []}
use Rattle.std.specs.FinMap as fin
use Rattle.std.specs.List.{list_any}
use Rattle.std.proofs.lemmas.Result.{IfOk-weaker}
use Rattle.relay_patch.specs.declared.change.Change.{Change}
use Rattle.relay_translate.specs.Translate.{local}
use Rattle.relay_translate.specs.Watches.{is_touched, slots_of}
use Rattle.relay_translate.specs.Watches as index
use Rattle.std.specs.List.Sorted.{IsStrictlyIncreasing}
use Rattle.relay_audience.specs.Audiences.{numbers_touched, slots_at, sees, IsAudiences}
use Rattle.relay_audience.specs.Audiences.{OthersStay}
use Rattle.relay_audience.proofs.Laws.{touched_are}
use Rattle.relay_audience.proofs.Partings.{apart}
use Rattle.relay_audience.proofs.Places.{view_numbered}
use Rattle.relay_audience.proofs.Tables.{both_ok}
use Rattle.relay_audience.proofs.audiences.Audiences.touched.Goals as goal

pub returns-clause-exact : goal.returns-clause-exact
returns-clause-exact c =
    let changes = map (λ (x : Bor Change). x.now) c.args.changes.now in
    let xs = c.self.inside.table.list.items in
    let watches = c.self.inside.table.index in
    let slots : (n : ℕ) → slots_of (fin.get watches n) ≡ slots_at c.args.self.now n =
    λ n. ap slots_of (c.self.invariant.0.by_number n ∙ view_numbered n xs)
    ∙ ap (λ all. slots_at all n) c.self.view_is in
    IfOk-weaker c.touched.result
    (λ numbers. (n : ℕ) → list_any (nat_eq n) numbers.items ≡ index.sees changes watches n)
    (λ numbers. (n : ℕ) → list_any (nat_eq n) numbers.items ≡ sees changes c.args.self.now n)
    (λ numbers h n. h n ∙ ap (list_any (is_touched changes)) (slots n)) c.touched.ensures.exact

pub returns-clause-others : goal.returns-clause-others
returns-clause-others c =
    let changes = map (λ (x : Bor Change). x.now) c.args.changes.now in
    let xs = c.self.inside.table.list.items in
    let watches = c.self.inside.table.index in
    let slots : (n : ℕ) → slots_of (fin.get watches n) ≡ slots_at c.args.self.now n =
    λ n. ap slots_of (c.self.invariant.0.by_number n ∙ view_numbered n xs)
    ∙ ap (λ all. slots_at all n) c.self.view_is in
    IfOk-weaker c.touched.result
    (λ numbers. index.OthersStay changes watches numbers.items)
    (λ numbers. OthersStay changes c.args.self.now numbers.items)
    (λ numbers h n now absent. subst (λ v. local changes now v ≡ []) (slots n) (h n now absent))
    c.touched.ensures.others

pub returns-clause-apart : goal.returns-clause-apart
returns-clause-apart c =
    let is = c.self.invariant in
    subst IsAudiences c.self.view_is
    (apart c.self.inside.table.list.items is.0.order is.0.once is.1 is.2)

pub returns-clause-are : goal.returns-clause-are
returns-clause-are c =
    let changes = map (λ (x : Bor Change). x.now) c.args.changes.now in
    both_ok c.touched.result (λ numbers. IsStrictlyIncreasing numbers.items)
    (λ numbers. (n : ℕ) → list_any (nat_eq n) numbers.items ≡ sees changes c.args.self.now n)
    (λ numbers. numbers.items ≡ numbers_touched changes c.args.self.now)
    (λ numbers increasing exact. touched_are changes c.args.self.now numbers.items
    (returns-clause-apart c).rising increasing exact)
    c.touched.ensures.rising (returns-clause-exact c)
