-- Finding a session by its number in a list in which one session was changed, removed or added.
use Rattle.std.proofs.Common.{◌≡◌, ℕ, ◌+◌, ◌<◌, ◌≤◌, ◌==◌, Bool, true, false, List, [], ◌∷◌, ◌++◌}
use Rattle.std.proofs.Common.{length, Option, Some, None, refl, sym, ◌∙◌, ap, subst, arith, inl}
use Rattle.std.proofs.Common.{inr, get_or, not, zero, suc, IsSome, slice_get, if◌then◌else◌}
use Rattle.std.proofs.Common.{position, filter, nat_lt, nat_le, slice_set}
use Rattle.std.specs.Bool.{MatchBool}
use Rattle.std.specs.List.{position_or_len, remove}
use Rattle.std.specs.Option.{option_or}
use Rattle.std.proofs.lemmas.Bool.Decides.{eqb_tells, leb_tells, nat_tests}
use Rattle.std.proofs.lemmas.List.Folds.{find-set, find_past, find_at, find-append}
use Rattle.std.proofs.lemmas.Option.{slice_get_past, slice_get-get_or}
use Rattle.relay_outbox.specs.declared.outbox.TheConstants.{MAX_REPLIES}
use Rattle.relay_hub.specs.Call.{HasSpace, IsFull}
use Rattle.relay_hub.specs.Session.{Session}
use Rattle.relay_hub.specs.State.{session_in, is_number, EachOnce}
use Rattle.relay_hub.specs.Step.{OnlyAt}
use Rattle.relay_hub.proofs.Cases.{by_number, tested, untested}

-- The index of a session.

-- if no index is found, there is no session
pub not_found : (xs : List Session) (s : ℕ) → position (is_number s) xs ≡ None
    → session_in xs s ≡ None
not_found xs s h =
    let n = position_or_len (is_number s) xs in
    let past : length xs ≤ n = grind (arith, nat_tests, untested (nat_lt n (length xs)) n h) in
    rw (find_at (is_number s) xs) (slice_get_past xs n past)

pub index_within : (xs : List Session) (s i : ℕ) → position (is_number s) xs ≡ Some i
    → (i < length xs) × (i ≡ position_or_len (is_number s) xs)
index_within xs s i h =
    let n = position_or_len (is_number s) xs in
    let t : (nat_lt n (length xs) ≡ true) × (i ≡ n) = tested (nat_lt n (length xs)) n i h in
    let within : n < length xs = grind (arith, nat_tests, t.0) in
    (omega (arith, t.1, within), t.1)

pub found : (xs : List Session) (s i : ℕ) → position (is_number s) xs ≡ Some i
    → session_in xs s ≡ slice_get xs i
found xs s i h = rw (index_within xs s i h).1 (find_at (is_number s) xs)

-- the session is the one at the index
pub found_at : (xs : List Session) (s i : ℕ) → position (is_number s) xs ≡ Some i → (d : Session)
    → session_in xs s ≡ Some (get_or xs i d)
found_at xs s i h d = found xs s i h ∙ slice_get-get_or xs i d (index_within xs s i h).0

-- so it is the same as a session found in another way
pub same_session : (xs : List Session) (s i : ℕ) → position (is_number s) xs ≡ Some i
    → (d x : Session) → session_in xs s ≡ Some x → get_or xs i d ≡ x
same_session xs s i h d x e =
    let same : Some x ≡ Some (get_or xs i d) = sym e ∙ found_at xs s i h d in
    cc

some_at : (xs : List Session) (i : ℕ) → i < length xs → (x : Session) × (slice_get xs i ≡ Some x)
some_at [] i h = absurd (omega arith)
some_at (x ∷ xs) zero h = (x, refl)
some_at (x ∷ xs) (suc i) h = some_at xs i (omega arith)

-- if its index was found, the session exists
pub session_there : (xs : List Session) (s i : ℕ) → position (is_number s) xs ≡ Some i
    → (x : Session) × (session_in xs s ≡ Some x)
session_there xs s i h =
    let p = some_at xs i (index_within xs s i h).0 in (p.0, found xs s i h ∙ p.1)

pub number_of-found : (xs : List Session) (s : ℕ) (x : Session) → session_in xs s ≡ Some x
    → x.number ≡ s
number_of-found [] s x h = absurd (cc h)
number_of-found (y ∷ ys) s x h =
    elim (eqb_tells y.number s) [
      | inl e ↦ let k : Some y ≡ Some x = rw e.0 at h in let same : y ≡ x = cc in rw (← same) e.1
      | inr e ↦ let k : session_in ys s ≡ Some x = rw e.0 at h in number_of-found ys s x k
    ]

number_at : (xs : List Session) (s i : ℕ) (d : Session) → position (is_number s) xs ≡ Some i
    → (get_or xs i d).number ≡ s
number_at xs s i d h = number_of-found xs s (get_or xs i d) (found_at xs s i h d)

-- a session that is there has an index
pub never_unplaced : (xs : List Session) (s : ℕ) → IsSome (session_in xs s)
    → position (is_number s) xs ≡ None → ⊥
never_unplaced xs s there none =
    let no : false ≡ true = rw (not_found xs s none) at there in
    absurd (cc no)

-- only the session of one number differs
abbrev IsOnly : ℕ → Option Session → List Session → List Session → Type 0
IsOnly s x old new = (t : ℕ) → session_in new t ≡ (if s == t then x else session_in old t)

-- if no session has a number, the first one does not
pub none_there : (x : Session) (xs : List Session) (t : ℕ) → session_in (x ∷ xs) t ≡ None
    → ((x.number == t) ≡ false) × (session_in xs t ≡ None)
none_there x xs t h = go (x.number == t) h
  where
    go : (b : Bool) → (if b then Some x else session_in xs t) ≡ None
        → (b ≡ false) × (session_in xs t ≡ None)
    go true h = absurd (cc h)
    go false h = (refl, h)

-- A session is changed.

-- a session of the same number in its place
none_set : (xs : List Session) (i : ℕ) (y d : Session) (t : ℕ) → y.number ≡ (get_or xs i d).number
    → session_in xs t ≡ None → session_in (slice_set xs i y) t ≡ None
none_set [] i y d t e h = h
none_set (x ∷ xs) zero y d t e h = let n = none_there x xs t h in rw (e, n.0) n.1
none_set (x ∷ xs) (suc i) y d t e h =
    let n = none_there x xs t h in rw n.0 (none_set xs i y d t e n.1)

pub once_set : (xs : List Session) (i : ℕ) (y d : Session) → y.number ≡ (get_or xs i d).number
    → EachOnce xs → EachOnce (slice_set xs i y)
once_set [] i y d e h = tt
once_set (x ∷ xs) zero y d e h = (rw e h.0, h.1)
once_set (x ∷ xs) (suc i) y d e h = (none_set xs i y d x.number e h.0, once_set xs i y d e h.1)

session_in-set : (xs : List Session) (s i : ℕ) (y : Session) → position (is_number s) xs ≡ Some i
    → y.number ≡ s → IsOnly s (Some y) xs (slice_set xs i y)
session_in-set xs s i y h e t =
    let index = index_within xs s i h in
    elim (eqb_tells s t) [
      | inl same ↦ rw same.0 (subst (λ u. session_in (slice_set xs i y) u ≡ Some y) same.1
          (find-set (is_number s) xs i y index.1 index.0 (grind (arith, nat_tests, e))))
      | inr other ↦
          let passed : is_number t (get_or xs i y) ≡ false =
          grind (arith, nat_tests, number_at xs s i y h, other.1) in
          rw other.0 (find_past (is_number t) xs i y y passed (grind (
            arith,
            nat_tests,
            e,
            other.1,
          )))
    ]

-- a write at the index of a session changes that session alone
pub set_only : (xs : List Session) (s i : ℕ) (x y : Session) → position (is_number s) xs ≡ Some i
    → session_in xs s ≡ Some x → y.number ≡ x.number
    → OnlyAt s (Some y) xs (slice_set xs i y)
set_only xs s i x y at there keeps =
    let same : y.number ≡ (get_or xs i x).number =
    keeps ∙ ap (λ (z : Session). z.number) (sym (same_session xs s i at x x there)) in
    record {
      found = session_in-set xs s i y at (same ∙ number_at xs s i x at);
      once = once_set xs i y x same;
    }

-- A session is removed.

tells_same : (n s t : ℕ) → (n == s) ≡ true → (n == t) ≡ (s == t)
tells_same n s t h = grind (arith, nat_tests, h)

tells_number : (n s t : ℕ) → (n == t) ≡ true → (s == t) ≡ true → (n == s) ≡ true
tells_number n s t h k = grind (arith, nat_tests, h, k)

abbrev others : ℕ → List Session → List Session
others s xs = filter (λ x. not (is_number s x)) xs

left_out : (a b c : Bool) → (a ≡ true → b ≡ c) → (b ≡ true → c ≡ true → a ≡ true)
    → (x : Session) (xs : List Session) (s t : ℕ) → b ≡ is_number t x →
    session_in (others s xs) t ≡ (if c then None else session_in xs t) →
    session_in (if not a then x ∷ others s xs else others s xs) t
    ≡ (if c then None else (if b then Some x else session_in xs t))
left_out true true false h k x xs s t e g = absurd (cc (h refl))
left_out true false true h k x xs s t e g = absurd (cc (h refl))
left_out false true true h k x xs s t e g = absurd (cc (k refl refl))
left_out false true false h k x xs s t e g = rw (← e) refl
left_out false false c h k x xs s t e g = rw (← e) g
left_out true _ _ h k x xs s t e g = g

none_either : (b : Bool) → session_in [] 0 ≡ (if b then None else None)
none_either true = refl
none_either false = refl

session_in-others : (xs : List Session) (s : ℕ) → IsOnly s None xs (others s xs)
session_in-others [] s t = none_either (s == t)
session_in-others (x ∷ xs) s t =
    left_out (is_number s x) (is_number t x) (s == t)
    (λ h. tells_same x.number s t h) (λ h k.
    tells_number x.number s t h k) x xs s t refl (session_in-others xs s t)

once_others : (xs : List Session) (s : ℕ) → EachOnce xs → EachOnce (others s xs)
once_others [] s h = tt
once_others (x ∷ xs) s h = go (is_number s x) (once_others xs s h.1)
  where
    none : (b : Bool) → session_in xs x.number ≡ None
        → (if b then None else session_in xs x.number) ≡ None
    none true e = refl
    none false e = e

    go : (b : Bool) → EachOnce (others s xs)
        → EachOnce (if not b then x ∷ others s xs else others s xs)
    go true rest = rest
    go false rest = (session_in-others xs s x.number ∙ none (s == x.number) h.0, rest)

none_leaves : (xs : List Session) (s : ℕ) → session_in xs s ≡ None → others s xs ≡ xs
none_leaves [] s h = refl
none_leaves (x ∷ xs) s h =
    let n = none_there x xs s h in rw n.0 (ap (λ ys. x ∷ ys) (none_leaves xs s n.1))

removed_at_index : (xs : List Session) (s : ℕ) → EachOnce xs
    → position_or_len (is_number s) xs < length xs
    → remove xs (position_or_len (is_number s) xs) ≡ others s xs
removed_at_index [] s once within = absurd (omega (arith, within))
removed_at_index (x ∷ xs) s once within =
    go (is_number s x) refl within (removed_at_index xs s once.1)
  where
    n : ℕ
    n = position_or_len (is_number s) xs

    go : (b : Bool) → is_number s x ≡ b → (if not b then 1 + n else 0) < suc (length xs)
        → (n < length xs → remove xs n ≡ others s xs)
        → remove (x ∷ xs) (if not b then 1 + n else 0)
        ≡ (if not b then x ∷ others s xs else others s xs)
    go true is within rest =
        let same : x.number ≡ s = grind (arith, nat_tests, is) in
        sym (none_leaves xs s (subst (λ m. session_in xs m ≡ None) same once.0))
    go false is within rest =
        let next : suc n ≡ 1 + n = omega arith in
        subst (λ m. remove (x ∷ xs) m ≡ x ∷ others s xs) next (ap (λ ys.
        x ∷ ys) (rest (omega (arith, within))))

-- where no number occurs twice, those of other numbers are left when the one at its index is
-- removed
pub removed_at : (xs : List Session) (s i : ℕ) → EachOnce xs → position (is_number s) xs ≡ Some i
    → remove xs i ≡ filter (λ x. not (is_number s x)) xs
removed_at xs s i once at =
    let index = index_within xs s i at in
    subst (λ n. remove xs n
    ≡ others s xs) (sym index.1)
    (removed_at_index xs s once (subst (λ n. n < length xs) index.1 index.0))

-- where nobody has the number, all are
pub none_removed : (xs : List Session) (s : ℕ) → position (is_number s) xs ≡ None
    → xs ≡ filter (λ x. not (is_number s x)) xs
none_removed xs s none = sym (none_leaves xs s (not_found xs s none))

-- the sessions of other numbers
pub filter_removes : (xs : List Session) (s : ℕ)
    → OnlyAt s None xs (filter (λ x. not (is_number s x)) xs)
filter_removes xs s = record { found = session_in-others xs s; once = once_others xs s }

-- The outbox of a session.

-- the outbox of a session is full, or a reply fits
pub full_or_room : (xs : List Session) (s : ℕ) (y : Session) → session_in xs s ≡ Some y
    → length y.outbox.replies ≤ MAX_REPLIES →
    MatchBool (nat_le MAX_REPLIES (length y.outbox.replies)) (IsFull xs s) (HasSpace xs s)
full_or_room xs s y there within =
    let n = length y.outbox.replies in
    let same : (x : Session) → session_in xs s ≡ Some x → length x.outbox.replies ≡ n =
    λ x e.
    let both : Some x ≡ Some y = sym e ∙ there in
    let one : x ≡ y = cc in
    ap (λ (z : Session). length z.outbox.replies) one in
    elim (leb_tells MAX_REPLIES n) [
      | inl e ↦ rw e.0 (λ x k. let is : length x.outbox.replies ≡ n = same x k in
          omega (arith, e.1, within))
      | inr e ↦ rw e.0 (λ x k. let is : length x.outbox.replies ≡ n = same x k in
          omega (arith, e.1))
    ]

-- A session is added.

or_none : (o : Option Session) → option_or o None ≡ o
or_none None = refl
or_none (Some x) = refl

session_in-push : (xs : List Session) (y : Session) → session_in xs y.number ≡ None
    → IsOnly y.number (Some y) xs (xs ++ y ∷ [])
session_in-push xs y none t =
    rw (find-append (is_number t) xs (y ∷ []))
    (by_number (λ t b. option_or (session_in xs t) (if b then Some y else None)
    ≡ (if b then Some y else session_in xs t)) y.number t
    (rw none refl) (λ _. or_none (session_in xs t)))

once_push : (xs : List Session) (y : Session) → session_in xs y.number ≡ None → EachOnce xs
    → EachOnce (xs ++ y ∷ [])
once_push [] y none h = (refl, tt)
once_push (x ∷ xs) y none h =
    let rest = none_there x xs y.number none in
    let other : (y.number == x.number) ≡ false = grind (arith, nat_tests, rest.0) in
    (rw (session_in-push xs y rest.1 x.number, other) h.0, once_push xs y rest.1 h.1)

-- a session with a new number is added last, and no other differs
pub push_last : (xs : List Session) (y : Session) → session_in xs y.number ≡ None
    → OnlyAt y.number (Some y) xs (xs ++ y ∷ [])
push_last xs y none = record { found = session_in-push xs y none; once = once_push xs y none }
