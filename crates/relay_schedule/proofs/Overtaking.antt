-- A key that had a turn is visited again only after each other key of the line was: whoever stands
-- ahead of it stays ahead until it had a turn, or was skipped in the pass in which that key waits.
use Rattle.std.proofs.Common.{◌≡◌, inl, inr, ◌⊎◌, ◌≢◌, ℕ, List, [], ◌∷◌, ◌++◌, Bool, true, false}
use Rattle.std.proofs.Common.{◌&&◌, ◌||◌, not, ◌==◌, ◌+◌, ◌<◌, ◌≤◌, nat_lt, cond, refl, sym, ap}
use Rattle.std.proofs.Common.{◌∙◌, subst, arith, append_assoc}
use Rattle.std.proofs.lemmas.Bool.Decides.{nat_tests, eqb_tells}
use Rattle.relay_schedule.specs.Queue.{times}
use Rattle.relay_schedule.specs.TurnLine.{Line, IsLine, Act, order, is_in, holds, pushed, skipped}
use Rattle.relay_schedule.specs.TurnLine.{without_first, in_new_pass, put_back}
use Rattle.relay_schedule.specs.TurnLine.{overtakes}
use Rattle.relay_schedule.specs.TurnLine.Act.{begins, visits, leaves, comes}
use Rattle.relay_schedule.proofs.Times.{one_if, times-cons, times_first, times_others, times_push}
use Rattle.relay_schedule.proofs.Times.{times_append}
use Rattle.relay_schedule.proofs.Standing.{times_behind, times_between, times_without_first}
use Rattle.relay_schedule.proofs.Standing.{order_new_pass}
use Rattle.relay_schedule.proofs.Visiting.{line_with}

-- `other` stands ahead of `key`, which stands there too
Ahead : ℕ → ℕ → List ℕ → Type 0
Ahead other key [] = ⊥
Ahead other key (k ∷ keys) =
    ((k ≡ other) × (is_in key keys ≡ true)) ⊎ ((k ≢ key) × Ahead other key keys)

-- a key that stands as often or more often, or as often or less often
in_more : (key : ℕ) (keys more : List ℕ) → times key keys ≤ times key more
    → is_in key keys ≡ true
    → is_in key more ≡ true
in_more key keys more within is = grind (arith, nat_tests, within, is)

in_fewer : (key : ℕ) (keys fewer : List ℕ) → times key fewer ≤ times key keys
    → is_in key keys ≡ false
    → is_in key fewer ≡ false
in_fewer key keys fewer within is = grind (arith, nat_tests, within, is)

in_rest : (key k : ℕ) (keys : List ℕ) → k ≢ key → is_in key (k ∷ keys) ≡ true
    → is_in key keys ≡ true
in_rest key k keys apart is = elim (eqb_tells k key) [
  | inl (_, same) ↦ absurd (apart same)
  | inr (isnt, _) ↦
      in_more key (k ∷ keys) keys (omega (arith, times_others key k keys isnt)) is
]

in_first : (key k : ℕ) (keys : List ℕ) → k ≡ key → is_in key (k ∷ keys) ≡ true
in_first key k keys same = subst (λ k. is_in key (k ∷ keys) ≡ true) (sym same)
    (grind (arith, nat_tests, times_first key keys))

not_first : (key k : ℕ) (keys : List ℕ) → is_in key (k ∷ keys) ≡ false → k ≢ key
not_first key k keys is same = absurd (cc (is, in_first key k keys same))

ahead_in : (other key : ℕ) (keys : List ℕ) → Ahead other key keys → is_in key keys ≡ true
unfolding Ahead
ahead_in other key [] ahead = absurd ahead
ahead_in other key (k ∷ keys) (inl (_, is)) =
    in_more key keys (k ∷ keys) (omega (arith, times-cons key k keys)) is
ahead_in other key (k ∷ keys) (inr (_, ahead)) =
    in_more key keys (k ∷ keys) (omega (arith, times-cons key k keys))
    (ahead_in other key keys ahead)

-- who comes stands behind both, or between the parts of the line
ahead_push : (other key new : ℕ) (keys : List ℕ) → Ahead other key keys
    → Ahead other key (keys ++ new ∷ [])
unfolding Ahead
ahead_push other key new [] ahead = absurd ahead
ahead_push other key new (k ∷ keys) (inl (same, is)) =
    inl (same, in_more key keys (keys ++ new ∷ []) (omega (arith, times_push key new keys)) is)
ahead_push other key new (k ∷ keys) (inr (apart, ahead)) =
    inr (apart, ahead_push other key new keys ahead)

ahead_insert : (other key new : ℕ) (waiting served : List ℕ) → new ≢ key
    → Ahead other key (waiting ++ served)
    → Ahead other key (waiting ++ new ∷ served)
unfolding Ahead
ahead_insert other key new [] served apart ahead = inr (apart, ahead)
ahead_insert other key new (k ∷ waiting) served apart (inl (same, is)) =
    inl (same, in_more key (waiting ++ served) (waiting ++ new ∷ served) within is)
  where
    within : times key (waiting ++ served) ≤ times key (waiting ++ new ∷ served)
    within = omega (
      arith,
      times_append key waiting served,
      times_append key waiting (new ∷ served),
      times-cons key new served,
    )
ahead_insert other key new (k ∷ waiting) served apart (inr (different, ahead)) =
    inr (different, ahead_insert other key new waiting served apart ahead)

-- whoever stands ahead and is skipped stays ahead of those that were served
ahead_skipped : (other key : ℕ) (waiting served : List ℕ) → is_in key waiting ≡ false
    → is_in key (waiting ++ served) ≡ true
    → Ahead other key (waiting ++ other ∷ served)
unfolding Ahead
ahead_skipped other key [] served none is = inl (refl, is)
ahead_skipped other key (k ∷ waiting) served none is =
    let apart = not_first key k waiting none in
    inr (
      apart,
      ahead_skipped other key waiting served
          (in_fewer key (k ∷ waiting) waiting (omega (arith, times-cons key k waiting)) none)
          (in_rest key k (waiting ++ served) apart is),
    )

-- a key that comes last stands behind each that was there
ahead_of_last : (other key : ℕ) (keys : List ℕ) → is_in other keys ≡ true
    → is_in key keys ≡ false
    → Ahead other key (keys ++ key ∷ [])
unfolding Ahead
ahead_of_last other key [] there none = absurd (cc there)
ahead_of_last other key (k ∷ keys) there none = elim (eqb_tells k other) [
  | inl (_, same) ↦ inl (
    same,
    in_more key (key ∷ []) (keys ++ key ∷ [])
        (omega (arith, times_append key keys (key ∷ [])))
        (in_first key key [] refl),
  )
  | inr (_, apart) ↦ inr (
    not_first key k keys none,
    ahead_of_last other key keys (in_rest other k keys apart there)
        (in_fewer key (k ∷ keys) keys (omega (arith, times-cons key k keys)) none),
  )
]

-- the first key is not `key`; and if it is not `other` either, both stand behind it
first_is_not : (other key k : ℕ) (keys : List ℕ) → key ≢ other → Ahead other key (k ∷ keys)
    → k ≢ key
unfolding Ahead
first_is_not other key k keys apart (inl (same, _)) is = apart (sym is ∙ same)
first_is_not other key k keys apart (inr (different, _)) is = different is

ahead_rest : (other key k : ℕ) (keys : List ℕ) → k ≢ other → Ahead other key (k ∷ keys)
    → Ahead other key keys
unfolding Ahead
ahead_rest other key k keys apart (inl (same, _)) = absurd (apart same)
ahead_rest other key k keys apart (inr (_, ahead)) = ahead

-- a key that is put back stands behind both, or between the parts of the line
ahead_put_back : (other key : ℕ) (is_served : Bool) (new : ℕ) (line : Line)
    → Ahead other key (order line)
    → Ahead other key (order (put_back is_served new line))
ahead_put_back other key true new line ahead =
    go (nat_lt new line.admitted && not (holds new line))
  where
    go : (fresh : Bool) → Ahead other key
        (order (cond fresh (record line { served = line.served ++ new ∷ [] }) line))
    go true = subst (Ahead other key) (append_assoc line.waiting line.served (new ∷ []))
        (ahead_push other key new (order line) ahead)
    go false = ahead
ahead_put_back other key false new line ahead =
    go (nat_lt new line.admitted) (holds new line) refl
  where
    go : (admitted held : Bool) → holds new line ≡ held → Ahead other key (order
        (cond (admitted && not held) (record line { waiting = line.waiting ++ new ∷ [] }) line))
    go true false is =
        let there = ahead_in other key (order line) ahead in
        subst (Ahead other key) (sym (append_assoc line.waiting (new ∷ []) line.served))
        (ahead_insert other key new line.waiting line.served
        (λ same. absurd (cc (is, there, same))) ahead)
    go true true is = ahead
    go false held is = ahead

-- a key that was not there comes
line_with_one : (new : ℕ) (line more : Line) → IsLine line → nat_lt new line.admitted ≡ true
    → holds new line ≡ false → more.admitted ≡ line.admitted
    → ((other : ℕ) → times other (order more) ≡ times other (order line) + one_if (new == other))
    → IsLine more
line_with_one new line more is room none same count = record {
  once = λ other. elim (eqb_tells new other) [
    | inl (known, at) ↦
        let alone : times other (order line) ≡ 0 = subst (λ k. times k (order line) ≡ 0) at gone in
        omega (arith, count other ∙ ap (λ b. times other (order line) + one_if b) known, alone)
    | inr (isnt, _) ↦
        let same = count other ∙ ap (λ b. times other (order line) + one_if b) isnt in
        omega (arith, same, is.once other)
  ];
  admitted = λ other held. rw same (elim (eqb_tells new other) [
    | inl (_, at) ↦ subst (λ k. k < line.admitted) at (grind (arith, nat_tests, room))
    | inr (isnt, _) ↦ is.admitted other (in_more other (order more) (order line)
        (omega (arith, count other ∙ ap (λ b. times other (order line) + one_if b) isnt)) held)
  ]);
}
  where
    gone : times new (order line) ≡ 0
    gone = grind (arith, nat_tests, none)

-- the invariant of a line after an act
line_put_back : (is_served : Bool) (new : ℕ) (line : Line) → IsLine line
    → IsLine (put_back is_served new line)
line_put_back true new line is =
    go (nat_lt new line.admitted) (holds new line) refl refl
  where
    go : (admitted held : Bool) → nat_lt new line.admitted ≡ admitted → holds new line ≡ held
        → IsLine
        (cond (admitted && not held) (record line { served = line.served ++ new ∷ [] }) line)
    go true false room none =
        line_with_one new line (record line { served = line.served ++ new ∷ [] }) is room none refl
        (λ other. times_behind new other line.waiting line.served)
    go true true room none = is
    go false held room none = is
line_put_back false new line is =
    go (nat_lt new line.admitted) (holds new line) refl refl
  where
    go : (admitted held : Bool) → nat_lt new line.admitted ≡ admitted → holds new line ≡ held
        → IsLine
        (cond (admitted && not held) (record line { waiting = line.waiting ++ new ∷ [] }) line)
    go true false room none =
        line_with_one new line (record line { waiting = line.waiting ++ new ∷ [] }) is room none
        refl (λ other. times_between new other line.waiting line.served)
    go true true room none = is
    go false held room none = is

line_without_first : (line : Line) → IsLine line → IsLine (without_first line)
line_without_first line is = record {
  once = λ key. omega (arith, is.once key, times_without_first key line);
  admitted = λ key held. is.admitted key
      (in_more key (order (without_first line)) (order line) (times_without_first key line) held);
}

line_in_new_pass : (line : Line) → IsLine line → IsLine (in_new_pass line)
line_in_new_pass line is = record {
  once = λ key. rw (order_new_pass line) (is.once key);
  admitted = λ key held. is.admitted key (rw (order_new_pass line) at held);
}

-- the first key that is skipped stands behind those that wait
skipped_again : (key : ℕ) (waiting served : List ℕ) (admitted : ℕ)
    → IsLine (line_with (key ∷ waiting) served admitted)
    → skipped key (line_with waiting served admitted)
    ≡ line_with (waiting ++ key ∷ []) served admitted
skipped_again key waiting served admitted is =
    let once = is.once key in
    let first = times_first key (waiting ++ served) in
    let within = is.admitted key (in_first key key (waiting ++ served) refl) in
    let room : nat_lt key admitted ≡ true = grind (arith, nat_tests, within) in
    let none : times key (waiting ++ served) ≡ 0 = omega (arith, once, first) in
    let gone : holds key (line_with waiting served admitted) ≡ false =
    grind (arith, nat_tests, none) in
    rw (room, gone) refl

-- the first key is no other one
only_first : (key k : ℕ) → k ≢ key → is_in key (k ∷ []) ≡ false
only_first key k apart = elim (eqb_tells k key) [
  | inl (_, same) ↦ absurd (apart same)
  | inr (isnt, _) ↦
      let none : times key (k ∷ []) ≡ 0 = omega (arith, times_others key k [] isnt) in
      grind (arith, nat_tests, none)
]

module _ (key other : ℕ) (apart : key ≢ other) where
  -- acts leave `key` behind `other`, as long as that counts
  stays_behind : (acts : List Act) (waiting served : List ℕ) (admitted : ℕ)
      → IsLine (line_with waiting served admitted)
      → Ahead other key (waiting ++ served)
      → overtakes key other acts (line_with waiting served admitted) ≡ false
  unfolding overtakes
  stays_behind [] waiting served admitted is ahead = refl
  stays_behind (begins ∷ acts) waiting served admitted is ahead =
      let line = line_with waiting served admitted in
      stays_behind acts (waiting ++ served) [] admitted (line_in_new_pass line is)
      (subst (Ahead other key) (sym (order_new_pass line)) ahead)
  stays_behind (comes is_served k ∷ acts) waiting served admitted is ahead =
      let line = line_with waiting served admitted in
      let next = put_back is_served k line in
      stays_behind acts next.waiting next.served next.admitted (line_put_back is_served k line is)
      (ahead_put_back other key is_served k line ahead)
  stays_behind (leaves ∷ acts) [] served admitted is ahead =
      stays_behind acts [] served admitted is ahead
  stays_behind (leaves ∷ acts) (k ∷ waiting) served admitted is ahead =
      let line = line_with (k ∷ waiting) served admitted in
      let first = first_is_not other key k (waiting ++ served) apart ahead in
      rw (only_first key k first) (elim (eqb_tells k other) [
        | inl (_, same) ↦ rw (in_first other k [] same) refl
        | inr (_, different) ↦ rw (only_first other k different)
            (stays_behind acts waiting served admitted (line_without_first line is)
            (ahead_rest other key k (waiting ++ served) different ahead))
      ])
  stays_behind (visits is_served ∷ acts) [] served admitted is ahead =
      stays_behind acts [] served admitted is ahead
  stays_behind (visits is_served ∷ acts) (k ∷ waiting) served admitted is ahead =
      let first = first_is_not other key k (waiting ++ served) apart ahead in
      let next = put_back is_served k (line_with waiting served admitted) in
      let rest = stays_behind acts next.waiting next.served next.admitted
      (line_put_back is_served k (line_with waiting served admitted)
      (line_without_first (line_with (k ∷ waiting) served admitted) is)) in
      rw (only_first key k first) (elim (eqb_tells k other) [
        | inl (_, same) ↦ rw (in_first other k [] same)
            (once_met is_served (is_in key (k ∷ waiting)) refl same rest)
        | inr (_, different) ↦ rw (only_first other k different)
            (rest (ahead_put_back other key is_served k (line_with waiting served admitted)
            (ahead_rest other key k (waiting ++ served) different ahead)))
      ])
    where
      once_met : (turn waits : Bool) → is_in key (k ∷ waiting) ≡ waits → k ≡ other
          → (Ahead other key (order (put_back turn k (line_with waiting served admitted)))
          → overtakes key other acts (put_back turn k (line_with waiting served admitted)) ≡ false)
          → (not (turn || waits)
          && overtakes key other acts (put_back turn k (line_with waiting served admitted)))
          ≡ false
      once_met true waits known same rest = refl
      once_met false true known same rest = refl
      once_met false false none same rest = rest
          (subst (λ line. Ahead other key (order line))
          (sym (skipped_again k waiting served admitted is))
          (subst (Ahead other key) (sym (append_assoc waiting (k ∷ []) served))
          (subst (λ k. Ahead other key (waiting ++ k ∷ served)) (sym same)
          (ahead_skipped other key waiting served
          (in_fewer key (k ∷ waiting) waiting (omega (arith, times-cons key k waiting)) none)
          (in_rest key k (waiting ++ served) (not_first key k waiting none)
          (ahead_in other key (k ∷ (waiting ++ served)) ahead))))))

-- a key that was pushed just now, and another one that stood in the line
pub never_overtaken : (key other : ℕ) (acts : List Act) (line : Line) → IsLine line
    → key < line.admitted
    → holds key line ≡ false
    → holds other line ≡ true
    → overtakes key other acts (pushed key line) ≡ false
never_overtaken key other acts line is within none there =
    let room : nat_lt key line.admitted ≡ true = grind (arith, nat_tests, within) in
    let apart : key ≢ other = λ same. absurd (cc (none, there, same)) in
    let next = record line { served = line.served ++ key ∷ [] } in
    let now : pushed key line ≡ next = rw (room, none) refl in
    rw now
    (stays_behind key other apart acts next.waiting next.served next.admitted
    (subst IsLine now (line_put_back true key line is))
    (subst (Ahead other key) (append_assoc line.waiting line.served (key ∷ []))
    (ahead_of_last other key (order line) there none)))
