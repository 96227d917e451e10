-- Lookups in a router with one route: a prefix and then a parameter.
use Rattle.std.proofs.Common.{◌≡◌, ℕ, suc, ◌+◌, ◌-◌, ◌<◌, ◌≤◌, Bool, true, false, not, cond, List}
use Rattle.std.proofs.Common.{[], ◌∷◌, ◌++◌, length, take, drop, get_or, ltb, leb, codes, All}
use Rattle.std.proofs.Common.{Option, Some, None, refl, sym, ◌∙◌, ap, subst, ne_eqb, eqb-true}
use Rattle.std.proofs.Common.{add-zero, arith, lit<, ◌==◌, ◌&&◌, option_copied, MatchOption, IsUtf8}
use Rattle.std.proofs.Common.{IsAscii}
use denote.Ref.{Bor}
use Rattle.std.proofs.lemmas.Bool.Decides.{nat_tests}
use Rattle.std.proofs.lemmas.List.{take_all, length-drop}
use Rattle.std.proofs.lemmas.Str.Ascii.{IsAscii-nil, IsAscii-cons}
use Rattle.std.proofs.lemmas.Str.{IsUtf8-drop, IsUtf8-from_ascii, IsCharBoundary-after_ascii}
use Rattle.std.specs.List.{list_all}
use Rattle.std.proofs.lemmas.List.Elements.{All-head, All-tail}
use Rattle.matchit.specs.Rows.{RowsOf}
use Rattle.matchit.specs.Seek.{seek, param_step, or_else, has_slash}
use Rattle.matchit.specs.Params.{walk, wild_from, wild_stop, next_at, part_of, named, AllText}
use Rattle.matchit.specs.Router.{RouteOf, Refused}
use Rattle.matchit.specs.declared.error.InsertError.{InsertError}
use Rattle.matchit.specs.declared.error.InsertError.TheVariants.{Conflict, OutOfMemory}
use Rattle.relay_http_head.proofs.Routes.{IsPlain, after, or-none, nil-step, seek-nil}
use Rattle.relay_http_head.specs.Head.{kept}
use Rattle.relay_shake.specs.Route.{behind, is_segment, routed}

-- the prefix, followed by at least one byte and no slash
abbrev pub has_segment_after : List ℕ → List ℕ → Bool
has_segment_after [] [] = false
has_segment_after [] (b ∷ target) = not (has_slash (b ∷ target))
has_segment_after (x ∷ prefix) [] = false
has_segment_after (x ∷ prefix) (b ∷ target) = cond (x == b) (has_segment_after prefix target) false

module _ {K : Type 0} (k : K) where
  -- the route if a test holds, else none
  abbrev pub found : Bool → Option K
  found test = cond test (Some k) None

  seek-over : (path : List ℕ) → seek (length path) (([], k) ∷ []) path ≡ Some k
  unfolding seek param_step
  seek-over [] = refl
  seek-over (b ∷ path) = seek-over path

  param-end : (slash : Bool) (path : List ℕ)
      → or_else (seek ((after slash (suc (length path)) (([], k) ∷ [])).0 - 1)
      (after slash (suc (length path)) (([], k) ∷ [])).1 path) None ≡ found (not slash)
  param-end true path = ap (λ o. or_else o None) (seek-nil {K = K} (0 - 1) path)
  param-end false path =
      let less : suc (length path) - 1 ≡ length path = omega arith in
      ap (λ n. or_else (seek n (([], k) ∷ []) path) None) less
      ∙ ap (λ o. or_else o None) (seek-over path)

  seek-param : (b : ℕ) (path : List ℕ) → b < 256
      → seek 0 ((256 ∷ [], k) ∷ []) (b ∷ path) ≡ found (not (has_slash (b ∷ path)))
  unfolding seek param_step
  seek-param b path small =
      let other : 256 == b ≡ false = ne_eqb 256 b (λ e. omega arith) in
      rw (other, seek-nil {K = K} 0 path) (param-end (cond (b == 47) true (has_slash path)) path)

  row-end : (same : Bool) (rows : RowsOf K) (path : List ℕ) (test : Bool) (other : Option K)
      → other ≡ None → seek 0 rows path ≡ found test
      → or_else (seek 0 (cond {A = RowsOf K} same rows []) path) other
      ≡ found (cond same test false)
  row-end true rows path test other none e =
      ap (λ o. or_else (seek 0 rows path) o) none ∙ or-none (seek 0 rows path) ∙ e
  row-end false rows path test other none e =
      ap (λ o. or_else (seek 0 [] path) o) none ∙ or-none (seek 0 [] path) ∙ seek-nil {K = K} 0 path

  -- the route is found exactly at the targets of its form
  pub seek-row : (prefix path : List ℕ) → IsPlain prefix → All (λ x. x < 256) path
      → seek 0 ((prefix ++ 256 ∷ [], k) ∷ []) path ≡ found (has_segment_after prefix path)
  unfolding seek param_step
  seek-row [] [] h t = refl
  seek-row [] (b ∷ path) h t = seek-param b path (All-head (λ x. x < 256) b path t)
  seek-row (x ∷ prefix) [] h t = refl
  seek-row (x ∷ prefix) (b ∷ path) h t =
      let small = h.0 in
      let no_param : x == 256 ≡ false = ne_eqb x 256 (λ e. omega arith) in
      let no_catch_all : x == 257 ≡ false = ne_eqb x 257 (λ e. omega arith) in
      let rest = seek-row prefix path h.1 (All-tail (λ y. y < 256) b path t) in
      let none =
      nil-step {K = K} (cond (b == 47) true (has_slash path)) (suc (length path)) path
      (λ m. seek-nil {K = K} m path) in
      rw (no_param, no_catch_all)
      (row-end (x == b) ((prefix ++ 256 ∷ [], k) ∷ []) path (has_segment_after prefix path) _
      none rest)

not-slash : (b : ℕ) (path : List ℕ)
    → not (has_slash (b ∷ path)) ≡ (not (b == 47) && not (has_slash path))
not-slash b path =
    elim (b == 47) as (λ t.
    not (cond t true (has_slash path))
    ≡ (not t && not (has_slash path))) [ true ↦ refl | false ↦ refl ]

no_slash : (path : List ℕ) → list_all (λ b. not (b == 47)) path ≡ not (has_slash path)
no_slash [] = refl
no_slash (b ∷ path) = ap (λ t. not (b == 47) && t) (no_slash path) ∙ sym (not-slash b path)

-- the part that the route captures, if it is found
pub segment-after : (prefix path : List ℕ)
    → kept is_segment (behind prefix path)
    ≡ cond (has_segment_after prefix path) (Some (drop (length prefix) path)) None
segment-after [] [] = refl
segment-after [] (b ∷ path) = ap (λ t. cond t (Some (b ∷ path)) None) (no_slash (b ∷ path))
segment-after (x ∷ prefix) [] = refl
segment-after (x ∷ prefix) (b ∷ path) = by_test (x == b) (segment-after prefix path)
  where
    by_test : (t : Bool) → kept is_segment (behind prefix path)
        ≡ cond (has_segment_after prefix path) (Some (drop (length prefix) path)) None
        → kept is_segment (cond t (behind prefix path) None)
        ≡ cond (cond t (has_segment_after prefix path) false)
        (Some (drop (suc (length prefix)) (b ∷ path))) None
    by_test true later = later
    by_test false later = refl

-- a target that is found has the prefix
pub begins-after : (prefix path : List ℕ) → has_segment_after prefix path ≡ true
    → path ≡ prefix ++ drop (length prefix) path
begins-after [] path e = refl
begins-after (x ∷ prefix) [] e = absurd (cc)
begins-after (x ∷ prefix) (b ∷ path) e =
    by_test (x == b) (λ same. eqb-true x b same) (λ later. begins-after prefix path later) e
  where
    by_test : (t : Bool) → (t ≡ true → x ≡ b)
        → (has_segment_after prefix path ≡ true → path ≡ prefix ++ drop (length prefix) path)
        → cond t (has_segment_after prefix path) false ≡ true
        → b ∷ path ≡ x ∷ (prefix ++ drop (length prefix) path)
    by_test true same later e = let first = same refl in let rest = later e in cc
    by_test false same later e = absurd (cc)

-- the literal part of a pattern matches as many bytes of the path
wild-plain : (prefix rest : List ℕ) (len token at : ℕ) → IsPlain prefix → at + length prefix ≤ len
    → wild_from (prefix ++ rest) len token at
    ≡ wild_from rest len (token + length prefix) (at + length prefix)
wild-plain [] rest len token at plain room = rw (add-zero token, add-zero at) refl
wild-plain (x ∷ prefix) rest len token at plain room =
    let literal : ltb x 256 ≡ true = grind (arith, nat_tests, plain.0) in
    let next : next_at len at ≡ at + 1 = grind (arith, nat_tests, room) in
    let later = wild-plain prefix rest len (token + 1) (at + 1) plain.1 (omega (arith, room)) in
    let tokens : (token + 1) + length prefix ≡ token + suc (length prefix) = omega arith in
    let places : (at + 1) + length prefix ≡ at + suc (length prefix) = omega arith in
    ap (λ t. cond t (wild_from (prefix ++ rest) len (token + 1) (next_at len at)) (token, at))
    literal
    ∙ ap (λ n. wild_from (prefix ++ rest) len (token + 1) n) next
    ∙ later ∙ ap (λ t. wild_from rest len t ((at + 1) + length prefix)) tokens
    ∙ ap (λ n. wild_from rest len (token + suc (length prefix)) n) places

part-end : (path : List ℕ) (n : ℕ) → n ≤ length path → part_of path n (length path) ≡ drop n path
part-end path n room =
    let low : leb n (length path) ≡ true = grind (arith, nat_tests, room) in
    let high : leb (length path) (length path) ≡ true = grind (arith, nat_tests) in
    let all : take (length path - n) (drop n path) ≡ drop n path =
    take_all _ _ (omega (arith, length-drop n path)) in
    rw (low, high) all

abbrev pub prefix_bytes : List ℕ
prefix_bytes = codes "/rooms/"

pub plain : IsPlain prefix_bytes
plain = (lit< tt, (lit< tt, (lit< tt, (lit< tt, (lit< tt, (lit< tt, (lit< tt, tt)))))))

-- the one route of the router
abbrev pub room_route : RouteOf (Unit {0})
room_route =
    record {
      pattern = codes "/rooms/" ++ 256 ∷ [];
      text = codes "/rooms/{room}";
      names = (8, 12)
          ∷ [];
      value = tt;
    }

-- the part that its parameter captures
walked : (target : List ℕ) → 7 ≤ length target
    → walk room_route.pattern room_route.text target room_route.names 0 0
    ≡ (codes "room", drop 7 target) ∷ []
walked target room =
    let places : wild_from room_route.pattern (length target) 0 0 ≡ (7, 7) =
    wild-plain prefix_bytes (256 ∷ []) (length target) 0 0 plain room in
    ap (λ w. (codes "room", part_of target w.1 (wild_stop room_route.pattern w.0 target w.1)) ∷ [])
    places
    ∙ ap (λ part. (codes "room", part) ∷ []) (part-end target 7 room)

-- an empty router refuses the route only if memory runs out
pub only_memory : (pattern : List ℕ) (fault : InsertError)
    → Refused {T = Unit {0}} pattern [] fault → fault ≡ OutOfMemory
only_memory pattern (Conflict with) (route, near, text) = absurd (cc)
only_memory pattern OutOfMemory h = refl
only_memory pattern _ h = absurd h

-- the router finds its route, or finds none
pub found-true : {K : Type 0} (k m : K) (test : Bool) → found k test ≡ Some m
    → (test ≡ true) × (k ≡ m)
found-true k m true e = (refl, cc)
found-true k m false e = absurd (cc)

pub found-false : {K : Type 0} (k : K) (test : Bool) → found k test ≡ None → test ≡ false
found-false k true e = absurd (cc)
found-false k false e = refl

name-IsAscii : IsAscii (codes "room")
name-IsAscii =
    IsAscii-cons 114 (codes "oom") (lit< tt)
    (IsAscii-cons 111 (codes "om") (lit< tt)
    (IsAscii-cons 111 (codes "m") (lit< tt) (IsAscii-cons 109 [] (lit< tt) IsAscii-nil)))

rest-IsUtf8 : (target : List ℕ) → IsUtf8 target → has_segment_after prefix_bytes target ≡ true
    → IsUtf8 (drop 7 target)
rest-IsUtf8 target utf8 e =
    let begins : target ≡ prefix_bytes ++ drop 7 target = begins-after prefix_bytes target e in
    let slash : get_or target 6 0 ≡ 47 = ap (λ t. get_or t 6 0) begins in
    let long : 6 < length target = omega (arith, ap length begins) in
    IsUtf8-drop target 7 utf8 (IsCharBoundary-after_ascii target 6 utf8 long (omega (arith, slash)))

-- if no route is found, nothing is captured
pub missed : (target : List ℕ) → has_segment_after prefix_bytes target ≡ false
    → None ≡ routed target
missed target e =
    sym (segment-after prefix_bytes target ∙ ap (λ t. cond t (Some (drop 7 target)) None) e)

-- the value of the parameter is the part that the route captures
pub taken : (target : List ℕ) (m : RouteOf (Unit {0})) (path : List ℕ)
    (got : Option (Bor (List ℕ))) → room_route ≡ m → path ≡ target → IsUtf8 target
    → has_segment_after prefix_bytes target ≡ true
    → (AllText (walk m.pattern m.text path m.names 0 0)
    → MatchOption got (named (codes "room") (walk m.pattern m.text path m.names 0 0) ≡ None) (λ v.
    named (codes "room") (walk m.pattern m.text path m.names 0 0) ≡ Some v.now))
    → option_copied got ≡ routed target
taken target m path got route same utf8 e gives =
    let begins : target ≡ prefix_bytes ++ drop 7 target = begins-after prefix_bytes target e in
    let long : 7 ≤ length target = omega (arith, ap length begins) in
    let parts : walk m.pattern m.text path m.names 0 0 ≡ (codes "room", drop 7 target) ∷ [] =
    ap (λ p. walk m.pattern m.text p m.names 0 0) same
    ∙ ap (λ r. walk r.pattern r.text target r.names 0 0) (sym route) ∙ walked target long in
    let there = subst (λ ws. AllText ws
    → MatchOption got (named (codes "room") ws ≡ None) (λ v.
    named (codes "room") ws ≡ Some v.now)) parts gives
    (IsUtf8-from_ascii (codes "room") name-IsAscii, rest-IsUtf8 target utf8 e, tt) in
    by_case got there ∙ sym (segment-after prefix_bytes target
    ∙ ap (λ t. cond t (Some (drop 7 target)) None) e)
  where
    by_case : (o : Option (Bor (List ℕ)))
        → MatchOption o (Some (drop 7 target) ≡ None) (λ v. Some (drop 7 target) ≡ Some v.now)
        → option_copied o ≡ Some (drop 7 target)
    by_case None e = absurd (cc)
    by_case (Some v) e = sym e
