-- The first mark is where `position` finds it.
use Rattle.std.proofs.Common.{arith, rules, ◌≡◌, ◌≢◌, ◌<◌, ◌+◌, ◌==◌, ℕ, refl, length, get_or}
use Rattle.std.proofs.Common.{All, lt-ltb}
use Rattle.std.specs.List.{position_or_len}
use Rattle.std.proofs.lemmas.Bool.{eq-eqb, ne_eqb}
use Rattle.std.proofs.lemmas.List.{take_rest}
use Rattle.std.proofs.lemmas.List.Elements.{All-get_or}
use Rattle.std.proofs.lemmas.List.Sums.{position_or_len_is}
use Rattle.relay_options.proofs.origin.cut.Goals as goal

pub returns-in-Some : goal.returns-in-Some
returns-in-Some c =
    let mark = c.args.mark in
    let bytes = c.args.bytes.now in
    let at = c.in-Some.at in
    let inside : at < length bytes = search rules in
    let here : get_or bytes at 0 ≡ mark = search rules in
    let before : (k : ℕ) → k < at → get_or bytes k 0 ≢ mark = search rules in
    let first : position_or_len (λ b. b == mark) bytes ≡ at =
    position_or_len_is (λ b. b == mark) bytes at 0 (omega arith)
    (λ k small. ne_eqb (get_or bytes k 0) mark (before k small))
    (λ within. eq-eqb (get_or bytes at 0) mark here) in
    rw first (lt-ltb at (length bytes) inside, refl, take_rest bytes (at + 1))

pub returns-in-None : goal.returns-in-None
returns-in-None c =
    let mark = c.args.mark in
    let bytes = c.args.bytes.now in
    let none : All (λ b. b ≢ mark) bytes = search rules in
    let all : position_or_len (λ b. b == mark) bytes ≡ length bytes =
    position_or_len_is (λ b. b == mark) bytes (length bytes) 0 (omega arith)
    (λ k small. ne_eqb (get_or bytes k 0) mark
    (All-get_or (λ b. b ≢ mark) bytes k 0 small none))
    (λ within. absurd (omega (arith, within))) in
    rw all (grind arith)
