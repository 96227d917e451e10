-- A pass visits each key that waits once: as many visits as wait meet them in their order,
-- whichever of them are served, if each is put back at once.
use Rattle.std.proofs.Common.{◌≡◌, ℕ, List, [], ◌∷◌, ◌++◌, Bool, true, false, ◌&&◌, not, nat_lt}
use Rattle.std.proofs.Common.{length, refl, ap, ◌∙◌, sym, cond, arith, append_assoc, append-nil}
use Rattle.relay_schedule.specs.TurnLine.{Line, holds, met}

abbrev pub line_with : List ℕ → List ℕ → ℕ → Line
line_with waiting served admitted = record {
  waiting = waiting;
  served = served;
  admitted = admitted;
}

-- those in front are met before whoever is behind them
met_in_front : (outcomes : List Bool) (front behind served : List ℕ) (admitted : ℕ)
    → length outcomes ≡ length front
    → met outcomes (line_with (front ++ behind) served admitted) ≡ front
unfolding met
met_in_front [] [] behind served admitted same = refl
met_in_front [] (key ∷ front) behind served admitted same = absurd (omega (arith, same))
met_in_front (outcome ∷ outcomes) [] behind served admitted same = absurd (omega (arith, same))
met_in_front (true ∷ outcomes) (key ∷ front) behind served admitted same =
    ap (λ keys. key ∷ keys)
    (go (nat_lt key admitted && not (holds key (line_with (front ++ behind) served admitted)))
    (λ served. met_in_front outcomes front behind served admitted (omega (arith, same))))
  where
    go : (fresh : Bool)
        → ((served : List ℕ) → met outcomes (line_with (front ++ behind) served admitted) ≡ front)
        → met outcomes (cond fresh (line_with (front ++ behind) (served ++ key ∷ []) admitted)
        (line_with (front ++ behind) served admitted))
        ≡ front
    go true rest = rest (served ++ key ∷ [])
    go false rest = rest served
met_in_front (false ∷ outcomes) (key ∷ front) behind served admitted same =
    ap (λ keys. key ∷ keys)
    (go (nat_lt key admitted && not (holds key (line_with (front ++ behind) served admitted)))
    (λ behind. met_in_front outcomes front behind served admitted (omega (arith, same))))
  where
    go : (fresh : Bool)
        → ((behind : List ℕ) → met outcomes (line_with (front ++ behind) served admitted) ≡ front)
        → met outcomes (cond fresh (line_with ((front ++ behind) ++ key ∷ []) served admitted)
        (line_with (front ++ behind) served admitted))
        ≡ front
    go true rest =
        ap (λ keys. met outcomes (line_with keys served admitted))
        (append_assoc front behind (key ∷ []))
        ∙ rest (behind ++ key ∷ [])
    go false rest = rest behind

pub each_met_once : (line : Line) (outcomes : List Bool) → length outcomes ≡ length line.waiting
    → met outcomes line ≡ line.waiting
each_met_once line outcomes same =
    ap (λ keys. met outcomes (line_with keys line.served line.admitted))
    (sym (append-nil line.waiting))
    ∙ met_in_front outcomes line.waiting [] line.served line.admitted same
