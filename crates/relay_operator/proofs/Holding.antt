-- Connections that are held, and those that are gone.
use Rattle.std.proofs.Common.{◌≡◌, ℕ, ◌+◌, ◌<◌, List, length, take, drop, sym, ap, ◌∙◌, ◌++◌, suc}
use Rattle.std.proofs.Common.{subst, arith, add-one}
use Rattle.std.proofs.lemmas.List.{drop-drop, length-take-le}
use Rattle.std.proofs.Math.Seq.{drop-append_seam}
use Rattle.std.specs.List.{remove}
use Rattle.relay_operator.specs.Connection.{IsFresh}
use Rattle.relay_operator.specs.Port.{Admits, none, one, Holds}
use Rattle.relay_operator.specs.declared.admin_connection.AdminConnection.{AdminConnection}

module _ {S : Type 0} where
  pub admits_same : (held : List (AdminConnection S)) → Admits held held
  admits_same held = none held

  -- a new connection is held
  pub admits_one : (old new : List (AdminConnection S)) (stream : S) (c : AdminConnection S)
      → IsFresh stream c → Holds c old new → Admits old new
  admits_one old new stream c fresh holds = one old old new c (none old) (stream, fresh) holds

  -- some are, and then more
  pub admits_then : (a b c : List (AdminConnection S)) → Admits a b → Admits b c → Admits a c
  admits_then a b c first (none held) = first
  admits_then a b c first (one old between new added then fresh holds) =
      one a between new added (admits_then a b between first then) fresh holds

-- the rest of a list behind one more element, if the rests of two lists are the same
pub drop_next : {A : Type 0} (old now : List A) (index turn : ℕ) → drop index now ≡ drop turn old
    → drop (index + 1) now ≡ drop (turn + 1) old
drop_next old now index turn same =
    sym (drop-drop 1 index now) ∙ ap (drop 1) same ∙ drop-drop 1 turn old

-- what stands behind an element that is removed
pub drop_removed : {A : Type 0} (xs : List A) (index : ℕ) → index < length xs
    → drop index (remove xs index) ≡ drop (index + 1) xs
drop_removed {A} xs index within =
    let rest : List A = drop (suc index) xs in
    let front : length (take index xs) ≡ index = length-take-le index xs (omega arith) in
    subst (λ n. drop n (take index xs ++ rest) ≡ rest) front (drop-append_seam (take index xs) rest)
    ∙ ap (λ n. drop n xs) (sym (add-one index))
