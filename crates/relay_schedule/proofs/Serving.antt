-- Each that waits is served once before any is served twice: as many turns as wait serve them in
-- their order, if each that was served is queued again at once.
use Rattle.std.proofs.Common.{◌≡◌, ℕ, List, [], ◌∷◌, ◌++◌, true, false, nat_lt, length, refl, ap}
use Rattle.std.proofs.Common.{◌∙◌, sym, arith, append_assoc, append-nil, subst}
use Rattle.std.proofs.lemmas.Bool.Decides.{nat_tests}
use Rattle.relay_schedule.specs.Queue.{Keys, IsQueue, times, waits, queued, served}
use Rattle.relay_schedule.proofs.Times.{times-cons, times_push, times_first}

abbrev queue_of : ℕ → List ℕ → Keys
queue_of admitted keys = record { keys = keys; admitted = admitted }

module _ (admitted key : ℕ) (keys : List ℕ) (is : IsQueue (queue_of admitted (key ∷ keys))) where
  -- the queue takes its first key again, behind the others
  queued_again : queued key (queue_of admitted keys) ≡ queue_of admitted (keys ++ key ∷ [])
  queued_again =
      let once = is.once key in
      let first = times_first key keys in
      let within = is.admitted key (grind (arith, nat_tests, first)) in
      let room : nat_lt key admitted ≡ true = grind (arith, nat_tests, within) in
      let none : times key keys ≡ 0 = omega (arith, once, first) in
      let gone : waits key (queue_of admitted keys) ≡ false = grind (arith, nat_tests, none) in
      rw (room, gone) refl

  again_is_queue : IsQueue (queue_of admitted (keys ++ key ∷ []))
  again_is_queue = record {
    once = λ other. rw (same other) (is.once other);
    admitted = λ other waiting. is.admitted other (rw (same other) at waiting);
  }
    where
      same : (other : ℕ) → times other (keys ++ key ∷ []) ≡ times other (key ∷ keys)
      same other = omega (arith, times_push other key keys, times-cons other key keys)

-- those in front are served before whoever is behind them
served_in_front : (admitted : ℕ) (front behind : List ℕ)
    → IsQueue (queue_of admitted (front ++ behind))
    → served (length front) (queue_of admitted (front ++ behind)) ≡ front
unfolding served
served_in_front admitted [] behind is = refl
served_in_front admitted (key ∷ front) behind is =
    let moved = append_assoc front behind (key ∷ []) in
    let again = again_is_queue admitted key (front ++ behind) is in
    ap (λ keys. key ∷ keys)
    (ap (served (length front)) (queued_again admitted key (front ++ behind) is)
    ∙ ap (λ keys. served (length front) (queue_of admitted keys)) moved
    ∙ served_in_front admitted front (behind ++ key ∷ [])
    (subst (λ keys. IsQueue (queue_of admitted keys)) moved again))

pub once_before_twice : (queue : Keys) → IsQueue queue
    → served (length queue.keys) queue ≡ queue.keys
once_before_twice queue is =
    let all = sym (append-nil queue.keys) in
    ap (λ keys. served (length queue.keys) (queue_of queue.admitted keys)) all
    ∙ served_in_front queue.admitted queue.keys []
    (subst (λ keys. IsQueue (queue_of queue.admitted keys)) all is)
