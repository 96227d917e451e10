-- A queue of keys as contracts see it, and what a call makes of it.
use Rattle.std.specs.Prelude.{◌≡◌, ℕ, zero, suc, ◌+◌, ◌<◌, ◌≤◌, ◌⊎◌, Bool, true, ◌&&◌, ◌==◌, not}
use Rattle.std.specs.Prelude.{max, nat_lt, if◌then◌else◌, List, [], ◌∷◌, ◌++◌, length, drop, Option}
use Rattle.std.specs.Prelude.{Some, None, slice_get, refl}
use Rattle.std.specs.Coded.{Coded, code_by, coded×, coded_list, coded_ℕ}
use Rattle.std.specs.List.{count_by}

-- the keys that wait, in their order, and how many are admitted: those below this number
pub record Keys : Type 0 where
  pub keys : List ℕ
  pub admitted : ℕ

-- how often a key stands in a list
abbrev pub times : ℕ → List ℕ → ℕ
times key keys = count_by (λ k. k == key) keys

-- whether a key waits
abbrev pub waits : ℕ → Keys → Bool
waits key queue = nat_lt 0 (times key queue.keys)

-- the invariant of a queue: no key stands there twice, and each that waits is admitted
pub record IsQueue (queue : Keys) : Type 0 where
  pub once : (key : ℕ) → times key queue.keys ≤ 1
  pub admitted : (key : ℕ) → waits key queue ≡ true → key < queue.admitted

-- there is memory for this key
abbrev pub Admits : ℕ → Keys → Type 0
Admits key queue = key < queue.admitted

-- whether no key waits
abbrev pub is_empty : Keys → Bool
is_empty queue = length queue.keys == 0

-- no key waits, and none is admitted
abbrev pub no_keys : Keys
no_keys = record { keys = []; admitted = 0 }

-- the queue admits this key too, and those below it
abbrev pub admitting : ℕ → Keys → Keys
admitting key queue = record queue { admitted = max queue.admitted (key + 1) }

-- the queue is as it was, or admits this key too
abbrev pub MayAdmit : ℕ → Keys → Keys → Type 0
MayAdmit key old new = (new ≡ old) ⊎ (new ≡ admitting key old)

-- the key stands behind the others, unless it waits or is not admitted
abbrev pub queued : ℕ → Keys → Keys
queued key queue =
    if nat_lt key queue.admitted && not (waits key queue)
    then record queue { keys = queue.keys ++ key ∷ [] } else queue

-- the first key, if any waits
abbrev pub first : Keys → Option ℕ
first queue = slice_get queue.keys 0

-- the queue without its first key
abbrev pub without_first : Keys → Keys
without_first queue = record queue { keys = drop 1 queue.keys }

-- whom the next turns serve, if each that was served is queued again at once
unfoldable pub served : ℕ → Keys → List ℕ
served zero queue = []
served (suc n) queue =
    elim (first queue)
    [ None ↦ [] | Some key ↦ key ∷ served n (queued key (without_first queue)) ]

-- how the logic encodes a queue
abbrev pub keys_code : Coded Keys
keys_code = code_by (List ℕ × ℕ)
    (coded× (coded_list coded_ℕ) coded_ℕ)
    (λ queue. (queue.keys, queue.admitted))
    (λ p. record { keys = p.0; admitted = p.1 })
    (λ _. refl)
