-- An outbox as contracts see it: the messages that wait for a session.
use Rattle.std.specs.Prelude.{◌≡◌, ℕ, ◌≤◌, Bool, true, false, List, [], ◌∷◌, ◌++◌, length, nat_lt}
use Rattle.std.specs.Prelude.{if◌then◌else◌, refl}
use Rattle.std.specs.Coded.{Coded, code_by, coded×, coded_list, coded_ℕ, coded_bool}
use Rattle.relay_outbox.specs.declared.outbox.TheConstants.{MAX_REPLIES}
use Rattle.relay_limits.specs.declared.TheConstants.{MAX_WAITING_PATCHES}

-- the replies, the patches, whether a snapshot is due, and the most patches that may wait
pub record Contents (R P : Type 0) : Type 0 where
  pub replies : List R
  pub patches : List P
  pub due : Bool
  pub max_waiting_patches : ℕ

-- the message at the front of an outbox
pub data Foremost (R P : Type 0) : Type 0 where
  reply : R → Foremost R P
  patch : P → Foremost R P
  snapshot : Foremost R P
  nothing : Foremost R P

module _ {R P : Type 0} where
  -- the outbox with these parts
  abbrev pub contents : List R → List P → Bool → ℕ → Contents R P
  contents replies patches due max_waiting_patches =
      record {
        replies = replies;
        patches = patches;
        due = due;
        max_waiting_patches = max_waiting_patches;
      }

  -- the invariant of an outbox: replies and patches are within their limits, and no patch waits
  -- while a snapshot is due
  pub record IsOutbox (o : Contents R P) : Type 0 where
    pub replies : length o.replies ≤ MAX_REPLIES
    pub patches : length o.patches ≤ o.max_waiting_patches
    pub limited : (1 ≤ o.max_waiting_patches) × (o.max_waiting_patches ≤ MAX_WAITING_PATCHES)
    pub either : o.due ≡ true → o.patches ≡ []

  -- the empty outbox
  abbrev pub empty : ℕ → Contents R P
  empty max_waiting_patches = contents [] [] false max_waiting_patches

  -- the outbox with a reply after the others
  abbrev pub with_reply : R → Contents R P → Contents R P
  with_reply r o = contents (o.replies ++ r ∷ []) o.patches o.due o.max_waiting_patches

  -- the outbox folded: no patches, and a snapshot is due
  abbrev pub folded : Contents R P → Contents R P
  folded o = contents o.replies [] true o.max_waiting_patches

  -- the outbox without patches and without a due snapshot
  abbrev pub cleared : Contents R P → Contents R P
  cleared o = contents o.replies [] false o.max_waiting_patches

  -- if a snapshot is due, nothing changes; else the patch is added after the others, or the outbox
  -- folds if the limit is reached
  abbrev pub with_patch : P → Contents R P → Contents R P
  with_patch p o =
      if o.due then o else
      (if nat_lt (length o.patches) o.max_waiting_patches
      then contents o.replies (o.patches ++ p ∷ []) o.due o.max_waiting_patches else folded o)

  -- the first message of these replies, these patches and a snapshot that may be due
  abbrev pub first_of : List R → List P → Bool → Foremost R P
  first_of (r ∷ replies) patches due = reply r
  first_of [] (p ∷ patches) due = patch p
  first_of [] [] true = snapshot
  first_of [] [] false = nothing

  -- the next message: the first reply, else the first patch, else the due snapshot
  abbrev pub front_of : Contents R P → Foremost R P
  front_of o = first_of o.replies o.patches o.due

  -- the outbox without that first message
  abbrev pub rest_of : List R → List P → Bool → ℕ → Contents R P
  rest_of (r ∷ replies) patches due max_waiting_patches =
      contents replies patches due max_waiting_patches
  rest_of [] (p ∷ patches) due max_waiting_patches = contents [] patches due max_waiting_patches
  rest_of [] [] due max_waiting_patches = contents [] [] false max_waiting_patches

  -- the outbox without its front
  abbrev pub without_front : Contents R P → Contents R P
  without_front o = rest_of o.replies o.patches o.due o.max_waiting_patches

  -- how the logic encodes an outbox
  abbrev pub contents_code : Coded R → Coded P → Coded (Contents R P)
  contents_code r p = code_by (List R × (List P × (Bool × ℕ)))
      (coded× (coded_list r) (coded× (coded_list p) (coded× coded_bool coded_ℕ)))
      (λ o. (o.replies, (o.patches, (o.due, o.max_waiting_patches))))
      (λ p. contents p.0 p.1.0 p.1.1.0 p.1.1.1)
      (λ _. refl)
