-- The request in the bytes of a head.
use Rattle.std.proofs.Common.{◌≡◌, ◌≤◌, ℕ, false, List, [], ◌++◌, length, Option, Some, Result, Ok}
use Rattle.std.proofs.Common.{Err, is_ok, is_err, if◌then◌else◌, subst, sym, append-nil, arith}
use Rattle.std.specs.Io.KnownBytes.{Consumes}
use Rattle.std.proofs.KnownBytes.{Consumes-nil}
use Rattle.relay_shake.specs.Shaken.{AnswersHead, AnswersNoHead}
use Rattle.relay_shake.specs.declared.answer.Shake.{Shake}
use Rattle.relay_access.specs.declared.access.Access.{Access}
use Rattle.relay_link.specs.Asks.{accepted, Asks, awaits_head, Receives}
use Rattle.relay_link.specs.Stage.{stage_of, IsForward, IsSound}
use Rattle.relay_link.specs.Stream.{stream_of}
use Rattle.relay_link.specs.declared.stage.Stage.TheVariants as stage
use Rattle.relay_link.specs.declared.state.State.{State}
use Rattle.relay_link.specs.declared.state.State.TheVariants.{Head, Replying, Open, Closing, Gone}
use Rattle.relay_link.specs.declared.head.TheConstants.{MAX_READ}

-- bytes that found memory were appended
pub extended : {T E : Type 0} (result : Result T E) (old new more : List ℕ) → is_err result ≡ false
    → new ≡ (if is_ok result then old ++ more else old) → new ≡ old ++ more
extended (Ok done) old new more fits same = same
extended (Err fault) old new more fits same = absurd (cc fits)

-- bytes with those that one read took are a head that asks for the room with the access
pub asks_with : (received taken whole room : List ℕ) (access : Access)
    (left rest : Option (List ℕ)) (answer : Shake) → whole ≡ received ++ taken
    → Consumes left rest taken → length taken ≤ MAX_READ
    → AnswersHead whole answer → AnswersNoHead whole answer → accepted answer ≡ Some (room, access)
    → Asks received left room access
asks_with received taken whole room access left rest answer same first one_read head no_head
    accepts = record {
      taken = taken;
      rest = rest;
      first = first;
      one_read = one_read;
      head = record {
        answer = answer;
        head = subst (λ b. AnswersHead b answer) same head;
        no_head = subst (λ b. AnswersNoHead b answer) same no_head;
        accepts = accepts;
      };
    }

module _ {S : Type 0} where
  -- a link past the handshake
  pub sound_open : (state : State S) → IsForward stage.Open (stage_of state) → IsSound state
  sound_open (Head stream bytes) is = absurd (omega (arith, is))
  sound_open (Replying stream reply) is = absurd (omega (arith, is))
  sound_open (Open socket s) is = tt
  sound_open (Closing socket left) is = tt
  sound_open Gone is = tt

  pub sound_closing : (state : State S) → IsForward stage.Closing (stage_of state) → IsSound state
  sound_closing state is = sound_open state (omega (arith, is))

module _ {S : Type 0} (remaining : S → Option (List ℕ)) where
  -- a link that no longer waits for a head
  pub received_past : (old new : State S) → awaits_head new ≡ false → Receives remaining old new
  received_past old (Head stream bytes) is = absurd (cc is)
  received_past old (Replying stream reply) is = tt
  received_past old (Open socket s) is = tt
  received_past old (Closing socket left) is = tt
  received_past old Gone is = tt

  pub received_open : (old new : State S) → IsForward stage.Open (stage_of new)
      → Receives remaining old new
  received_open old (Head stream bytes) is = absurd (omega (arith, is))
  received_open old (Replying stream reply) is = tt
  received_open old (Open socket s) is = tt
  received_open old (Closing socket left) is = tt
  received_open old Gone is = tt

  pub received_closing : (old new : State S) → IsForward stage.Closing (stage_of new)
      → Receives remaining old new
  received_closing old (Head stream bytes) is = absurd (omega (arith, is))
  received_closing old (Replying stream reply) is = tt
  received_closing old (Open socket s) is = tt
  received_closing old (Closing socket left) is = tt
  received_closing old Gone is = tt

  -- the same link
  received_same : (state : State S) → Receives remaining state state
  received_same (Head stream bytes) =
      ([], Consumes-nil (remaining (stream_of stream)), sym (append-nil bytes.items))
  received_same (Replying stream reply) = tt
  received_same (Open socket s) = tt
  received_same (Closing socket left) = tt
  received_same Gone = tt

  pub received_none : (old new : State S) → new ≡ old → Receives remaining old new
  received_none old new same = subst (Receives remaining old) (sym same) (received_same old)
