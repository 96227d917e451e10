-- The text that a client reads of a text frame that a server sends.
use Rattle.std.proofs.Common.{◌≡◌, ◌⊎◌, inl, inr, ℕ, ◌+◌, ◌^◌, ◌<◌, ◌≤◌, Bool, true, false, List}
use Rattle.std.proofs.Common.{◌++◌, length, length-append, cond, None, Result, Ok, Err, refl, sym}
use Rattle.std.proofs.Common.{◌∙◌, ap, subst, arith}
use Rattle.std.specs.Prelude.{IsUtf8}
use Rattle.websocket.specs.declared.error.Error.{Error}
use Rattle.websocket.specs.declared.error.Error.TheVariants.{Utf8, OutOfMemory}
use Rattle.websocket.specs.declared.protocol.context.Step.{Step}
use Rattle.websocket.specs.declared.protocol.frame.codec.FrameStatus.{FrameStatus}
use Rattle.websocket.specs.declared.protocol.frame.codec.FrameStatus.TheVariants.{Partial, Complete}
use Rattle.websocket.specs.declared.protocol.frame.codec.RawFrame.{RawFrame}
use Rattle.websocket.specs.declared.protocol.frame.coding.Data.TheVariants.{Text}
use Rattle.websocket.specs.declared.protocol.frame.coding.OpCode.TheVariants.{Data}
use Rattle.websocket.specs.declared.protocol.frame.header.FrameHeader.{FrameHeader}
use Rattle.websocket.specs.Connection.{Connection, Effect, whole_header, deliver, on_frame, on_data}
use Rattle.websocket.specs.Connection.{on_message_bytes, consumed_with, read_step, is_fragment}
use Rattle.websocket.specs.Connection.{StartsWithFragment, ReadAsksReply}
use Rattle.websocket.specs.Content.{text}
use Rattle.websocket.specs.Frame.{decode_frame}
use Rattle.websocket.specs.FrameHeader.{encode_header}
use Rattle.websocket.specs.Text.{is_utf8}
use Rattle.websocket.specs.View.{Returns, ReadLeaves, GivesError}
use Rattle.websocket.proofs.FrameLemmas.{decode_frame-encode_frame, written_frame}
use Rattle.websocket.proofs.StreamLemmas.{read_step-encode_frame, TookFrame_from_read}
use Rattle.websocket.proofs.TextLemmas.{is_utf8-true}
use Rattle.relay_link.specs.Frames.{text_frame}
use Rattle.relay_delivery.specs.Receiving.{listening, Takes, IsRefusalOf, frame_fault}

text_header : FrameHeader
text_header = whole_header (Data Text) None

-- the outcome of a read of a text's frame, if a test says whether the text is UTF-8
abbrev pub outcome : ℕ → List ℕ → Bool → Result (FrameStatus (ℕ × Effect)) Error
outcome n words valid =
    consumed_with n (deliver listening (cond valid (Ok (text words)) (Err Utf8)))

-- a client reads the text of a text's frame, whatever follows
pub read_text_frame : (words rest : List ℕ) → length words < 2 ^ 63
    → read_step listening (text_frame words ++ rest)
    ≡ outcome (length (text_frame words)) words (is_utf8 words)
unfolding on_frame on_data on_message_bytes
read_text_frame words rest small =
    read_step-encode_frame listening (whole_header (Data Text) None) words rest
    (record { mask = tt; top_bit_clear = small })

-- ---- what was read

took : (words : List ℕ) (valid : Bool) (new : Connection) (input out out2 : List ℕ) (step : Step)
    → Returns (outcome (length (text_frame words)) words valid) input (Complete step)
    → ReadLeaves (outcome (length (text_frame words)) words valid) listening new out out2
    → Takes words new input step
took words true new input out out2 step returns leaves =
    record { connection = leaves.0; consumed = returns.0; message = returns.1.0 }
took words false new input out out2 step returns leaves = absurd returns

not_partial : (n : ℕ) (words : List ℕ) (valid : Bool) (input : List ℕ) (needed : ℕ)
    → Returns (outcome n words valid) input (Partial needed) → ⊥
not_partial n words true input needed returns = returns
not_partial n words false input needed returns = returns

no_reply : (n : ℕ) (words : List ℕ) (valid : Bool) → ReadAsksReply (outcome n words valid) → ⊥
no_reply n words true asks = cc asks
no_reply n words false asks = absurd asks

only_utf8 : (n : ℕ) (words : List ℕ) (valid : Bool) (e : Error) → is_utf8 words ≡ valid
    → outcome n words valid ≡ Err e → (e ≡ Utf8) × ¬ (IsUtf8 words)
only_utf8 n words true e is given = absurd (cc given)
only_utf8 n words false e is given = (cc given, λ valid. cc (is, is_utf8-true words valid))

no_fragment : (frame : RawFrame) (words : List ℕ)
    → frame ≡ written_frame (whole_header (Data Text) None) words → is_fragment frame.header ≡ true
    → ⊥
no_fragment frame words is fragment =
    cc (subst (λ (f : RawFrame). is_fragment f.header ≡ true) is fragment)

whole_text : (words rest : List ℕ) → length words < 2 ^ 63
    → StartsWithFragment listening (text_frame words ++ rest) → ⊥
whole_text words rest small starts =
    let found : decode_frame None (text_frame words ++ rest)
    ≡ Ok (Complete (written_frame (whole_header (Data Text) None) words)) =
    decode_frame-encode_frame None (whole_header (Data Text) None) words rest
    (record { mask = tt; top_bit_clear = small }) in
    no_fragment starts.0 words (cc (found, starts.1)) starts.2

module _ (words rest input : List ℕ) (conn : Connection) (listens : conn ≡ listening) (is : input
    ≡ text_frame words ++ rest) (small : length words < 2 ^ 63) where
  reads : read_step conn input ≡ outcome (length (text_frame words)) words (is_utf8 words)
  reads = rw (listens, is) (read_text_frame words rest small)

  pub takes_text : (new : Connection) (left out out2 : List ℕ) (step : Step)
      → Returns (read_step conn input) left (Complete step)
      → ReadLeaves (read_step conn input) conn new out out2 → Takes words new left step
  takes_text new left out out2 step returns leaves =
      took words (is_utf8 words) new left out out2 step (subst (λ r.
      Returns r left (Complete step)) reads returns)
      (subst (λ r. ReadLeaves r listening new out out2) reads (subst (λ c.
      ReadLeaves (read_step conn input) c new out out2) listens leaves))

  pub never_partial : (left : List ℕ) (needed : ℕ)
      → Returns (read_step conn input) left (Partial needed) → ⊥
  never_partial left needed returns =
      not_partial _ words (is_utf8 words) left needed (subst (λ r.
      Returns r left (Partial needed)) reads returns)

  memory_suffices : StartsWithFragment conn input ⊎ ReadAsksReply (read_step conn input) → ⊥
  memory_suffices due =
      elim due [
        | inl starts ↦ whole_text words rest small (rw (listens, is) at starts)
        | inr asks ↦ no_reply _ words (is_utf8 words) (subst ReadAsksReply reads asks)
      ]

  refused : (e : Error) → read_step conn input ≡ Err e → IsRefusalOf words (frame_fault e)
  refused e given =
      let why =
      only_utf8 (length (text_frame words)) words (is_utf8 words) e refl (sym reads
      ∙ given) in
      subst (λ x. IsRefusalOf words (frame_fault x)) (sym why.0) why.1

  pub refuses_text : (e : Error) → GivesError (read_step conn input) e
      → (e ≡ OutOfMemory → StartsWithFragment conn input ⊎ ReadAsksReply (read_step conn input))
      → IsRefusalOf words (frame_fault e)
  refuses_text e gives memory =
      elim gives [
        | inl none ↦ absurd (memory_suffices (memory none))
        | inr given ↦ refused e given
      ]

-- ---- any bytes

progress : (conn : Connection) (input left : List ℕ) (step : Step)
    (r : Result (FrameStatus (ℕ × Effect)) Error) → read_step conn input ≡ r
    → Returns r left (Complete step)
    → (0 < step.consumed) × (step.consumed ≤ length input)
progress conn input left step (Err e) is returns = absurd returns
progress conn input left step (Ok (Partial n)) is returns = absurd (cc returns)
progress conn input left step (Ok (Complete p)) is returns =
    let found = TookFrame_from_read conn input p is in
    (rw returns.0 found.not_empty, rw returns.0 found.inside)

-- a frame that was read takes at least one byte, and lies within the bytes
pub takes_bytes : (conn : Connection) (input left : List ℕ) (step : Step)
    → Returns (read_step conn input) left (Complete step)
    → (0 < step.consumed) × (step.consumed ≤ length input)
takes_bytes conn input left step returns =
    progress conn input left step (read_step conn input) refl returns

-- a text is no longer than its frame
pub short : (words rest input : List ℕ) → input ≡ text_frame words ++ rest → length input < 2 ^ 63
    → length words < 2 ^ 63
short words rest input is bound =
    let header = encode_header (whole_header (Data Text) None) (length words) in
    let whole : length input ≡ length header + length words + length rest =
    ap length is ∙ length-append (header ++ words) rest
    ∙ ap (λ n. n + length rest) (length-append header words) in
    omega (arith, whole, bound)
