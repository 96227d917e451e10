-- The result of a read of a client's socket, if a text's frame stands in front of its bytes.
use Rattle.std.proofs.Common.{◌≡◌, ◌≢◌, ℕ, ◌^◌, ◌<◌, Bool, true, false, List, [], ◌∷◌, ◌++◌, length}
use Rattle.std.proofs.Common.{drop, Option, None, Some, Result, Ok, refl, sym, ◌∙◌, ap, subst}
use Rattle.std.proofs.Common.{append_assoc}
use Rattle.std.proofs.lemmas.List.{drop_at}
use Rattle.std.specs.Io.KnownBytes.{Consumes, prepend_known}
use Rattle.tungstenite.proofs.SocketLemmas.{runs-more, replies-none, nil-left}
use Rattle.tungstenite.specs.Socket.{Socket, Run, Runs, Replies, EndsWith, Reads, content_of}
use Rattle.tungstenite.specs.declared.error.Error.{Error}
use Rattle.tungstenite.specs.declared.message.Message.{Message}
use Rattle.tungstenite.specs.declared.message.Message.TheVariants as message
use Rattle.websocket.specs.Connection.{Connection, Effect, read_step}
use Rattle.websocket.specs.Content.{Content, text}
use Rattle.websocket.specs.Text.{is_utf8}
use Rattle.websocket.specs.declared.protocol.frame.codec.FrameStatus.TheVariants.{Complete}
use Rattle.relay_follow.specs.Hearing.{hear_fault}
use Rattle.relay_follow.specs.declared.fault.HearFault.{HearFault}
use Rattle.relay_follow.specs.declared.fault.HearFault.TheVariants.{NotMessage, NoView, Order}
use Rattle.relay_follow.specs.declared.fault.HearFault.TheVariants.{Apply, NoMemory}
use Rattle.relay_link.specs.Frames.{text_frame}
use Rattle.relay_tree.specs.Document.{Document}
use Rattle.relay_delivery.specs.Receiving.{listening}
use Rattle.relay_delivery.specs.Socket.{Listens, IsNextFault}
use Rattle.relay_delivery.specs.declared.fault.SocketFault.TheVariants.{Refused}
use Rattle.relay_delivery.proofs.Frames.{outcome, read_text_frame}

-- the one step of such a read
record TakesWhole (words : List ℕ) (p : ℕ × Effect) : Type 0 where
  size : p.0 ≡ length (text_frame words)
  message : p.1.message ≡ Some (text words)
  reply : p.1.reply ≡ None
  next : p.1.next ≡ listening

whole_step : (words : List ℕ) (valid : Bool) (p : ℕ × Effect)
    → outcome (length (text_frame words)) words valid ≡ Ok (Complete p) → TakesWhole words p
whole_step words true p is =
    let same : p ≡ (
      length (text_frame words),
      record { message = Some (text words); reply = None; next = listening },
    ) = cc is in
    rw same (record { size = refl; message = refl; reply = refl; next = refl })
whole_step words false p is = absurd (cc is)

-- what is known after a message: which it is, the connection, and the bytes that are left, with
-- those of the stream
record Took (words rest : List ℕ) (m : Content) (c : Connection) (i ys : List ℕ) (sent : List ℕ) :
    Type 0 where
  message : m ≡ text words
  connection : c ≡ listening
  left : i ++ ys ≡ rest
  silent : sent ≡ []

took : (words rest input ys i sent : List ℕ) (c : Connection) (m : Content) (ps : Run)
    → length words < 2 ^ 63 → input ++ ys ≡ text_frame words ++ rest → Runs listening input ps c i
    → EndsWith ps m → Replies ps [] sent → Took words rest m c i ys sent
took words rest input ys i sent c m [] small is runs ends replies = absurd ends
took words rest input ys i sent c m (p ∷ []) small is runs ends replies =
    let more = runs-more listening c input i ys (p ∷ []) runs in
    let step : read_step listening (text_frame words ++ rest) ≡ Ok (Complete p) =
    subst (λ l. read_step listening l ≡ Ok (Complete p)) is more.0 in
    let one = whole_step words (is_utf8 words) p (sym (read_text_frame words rest small) ∙ step) in
    record {
      message = cc (ends, one.message);
      connection = more.1.0 ∙ one.next;
      left = more.1.1 ∙ ap (λ l. drop p.0 l) is
          ∙ drop_at (text_frame words) rest p.0 (sym one.size);
      silent = replies-none (p ∷ []) [] sent (one.reply, tt) replies;
    }
took words rest input ys i sent c m (p ∷ q ∷ ps) small is runs ends replies =
    let more = runs-more listening c input i ys (p ∷ q ∷ ps) runs in
    let step : read_step listening (text_frame words ++ rest) ≡ Ok (Complete p) =
    subst (λ l. read_step listening l ≡ Ok (Complete p)) is more.0 in
    let one = whole_step words (is_utf8 words) p (sym (read_text_frame words rest small) ∙ step) in
    absurd (cc (ends.0, one.message))

-- known bytes of a stream
record Known (input : List ℕ) (known : Option (List ℕ)) (bytes : List ℕ) : Type 0 where
  stream : List ℕ
  known_is : known ≡ Some stream
  whole : input ++ stream ≡ bytes

known_of : (input bytes : List ℕ) (known : Option (List ℕ))
    → prepend_known input known ≡ Some bytes → Known input known bytes
known_of input bytes None is = absurd (cc is)
known_of input bytes (Some stream) is = record { stream = stream; known_is = refl; whole = cc is }

after_of : (xs got : List ℕ) (new : Option (List ℕ)) → Consumes (Some xs) new got
    → (ys : List ℕ) × (new ≡ Some ys) × (xs ≡ got ++ ys)
after_of xs got None took = absurd took
after_of xs got (Some ys) took = (ys, refl, took)

module _ {S : Type 0} (remaining : S → Option (List ℕ)) where
  read_next : (old new : Socket S) (m : Message) (words rest : List ℕ) → length words < 2 ^ 63
      → Listens remaining old (text_frame words ++ rest) → Reads remaining old new (Ok m)
      → (content_of m ≡ text words) × Listens remaining new rest
  read_next old new m words rest small listens reads =
      let ps = reads.0 in
      let got = reads.1 in
      let c = reads.2 in
      let i = reads.3 in
      let sent = reads.4 in
      let gave = reads.6 in
      let known =
      known_of old.input (text_frame words ++ rest) (remaining old.stream) listens.left in
      let after =
      after_of known.stream got (remaining new.stream) (subst (λ o.
      Consumes o (remaining new.stream) got) known.known_is (gave.4 listens.nothing_waits))
      in
      let whole : (old.input ++ got) ++ after.0 ≡ text_frame words ++ rest =
      append_assoc old.input got after.0 ∙ ap (λ l. old.input ++ l) (sym after.2) ∙ known.whole in
      let runs : Runs listening (old.input ++ got) ps c i =
      subst (λ x. Runs x (old.input ++ got) ps c i) listens.connection reads.5 in
      let replies : Replies ps [] (sent ++ new.output) =
      subst (λ o. Replies ps o (sent ++ new.output)) listens.nothing_waits gave.3 in
      let did =
      took words rest (old.input ++ got) after.0 i (sent ++ new.output) c (content_of m) ps
      small whole runs gave.0 replies in (
        did.message,
        record {
          connection = gave.1 ∙ did.connection;
          nothing_waits = nil-left sent new.output did.silent;
          left = rw (gave.2, after.1) (ap Some did.left);
        },
      )

  -- the message is the text in front, if one comes
  pub reads_next : (old new : Socket S) (r : Result Message Error) (m : Message)
      (words rest : List ℕ) → r ≡ Ok m → length words < 2 ^ 63
      → Listens remaining old (text_frame words ++ rest) → Reads remaining old new r
      → (content_of m ≡ text words) × Listens remaining new rest
  reads_next old new r m words rest is small listens reads =
      read_next old new m words rest small listens (subst (Reads remaining old new) is reads)

-- ---- the message and its text

pub only_text : (m : Message) (words : List ℕ) → content_of m ≡ text words
    → (said : List ℕ) × (m ≡ message.Text said)
only_text (message.Text said) words is = (said, refl)
only_text (message.Binary bytes) words is = absurd (cc is)
only_text (message.Ping bytes) words is = absurd (cc is)
only_text (message.Pong bytes) words is = absurd (cc is)
only_text (message.Close frame) words is = absurd (cc is)

pub said_is : (m : Message) (said shown words : List ℕ) → m ≡ message.Text said → shown ≡ said
    → content_of m ≡ text words → shown ≡ words
said_is m said shown words is same content =
    let both : text said ≡ text words = (rw is at content) in
    same ∙ cc both

pub next_fault : (held : Option (ℕ × Document)) (words : List ℕ) (fault : HearFault)
    → (fault ≢ NoMemory → hear_fault held words ≡ Some fault)
    → IsNextFault (Refused fault) held words
next_fault held words NoMemory why = tt
next_fault held words NotMessage why = why (λ e. cc e)
next_fault held words NoView why = why (λ e. cc e)
next_fault held words Order why = why (λ e. cc e)
next_fault held words Apply why = why (λ e. cc e)
