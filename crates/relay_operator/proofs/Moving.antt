-- Calls on a connection's stream, one after another.
use Rattle.std.proofs.Common.{◌≡◌, ℕ, List, [], ◌++◌, Option, refl, sym, ap, subst, ◌∙◌}
use Rattle.std.proofs.Common.{append_assoc, append-nil, ◌+◌, ◌-◌, min, length, take, drop, Some}
use Rattle.std.proofs.Common.{string_bytes, Global, String}
use Rattle.std.proofs.KnownBytes.{Appends-trans, Appends-nil, Consumes-trans, Consumes-nil}
use Rattle.std.proofs.lemmas.List.{take-append-drop, drop-drop, drop_min, take_rest}
use Rattle.std.specs.Io.KnownBytes.{Appends}
use Rattle.relay_admin.specs.declared.answer.Ask.{Ask}
use Rattle.relay_operator.specs.declared.admin_connection.AdminConnection.{AdminConnection}
use Rattle.relay_operator.specs.declared.admin_connection.Moved.{Moved}
use Rattle.relay_operator.specs.declared.admin_connection.Moved.TheVariants as moved
use Rattle.relay_operator.specs.Connection.{ChangesIfMoved, Hears, Receives, SameButStream, Sends}
use Rattle.relay_operator.specs.Connection.{Tells, rest_of, unsent}
use Rattle.relay_admin.specs.declared.answer.Ask.TheVariants.{More}
use Rattle.relay_operator.specs.Request.{Notes, Request}
use Rattle.relay_operator.proofs.Noting.{given_back}

-- what a write took of the rest of a response, and what is left of it
next_part : (bytes : List ℕ) (had from len sent : ℕ) → from ≡ min had (length bytes)
    → sent ≡ from + len → drop had bytes ≡ take len (drop from bytes) ++ drop sent bytes
next_part bytes had from len sent at grown =
    sym (drop_min had bytes) ∙ ap (λ n. drop n bytes) (sym at)
    ∙ sym (take-append-drop len (drop from bytes))
    ∙ ap (λ l. take len (drop from bytes) ++ l)
    (drop-drop len from bytes ∙ ap (λ n. drop n bytes) (sym grown))

-- nothing of a request changed
pub changes_not : (what : Moved) (r : Request) → ChangesIfMoved what r r
changes_not (moved.Bytes len) r = tt
changes_not moved.Nothing r = refl
changes_not moved.Again r = refl
changes_not moved.Done r = refl
changes_not moved.Failed r = refl

module _ {S : Type 0} where
  -- it received nothing
  pub receives_same : (remaining : S → Option (List ℕ)) (c : AdminConnection S)
      → Receives remaining c c
  receives_same remaining c = record {
    taken = [];
    first = Consumes-nil (remaining c.stream);
    received = sym (append-nil c.request.bytes);
    asked = refl;
    reply = refl;
    sent = refl;
  }

  -- it received something, and then more
  pub receives_then : (remaining : S → Option (List ℕ)) (a b c : AdminConnection S)
      → Receives remaining a b → Receives remaining b c → Receives remaining a c
  receives_then remaining a b c p q = record {
    taken = p.taken ++ q.taken;
    first =
        Consumes-trans (remaining a.stream) (remaining b.stream) (remaining c.stream) p.taken
        q.taken p.first q.first;
    received =
        q.received ∙ ap (λ l. l ++ q.taken) p.received
        ∙ append_assoc a.request.bytes p.taken q.taken;
    asked = q.asked ∙ p.asked;
    reply = q.reply ∙ p.reply;
    sent = q.sent ∙ p.sent;
  }

  -- all of it is answered: what is asked of a room is noted, or the answer is given back
  pub hears : (remaining : S → Option (List ℕ)) (a b c : AdminConnection S) (given : Option Ask)
      → Receives remaining a b → Notes given b.request c.request
      → c ≡ record b { request = c.request } → Hears remaining given a c
  hears remaining a b c given receives notes same = record {
    read = b;
    receives = receives;
    notes = notes;
    same = same;
  }

  -- it received a part of a request
  pub receives_part : (remaining : S → Option (List ℕ)) (a b c : AdminConnection S) (now : Request)
      → Receives remaining a b → Receives remaining b c → Notes (Some More) c.request now
      → Receives remaining a (record c { request = now })
  receives_part remaining a b c now first then notes =
      subst (λ r. Receives remaining a (record c { request = r }))
      (sym (given_back More c.request now notes).1) (receives_then remaining a b c first then)

  -- it sent nothing
  pub sends_same : (contents : S → Option (List ℕ)) (c : AdminConnection S) → Sends contents c c
  sends_same contents c = record {
    part = [];
    next = refl;
    wrote = Appends-nil (contents c.stream);
    request = refl;
    reply = refl;
  }

  -- it sent a part, and then the next one
  pub sends_then : (contents : S → Option (List ℕ)) (a b c : AdminConnection S)
      → Sends contents a b → Sends contents b c → Sends contents a c
  sends_then contents a b c p q = record {
    part = p.part ++ q.part;
    next =
        p.next ∙ ap (λ l. p.part ++ l) q.next ∙ sym (append_assoc p.part q.part (unsent c));
    wrote =
        Appends-trans (contents a.stream) (contents b.stream) (contents c.stream) p.part q.part
        p.wrote q.wrote;
    request = q.request ∙ p.request;
    reply = q.reply ∙ p.reply;
  }

  -- one write took so many bytes of what is left of its response
  pub sends_more : (contents : S → Option (List ℕ)) (c : AdminConnection S) (next : S)
      (reply : String Global) (bytes : List ℕ) (from len sent : ℕ) → c.reply ≡ Some reply
      → bytes ≡ string_bytes reply → from ≡ min c.sent (length bytes) → sent ≡ from + len
      → Appends (contents c.stream) (contents next)
      (take len (take (length bytes - from) (drop from bytes)))
      → Sends contents c (record c { stream = next; sent = sent })
  sends_more contents c next reply bytes from len sent has same at grown wrote = record {
    part = take len (drop from bytes);
    next =
        ap (λ r. rest_of r c.sent) has ∙ ap (drop c.sent) (sym same)
        ∙ next_part bytes c.sent from len sent at grown
        ∙ ap (λ l. take len (drop from bytes) ++ l)
        (ap (drop sent) same ∙ ap (λ r. rest_of r sent) (sym has));
    wrote =
        subst (λ l. Appends (contents c.stream) (contents next) (take len l))
        (take_rest bytes from) wrote;
    request = refl;
    reply = refl;
  }

  -- it sent a part, and read nothing
  pub tells_more : (contents : S → Option (List ℕ)) (a b : AdminConnection S)
      → Sends contents a b → Tells contents a b
  tells_more contents a b p = record {
    told = b;
    sends = p;
    drains = refl;
    waits = λ left. refl;
  }

  -- it sent the rest, and read what the other side still sends
  pub tells_all : (contents : S → Option (List ℕ)) (a b c : AdminConnection S)
      → Sends contents a b → unsent b ≡ [] → SameButStream b c → Tells contents a c
  tells_all contents a b c p none same = record {
    told = b;
    sends = p;
    drains = same;
    waits = λ left. absurd (left none);
  }
