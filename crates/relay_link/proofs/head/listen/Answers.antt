-- The room and the access are those that the head asks for: the bytes received before, and those
-- that the read took.
use Rattle.std.proofs.Common.{rules, ◌≡◌, ◌≤◌, ℕ, List, false, length, take, string_bytes}
use Rattle.std.proofs.Common.{Some, None, option_map, sym, ap, is_err, ◌∙◌, subst}
use Rattle.std.specs.Io.KnownBytes.{Consumes}
use Rattle.relay_access.specs.declared.access.Access.{Access}
use Rattle.relay_link.specs.Asks.{Asks, Receives}
use Rattle.relay_link.specs.EntryRules.{Within, denial}
use Rattle.relay_link.specs.Follows.{is_room}
use Rattle.relay_link.specs.Stream.{stream_of}
use Rattle.relay_link.specs.declared.head.TheConstants.{MAX_READ}
use Rattle.relay_link.specs.declared.state.State.TheVariants.{Head}
use Rattle.relay_link.proofs.Denying.{within_rules}
use Rattle.relay_link.proofs.Following.{follows_wider}
use Rattle.relay_link.proofs.Heads.{extended, asks_with}
use Rattle.relay_link.proofs.Replying.{replies_denied, replies_head, replies_refuse}
use Rattle.relay_link.proofs.head.listen.Goals as goal

pub returns-in-None-clause-follows : goal.returns-in-None-clause-follows
returns-in-None-clause-follows g c = follows_wider asks c.admit.ensures.follows
  where
    asks : (room : List ℕ) (access : Access)
        → is_room (string_bytes c.in-Ok-Accept.room) c.in-Ok-Accept.access room access
        → Asks c.args.bytes.items (g.S.Read.remaining (stream_of c.args.stream)) room access
    asks room access (name, given) =
        let fits : is_err c.extend_from_slice.result ≡ false = search rules in
        let whole = c.as_slice.ensures.value
        ∙ extended c.extend_from_slice.result c.args.bytes.items
        c.extend_from_slice.new.self.items _ fits c.extend_from_slice.ensures.items in
        let left = g.S.Read.remaining (stream_of c.read.new.self) in
        let taken = take c.in-Ok.len c.read.new.buf in
        let first : Consumes (g.S.Read.remaining (stream_of c.args.stream)) left taken =
        c.in-Ok.ensures.bytes.0 in
        let within : c.in-Ok.len ≤ MAX_READ = search rules in
        let one_read : length taken ≤ MAX_READ =
        subst (λ n. n ≤ MAX_READ) c.in-Ok.ensures.bound.1 within in
        asks_with _ taken _ room access _ left c.in-Ok-Accept.field-0 whole first one_read
        c.in-Ok-Accept.ensures.head c.in-Ok-Accept.ensures.no_head
        (rw c.in-Ok-Accept.field-0-is
        (ap Some (ap (λ r. (r, c.in-Ok-Accept.access)) (sym name)
        ∙ ap (λ a. (room, a)) (sym given))))

-- The rules let the session be opened there.
pub returns-in-None-clause-entrance : goal.returns-in-None-clause-entrance
returns-in-None-clause-entrance g c = follows_wider within c.admit.ensures.follows
  where
    within : (room : List ℕ) (access : Access)
        → is_room (string_bytes c.in-Ok-Accept.room) c.in-Ok-Accept.access room access
        → Within c.args.rules.now c.args.hub.now room access
    within room access (name, given) =
        let enters : denial c.args.rules.now c.args.hub.now (string_bytes c.in-Ok-Accept.room)
        c.in-Ok-Accept.access (option_map string_bytes c.in-Ok-Accept.origin) ≡ None =
        search rules in
        rw (name, given)
        (within_rules c.args.rules.now c.args.hub.now (string_bytes c.in-Ok-Accept.room)
        c.in-Ok-Accept.access (option_map string_bytes c.in-Ok-Accept.origin) enters)

-- The head is not whole: the bytes that the read took are held.
pub returns-in-Ok-More-clause-received : goal.returns-in-Ok-More-clause-received
returns-in-Ok-More-clause-received g c =
    let fits : is_err c.extend_from_slice.result ≡ false = search rules in
    let taken = take c.in-Ok.len c.read.new.buf in
    let left = g.S.Read.remaining (stream_of c.read.new.self) in
    let first : Consumes (g.S.Read.remaining (stream_of c.args.stream)) left taken =
    c.in-Ok.ensures.bytes.0 in
    let grown =
    extended c.extend_from_slice.result c.args.bytes.items
    c.extend_from_slice.new.self.items taken fits c.extend_from_slice.ensures.items in
    subst (λ t. Receives g.S.Read.remaining (Head c.args.stream c.args.bytes) t.state)
    (sym c.on-in-Ok-More.ensures) (taken, first, grown)

-- The head is whole: the reply is the answer to those bytes.
pub returns-in-None-clause-replies : goal.returns-in-None-clause-replies
returns-in-None-clause-replies g c =
    let enters : denial c.args.rules.now c.args.hub.now (string_bytes c.in-Ok-Accept.room)
    c.in-Ok-Accept.access (option_map string_bytes c.in-Ok-Accept.origin) ≡ None =
    search rules in
    replies_head g.S.Read.remaining g.S.Write.contents (denial c.args.rules.now c.args.hub.now)
    c.args.stream c.read.new.self c.args.bytes c.extend_from_slice.result _
    c.extend_from_slice.new.self.items (take c.in-Ok.len c.read.new.buf) c.in-Ok-Accept.field-0 _
    (search rules)
    c.as_slice.ensures.value c.extend_from_slice.ensures.items c.in-Ok.ensures.bytes.0
    c.in-Ok-Accept.ensures.head c.in-Ok-Accept.ensures.no_head
    (rw c.in-Ok-Accept.field-0-is
    (c.admit.ensures.replies (denial c.args.rules.now c.args.hub.now) c.in-Ok-Accept.origin
    enters))

-- The same for a handshake that the rules deny.
pub returns-in-Ok-Accept-clause-replies : goal.returns-in-Ok-Accept-clause-replies
returns-in-Ok-Accept-clause-replies g c =
    let denied : denial c.args.rules.now c.args.hub.now (string_bytes c.in-Ok-Accept.room)
    c.in-Ok-Accept.access (option_map string_bytes c.in-Ok-Accept.origin)
    ≡ Some c.in-Some.reason =
    search rules in
    replies_head g.S.Read.remaining g.S.Write.contents (denial c.args.rules.now c.args.hub.now)
    c.args.stream c.read.new.self c.args.bytes c.extend_from_slice.result _
    c.extend_from_slice.new.self.items (take c.in-Ok.len c.read.new.buf) c.in-Ok-Accept.field-0 _
    (search rules) c.as_slice.ensures.value c.extend_from_slice.ensures.items
    c.in-Ok.ensures.bytes.0 c.in-Ok-Accept.ensures.head c.in-Ok-Accept.ensures.no_head
    (rw c.in-Ok-Accept.field-0-is
    (replies_denied g.S.Write.contents _ _ _ _ _ _ _ _ denied c.turn_away.ensures.writes))

pub returns-in-Ok-Refuse-clause-replies : goal.returns-in-Ok-Refuse-clause-replies
returns-in-Ok-Refuse-clause-replies g c =
    replies_head g.S.Read.remaining g.S.Write.contents (denial c.args.rules.now c.args.hub.now)
    c.args.stream c.read.new.self c.args.bytes c.extend_from_slice.result _
    c.extend_from_slice.new.self.items (take c.in-Ok.len c.read.new.buf) c.in-Ok-Refuse.field-0 _
    (search rules)
    c.as_slice.ensures.value c.extend_from_slice.ensures.items c.in-Ok.ensures.bytes.0
    c.in-Ok-Refuse.ensures.head c.in-Ok-Refuse.ensures.no_head
    (rw c.in-Ok-Refuse.field-0-is
    (replies_refuse g.S.Write.contents _ _ _ _ _ c.answer.ensures.writes))
