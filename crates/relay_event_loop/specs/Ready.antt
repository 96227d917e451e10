-- The stream of a connection.
use Rattle.std.specs.Prelude.{◌≡◌, ℕ, List, Option}
use Rattle.relay_link.specs.Asks.{IsFresh}
use Rattle.relay_link.specs.declared.state.State.{State as Link}
use Rattle.relay_event_loop.specs.declared.ready.TrackedStream.{TrackedStream}

-- the bytes that it has left, if they are known
abbrev pub left_of : {S : Type 0} → (S → Option (List ℕ)) → TrackedStream S → Option (List ℕ)
left_of remaining tracked = remaining tracked.stream

-- the bytes that it holds, if they are known
abbrev pub contents_of : {S : Type 0} → (S → Option (List ℕ)) → TrackedStream S → Option (List ℕ)
contents_of contents tracked = contents tracked.stream

-- a link that waits for its head on this stream, of which nothing was read and to which nothing was
-- written
abbrev pub IsFreshOn : {S : Type 0} → S → Link (TrackedStream S) → Type 0
IsFreshOn {S} given link =
    (tracked : TrackedStream S) × (tracked.stream ≡ given) × IsFresh tracked link
