-- The bytes written so far and the rest are the reply. The rest becomes shorter.
use Rattle.std.proofs.Common.{◌≡◌, ◌++◌, ℕ, List, vec_len}
use Rattle.std.specs.Io.KnownBytes.{Appends}
use Rattle.relay_link.proofs.handshake_reply.HandshakeReply.send.Given as goal

abbrev pub invariant-loop-stream : goal.invariant-loop-stream
invariant-loop-stream g l = record {
  verdict : l.self.verdict ≡ l.initial.self.verdict;
  sent : (sent : List ℕ) × (l.initial.self.rest.items ≡ sent ++ l.self.rest.items)
      × Appends (g.W.Write.contents l.initial.stream) (g.W.Write.contents l.stream) sent;
}

abbrev pub decreases-loop-stream : goal.decreases-loop-stream
decreases-loop-stream g l = vec_len l.self.rest
