-- One more write took some of the rest.
use Rattle.std.proofs.Common.{rules, sym, subst, ◌∙◌}
use Rattle.relay_link.proofs.Replying.{IsSent, sent_more}
use Rattle.relay_link.proofs.handshake_reply.HandshakeReply.send.Goals as goal

pub loop-stream-preserved : goal.loop-stream-preserved
loop-stream-preserved g c = record {
  verdict = search rules;
  sent =
      let took = rw c.as_slice.ensures.value at c.in_ok-len.ensures.bytes in
      let more =
      sent_more c.args.self.now.rest.items c.loop-stream.self.rest.items c.in_ok-len.len
      (g.W.Write.contents c.args.stream.now) (g.W.Write.contents c.loop-stream.stream)
      (g.W.Write.contents c.write.new.self) c.loop-stream.invariant.sent took in
      subst (λ rest.
      IsSent c.args.self.now.rest.items rest (g.W.Write.contents c.args.stream.now)
      (g.W.Write.contents c.write.new.self))
      (sym (c.drop-drain.ensures.items ∙ c.drain.ensures.kept)) more;
}
