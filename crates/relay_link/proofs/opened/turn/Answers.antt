-- The texts that the link said, those that it read and passed on, and the place at which its next
-- turn reads on. A wider read buffer changes nothing of its socket.
use Rattle.std.proofs.Common.{Some, subst}
use Rattle.relay_link.specs.Adds.{texts_of}
use Rattle.relay_link.specs.Follows.{at}
use Rattle.relay_link.specs.Hears.{allowed_reads, ReadsTexts}
use Rattle.relay_link.specs.Tells.{IfOpen, Talks}
use Rattle.relay_link.proofs.Telling.{reads_into, talked_into}
use Rattle.relay_link.proofs.opened.turn.Goals as goal

pub returns-clause-talks : goal.returns-clause-talks
returns-clause-talks g c =
    let before = at c.args.hub.now (Some c.args.session) c.args.events.now in
    let talks = Talks g.S.Read.remaining g.S.Write.contents (texts_of c.args.phase) in
    let state = c.finish.result.state in
    subst (λ socket. IfOpen talks before socket c.finish.new.hub c.finish.new.events state)
    c.grow_read_buffer.ensures
    (talked_into g.S.Read.remaining g.S.Write.contents c.serve-turned.result _ _ _ _ _ _ _ _ _ _
    c.serve-turned.ensures.talks c.finish.ensures.stays c.finish.ensures.over)

pub returns-clause-passes : goal.returns-clause-passes
returns-clause-passes g c =
    let most = allowed_reads c.args.hub.now (Some c.args.session) (texts_of c.args.phase) in
    let state = c.finish.result.state in
    let events = c.args.events.now in
    subst (λ socket. ReadsTexts g.S.Read.remaining most socket state events c.finish.new.events)
    c.grow_read_buffer.ensures
    (reads_into g.S.Read.remaining g.S.Write.contents c.serve-turned.result _ _ _ _ _ _ _ _ _ _
    c.serve-turned.ensures.talks c.serve-turned.ensures.passes c.finish.ensures.stays
    c.finish.ensures.over c.finish.ensures.passes)
