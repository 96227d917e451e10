-- While output is pending, a link only sends. Otherwise it sends what waits, exchanges, and sends
-- what came of it.
use Rattle.std.proofs.Common.{◌≡◌, false, refl}
use Rattle.relay_link.proofs.Hearing.{sends_none}
use Rattle.relay_link.proofs.Telling.{frames_none, talked_none, talked}
use Rattle.relay_link.proofs.opened.serve.Goals as goal

pub returns-then-not-branch-clause-talks : goal.returns-then-not-branch-clause-talks
returns-then-not-branch-clause-talks g c =
    let unsent : c.in_ok-flush.field-0 ≡ false = cc in
    talked_none g.S.Read.remaining g.S.Write.contents _ _ _ _ c.flush.ensures.frames
    (c.in_ok-flush.ensures.waits unsent)

pub returns-then-not-branch-clause-passes : goal.returns-then-not-branch-clause-passes
returns-then-not-branch-clause-passes g c = sends_none g.S.Read.remaining _ _ _ _ refl

pub returns-in_err-flush-clause-passes : goal.returns-in_err-flush-clause-passes
returns-in_err-flush-clause-passes g c = sends_none g.S.Read.remaining _ _ _ _ refl

pub returns-in_ok-sent-clause-talks : goal.returns-in_ok-sent-clause-talks
returns-in_ok-sent-clause-talks g c =
    talked g.S.Read.remaining g.S.Write.contents c.hear_and_draw-exchanged.result _ _ _ _ _ _ _
    c.flush.ensures.frames c.hear_and_draw-exchanged.ensures.exchanges c.flush-sent.ensures.frames

pub returns-then-matches-clause-talks : goal.returns-then-matches-clause-talks
returns-then-matches-clause-talks g c =
    talked g.S.Read.remaining g.S.Write.contents c.hear_and_draw-exchanged.result _ _ _ _ _ _ _
    c.flush.ensures.frames c.hear_and_draw-exchanged.ensures.exchanges (frames_none _ _ refl)
