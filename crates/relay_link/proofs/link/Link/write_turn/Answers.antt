-- A turn that reads nothing has told what it drew, and denies nobody.
use Rattle.relay_link.proofs.Denying.{replies_if}
use Rattle.relay_link.proofs.Telling.{tells_if}
use Rattle.relay_link.proofs.link.Link.write_turn.Goals as goal

pub returns-clause-frames : goal.returns-clause-frames
returns-clause-frames g c =
    tells_if g.S.Read.remaining g.S.Write.contents c.take_turn.result _ _ _ _
    c.take_turn.ensures.serving
    c.take_turn.ensures.talks

pub returns-clause-replies : goal.returns-clause-replies
returns-clause-replies g c =
    replies_if g.S.Read.remaining g.S.Write.contents c.take_turn.result c.none.result
    c.args.hub.now _ _ c.none.ensures.entrance c.none.ensures.origins c.none.ensures.watchers
    c.take_turn.ensures.replies
