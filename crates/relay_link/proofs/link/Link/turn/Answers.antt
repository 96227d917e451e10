-- No rules deny anybody.
use Rattle.relay_link.proofs.Denying.{replies_if}
use Rattle.relay_link.proofs.link.Link.turn.Goals as goal

pub returns-clause-replies : goal.returns-clause-replies
returns-clause-replies g c =
    replies_if g.S.Read.remaining g.S.Write.contents c.take_turn.result c.none.result
    c.args.hub.now _ _ c.none.ensures.entrance c.none.ensures.origins c.none.ensures.watchers
    c.take_turn.ensures.replies
