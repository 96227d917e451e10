-- An open finds what the store keeps, and once that is kept again the store has what the hub has.
use Rattle.std.proofs.Common.{map}
use Rattle.relay_store.specs.Kept.{begun, committed}
use Rattle.relay_store.specs.Texts.{owned}
use Rattle.relay_server.proofs.KeptLemmas.{kept_at_first, stood_at_first}
use Rattle.relay_server.proofs.serve.open_kept.Goals as goal

pub returns-in-Ok-clause-stood : goal.returns-in-Ok-clause-stood
returns-in-Ok-clause-stood g c =
    let opened = c.in_ok-open.open in
    let taken = c.in-Ok.ensures in
    stood_at_first g.N.Store.Keeps.kept g.N.Store.Keeps.is_clean opened.store opened.epoch
    (map owned opened.changes.items) c.args.config c.in-Ok.taken c.keep.result
    c.in_ok-open.ensures.kept taken.store taken.stands c.keep.ensures.hub c.keep.ensures.clean
    c.keep.ensures.epoch

pub returns-in-Ok-clause-kept : goal.returns-in-Ok-clause-kept
returns-in-Ok-clause-kept g c =
    let opened = c.in_ok-open.open in
    let taken = c.in-Ok.ensures in
    kept_at_first g.N.Store.Keeps.kept g.N.Store.Keeps.is_clean _ opened.store
    (committed (begun opened.epoch) (map owned opened.changes.items)) c.in-Ok.taken
    c.keep.result c.in_ok-open.ensures.kept taken.store (taken.behind opened.epoch)
    c.keep.ensures.clean (c.keep.ensures.mirrors _) (c.keep.ensures.behind _)
