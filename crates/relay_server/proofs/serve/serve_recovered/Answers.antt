-- The hub of a store is what the keeper's store has.
use Rattle.relay_server.proofs.KeptLemmas.{begun_as_kept}
use Rattle.relay_server.proofs.serve.serve_recovered.Goals as goal

pub serve_hub-requires : goal.serve_hub-requires
serve_hub-requires g c =
    rw c.config.ensures.config (begun_as_kept (λ k. k.rooms) g.K.Keeps.kept g.K.Keeps.is_clean
    c.args.config c.args.kept.hub c.args.kept.rooms _ c.requires.stood.epoch c.of-keeper.ensures
    c.requires.stood.stood c.requires.kept)
