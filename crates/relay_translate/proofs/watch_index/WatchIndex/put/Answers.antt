use Rattle.std.proofs.Common.{◌≤◌, subst, arith}
use Rattle.relay_translate.specs.SlotIndex.{IsIndex, watches_of}
use Rattle.relay_translate.proofs.Watched.{within_put}
use Rattle.relay_translate.proofs.watch_index.WatchIndex.put.Goals as goal

pub invariant_of-self-2 : goal.invariant_of-self-2
invariant_of-self-2 c =
    let old = c.self.inside.slots in
    let new = c.put_view.new.slots in
    let watches = watches_of c.self.inside.views in
    let session = c.args.session in
    let is = c.put_view.ensures.index in
    let le : c.self.inside.deepest ≤ c.max-self-inside.result = grind arith in
    let less : c.depth_of.result ≤ c.max-self-inside.result = grind arith in (
      is,
      within_put old new watches session c.args.view.now c.self.inside.deepest c.depth_of.result
          c.max-self-inside.result c.self.invariant.0
          (subst (IsIndex new) c.in_ok-put_view.ensures.views is) c.self.invariant.1
          c.depth_of.ensures le less,
      c.put_view.ensures.watched,
    )
