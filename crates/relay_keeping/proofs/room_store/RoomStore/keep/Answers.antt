use Rattle.std.proofs.Common.{subst, sym}
use Rattle.std.proofs.lemmas.Result.{on_ok_weaker}
use Rattle.relay_keeping.specs.Keeper.{Keeper}
use Rattle.relay_keeping.specs.Wills.{AreAllNoted, wills_of}
use Rattle.relay_keeping.proofs.DroppingWills.{only_theirs}
use Rattle.relay_keeping.proofs.room_store.RoomStore.keep.Goals as goal

pub returns-else-self-2-clause-only : goal.returns-else-self-2-clause-only
returns-else-self-2-clause-only g c = λ clean all.
    let kept = g.K.Keeps.kept in
    let noted = c.self.inside.wills.noted.entries in
    let old = kept c.self.inside.store in
    let all_in : AreAllNoted noted old =
    subst (λ (keeper : Keeper _). AreAllNoted keeper.wills (kept keeper.store))
    (sym c.self.view_is) all in
    on_ok_weaker c.keep_in-kept.result (λ keeps.
    only_theirs noted (wills_of c.args.hub.now) old (kept c.keep_in-kept.new.store) keeps all_in)
    (c.keep_in-kept.ensures.wills clean)
