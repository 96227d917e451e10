use Rattle.std.proofs.Common.{◌≡◌, ◌∙◌, Some, refl, sym, ap}
use Rattle.relay_hub.specs.Representation.{hub_of}
use Rattle.relay_hub.specs.State.{State, index_named}
use Rattle.relay_hub.proofs.OpenFaults.{index_is}
use Rattle.relay_hub.proofs.hub.Hub.room_named.Goals as goal

pub returns-in-None : goal.returns-in-None
returns-in-None c =
    let none =
    sym (c.get_index_of.ensures.index ∙ index_is c.args.name.now c.self.inside.rooms.entries)
    ∙ c.in-None.is in
    rw (← c.self.view_is, none) refl

pub returns-in-Some : goal.returns-in-Some
returns-in-Some c =
    let at : index_named c.args.name.now (hub_of c.self.inside).rooms ≡ Some c.in-Some.index =
    sym (c.get_index_of.ensures.index ∙ index_is c.args.name.now c.self.inside.rooms.entries)
    ∙ c.in-Some.is in
    let found =
    ap (λ (hub : State). index_named c.args.name.now hub.rooms) (sym c.self.view_is) ∙ at in
    rw found c.room_at.ensures
