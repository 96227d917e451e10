use Rattle.std.proofs.Common.{◌≡◌, ◌∙◌, ℕ, Option, Some, None, Result, Ok, Err, IfOk, IfErr, refl}
use Rattle.std.proofs.Common.{sym}
use Rattle.std.specs.Result.{result_err}
use Rattle.relay_hub.specs.Representation.{hub_of}
use Rattle.relay_hub.specs.State.{index_named}
use Rattle.relay_hub.specs.declared.fault.AdoptFault.{AdoptFault}
use Rattle.relay_hub.proofs.Forgetting.{adopt_fault_is}
use Rattle.relay_hub.proofs.OpenFaults.{index_is}
use Rattle.relay_hub.proofs.Representation.{room_at}
use Rattle.relay_hub.proofs.hub.Hub.adopt_fault.Goals as goal

fault_told : (r : Result ℕ AdoptFault) (weight : ℕ) (o : Option AdoptFault)
    → IfOk r (λ n. (n ≡ weight) × (o ≡ None)) → IfErr r (λ fault. o ≡ Some fault)
    → result_err r ≡ o
fault_told (Ok n) weight o ok err = sym ok.1
fault_told (Err fault) weight o ok err = sym err

pub returns-in_default : goal.returns-in_default
returns-in_default c =
    let none =
    sym (c.get_index_of.ensures.index
    ∙ index_is c.args.room.now c.self.inside.rooms.entries) ∙ c.in_default.is in
    rw (← c.self.view_is, none) refl

pub returns : goal.returns
returns c =
    let hub = hub_of c.self.inside in
    let g = c.in-Some-get_index.room_sessions.now in
    let named : index_named c.args.room.now hub.rooms ≡ Some c.in-Some.index =
    sym (c.get_index_of.ensures.index ∙ index_is c.args.room.now c.self.inside.rooms.entries)
    ∙ c.in-Some.is in
    let there =
    room_at c.self.inside.rooms.entries c.in-Some.index c.in-Some-get_index.field-0-0.now g
    (sym c.in-Some-get_index.ensures.entry) in
    rw (← c.self.view_is)
    (c.err.ensures.value
    ∙ (fault_told c.may_begin.result _ _ c.may_begin.ensures.ok c.may_begin.ensures.fault
    ∙ sym (adopt_fault_is hub c.args.room.now c.args.rev c.args.document.now c.in-Some.index _ named
    there)))
