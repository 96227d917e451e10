use Rattle.std.proofs.Common.{◌≡◌, ℕ, Option, Some, None, Result, Ok, Err, slice_get, refl, sym}
use Rattle.std.proofs.Common.{subst}
use Rattle.std.specs.Result.{IsErr}
use Rattle.std.specs.declared.alloc.AllocError.{AllocError}
use Rattle.relay_hub.specs.Stands.{StandsFor}
use Rattle.relay_hub.specs.Call.{doing_will}
use Rattle.relay_hub.specs.Representation.{hub_of}
use Rattle.relay_hub.specs.State.{State, IsHub}
use Rattle.relay_hub.specs.Step.{Step}
use Rattle.relay_hub.specs.declared.event.Answer.TheVariants.{WillDone}
use Rattle.relay_hub.specs.declared.event.Event.TheVariants.{DoWill}
use Rattle.relay_hub.proofs.Members.{step_is_hub}
use Rattle.relay_hub.proofs.Representation.{hub_with, hub_leaving, same_hub, will_done}
use Rattle.relay_hub.proofs.Stands.{step_stands}
use Rattle.relay_hub.proofs.hub.Hub.do_will.Goals as goal

-- If it is done.

abbrev after : goal.After-drop-remove → State
after c =
    hub_leaving c.self.inside c.in-Some.will.now.room_index c.do_will.new.self
    c.self.inside.homes.entries c.remove.new.self.items

step : (c : goal.After-drop-remove)
    → Step (hub_of c.self.inside) DoWill (WillDone c.in_ok-short.short) (after c)
step c =
    let oldest : slice_get c.self.inside.wills.items 0 ≡ Some c.in-Some.will.now =
    rw c.deref.ensures.value at (sym c.in-Some.ensures.value) in
    will_done c.self.inside c.in-Some.will.now c.in-Some-get_index_mut.room_sessions.now
    c.do_will.new.self c.remove.new.self.items c.in_ok-short.short
    oldest (sym c.in-Some-get_index_mut.ensures.value) c.remove.ensures.items
    c.in_ok-short.ensures.done

pub invariant_of-self-2 : goal.invariant_of-self-2
invariant_of-self-2 c = (
  step_is_hub (hub_of c.self.inside) (after c) DoWill (WillDone c.in_ok-short.short)
      c.self.invariant.0 (step c),
  rw c.remove.ensures.capacity c.self.invariant.1,
)

pub returns-clause-step : goal.returns-clause-step
returns-clause-step c = rw (← c.self.view_is) (step c)

pub returns-clause-stands : goal.returns-clause-stands
returns-clause-stands c =
    rw (← c.self.view_is) (λ b E h.
    step_stands b E (hub_of c.self.inside) (after c) DoWill (WillDone c.in_ok-short.short) h
    (step c))

-- If memory runs out.

same : (c : goal.After-from_residual)
    → hub_with c.self.inside c.in-Some.will.now.room_index c.do_will.new.self ≡ hub_of c.self.inside
same c =
    same_hub c.self.inside c.in-Some.will.now.room_index c.in-Some-get_index_mut.room_sessions.now
    c.do_will.new.self (sym c.in-Some-get_index_mut.ensures.value) c.in_err-short.ensures.done

none_done : (r : Result (Option ℕ) AllocError) → IsErr r → doing_will r ≡ None
none_done (Err e) h = refl
none_done (Ok short) h = absurd (cc h)

pub invariant_of-self : goal.invariant_of-self
invariant_of-self c = (subst IsHub (sym (same c)) c.self.invariant.0, c.self.invariant.1)

pub returns-in_err-short-clause-step : goal.returns-in_err-short-clause-step
returns-in_err-short-clause-step c =
    rw (← c.self.view_is, none_done c.from_residual.result c.from_residual.ensures.0) (same c)

pub returns-in_err-short-clause-stands : goal.returns-in_err-short-clause-stands
returns-in_err-short-clause-stands c =
    rw (← c.self.view_is, none_done c.from_residual.result c.from_residual.ensures.0) (λ b E h.
    subst (StandsFor b E) (sym (same c)) h)
