use Rattle.std.proofs.Common.{◌≡◌, ◌≤◌, ◌∙◌, ◌++◌, ℕ, List, [], ◌∷◌, Some, length, nat_eq, sym, ap}
use Rattle.std.proofs.Common.{arith}
use Rattle.std.specs.Map.{lookup}
use Rattle.relay_hub.specs.Representation.{hub_of}
use Rattle.relay_hub.specs.State.{RoomSessions}
use Rattle.relay_hub.specs.Step.{left_of, Step}
use Rattle.relay_hub.specs.declared.event.Answer.TheVariants as answer
use Rattle.relay_hub.specs.declared.event.Event.TheVariants.{Close}
use Rattle.relay_hub.proofs.Representation.{never_missing, is_there, session_there, hub_leaving}
use Rattle.relay_hub.proofs.Representation.{closes}
use Rattle.relay_hub.proofs.Members.{step_is_hub}
use Rattle.relay_hub.proofs.Sessions.{number_of-found}
use Rattle.relay_hub.proofs.Stands.{step_stands}
use Rattle.relay_hub.proofs.hub.Hub.close.Goals as goal

pub unreachable-requires : goal.unreachable-requires
unreachable-requires c =
    never_missing c.self.inside c.args.session c.in-Some.index.now c.self.invariant.0
    (sym c.in-Some.ensures.value) (sym c.in_default-get_index_mut.ensures.value)

pub leave-will-requires : goal.leave-will-requires
leave-will-requires c =
    is_there c.self.inside c.args.session c.in-Some.index.now c.self.invariant.0
    (sym c.in-Some.ensures.value) c.in-Some-get_index_mut.room_sessions.now
    (sym c.in-Some-get_index_mut.ensures.value)

some_open : (homes : List (ℕ × ℕ)) (s index : ℕ) → lookup (nat_eq s) homes ≡ Some index
    → 1 ≤ length homes
some_open [] s index h = absurd (cc h)
some_open (home ∷ homes) s index h = omega arith

-- there is space for the will, since its session is one of those that are open
pub leave_behind-requires : goal.leave_behind-requires
leave_behind-requires c =
    let h = c.self.inside in
    omega (
      arith,
      c.self.invariant.0.few,
      c.self.invariant.1,
      some_open h.homes.entries c.args.session c.in-Some.index.now (sym c.in-Some.ensures.value),
    )

abbrev left : goal.After-swap_remove → RoomSessions
left c = c.leave-will.new.self

goes : (c : goal.After-swap_remove)
    → Step (hub_of c.self.inside) (Close c.args.session) answer.Closed
    (hub_leaving c.self.inside c.in-Some.index.now (left c) c.swap_remove.new.self.entries
    c.leave_behind.new.wills.items)
goes c =
    let g = c.in-Some-get_index_mut.room_sessions.now in
    let s = c.args.session in
    let there =
    session_there c.self.inside s c.in-Some.index.now c.self.invariant.0
    (sym c.in-Some.ensures.value) g (sym c.in-Some-get_index_mut.ensures.value) in
    let count =
    rw (c.swap_remove.ensures.value
    ∙ sym c.in-Some.ensures.value) at c.swap_remove.ensures.len in
    closes c.self.inside s c.in-Some.index.now g (left c) (sym c.in-Some.ensures.value)
    (sym c.in-Some-get_index_mut.ensures.value)
    c.swap_remove.new.self.entries c.leave_behind.new.wills.items there.0 there.1
    c.leave-will.ensures.gone c.swap_remove.ensures.updates.0 count
    (c.leave_behind.ensures.wills
    ∙ ap (λ w. c.self.inside.wills.items ++ left_of w.session w.number w.room_index w.patch)
    (c.leave-will.ensures.will there.0 there.1)
    ∙ ap (λ n. c.self.inside.wills.items
    ++ left_of n there.0.will_number c.in-Some.index.now there.0.will)
    (number_of-found g.sessions s there.0 there.1))

pub invariant_of-self : goal.invariant_of-self
invariant_of-self c = (
  step_is_hub (hub_of c.self.inside)
      (hub_leaving c.self.inside c.in-Some.index.now (left c) c.swap_remove.new.self.entries
      c.leave_behind.new.wills.items) (Close c.args.session) answer.Closed c.self.invariant.0
      (goes c),
  rw c.leave_behind.ensures.capacity c.self.invariant.1,
)

pub returns : goal.returns
returns c =
    let old = hub_of c.self.inside in
    let new =
    hub_leaving c.self.inside c.in-Some.index.now (left c) c.swap_remove.new.self.entries
    c.leave_behind.new.wills.items in
    rw (← c.self.view_is) (record {
      step = goes c;
      stands = λ b E h. step_stands b E old new (Close c.args.session) answer.Closed h (goes c);
    })
