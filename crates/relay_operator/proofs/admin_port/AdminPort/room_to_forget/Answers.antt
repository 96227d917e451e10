-- The first that asks for a room to be forgotten names it.
use Rattle.std.proofs.Common.{sym, ap, subst, ◌∙◌, option_copied}
use Rattle.relay_operator.specs.Port.{AsksRoomAt}
use Rattle.relay_operator.specs.RoomRequest.{is_some_of}
use Rattle.relay_operator.specs.declared.room_request.Kind.TheVariants as kind
use Rattle.relay_operator.proofs.Giving.{first_asks_not, not_forgotten, some_forgets}
use Rattle.relay_operator.proofs.admin_port.AdminPort.room_to_forget.Goals as goal

pub returns-in_err-room-clause-none : goal.returns-in_err-room-clause-none
returns-in_err-room-clause-none g c =
    absurd (first_asks_not kind.Forgetting c.args.self.now.connections.items
    c.in_ok-first_to.field-0 (sym c.first_to.ensures ∙ c.in_ok-first_to.was)
    (ap (is_some_of kind.Forgetting)
    (sym c.asked_at.ensures.is ∙ ap option_copied c.in_err-room.was)))

pub returns-in-Forget-clause-some : goal.returns-in-Forget-clause-some
returns-in-Forget-clause-some g c =
    let held = c.args.self.now.connections.items in
    some_forgets c.in_ok-first_to.field-0 c.in-Forget.room c.as_str.result.now held
    (subst (λ r. AsksRoomAt c.in_ok-first_to.field-0 r held) c.in-Forget.is
    c.in_ok-room.ensures.asks)
    (sym c.as_str.ensures.value)

pub returns-in-Forget-clause-first : goal.returns-in-Forget-clause-first
returns-in-Forget-clause-first g c = (
  c.in_ok-first_to.field-0,
  c.in_ok-room.field-0.now,
  sym c.first_to.ensures ∙ c.in_ok-first_to.was,
  c.in_ok-room.ensures.asks,
  rw c.in-Forget.is (sym c.as_str.ensures.value),
)

pub returns-in_default : goal.returns-in_default
returns-in_default g c = record {
  some = tt;
  first = tt;
  none =
      absurd (first_asks_not kind.Forgetting c.args.self.now.connections.items
      c.in_ok-first_to.field-0 (sym c.first_to.ensures ∙ c.in_ok-first_to.was)
      (ap (is_some_of kind.Forgetting)
      (sym c.asked_at.ensures.is ∙ ap option_copied c.in_ok-room.was)
      ∙ not_forgotten c.in_ok-room.field-0.now c.in_default.not-Forget));
}
