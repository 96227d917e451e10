-- A connection asks for the way into a room, and it is the first that does.
use Rattle.std.proofs.Common.{sym, ◌∙◌}
use Rattle.relay_operator.specs.declared.room_request.Kind.TheVariants as kind
use Rattle.relay_operator.proofs.Giving.{first_admits, none_asks, some_admits}
use Rattle.relay_operator.proofs.admin_port.AdminPort.next_admission.Goals as goal

pub returns-clause-some : goal.returns-clause-some
returns-clause-some g c =
    some_admits c.in_ok-first_to.field-0 c.admission_at.result _ c.admission_at.ensures.at

pub returns-clause-first : goal.returns-clause-first
returns-clause-first g c =
    first_admits c.in_ok-first_to.field-0 c.admission_at.result _
    (sym c.first_to.ensures ∙ c.in_ok-first_to.was) c.admission_at.ensures.at

pub returns-clause-none : goal.returns-clause-none
returns-clause-none g c =
    none_asks kind.Admission c.args.self.now.connections.items c.in_ok-first_to.field-0
    c.admission_at.result (sym c.first_to.ensures ∙ c.in_ok-first_to.was)
    c.admission_at.ensures.none
