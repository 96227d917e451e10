-- The request for the way into a room, and the response by what came of it.
use Rattle.std.specs.Prelude.{Result, Ok, Err}
use Rattle.relay_admin.specs.declared.response.Response.{Response}
use Rattle.relay_admin.specs.declared.response.Response.TheVariants as response
use Rattle.relay_admin.specs.declared.unavailable.Unavailable.TheVariants as unavailable
use Rattle.relay_link.specs.declared.entrance_fault.EntranceFault.{EntranceFault}
use Rattle.relay_link.specs.declared.entrance_fault.EntranceFault.TheVariants.{AllOpen, Full}
use Rattle.relay_link.specs.declared.entrance_fault.EntranceFault.TheVariants.{NoMemory}
use Rattle.relay_operator.specs.declared.admission.Admission.{Admission}
use Rattle.relay_operator.specs.declared.admission.Admission.TheVariants.{Open, Close}

-- the response to what was done
abbrev pub done_by : Admission → Response
done_by (Open room) = response.Admitted
done_by (Close room) = response.Excluded

-- the response to what was not done
abbrev pub not_done : EntranceFault → Response
not_done AllOpen = response.Open
not_done Full = response.Unavailable unavailable.Rooms
not_done NoMemory = response.Unavailable unavailable.Memory

abbrev pub admission_response : Admission → Result (Unit {0}) EntranceFault → Response
admission_response asked (Ok done) = done_by asked
admission_response asked (Err fault) = not_done fault
