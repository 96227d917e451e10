-- The requests that an operator may make, by target and method.
use Rattle.std.specs.Prelude.{ℕ, Bool, List, ◌||◌, if◌then◌else◌, codes, bytes_eq, Option, Some}
use Rattle.std.specs.Prelude.{None, option_map}
use Rattle.relay_admin.specs.Cut.{behind}
use Rattle.relay_admin.specs.declared.request.AdminRequest.{AdminRequest}
use Rattle.relay_admin.specs.declared.request.AdminRequest.TheVariants.{Health, Metrics, Rooms}
use Rattle.relay_admin.specs.declared.request.AdminRequest.TheVariants.{Wanted, Open, Stop}

-- the target of a request
abbrev pub target_of : AdminRequest → List ℕ
target_of Health = codes "/health"
target_of Metrics = codes "/metrics"
target_of Rooms = codes "/rooms"
target_of Wanted = codes "/wanted"
target_of Open = codes "/open"
target_of Stop = codes "/stop"

-- its method
abbrev pub method_of : AdminRequest → List ℕ
method_of Open = codes "POST"
method_of Stop = codes "POST"
method_of _ = codes "GET"

-- the request with a target, if there is one
abbrev pub request_at : List ℕ → Option AdminRequest
request_at target =
    if bytes_eq target (target_of Health) then Some Health else
    if bytes_eq target (target_of Metrics) then Some Metrics else
    if bytes_eq target (target_of Open) then Some Open else
    if bytes_eq target (target_of Rooms) then Some Rooms else
    if bytes_eq target (target_of Stop) then Some Stop else
    if bytes_eq target (target_of Wanted) then Some Wanted else None

-- where a target leads: to a request with a path of its own; to a room, by what stands behind
-- `/rooms/`; or to the door of a room, by what stands behind `/open/`
pub data Place : Type 0 where
  at_path : AdminRequest → Place
  at_room : List ℕ → Place
  at_door : List ℕ → Place

abbrev pub named_by : Option (List ℕ) → Option (List ℕ) → Option Place
named_by (Some room) door = Some (at_room room)
named_by None door = option_map at_door door

abbrev pub named_at : List ℕ → Option Place
named_at target = named_by (behind (codes "/rooms/") target) (behind (codes "/open/") target)

-- a path of a request comes first
abbrev pub place_by : Option AdminRequest → List ℕ → Option Place
place_by (Some r) target = Some (at_path r)
place_by None target = named_at target

abbrev pub place_at : List ℕ → Option Place
place_at target = place_by (request_at target) target

-- whether a place takes a method
abbrev pub takes : List ℕ → Place → Bool
takes method (at_path r) = bytes_eq method (method_of r)
takes method (at_room name) =
    bytes_eq method (codes "GET") || bytes_eq method (codes "PATCH")
    || bytes_eq method (codes "DELETE")
takes method (at_door name) = bytes_eq method (codes "PUT") || bytes_eq method (codes "DELETE")

-- what is asked
pub data Asked : Type 0 where
  -- a request with a path of its own
  request : AdminRequest → Asked
  -- that the room of a name is forgotten
  forget : List ℕ → Asked
  -- of the room of a name, what a pointer leads to, unless its tag is among those listed
  part : List ℕ → List ℕ → List ℕ → Asked
  -- for the room of a name, an edit, if its tag is the one listed, by a body of so many bytes
  edit : List ℕ → List ℕ → ℕ → Asked
  -- that clients may enter the room of a name
  admit : List ℕ → Asked
  -- that nobody may enter the room of a name
  exclude : List ℕ → Asked
