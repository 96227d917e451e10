-- The list of rooms that an operator sees.
use Rattle.std.specs.Prelude.{ℕ, ◌+◌, ◌-◌, nat_lt, if◌then◌else◌, List, [], ◌∷◌, ◌++◌, slice_index}
use Rattle.std.specs.Prelude.{Option, Some, None}
use Rattle.json.specs.Token.{Token, end_array}
use Rattle.relay_admin.specs.Rooms.{begun, with_room}
use Rattle.relay_hub.specs.Summary.{Summary}
use Rattle.relay_operator.specs.Numbers.{rooms_seen}
use Rattle.relay_operator.specs.declared.admin_view.AdminView.{AdminView}

-- for how many seconds nobody has been in the room at an index, with so many sessions, if nobody
-- is: since the second in which a session last left it, or since the beginning
abbrev pub empty_for : AdminView → ℕ → ℕ → Option ℕ
empty_for view index sessions =
    if nat_lt 0 sessions then None else Some (view.second - slice_index view.left.now index)

-- tokens, and behind them the room at an index
abbrev pub with_row : AdminView → ℕ → Summary → List Token → List Token
with_row view index r tokens =
    with_room r.name r.revision r.sessions r.weight (empty_for view index r.sessions) tokens

-- tokens, and behind them the rooms from an index on, in their order
abbrev pub with_rooms : AdminView → ℕ → List Summary → List Token → List Token
with_rooms view index [] tokens = tokens
with_rooms view index (r ∷ rooms) tokens =
    with_rooms view (index + 1) rooms (with_row view index r tokens)

-- the whole list
abbrev pub rooms_listed : AdminView → List Token
rooms_listed view = with_rooms view 0 (rooms_seen view.hub.now) begun ++ end_array ∷ []
