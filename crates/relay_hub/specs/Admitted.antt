-- The requests that a hub serves. The others are refused before anything of the room is looked at.
use Rattle.std.specs.Prelude.{ℕ, ◌+◌, Bool, true, false, if◌then◌else◌, Option, Some, None, [], ◌∷◌}
use Rattle.std.specs.Prelude.{Result, Ok, Err}
use Rattle.std.specs.Option.{option_map_or}
use Rattle.relay_pointer.specs.Weight.{path_weight}
use Rattle.relay_access.specs.declared.access.Access.{Access}
use Rattle.relay_access.specs.declared.access.Access.TheVariants.{ReadWrite, ReadOnly}
use Rattle.relay_proto.specs.declared.refusal.Refusal.{Refusal}
use Rattle.relay_proto.specs.declared.request.Request.{Request}
use Rattle.relay_proto.specs.declared.request.Request.TheVariants.{Edit, Will, Watch, Resume}
use Rattle.relay_proto.specs.declared.word.Word.TheVariants as word
use Rattle.relay_tree.specs.Budget.{paid}
use Rattle.relay_tree.specs.declared.budget.Budget.{Budget}
use Rattle.relay_view.specs.View.{View}
use Rattle.relay_hub.specs.Refusal.{refusal}

-- The rights of a session.

abbrev pub may_edit : Access → Bool
may_edit ReadWrite = true
may_edit ReadOnly = false

-- an edit or a will of a session that may not edit is refused
abbrev pub permitted : Access → Result Request Refusal → Result Request Refusal
permitted access (Ok (Edit id base patch)) =
    if may_edit access then Ok (Edit id base patch) else Err (refusal id word.ReadOnly None)
permitted access (Ok (Will id patch)) =
    if may_edit access then Ok (Will id patch) else Err (refusal id word.ReadOnly None)
permitted access request = request

-- The bound on the weight of a view.

-- the first slot whose pointer a budget does not pay for, once it has paid for those before it; the
-- slots are numbered from n
abbrev pub unpaid_slot : ℕ → Budget → View → Option ℕ
unpaid_slot n budget [] = None
unpaid_slot n budget (s ∷ v) =
    option_map_or (λ left.
    unpaid_slot (n + 1) left v) (paid (path_weight s.pointer) budget) (Some n)

-- the request, if no slot is unpaid
abbrev pub unless_unpaid : Option ℕ → ℕ → Request → Result Request Refusal
unless_unpaid None id request = Ok request
unless_unpaid (Some at) id request = Err (refusal id word.TooHeavy (Some at))

-- the pointers of a view weigh no more together than the budget
abbrev pub affordable : Budget → Result Request Refusal → Result Request Refusal
affordable budget (Ok (Watch id pointers)) =
    unless_unpaid (unpaid_slot 0 budget pointers) id (Watch id pointers)
affordable budget (Ok (Resume id epoch rev pointers)) =
    unless_unpaid (unpaid_slot 0 budget pointers) id (Resume id epoch rev pointers)
affordable budget request = request

-- both
abbrev pub admitted : Budget → Access → Result Request Refusal → Result Request Refusal
admitted budget access request = affordable budget (permitted access request)
