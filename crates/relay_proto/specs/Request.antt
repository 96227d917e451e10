-- The request that a text reads as, or its first fault: the checks come in the order of
-- docs/PROTOCOL.md, "Requests".
use Rattle.std.specs.Prelude.{◌≡◌, ℕ, List, length, codes, bytes_eq, is_some, nat_lt, Option, Some}
use Rattle.std.specs.Prelude.{None, Result, Ok, Err, if◌then◌else◌}
use Rattle.serde_json.specs.Data.{Data}
use Rattle.serde_json.specs.Read as json
use Rattle.relay_tree.specs.Budget.{paid}
use Rattle.relay_tree.specs.Document.{Document}
use Rattle.relay_tree.specs.Count.{count_in}
use Rattle.relay_tree.specs.Part.{object_member, text_in}
use Rattle.relay_tree.specs.Text.{tree_of}
use Rattle.relay_tree.specs.declared.budget.Budget.TheVariants.{Left}
use Rattle.relay_view.specs.View.{View}
use Rattle.relay_patch.specs.Form.{patch_of}
use Rattle.relay_patch.specs.Weight.{ops_weight}
use Rattle.relay_patch.specs.declared.limits.PatchFault.{PatchFault}
use Rattle.relay_patch.specs.declared.limits.PatchFault.TheVariants as patch
use Rattle.relay_patch.specs.declared.limits.TheConstants.PatchLimits.{REQUEST}
use Rattle.relay_patch.specs.declared.op.Op.{Op}
use Rattle.relay_view.specs.Form.{view_of}
use Rattle.relay_view.specs.declared.fault.ViewFault.{ViewFault}
use Rattle.relay_view.specs.declared.fault.ViewFault.TheVariants as view
use Rattle.relay_proto.specs.Optional.{optional_count_in}
use Rattle.relay_proto.specs.declared.reading.TheConstants.{MAX_REQUEST, MAX_WILL_WEIGHT}
use Rattle.relay_proto.specs.declared.refusal.Refusal.{Refusal}
use Rattle.relay_proto.specs.declared.refusal.RequestFault.{RequestFault}
use Rattle.relay_proto.specs.declared.refusal.RequestFault.TheVariants.{Refused, NoMemory}
use Rattle.relay_proto.specs.declared.request.Request.{Request}
use Rattle.relay_proto.specs.declared.request.Request.TheVariants.{Edit, Will, Watch, Resume}
use Rattle.relay_proto.specs.declared.request.Request.TheVariants.{Unwatch}
use Rattle.relay_proto.specs.declared.word.Word.{Word}
use Rattle.relay_proto.specs.declared.word.Word.TheVariants.{TooLong, NotJson, Number, Shape}
use Rattle.relay_proto.specs.declared.word.Word.TheVariants.{TooMany, UnknownOp, Pointer, TooHeavy}

abbrev pub refusal : Word → Option ℕ → Option ℕ → Refusal
refusal fault id at = record { fault = fault; id = id; at = at }

-- continues with a part if it is there; else the request is refused as Shape
abbrev pub with_part : {A B : Type 0} → Option ℕ → Option A → (A → Result B Refusal)
    → Result B Refusal
with_part id (Some x) f = f x
with_part id None f = Err (refusal Shape id None)

abbrev pub and_then : {A B : Type 0} → Result A Refusal → (A → Result B Refusal) → Result B Refusal
and_then (Ok x) f = f x
and_then (Err r) f = Err r

-- the refusal for each fault of a patch; `patch_of` never gives NoMemory
abbrev pub patch_refusal : ℕ → PatchFault → Refusal
patch_refusal id patch.TooManyOps = refusal TooMany (Some id) None
patch_refusal id (patch.Shape at) = refusal Shape (Some id) at
patch_refusal id (patch.UnknownOp at) = refusal UnknownOp (Some id) (Some at)
patch_refusal id (patch.Pointer at) = refusal Pointer (Some id) (Some at)
patch_refusal id patch.NoMemory = refusal Shape (Some id) None

abbrev pub patch_read : ℕ → Result (List Op) PatchFault → Result (List Op) Refusal
patch_read id (Ok ops) = Ok ops
patch_read id (Err fault) = Err (patch_refusal id fault)

abbrev pub patch_in : ℕ → Document → Result (List Op) Refusal
patch_in id d =
    with_part (Some id) (object_member d (codes "patch"))
    (λ p. patch_read id (patch_of REQUEST.ops REQUEST.tokens p))

abbrev pub view_refusal : ℕ → ViewFault → Refusal
view_refusal id view.TooMany = refusal TooMany (Some id) None
view_refusal id (view.Shape at) = refusal Shape (Some id) at
view_refusal id (view.Pointer at) = refusal Pointer (Some id) (Some at)
view_refusal id view.NoMemory = refusal Shape (Some id) None

abbrev pub view_read : ℕ → Result View ViewFault → Result View Refusal
view_read id (Ok pointers) = Ok pointers
view_read id (Err fault) = Err (view_refusal id fault)

abbrev pub view_in : ℕ → Document → Result View Refusal
view_in id d = with_part (Some id) (object_member d (codes "view")) (λ v. view_read id (view_of v))

-- `base` is a count or is missing; it is checked before the patch
abbrev pub edit_of : ℕ → Document → Result Request Refusal
edit_of id d =
    with_part (Some id) (optional_count_in d (codes "base")) (λ base.
    and_then (patch_in id d) (λ p. Ok (Edit id base p)))

-- a will whose patch weighs no more than the limit
abbrev pub light_will : ℕ → List Op → Result Request Refusal
light_will id p =
    if is_some (paid (ops_weight p) (Left MAX_WILL_WEIGHT)) then Ok (Will id p)
    else Err (refusal TooHeavy (Some id) None)

-- a will is done at any revision, so it has no `base`
abbrev pub will_of : ℕ → Document → Result Request Refusal
will_of id d =
    if is_some (object_member d (codes "base")) then Err (refusal Shape (Some id) None)
    else and_then (patch_in id d) (light_will id)

abbrev pub resume_of : ℕ → Document → Result Request Refusal
resume_of id d =
    with_part (Some id) (count_in d (codes "epoch")) (λ epoch.
    with_part (Some id) (count_in d (codes "rev")) (λ rev.
    and_then (view_in id d) (λ v. Ok (Resume id epoch rev v))))

-- the request with this value of `do`
abbrev pub asked : List ℕ → ℕ → Document → Result Request Refusal
asked name id d =
    if bytes_eq name (codes "edit") then edit_of id d else
    if bytes_eq name (codes "will") then will_of id d else
    if bytes_eq name (codes "watch") then and_then (view_in id d) (λ v. Ok (Watch id v)) else
    if bytes_eq name (codes "resume") then resume_of id d else
    if bytes_eq name (codes "unwatch") then Ok (Unwatch id) else Err (refusal Shape (Some id) None)

abbrev pub request_of : Document → Result Request Refusal
request_of d =
    with_part None (count_in d (codes "id"))
    (λ id. with_part (Some id) (text_in d (codes "do")) (λ name. asked name id d))

abbrev pub request_of_tree : Option Document → Result Request Refusal
request_of_tree None = Err (refusal Number None None)
request_of_tree (Some d) = request_of d

abbrev pub request_of_json : Option Data → Result Request Refusal
request_of_json None = Err (refusal NotJson None None)
request_of_json (Some value) = request_of_tree (tree_of value)

-- the request that a text reads as
abbrev pub request_of_text : List ℕ → Result Request Refusal
request_of_text s =
    if nat_lt MAX_REQUEST (length s) then Err (refusal TooLong None None)
    else request_of_json (json.read s)

-- the fault is the refusal that reading gives, or out of memory
abbrev pub IsRefusedAs : {A : Type 0} → RequestFault → Result A Refusal → Type 0
IsRefusedAs (Refused r) read = read ≡ Err r
IsRefusedAs NoMemory read = Unit {0}
