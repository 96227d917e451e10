-- The numbers of a request that was read, and of a refusal, are counts.
use Rattle.std.proofs.Common.{◌≡◌, ℕ, ◌≤◌, pos, List, length, Bool, true, false, Option, Some, None}
use Rattle.std.proofs.Common.{Result, Ok, Err, is_some, nat_lt, nat_le, bytes_eq, option_map}
use Rattle.std.proofs.Common.{option_and_then, if◌then◌else◌, refl, subst, arith, IfOk, IfErr}
use Rattle.std.proofs.Common.{IfSome, MatchResult, codes}
use Rattle.std.proofs.lemmas.Bool.Decides.{nat_tests}
use Rattle.serde_json.specs.Data.{Data}
use Rattle.serde_json.specs.Read as json
use Rattle.relay_tree.specs.Count.{count_of, count_in, count_most, is_count}
use Rattle.relay_tree.specs.Document.{Document, whole, list, text, object}
use Rattle.relay_tree.specs.Part.{object_member}
use Rattle.relay_tree.specs.Text.{tree_of}
use Rattle.relay_pointer.specs.Path.{Path}
use Rattle.relay_view.specs.View.{View}
use Rattle.relay_pointer.specs.Spelling.{path_of_text}
use Rattle.relay_patch.proofs.Places.{place, patch_of-length, patch_of-place}
use Rattle.relay_tree.specs.Part.{text_in}
use Rattle.relay_patch.specs.Form.{patch_of}
use Rattle.relay_patch.specs.Weight.{ops_weight}
use Rattle.relay_tree.specs.Budget.{paid}
use Rattle.relay_tree.specs.declared.budget.Budget.TheVariants.{Left}
use Rattle.relay_proto.specs.declared.word.Word.TheVariants.{Shape, TooHeavy}
use Rattle.relay_patch.specs.declared.limits.PatchFault.{PatchFault}
use Rattle.relay_patch.specs.declared.limits.PatchFault.TheVariants as patch
use Rattle.relay_patch.specs.declared.limits.TheConstants.PatchLimits.{REQUEST}
use Rattle.relay_patch.specs.declared.op.Op.{Op}
use Rattle.relay_view.specs.Form.{slot_within, slot_spelled, size_slot, slot_at, view_of}
use Rattle.relay_view.specs.declared.slot.Slot.{Slot}
use Rattle.relay_view.specs.declared.slot.SlotKind.{SlotKind}
use Rattle.relay_view.specs.declared.slot.SlotKind.TheVariants.{Value, Size}
use Rattle.relay_view.specs.declared.fault.ViewFault.{ViewFault}
use Rattle.relay_view.specs.declared.fault.ViewFault.TheVariants as view
use Rattle.relay_view.specs.declared.view.TheConstants.{MAX_SLOTS}
use Rattle.relay_pointer.specs.declared.reading.TheConstants.{MAX_TOKENS}
use Rattle.relay_proto.specs.declared.reading.TheConstants.{MAX_REQUEST, MAX_WILL_WEIGHT}
use Rattle.relay_proto.specs.Optional.{optional_count, optional_count_in}
use Rattle.relay_proto.specs.Request.{with_part, and_then, refusal, patch_refusal, patch_read}
use Rattle.relay_proto.specs.Request.{patch_in, view_refusal, view_read, view_in, edit_of}
use Rattle.relay_proto.specs.Request.{light_will, will_of, resume_of, asked, request_of}
use Rattle.relay_proto.specs.Request.{request_of_tree, request_of_json, request_of_text}
use Rattle.relay_proto.specs.Written.{IsCount, IsCountOrNull, HasCounts}
use Rattle.relay_proto.specs.declared.refusal.Refusal.{Refusal}
use Rattle.relay_proto.specs.declared.reply.Reply.TheVariants.{Refused}
use Rattle.relay_proto.specs.declared.request.Request.{Request}
use Rattle.relay_proto.specs.declared.request.Request.TheVariants.{Edit, Will, Watch, Resume}
use Rattle.relay_proto.specs.declared.request.Request.TheVariants.{Unwatch}
use Rattle.relay_tree.proofs.Each.{IsBelow, few-length, few-place}

abbrev pub IsShort : View → Type 0
IsShort pointers = length pointers ≤ MAX_SLOTS

-- a request's numbers are counts, and it has at most as many operations or slots as the limit
-- allows
abbrev pub IsRequest : Request → Type 0
IsRequest (Edit id base ops) = IsCount id × IsCountOrNull base × (length ops ≤ REQUEST.ops)
IsRequest (Will id ops) = IsCount id × (length ops ≤ REQUEST.ops)
IsRequest (Watch id pointers) = IsCount id × IsShort pointers
IsRequest (Resume id epoch rev pointers) =
    IsCount id × IsCount epoch × IsCount rev × IsShort pointers
IsRequest (Unwatch id) = IsCount id

-- the numbers of a refusal's reply are counts
abbrev pub IsRefusal : Refusal → Type 0
IsRefusal r = HasCounts (Refused r.id r.fault r.at None)

-- Reading part by part.

abbrev Reads : {A : Type 0} → (A → Type 0) → Result A Refusal → Type 0
Reads P r = MatchResult r P IsRefusal

part_reads : {A B : Type 0} (P : A → Type 0) (Q : B → Type 0) (id : Option ℕ) (o : Option A)
    (f : A → Result B Refusal)
    → IsCountOrNull id → IfSome o P → ((x : A) → P x → Reads Q (f x)) → Reads Q (with_part id o f)
part_reads P Q id (Some x) f counts h k = k x h
part_reads P Q id None f counts h k = (counts, tt, tt)

then_reads : {A B : Type 0} (P : A → Type 0) (Q : B → Type 0) (r : Result A Refusal)
    (f : A → Result B Refusal)
    → Reads P r → ((x : A) → P x → Reads Q (f x)) → Reads Q (and_then r f)
then_reads P Q (Ok x) f h k = k x h
then_reads P Q (Err r) f h k = h

either_reads : {A : Type 0} (P : A → Type 0) (b : Bool) (r s : Result A Refusal) → Reads P r
    → Reads P s → Reads P (if b then r else s)
either_reads P true r s h k = h
either_reads P false r s h k = k

abbrev Anything : {A : Type 0} → A → Type 0
Anything x = Unit {0}

some_anything : {A : Type 0} (o : Option A) → IfSome o Anything
some_anything None = tt
some_anything (Some x) = tt

-- Counts.

count_of_is : (d : Document) → IfSome (count_of d) IsCount
count_of_is (whole (pos n)) = go (is_count n) refl
  where
    go : (b : Bool) → b ≡ nat_le n 9007199254740991 → IfSome (if b then Some n else None) IsCount
    go true e = grind (arith, nat_tests, e)
    go false e = tt
count_of_is _ = tt

count_in_is : (d : Document) (name : List ℕ) → IfSome (count_in d name) IsCount
count_in_is d name = go (object_member d name)
  where
    go : (o : Option Document) → IfSome (option_and_then count_of o) IsCount
    go None = tt
    go (Some v) = count_of_is v

optional_count_in_is : (d : Document) (name : List ℕ)
    → IfSome (optional_count_in d name) IsCountOrNull
optional_count_in_is d name = go (object_member d name)
  where
    found : (n : Option ℕ) → IfSome n IsCount → IfSome (option_map Some n) IsCountOrNull
    found None h = tt
    found (Some n) h = h

    go : (o : Option Document) → IfSome (optional_count o) IsCountOrNull
    go None = tt
    go (Some v) = found (count_of v) (count_of_is v)

below_is : (most : ℕ) (o : Option ℕ) → most ≤ count_most → IsBelow most o → IsCountOrNull o
below_is most None few h = tt
below_is most (Some n) few h = omega (arith, few, h)

-- Patches.

patch_refused : (id : ℕ) (fault : PatchFault) → IsCount id → IsBelow REQUEST.ops (place fault)
    → IsRefusal (patch_refusal id fault)
patch_refused id (patch.Shape at) counts h = (counts, below_is REQUEST.ops at (omega arith) h, tt)
patch_refused id (patch.UnknownOp at) counts h =
    (counts, below_is REQUEST.ops (Some at) (omega arith) h, tt)
patch_refused id (patch.Pointer at) counts h =
    (counts, below_is REQUEST.ops (Some at) (omega arith) h, tt)
patch_refused id _ counts h = (counts, tt, tt)

patch_reads : (id : ℕ) (d : Document) → IsCount id
    → Reads (λ ops. length ops ≤ REQUEST.ops) (patch_in id d)
patch_reads id d counts =
    part_reads Anything (λ ops. length ops ≤ REQUEST.ops) (Some id)
    (object_member d (codes "patch")) _ counts (some_anything _)
    (λ p _. go (patch_of REQUEST.ops REQUEST.tokens p)
    (patch_of-length REQUEST.ops REQUEST.tokens p)
    (patch_of-place REQUEST.ops REQUEST.tokens p))
  where
    go : (r : Result (List Op) PatchFault) → IfOk r (λ ops. length ops ≤ REQUEST.ops)
        → IfErr r (λ fault. IsBelow REQUEST.ops (place fault))
        → Reads (λ ops. length ops ≤ REQUEST.ops) (patch_read id r)
    go (Ok ops) h k = h
    go (Err fault) h k = patch_refused id fault counts k

-- Views.

-- the place of the pointer that a fault names, if it names one
abbrev pointer_place : ViewFault → Option ℕ
pointer_place (view.Shape at) = at
pointer_place (view.Pointer at) = Some at
pointer_place _ = None

spelled_names : (n : ℕ) (kind : SlotKind) (s : List ℕ)
    → IfErr (slot_spelled n kind s) (λ fault. pointer_place fault ≡ Some n)
spelled_names n kind s = go (path_of_text s)
  where
    short : (b : Bool) (made : Slot)
        → IfErr (if b then Ok made else Err (view.Pointer n))
        (λ fault. pointer_place fault ≡ Some n)
    short true made = tt
    short false made = refl

    go : (o : Option Path) → IfErr (slot_within n kind o) (λ fault. pointer_place fault ≡ Some n)
    go None = refl
    go (Some path) =
        short (nat_le (length path) MAX_TOKENS) (record { pointer = path; kind = kind })

size_names : (n : ℕ) (o : Option Document)
    → IfErr (size_slot n o) (λ fault. pointer_place fault ≡ Some n)
size_names n (Some (text s)) = spelled_names n Size s
size_names n _ = refl

slot_at_names : (n : ℕ) (d : Document) → IfErr (slot_at n d) (λ fault. pointer_place fault ≡ Some n)
slot_at_names n (text s) = spelled_names n Value s
slot_at_names n (object ms) = size_names n (object_member (object ms) (codes "size"))
slot_at_names n _ = refl

view_of_place : (d : Document)
    → IfErr (view_of d) (λ fault. IsBelow MAX_SLOTS (pointer_place fault))
view_of_place (list ds) = few-place slot_at pointer_place slot_at_names MAX_SLOTS view.TooMany tt ds
view_of_place _ = tt

view_of_length : (d : Document) → IfOk (view_of d) IsShort
view_of_length (list ds) = few-length slot_at MAX_SLOTS view.TooMany ds
view_of_length _ = tt

view_refused : (id : ℕ) (fault : ViewFault) → IsCount id → IsBelow MAX_SLOTS (pointer_place fault)
    → IsRefusal (view_refusal id fault)
view_refused id (view.Shape at) counts h = (counts, below_is MAX_SLOTS at (omega arith) h, tt)
view_refused id (view.Pointer at) counts h =
    (counts, below_is MAX_SLOTS (Some at) (omega arith) h, tt)
view_refused id _ counts h = (counts, tt, tt)

view_reads : (id : ℕ) (d : Document) → IsCount id → Reads IsShort (view_in id d)
view_reads id d counts =
    part_reads Anything IsShort (Some id) (object_member d (codes "view")) _ counts
    (some_anything _) (λ v _. go (view_of v) (view_of_length v) (view_of_place v))
  where
    go : (r : Result View ViewFault) → IfOk r IsShort
        → IfErr r (λ fault. IsBelow MAX_SLOTS (pointer_place fault))
        → Reads IsShort (view_read id r)
    go (Ok pointers) h k = h
    go (Err fault) h k = view_refused id fault counts k

-- Requests.

edit_reads : (id : ℕ) (d : Document) → IsCount id → Reads IsRequest (edit_of id d)
edit_reads id d counts =
    part_reads IsCountOrNull IsRequest (Some id) (optional_count_in d (codes "base")) _ counts
    (optional_count_in_is d (codes "base")) (λ base is_base.
    then_reads (λ ops. length ops ≤ REQUEST.ops) IsRequest (patch_in id d) _
    (patch_reads id d counts) (λ ops short. (counts, is_base, short)))

light_will_reads : (id : ℕ) (ops : List Op) → IsCount id → length ops ≤ REQUEST.ops
    → Reads IsRequest (light_will id ops)
light_will_reads id ops counts short =
    either_reads IsRequest (is_some (paid (ops_weight ops) (Left MAX_WILL_WEIGHT)))
    (Ok (Will id ops)) (Err (refusal TooHeavy (Some id) None)) (counts, short) (counts, tt, tt)

will_reads : (id : ℕ) (d : Document) → IsCount id → Reads IsRequest (will_of id d)
will_reads id d counts =
    either_reads IsRequest (is_some (object_member d (codes "base")))
    (Err (refusal Shape (Some id) None)) (and_then (patch_in id d) (light_will id)) (counts, tt, tt)
    (then_reads (λ ops. length ops ≤ REQUEST.ops) IsRequest (patch_in id d) (light_will id)
    (patch_reads id d counts) (λ ops. light_will_reads id ops counts))

resume_reads : (id : ℕ) (d : Document) → IsCount id → Reads IsRequest (resume_of id d)
resume_reads id d counts =
    part_reads IsCount IsRequest (Some id) (count_in d (codes "epoch")) _ counts
    (count_in_is d (codes "epoch")) (λ epoch is_epoch.
    part_reads IsCount IsRequest (Some id) (count_in d (codes "rev")) _ counts
    (count_in_is d (codes "rev")) (λ rev is_rev.
    then_reads IsShort IsRequest (view_in id d) _ (view_reads id d counts)
    (λ v few. (counts, is_epoch, is_rev, few))))

asked_reads : (name : List ℕ) (id : ℕ) (d : Document) → IsCount id
    → Reads IsRequest (asked name id d)
asked_reads name id d counts =
    either_reads IsRequest (bytes_eq name (codes "edit")) _ _ (edit_reads id d counts)
    (either_reads IsRequest (bytes_eq name (codes "will")) _ _ (will_reads id d counts)
    (either_reads IsRequest (bytes_eq name (codes "watch")) _ _
    (then_reads IsShort IsRequest (view_in id d) _ (view_reads id d counts)
    (λ v few. (counts, few)))
    (either_reads IsRequest (bytes_eq name (codes "resume")) _ _ (resume_reads id d counts)
    (either_reads IsRequest (bytes_eq name (codes "unwatch")) _ _ counts (counts, tt, tt)))))

request_reads : (d : Document) → Reads IsRequest (request_of d)
request_reads d =
    part_reads IsCount IsRequest None (count_in d (codes "id")) _ tt (count_in_is d (codes "id"))
    (λ id counts.
    part_reads Anything IsRequest (Some id) (text_in d (codes "do")) _ counts (some_anything _)
    (λ name _. asked_reads name id d counts))

text_reads : (s : List ℕ) → Reads IsRequest (request_of_text s)
text_reads s =
    either_reads IsRequest (nat_lt MAX_REQUEST (length s)) _ _ (tt, tt, tt)
    (data_reads (json.read s))
  where
    tree_reads : (d : Option Document) → Reads IsRequest (request_of_tree d)
    tree_reads None = (tt, tt, tt)
    tree_reads (Some d) = request_reads d

    data_reads : (value : Option Data) → Reads IsRequest (request_of_json value)
    data_reads None = (tt, tt, tt)
    data_reads (Some value) = tree_reads (tree_of value)

pub request_counts : (s : List ℕ) (request : Request) → request_of_text s ≡ Ok request
    → IsRequest request
request_counts s request h = subst (Reads IsRequest) h (text_reads s)

pub refusal_counts : (s : List ℕ) (r : Refusal) → request_of_text s ≡ Err r → IsRefusal r
refusal_counts s r h = subst (Reads IsRequest) h (text_reads s)
