-- The requests that are accepted.
use Rattle.std.proofs.Common.{◌≡◌, ℕ, Bool, true, false, not, IsTrue, List, [], ◌∷◌, ◌++◌, ◌&&◌}
use Rattle.std.proofs.Common.{◌||◌, ◌==◌, length, codes, bytes_eq, nat_le, Option, Some, None}
use Rattle.std.proofs.Common.{is_some, is_none, Result, Ok, Err, refl, sym, ◌∙◌, ap, subst, arith}
use Rattle.std.proofs.Common.{if◌then◌else◌, option_and_then}
use Rattle.std.proofs.lemmas.Bool.{eqb-true}
use Rattle.std.proofs.lemmas.Bool.Decides.{nat_tests}
use Rattle.std.proofs.lemmas.Slice.Eq.{bytes_eq-Decides}
use Rattle.httparse.specs.Grammar.{RequestHead}
use Rattle.relay_http_head.specs.Checks.{first_failed}
use Rattle.relay_http_head.specs.Head.{Fields, count_of, first_value, only_value, has_field, kept}
use Rattle.relay_http_head.specs.Parsing.{Parts, parts_of}
use Rattle.relay_admin.specs.Admitted.{IsAdmitted, AdmitsExactly, fields_of, asked_method}
use Rattle.relay_admin.specs.Admitted.{HasTarget, HasFields, IsPatch}
use Rattle.relay_admin.specs.Asked.{AnswersHead}
use Rattle.relay_admin.specs.Conditions.{listed}
use Rattle.relay_admin.specs.Edits.{is_json_patch, number_of, length_of, is_short, length_checks}
use Rattle.relay_admin.specs.Edits.{length_by, length_asked, edit_checks}
use Rattle.relay_admin.specs.Host.{is_loopback}
use Rattle.relay_admin.specs.Query.{path_of, query_of, pointer_in}
use Rattle.relay_admin.specs.Cut.{behind}
use Rattle.relay_admin.proofs.Prefixes.{behind_is}
use Rattle.relay_admin.specs.Route.{Asked, request, forget, part, edit, admit, exclude, target_of}
use Rattle.relay_admin.specs.Route.{method_of, request_at, Place, at_path, at_room, at_door}
use Rattle.relay_admin.specs.Route.{named_by, place_by, place_at, takes}
use Rattle.relay_admin.specs.Verdict.{Judged, accept, checks, placed_by, placed, part_by}
use Rattle.relay_admin.specs.Verdict.{part_asked, edit_by, edit_asked, room_asked, door_asked}
use Rattle.relay_admin.specs.Verdict.{asked_at, verdict_by, verdict_of, has_method}
use Rattle.relay_admin.specs.declared.answer.Ask.{Ask}
use Rattle.relay_admin.specs.declared.checks.TheConstants.{MAX_FIELDS}
use Rattle.relay_admin.specs.declared.room.edit.TheConstants.{MAX_BODY}
use Rattle.relay_admin.specs.declared.admin_fault.AdminFault.{AdminFault}
use Rattle.relay_admin.specs.declared.request.AdminRequest.{AdminRequest}
use Rattle.relay_admin.specs.declared.request.AdminRequest.TheVariants.{Health, Metrics, Rooms}
use Rattle.relay_admin.specs.declared.request.AdminRequest.TheVariants.{Wanted, Open, Stop}

-- each check passes
abbrev pub Passed : List (Bool × AdminFault) → Type 0
Passed [] = Unit {0}
Passed (check ∷ later) = (check.0 ≡ true) × Passed later

all_passed : (list : List (Bool × AdminFault)) → first_failed list ≡ None → Passed list
all_passed [] none = tt
all_passed ((true, refusal) ∷ later) none = (refl, all_passed later none)
all_passed ((false, refusal) ∷ later) none = absurd (cc)

none_failed : (list : List (Bool × AdminFault)) → Passed list → first_failed list ≡ None
none_failed [] passed = refl
none_failed ((true, refusal) ∷ later) passed = none_failed later passed.1
none_failed ((false, refusal) ∷ later) passed = absurd (cc passed.0)

-- a verdict that accepts
accepted : (judged : Judged) (asked : Asked) → verdict_by judged ≡ accept asked
    → judged ≡ Ok asked
accepted (Ok other) asked e = cc
accepted (Err refusal) asked e = absurd (cc)

-- a place that was found, and no check failed
placed_is : (failed : Option AdminFault) (found : Option Place) (place : Place)
    → placed_by failed found ≡ Ok place → (failed ≡ None) × (found ≡ Some place)
placed_is (Some refusal) found place e = absurd (cc)
placed_is None (Some other) place e = (refl, cc)
placed_is None None place e = absurd (cc)

-- something is asked only at a place
at_place : (found : Result Place AdminFault) (method : List ℕ) (fields : Fields) (asked : Asked)
    → asked_at found method fields ≡ Ok asked
    → (place : Place) × (found ≡ Ok place) × (asked_at (Ok place) method fields ≡ Ok asked)
at_place (Ok place) method fields asked e = (place, refl, e)
at_place (Err refusal) method fields asked e = absurd (cc e)

-- the target of a request finds it
path_found : (r : AdminRequest) → place_at (target_of r) ≡ Some (at_path r)
path_found Health = refl
path_found Metrics = refl
path_found Rooms = refl
path_found Wanted = refl
path_found Open = refl
path_found Stop = refl

-- and that of a room the room
room_found : (name : List ℕ) → place_at (codes "/rooms/" ++ name) ≡ Some (at_room name)
room_found name = refl

-- and that of a door the door
door_found : (name : List ℕ) → place_at (codes "/open/" ++ name) ≡ Some (at_door name)
door_found name = refl

-- and no other
target_at : (target : List ℕ) (r : AdminRequest) → request_at target ≡ Some r → target ≡ target_of r
target_at target r e =
    by_test (bytes_eq target (target_of Health)) (bytes_eq target (target_of Metrics))
    (bytes_eq target (target_of Open)) (bytes_eq target (target_of Rooms))
    (bytes_eq target (target_of Stop)) (bytes_eq target (target_of Wanted))
    (λ t. (bytes_eq-Decides target (target_of Health)).0 t) (λ t.
    (bytes_eq-Decides target (target_of Metrics)).0 t) (λ t.
    (bytes_eq-Decides target (target_of Open)).0 t) (λ t.
    (bytes_eq-Decides target (target_of Rooms)).0 t) (λ t.
    (bytes_eq-Decides target (target_of Stop)).0 t) (λ t.
    (bytes_eq-Decides target (target_of Wanted)).0 t) e
  where
    by_test : (a b c d f g : Bool) → (a ≡ true → target ≡ target_of Health)
        → (b ≡ true → target ≡ target_of Metrics) → (c ≡ true → target ≡ target_of Open)
        → (d ≡ true → target ≡ target_of Rooms) → (f ≡ true → target ≡ target_of Stop)
        → (g ≡ true → target ≡ target_of Wanted)
        → (if a then Some Health else if b then Some Metrics else if c then Some Open
        else if d then Some Rooms else if f then Some Stop else if g then Some Wanted
        else None) ≡ Some r
        → target ≡ target_of r
    by_test true b c d f g p q u s t w e = let same : Health ≡ r = cc in p refl ∙ ap target_of same
    by_test false true c d f g p q u s t w e =
        let same : Metrics ≡ r = cc in q refl ∙ ap target_of same
    by_test false false true d f g p q u s t w e =
        let same : Open ≡ r = cc in u refl ∙ ap target_of same
    by_test false false false true f g p q u s t w e =
        let same : Rooms ≡ r = cc in s refl ∙ ap target_of same
    by_test false false false false true g p q u s t w e =
        let same : Stop ≡ r = cc in t refl ∙ ap target_of same
    by_test false false false false false true p q u s t w e =
        let same : Wanted ≡ r = cc in w refl ∙ ap target_of same
    by_test false false false false false false p q u s t w e = absurd (cc)

-- a place is found only by its target
path_there : (target : List ℕ) (found : Option AdminRequest) (r : AdminRequest)
    → request_at target ≡ found
    → place_by found target ≡ Some (at_path r) → target ≡ target_of r
path_there target (Some other) r at e =
    let same : other ≡ r = cc e in target_at target other at ∙ ap target_of same
path_there target None r at e =
    absurd (by_rests (behind (codes "/rooms/") target) (behind (codes "/open/") target) e)
  where
    by_rests : (room door : Option (List ℕ)) → named_by room door ≡ Some (at_path r) → ⊥
    by_rests (Some name) door e = cc e
    by_rests None (Some name) e = cc e
    by_rests None None e = cc e

room_there : (target : List ℕ) (found : Option AdminRequest) (name : List ℕ)
    → place_by found target ≡ Some (at_room name) → target ≡ codes "/rooms/" ++ name
room_there target (Some other) name e = absurd (cc e)
room_there target None name e =
    by_rests (behind (codes "/rooms/") target) (behind (codes "/open/") target) refl e
  where
    by_rests : (room door : Option (List ℕ)) → behind (codes "/rooms/") target ≡ room
        → named_by room door ≡ Some (at_room name) → target ≡ codes "/rooms/" ++ name
    by_rests (Some other) door b e =
        let same : other ≡ name = cc e in
        behind_is (codes "/rooms/") target other b ∙ ap (λ n. codes "/rooms/" ++ n) same
    by_rests None (Some other) b e = absurd (cc e)
    by_rests None None b e = absurd (cc e)

door_there : (target : List ℕ) (found : Option AdminRequest) (name : List ℕ)
    → place_by found target ≡ Some (at_door name) → target ≡ codes "/open/" ++ name
door_there target (Some other) name e = absurd (cc e)
door_there target None name e =
    by_rests (behind (codes "/rooms/") target) (behind (codes "/open/") target) refl e
  where
    by_rests : (room door : Option (List ℕ)) → behind (codes "/open/") target ≡ door
        → named_by room door ≡ Some (at_door name) → target ≡ codes "/open/" ++ name
    by_rests (Some other) door b e = absurd (cc e)
    by_rests None (Some other) b e =
        let same : other ≡ name = cc e in
        behind_is (codes "/open/") target other b ∙ ap (λ n. codes "/open/" ++ n) same
    by_rests None None b e = absurd (cc e)

-- a value that passes a test is there
from_kept : (test : List ℕ → Bool) (o : Option (List ℕ)) → is_some (kept test o) ≡ true
    → (value : List ℕ) × (o ≡ Some value) × IsTrue (test value)
from_kept test None e = absurd (cc)
from_kept test (Some value) e = (value, refl, by_test (test value) e)
  where
    by_test : (t : Bool) → is_some (if t then Some value else None) ≡ true → IsTrue t
    by_test true e = refl
    by_test false e = absurd (cc)

to_kept : (test : List ℕ → Bool) (o : Option (List ℕ)) (value : List ℕ) → o ≡ Some value
    → IsTrue (test value) → is_some (kept test o) ≡ true
to_kept test o value there passes = rw (there, passes) refl

from_not : (b : Bool) → not b ≡ true → b ≡ false
from_not true e = absurd (cc)
from_not false e = refl

from_none : {A : Type 0} (o : Option A) → is_none o ≡ true → o ≡ None
from_none None e = refl
from_none (Some x) e = absurd (cc)

-- the length of a body
length_found : (fields : Fields) (o : Option (List ℕ)) (length : ℕ)
    → option_and_then number_of o ≡ Some length
    → (value : List ℕ) × (o ≡ Some value) × (number_of value ≡ Some length)
length_found fields None length e = absurd (cc e)
length_found fields (Some value) length e = (value, refl, e)

length_is : (failed : Option AdminFault) (o : Option ℕ) (length : ℕ)
    → length_by failed o ≡ Ok length → (failed ≡ None) × (o ≡ Some length)
length_is (Some refusal) o length e = absurd (cc)
length_is None (Some other) length e = (refl, cc)
length_is None None length e = absurd (cc)

both : (a b : Bool) → (a && b) ≡ true → (a ≡ true) × (b ≡ true)
both true b e = (refl, e)
both false b e = absurd (cc)

-- what is there exactly once is there
has_only : (name : List ℕ) (fields : Fields) (value : List ℕ)
    → only_value name fields ≡ Some value → has_field name fields ≡ true
has_only name fields value e = by_test (count_of name fields == 1) refl e
  where
    by_test : (test : Bool) → test ≡ (count_of name fields == 1)
        → (if test then first_value name fields else None) ≡ Some value
        → has_field name fields ≡ true
    by_test true one e =
        ap (λ n. not (n == 0)) (eqb-true (count_of name fields) 1 (sym one))
    by_test false one e = absurd (cc e)

-- an edit that passed its checks is a patch
is_patch : (name : List ℕ) (fields : Fields) (length : ℕ)
    → first_failed (edit_checks name fields) ≡ None → length_asked fields ≡ Ok length
    → (query_of name ≡ None) × IsPatch fields length
is_patch name fields length none e =
    let (query, (expect, (kind, _))) = all_passed (edit_checks name fields) none in
    let (passed, found) = length_is _ _ length e in
    let (coded, (some, (short, _))) = all_passed (length_checks fields) passed in
    let short' : nat_le length MAX_BODY ≡ true = ap is_short (sym found) ∙ short in (
      from_none _ query,
      record {
        no_expectation = from_not _ expect;
        kind = from_kept is_json_patch _ kind;
        no_coding = from_not _ (both _ _ coded).0;
        size = length_found fields _ length found;
        short = grind (arith, nat_tests, short');
      },
    )

-- and a patch passes them
passes_length : (fields : Fields) (length : ℕ) → IsPatch fields length
    → length_asked fields ≡ Ok length
passes_length fields length is =
    let found : length_of fields ≡ Some length =
    ap (option_and_then number_of) is.size.1 ∙ is.size.2 in
    let coded : (not (has_field (codes "Transfer-Encoding") fields)
    && has_field (codes "Content-Length") fields) ≡ true =
    ap (λ b. not b && has_field (codes "Content-Length") fields) is.no_coding
    ∙ has_only (codes "Content-Length") fields is.size.0 is.size.1 in
    let fits : nat_le length MAX_BODY ≡ true = grind (arith, nat_tests, is.short) in
    let short : is_short (length_of fields) ≡ true = ap is_short found ∙ fits in
    let none = none_failed (length_checks fields) (coded, (ap is_some found, (short, tt))) in
    ap (λ failed. length_by failed (length_of fields)) none ∙ ap (length_by None) found

passes_edit : (name : List ℕ) (fields : Fields) (length : ℕ) → query_of name ≡ None
    → IsPatch fields length → first_failed (edit_checks name fields) ≡ None
passes_edit name fields length query is =
    none_failed (edit_checks name fields) (
      ap is_none query,
      (
        ap not is.no_expectation,
        (to_kept is_json_patch _ is.kind.0 is.kind.1 is.kind.2, tt),
      ),
    )

-- what a head has by its target, method and fields
abbrev Asks : List ℕ → List ℕ → Fields → Asked → Type 0
Asks target method fields asked =
    HasTarget asked target × (method ≡ asked_method asked) × HasFields asked fields

-- what is asked of a room has its target, method and fields
part_asks : (name target method : List ℕ) (fields : Fields) (asked : Asked)
    → target ≡ codes "/rooms/" ++ name → method ≡ codes "GET" → (at : Option (List ℕ))
    → pointer_in (query_of name) ≡ at → part_by at name fields ≡ Ok asked
    → Asks target method fields asked
part_asks name target method fields asked there get None at e = absurd (cc e)
part_asks name target method fields asked there get (Some pointer) at e =
    let same : part (path_of name) pointer (listed (codes "If-None-Match") fields) ≡ asked = cc e in
    subst (Asks target method fields) same ((name, there, refl, at), get, refl)

edit_asks : (name target method : List ℕ) (fields : Fields) (asked : Asked)
    → target ≡ codes "/rooms/" ++ name → method ≡ codes "PATCH" → (failed : Option AdminFault)
    → first_failed (edit_checks name fields) ≡ failed → (size : Result ℕ AdminFault)
    → length_asked fields ≡ size → edit_by failed size name fields ≡ Ok asked
    → Asks target method fields asked
edit_asks name target method fields asked there patch (Some refusal) f size l e = absurd (cc e)
edit_asks name target method fields asked there patch None f (Err refusal) l e = absurd (cc e)
edit_asks name target method fields asked there patch None f (Ok size) l e =
    let same : edit name (listed (codes "If-Match") fields) size ≡ asked = cc e in
    let (query, is) = is_patch name fields size f l in
    subst (Asks target method fields) same ((there, query), patch, (is, refl))

room_asks : (name target method : List ℕ) (fields : Fields) (asked : Asked)
    → target ≡ codes "/rooms/" ++ name → takes method (at_room name) ≡ true
    → room_asked name method fields ≡ Ok asked → Asks target method fields asked
room_asks name target method fields asked there taken e =
    by_method (bytes_eq method (codes "GET")) (bytes_eq method (codes "PATCH"))
    (λ t. (bytes_eq-Decides method (codes "GET")).0 t) (λ t.
    (bytes_eq-Decides method (codes "PATCH")).0 t) taken e
  where
    by_method : (get patch : Bool) → (get ≡ true → method ≡ codes "GET")
        → (patch ≡ true → method ≡ codes "PATCH")
        → (get || patch || bytes_eq method (codes "DELETE")) ≡ true
        → (if get then part_asked name fields else if patch then edit_asked name fields
        else Ok (forget name)) ≡ Ok asked → Asks target method fields asked
    by_method true patch g p taken e =
        part_asks name target method fields asked there (g refl) _ refl e
    by_method false true g p taken e =
        edit_asks name target method fields asked there (p refl) _ refl _ refl e
    by_method false false g p taken e =
        let same : forget name ≡ asked = cc e in
        subst (Asks target method fields) same (
          there,
          (bytes_eq-Decides method (codes "DELETE")).0 taken,
          tt,
        )

-- and what is asked of the door of one
door_asks : (name target method : List ℕ) (fields : Fields) (asked : Asked)
    → target ≡ codes "/open/" ++ name → takes method (at_door name) ≡ true
    → door_asked name method ≡ asked → Asks target method fields asked
door_asks name target method fields asked there taken e =
    subst (Asks target method fields) e
    (by_method (bytes_eq method (codes "PUT"))
    (λ t. (bytes_eq-Decides method (codes "PUT")).0 t) taken)
  where
    by_method : (put : Bool) → (put ≡ true → method ≡ codes "PUT")
        → (put || bytes_eq method (codes "DELETE")) ≡ true
        → Asks target method fields (if put then admit name else exclude name)
    by_method true p taken = (there, p refl, tt)
    by_method false p taken = (there, (bytes_eq-Decides method (codes "DELETE")).0 taken, tt)

-- what is asked at a place has its target, method and fields
place_asks : (place : Place) (head : Parts) (asked : Asked) → place_at head.target ≡ Some place
    → takes head.method place ≡ true → asked_at (Ok place) head.method head.fields ≡ Ok asked
    → Asks head.target head.method head.fields asked
place_asks (at_path r) head asked at taken e =
    let same : request r ≡ asked = cc e in
    subst (Asks head.target head.method head.fields) same (
      path_there head.target (request_at head.target) r refl at,
      (bytes_eq-Decides head.method (method_of r)).0 taken,
      tt,
    )
place_asks (at_room name) head asked at taken e =
    room_asks name head.target head.method head.fields asked
    (room_there head.target (request_at head.target) name at) taken e
place_asks (at_door name) head asked at taken e =
    door_asks name head.target head.method head.fields asked
    (door_there head.target (request_at head.target) name at) taken (cc e)

-- a place at which this is asked
abbrev IsAskedAt : Parts → Asked → Type 0
IsAskedAt head asked =
    (place : Place) × (place_at head.target ≡ Some place) × (takes head.method place ≡ true)
    × (asked_at (Ok place) head.method head.fields ≡ Ok asked)

-- what has its target, method and fields is asked at a place
asks_place : (head : Parts) (asked : Asked) → HasTarget asked head.target
    → head.method ≡ asked_method asked → HasFields asked head.fields → IsAskedAt head asked
asks_place head (request r) target method fields = (
  at_path r,
  ap place_at target ∙ path_found r,
  (bytes_eq-Decides head.method (method_of r)).1 method,
  refl,
)
asks_place head (forget room) target method fields = (
  at_room room,
  ap place_at target ∙ room_found room,
  ap (λ m. takes m (at_room room)) method,
  ap (λ m. room_asked room m head.fields) method,
)
asks_place head (part room at tags) (name, target, path, pointer) method fields = (
  at_room name,
  ap place_at target ∙ room_found name,
  ap (λ m. takes m (at_room name)) method,
  ap (λ m. room_asked name m head.fields) method
      ∙ ap (λ o. part_by o name head.fields) pointer
      ∙ ap (λ r. Ok (part r at (listed (codes "If-None-Match") head.fields))) (sym path)
      ∙ ap (λ l. Ok (part room at l)) (sym fields),
)
asks_place head (edit room tags size) (target, query) method (is, fields) = (
  at_room room,
  ap place_at target ∙ room_found room,
  ap (λ m. takes m (at_room room)) method,
  ap (λ m. room_asked room m head.fields) method
      ∙ ap (λ f. edit_by f (length_asked head.fields) room head.fields)
      (passes_edit room head.fields size query is)
      ∙ ap (λ l. edit_by None l room head.fields) (passes_length head.fields size is)
      ∙ ap (λ l. Ok (edit room l size)) (sym fields),
)
asks_place head (admit room) target method fields = (
  at_door room,
  ap place_at target ∙ door_found room,
  ap (λ m. takes m (at_door room)) method,
  ap (λ m. Ok (door_asked room m)) method,
)
asks_place head (exclude room) target method fields = (
  at_door room,
  ap place_at target ∙ door_found room,
  ap (λ m. takes m (at_door room)) method,
  ap (λ m. Ok (door_asked room m)) method,
)

-- an accepted head is admitted
is_admitted : (head : RequestHead) (asked : Asked) → verdict_of head ≡ accept asked
    → IsAdmitted head asked
is_admitted head asked e =
    let parts = parts_of head [] in
    let (place, there, asks) =
    at_place (placed parts) parts.method parts.fields asked (accepted _ asked e) in
    let (none, at) = placed_is _ _ place there in
    let (few, (one, (host, (origin, (path, (method, _)))))) = all_passed (checks parts) none in
    let taken : takes head.method place ≡ true =
    subst (λ o. has_method head.method o ≡ true) at method in
    let (target, by, fields) = place_asks place parts asked at taken asks in
    record {
      target = target;
      method = by;
      fields = fields;
      few = grind (arith, nat_tests, few);
      host = from_kept is_loopback _ host;
      no_origin = from_not _ origin;
    }

-- an admitted head is accepted
is_accepted : (head : RequestHead) (asked : Asked) → IsAdmitted head asked
    → verdict_of head ≡ accept asked
is_accepted head asked is =
    let parts = parts_of head [] in
    let (place, at, taken, asks) = asks_place parts asked is.target is.method is.fields in
    let few : nat_le (length (fields_of head)) MAX_FIELDS ≡ true =
    grind (arith, nat_tests, is.few) in
    let one : is_some (only_value (codes "Host") (fields_of head)) ≡ true = ap is_some is.host.1 in
    let host = to_kept is_loopback _ is.host.0 is.host.1 is.host.2 in
    let origin : not (has_field (codes "Origin") (fields_of head)) ≡ true = ap not is.no_origin in
    let path : is_some (place_at head.target) ≡ true = ap is_some at in
    let method : has_method head.method (place_at head.target) ≡ true =
    ap (has_method head.method) at ∙ taken in
    let none = none_failed (checks parts) (few, (one, (host, (origin, (path, (method, tt)))))) in
    let there : placed parts ≡ Ok place =
    ap (λ failed. placed_by failed (place_at head.target)) none ∙ ap (placed_by None) at in
    ap verdict_by (ap (λ found. asked_at found parts.method parts.fields) there ∙ asks)

-- if each head gets its verdict, the accepted are the admitted
pub admits_exactly : (bytes : List ℕ) (answer : Ask) → AnswersHead bytes answer
    → AdmitsExactly bytes answer
admits_exactly bytes answer answers head rest asked reads = (
  λ e. is_admitted head asked (sym (answers head rest reads) ∙ e),
  λ is.
      answers head rest reads ∙ is_accepted head asked is,
)
