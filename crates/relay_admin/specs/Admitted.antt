-- Accepted requests, in HTTP's terms (RFC 9110, sections 7.2 and 9; RFC 6454, section 7).
use Rattle.std.specs.Prelude.{◌≡◌, ◌≤◌, ◌↔◌, ⊤, ℕ, IsTrue, false, List, ◌++◌, length, codes, Some}
use Rattle.std.specs.Prelude.{None, map}
use Rattle.httparse.specs.Grammar.{RequestHead, ReadsRequest}
use Rattle.httparse.specs.Spans.{name_and_value}
use Rattle.relay_http_head.specs.Head.{Fields, only_value, has_field}
use Rattle.relay_admin.specs.Conditions.{listed}
use Rattle.relay_admin.specs.Edits.{is_json_patch, number_of}
use Rattle.relay_admin.specs.Host.{is_loopback}
use Rattle.relay_admin.specs.Judged.{verdict_told}
use Rattle.relay_admin.specs.Query.{path_of, query_of, pointer_in}
use Rattle.relay_admin.specs.Route.{target_of, method_of, Asked, request, forget, part, edit, admit}
use Rattle.relay_admin.specs.Route.{exclude}
use Rattle.relay_admin.specs.Verdict.{accept, window}
use Rattle.relay_admin.specs.declared.answer.Ask.{Ask}
use Rattle.relay_admin.specs.declared.checks.TheConstants.{MAX_FIELDS}
use Rattle.relay_admin.specs.declared.room.edit.TheConstants.{MAX_BODY}

-- the fields of a head, by name and value
abbrev pub fields_of : RequestHead → Fields
fields_of head = map name_and_value head.fields

-- a value that passes a test is in the one field with a name
abbrev pub HasOne : List ℕ → Fields → (List ℕ → Type 0) → Type 0
HasOne name fields P =
    (value : List ℕ) × (only_value name fields ≡ Some value) × P value

abbrev pub asked_method : Asked → List ℕ
asked_method (request r) = method_of r
asked_method (forget room) = codes "DELETE"
asked_method (part room at tags) = codes "GET"
asked_method (edit room tags length) = codes "PATCH"
asked_method (admit room) = codes "PUT"
asked_method (exclude room) = codes "DELETE"

-- of a part the target's path is the room's, and its query names the pointer; a room that is
-- forgotten, admitted or excluded has the whole rest of the target as its name
abbrev pub HasTarget : Asked → List ℕ → Type 0
HasTarget (request r) target = target ≡ target_of r
HasTarget (forget room) target = target ≡ codes "/rooms/" ++ room
HasTarget (part room at tags) target =
    (name : List ℕ) × (target ≡ codes "/rooms/" ++ name) × (room ≡ path_of name)
    × (pointer_in (query_of name) ≡ Some at)
HasTarget (edit room tags length) target =
    (target ≡ codes "/rooms/" ++ room) × (query_of room ≡ None)
HasTarget (admit room) target = target ≡ codes "/open/" ++ room
HasTarget (exclude room) target = target ≡ codes "/open/" ++ room

-- the fields of an edit: a JSON Patch whose length is told beforehand and short enough, and nothing
-- that is expected first
pub record IsPatch (fields : Fields) (length : ℕ) : Type 0 where
  pub no_expectation : has_field (codes "Expect") fields ≡ false
  pub kind : HasOne (codes "Content-Type") fields (λ value. IsTrue (is_json_patch value))
  pub no_coding : has_field (codes "Transfer-Encoding") fields ≡ false
  pub size : HasOne (codes "Content-Length") fields (λ value. number_of value ≡ Some length)
  pub short : length ≤ MAX_BODY

abbrev pub HasFields : Asked → Fields → Type 0
HasFields (request r) fields = ⊤
HasFields (forget room) fields = ⊤
HasFields (part room at tags) fields = tags ≡ listed (codes "If-None-Match") fields
HasFields (edit room tags length) fields =
    IsPatch fields length × (tags ≡ listed (codes "If-Match") fields)
HasFields (admit room) fields = ⊤
HasFields (exclude room) fields = ⊤

-- a head that asks for this; a page in a browser can have sent it only as a GET whose answer the
-- page cannot read
pub record IsAdmitted (head : RequestHead) (asked : Asked) : Type 0 where
  pub target : HasTarget asked head.target
  pub method : head.method ≡ asked_method asked
  pub fields : HasFields asked (fields_of head)
  pub few : length (fields_of head) ≤ MAX_FIELDS
  -- one host, which is this machine under one of its own names
  pub host : HasOne (codes "Host") (fields_of head) (λ value. IsTrue (is_loopback value))
  -- no page is named as the one that asks
  pub no_origin : has_field (codes "Origin") (fields_of head) ≡ false

-- if the bytes begin with a head: the answer is what is asked exactly if the head is one that is
-- admitted
abbrev pub AdmitsExactly : List ℕ → Ask → Type 0
AdmitsExactly bytes answer =
    (head : RequestHead) (rest : List ℕ) (asked : Asked) → ReadsRequest (window bytes) head rest
    → (verdict_told answer ≡ accept asked) ↔ IsAdmitted head asked
