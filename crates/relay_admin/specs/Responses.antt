-- The bytes of the responses (RFC 9112, section 4).
use Rattle.std.specs.Prelude.{ℕ, Bool, true, false, if◌then◌else◌, List, [], ◌++◌, length, codes}
use Rattle.std.specs.Prelude.{decimal, Option, Some, None}
use Rattle.http.specs.StatusCode.{status_text}
use Rattle.relay_admin.specs.AdminFaults as refusal
use Rattle.relay_admin.specs.Conditions.{tag_text}
use Rattle.relay_admin.specs.declared.response.Response.{Response}
use Rattle.relay_admin.specs.declared.response.Response.TheVariants.{Healthy, Unhealthy, Metrics}
use Rattle.relay_admin.specs.declared.response.Response.TheVariants.{Rooms, Wanted, Opened}
use Rattle.relay_admin.specs.declared.response.Response.TheVariants.{Admitted, Excluded, Open}
use Rattle.relay_admin.specs.declared.response.Response.TheVariants.{Stopping, Forgotten}
use Rattle.relay_admin.specs.declared.response.Response.TheVariants.{NotForgotten, Part}
use Rattle.relay_admin.specs.declared.response.Response.TheVariants.{NotModified, Edited, NoRoom}
use Rattle.relay_admin.specs.declared.response.Response.TheVariants.{NoValue, OtherRevision}
use Rattle.relay_admin.specs.declared.response.Response.TheVariants.{Malformed, Unprocessable}
use Rattle.relay_admin.specs.declared.response.Response.TheVariants.{Unavailable, Refused}
use Rattle.relay_admin.specs.declared.room.revision_tag.RevisionTag.{RevisionTag}

abbrev pub status_of : Response → ℕ
status_of Healthy = 200
status_of (Unhealthy why) = 503
status_of (Metrics text) = 200
status_of (Rooms text) = 200
status_of (Wanted text) = 200
status_of Opened = 204
status_of Admitted = 204
status_of Excluded = 204
status_of Open = 409
status_of Stopping = 202
status_of Forgotten = 204
status_of (NotForgotten why) = refusal.kept_status why
status_of (Part tag value) = 200
status_of (NotModified tag) = 304
status_of (Edited tag reply) = 200
status_of NoRoom = 404
status_of NoValue = 404
status_of (OtherRevision tag) = 412
status_of (Malformed reply) = 400
status_of (Unprocessable reply) = 422
status_of (Unavailable why) = 503
status_of (Refused why) = refusal.status_of why

abbrev pub kind_of : Response → List ℕ
kind_of (Metrics text) = codes "text/plain; version=0.0.4; charset=utf-8"
kind_of (Rooms text) = codes "application/json"
kind_of (Wanted text) = codes "application/json"
kind_of (Part tag value) = codes "application/json"
kind_of (Edited tag reply) = codes "application/json"
kind_of (Malformed reply) = codes "application/json"
kind_of (Unprocessable reply) = codes "application/json"
kind_of _ = codes "text/plain; charset=utf-8"

-- the revision that it speaks of
abbrev pub tag_of : Response → Option RevisionTag
tag_of (Part tag value) = Some tag
tag_of (NotModified tag) = Some tag
tag_of (Edited tag reply) = Some tag
tag_of (OtherRevision tag) = Some tag
tag_of _ = None

-- the fields that only some responses have, as lines: of those without a tag ..
abbrev pub line_of : Response → List ℕ
line_of (Unavailable why) = codes "Retry-After: 1\r\n"
line_of (Refused why) = refusal.line_of why
line_of _ = []

-- .. and the tag (RFC 9110, section 8.8.3)
abbrev pub tag_line : Option RevisionTag → List ℕ → List ℕ
tag_line (Some tag) other = codes "ETag: " ++ (tag_text tag ++ codes "\r\n")
tag_line None other = other

abbrev pub lines_of : Response → List ℕ
lines_of reply = tag_line (tag_of reply) (line_of reply)

abbrev pub body_of : Response → List ℕ
body_of Healthy = codes "ok\n"
body_of (Unhealthy why) = why.now
body_of (Metrics text) = text.now
body_of (Rooms text) = text.now
body_of (Wanted text) = text.now
body_of Opened = []
body_of Admitted = []
body_of Excluded = []
body_of Open = codes "the relay is open\n"
body_of Stopping = codes "stopping\n"
body_of Forgotten = []
body_of (NotForgotten why) = refusal.kept_why why
body_of (Part tag value) = value.now
body_of (NotModified tag) = []
body_of (Edited tag reply) = reply.now
body_of NoRoom = codes "there is no such room\n"
body_of NoValue = codes "there is no such value\n"
body_of (OtherRevision tag) = codes "the room is at another revision\n"
body_of (Malformed reply) = reply.now
body_of (Unprocessable reply) = reply.now
body_of (Unavailable why) = refusal.unavailable_why why
body_of (Refused why) = refusal.why_of why

-- whether it has content: a 204 and a 304 have none, and so no length (RFC 9110, sections 8.6,
-- 15.3.5 and 15.4.5)
abbrev pub has_content : Response → Bool
has_content Opened = false
has_content Admitted = false
has_content Excluded = false
has_content Forgotten = false
has_content (NotModified tag) = false
has_content _ = true

-- what all responses end their fields with
abbrev pub last_lines : List ℕ
last_lines =
    codes "Cache-Control: no-store\r\nX-Content-Type-Options: nosniff\r\nConnection: close\r\n\r\n"

-- a response without content
abbrev pub bare_text : Response → List ℕ
bare_text reply =
    codes "HTTP/1.1 " ++ (status_text (status_of reply)
    ++ (codes "\r\n" ++ (lines_of reply ++ last_lines)))

-- the status line, the fields and the body
abbrev pub content_by : ℕ → List ℕ → List ℕ → List ℕ → List ℕ
content_by status kind lines body =
    codes "HTTP/1.1 " ++ (status_text status
    ++ (codes "\r\nContent-Type: " ++ (kind
    ++ (codes "\r\nContent-Length: "
    ++ (decimal (length body) ++ (codes "\r\n" ++ (lines ++ (last_lines ++ body))))))))

abbrev pub content_text : Response → List ℕ
content_text reply = content_by (status_of reply) (kind_of reply) (lines_of reply) (body_of reply)

-- a response, with or without
abbrev pub response_text : Response → List ℕ
response_text reply = if has_content reply then content_text reply else bare_text reply
