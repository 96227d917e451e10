-- The status and the words of each refusal (RFC 9110, section 15; RFC 5789, section 3.1;
-- RFC 6585, section 5).
use Rattle.std.specs.Prelude.{ℕ, List, [], codes}
use Rattle.relay_admin.specs.declared.admin_fault.AdminFault.{AdminFault}
use Rattle.relay_admin.specs.declared.admin_fault.AdminFault.TheVariants.{NoHead, TooLong, NoHost}
use Rattle.relay_admin.specs.declared.admin_fault.AdminFault.TheVariants.{OtherHost, Origin, NoPath}
use Rattle.relay_admin.specs.declared.admin_fault.AdminFault.TheVariants.{OnlyGet, OnlyPost}
use Rattle.relay_admin.specs.declared.admin_fault.AdminFault.TheVariants.{OnlyRoomMethods}
use Rattle.relay_admin.specs.declared.admin_fault.AdminFault.TheVariants.{OnlyDoorMethods, BadQuery}
use Rattle.relay_admin.specs.declared.admin_fault.AdminFault.TheVariants.{Expectation, MediaType}
use Rattle.relay_admin.specs.declared.admin_fault.AdminFault.TheVariants.{NoLength, BadLength}
use Rattle.relay_admin.specs.declared.admin_fault.AdminFault.TheVariants.{BodyTooLong}
use Rattle.relay_admin.specs.declared.not_forgotten.NotForgotten.{NotForgotten}
use Rattle.relay_admin.specs.declared.not_forgotten.NotForgotten.TheVariants as kept
use Rattle.relay_admin.specs.declared.unavailable.Unavailable.{Unavailable}
use Rattle.relay_admin.specs.declared.unavailable.Unavailable.TheVariants as unavailable

abbrev pub status_of : AdminFault → ℕ
status_of NoHead = 400
status_of TooLong = 431
status_of NoHost = 400
status_of OtherHost = 403
status_of Origin = 403
status_of NoPath = 404
status_of OnlyGet = 405
status_of OnlyPost = 405
status_of OnlyRoomMethods = 405
status_of OnlyDoorMethods = 405
status_of BadQuery = 400
status_of Expectation = 417
status_of MediaType = 415
status_of NoLength = 411
status_of BadLength = 400
status_of BodyTooLong = 413

-- the methods that a 405 names, or the media types that a 415 names, as a line
abbrev pub line_of : AdminFault → List ℕ
line_of OnlyGet = codes "Allow: GET\r\n"
line_of OnlyPost = codes "Allow: POST\r\n"
line_of OnlyRoomMethods = codes "Allow: GET, PATCH, DELETE\r\n"
line_of OnlyDoorMethods = codes "Allow: PUT, DELETE\r\n"
line_of MediaType = codes "Accept-Patch: application/json-patch+json\r\n"
line_of _ = []

abbrev pub why_of : AdminFault → List ℕ
why_of NoHead = codes "this is no request\n"
why_of TooLong = codes "the head is too long\n"
why_of NoHost = codes "there is not one Host\n"
why_of OtherHost = codes "the Host is not the loopback\n"
why_of Origin = codes "pages may not ask\n"
why_of NoPath = codes "there is no such path\n"
why_of OnlyGet = codes "only GET\n"
why_of OnlyPost = codes "only POST\n"
why_of OnlyRoomMethods = codes "only GET, PATCH and DELETE\n"
why_of OnlyDoorMethods = codes "only PUT and DELETE\n"
why_of BadQuery = codes "the query is not one at=\n"
why_of Expectation = codes "no Expect is met\n"
why_of MediaType = codes "the Content-Type is not application/json-patch+json\n"
why_of NoLength = codes "there is no Content-Length\n"
why_of BadLength = codes "the Content-Length is not one number\n"
why_of BodyTooLong = codes "the body is too long\n"

-- the same of a room that is not forgotten

abbrev pub kept_status : NotForgotten → ℕ
kept_status kept.NoRoom = 404
kept_status kept.Occupied = 409
kept_status kept.Exhausted = 409
kept_status kept.NoMemory = 503

abbrev pub kept_why : NotForgotten → List ℕ
kept_why kept.NoRoom = codes "there is no such room\n"
kept_why kept.Occupied = codes "a session is in the room\n"
kept_why kept.Exhausted = codes "no revision is left\n"
kept_why kept.NoMemory = codes "memory was refused\n"

-- the words of a room that cannot be entered, or opened by name, now

abbrev pub unavailable_why : Unavailable → List ℕ
unavailable_why unavailable.Rooms = codes "all rooms are taken\n"
unavailable_why unavailable.Sessions = codes "all sessions are taken\n"
unavailable_why unavailable.Memory = codes "memory was refused\n"
