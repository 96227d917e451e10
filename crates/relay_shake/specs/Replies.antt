-- The bytes of the replies (RFC 9112, section 4; RFC 6455, section 4.2.2).
use Rattle.std.specs.Prelude.{ℕ, Bool, List, ◌++◌, ◌==◌, ◌||◌, if◌then◌else◌, codes}
use Rattle.base64.specs.Engines.{standard}
use Rattle.base64.specs.GeneralPurpose.{encode_of}
use Rattle.sha1.specs.Sha1.{sha1}

-- base64 of the SHA-1 of the key's text followed by the GUID
abbrev pub accept_value : List ℕ → List ℕ
accept_value key = encode_of standard (sha1 (key ++ codes "258EAFA5-E914-47DA-95CA-C5AB0DC85B11"))

-- the reply to a good handshake with the key
abbrev pub accept_reply : List ℕ → List ℕ
accept_reply key =
    codes "HTTP/1.1 101 Switching Protocols\r\n" ++ codes "Upgrade: websocket\r\n"
    ++ codes "Connection: Upgrade\r\n" ++ codes "Sec-WebSocket-Accept: " ++ accept_value key
    ++ codes "\r\n\r\n"

-- the statuses of refusals
abbrev pub is_refusal : ℕ → Bool
is_refusal status =
    status == 400 || status == 403 || status == 404 || status == 405 || status == 426
    || status == 431 || status == 503

-- a status with its phrase (RFC 9110, section 15; RFC 6585, section 5)
abbrev pub status_text : ℕ → List ℕ
status_text status =
    if status == 403 then codes "403 Forbidden" else
    if status == 404 then codes "404 Not Found" else
    if status == 405 then codes "405 Method Not Allowed" else
    if status == 426 then codes "426 Upgrade Required" else
    if status == 431 then codes "431 Request Header Fields Too Large" else
    if status == 503 then codes "503 Service Unavailable" else
    codes "400 Bad Request"

-- the header fields of a refusal, from the end of the status line on
abbrev pub refusal_fields : ℕ → List ℕ
refusal_fields status =
    if status == 405 then codes "\r\nAllow: GET\r\nContent-Length: 0\r\nConnection: close\r\n\r\n"
    else
    if status == 426 then
    codes "\r\nUpgrade: websocket\r\nSec-WebSocket-Version: 13\r\n"
    ++ codes "Content-Length: 0\r\nConnection: close, Upgrade\r\n\r\n"
    else codes "\r\nContent-Length: 0\r\nConnection: close\r\n\r\n"

-- the reply that refuses a handshake
abbrev pub refusal_of : ℕ → List ℕ
refusal_of status = codes "HTTP/1.1 " ++ status_text status ++ refusal_fields status

-- the reply that refuses a good handshake while no client is let in: it may be tried again after a
-- second (RFC 9110, section 10.2.3)
abbrev pub closed_refusal : List ℕ
closed_refusal =
    codes "HTTP/1.1 503 Service Unavailable\r\n" ++ codes "Retry-After: 1\r\n"
    ++ codes "Content-Length: 0\r\n" ++ codes "Connection: close\r\n\r\n"
