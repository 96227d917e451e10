-- Worked heads, by computation.
use Rattle.std.proofs.Common.{◌≡◌, ℕ, List, [], ◌∷◌, codes, true, false, Some, None, refl}
use Rattle.httparse.specs.Grammar.{RequestHead, crlf, Field, trim_ows}
use Rattle.relay_http_head.specs.Head.{has_element, only_value}
use Rattle.relay_shake.specs.Key.{key_of}
use Rattle.relay_shake.specs.Origin.{at_most_one_origin, origin_of}
use Rattle.relay_access.specs.declared.access.Access.TheVariants.{ReadWrite, ReadOnly}
use Rattle.relay_shake.specs.Route.{asked_of}
use Rattle.relay_shake.specs.Handshake.{accept, refuse, verdict_of}

room : asked_of (codes "/rooms/a") ≡ Some (codes "a", ReadWrite)
room = refl

room_to_watch : asked_of (codes "/rooms/a/watch") ≡ Some (codes "a", ReadOnly)
room_to_watch = refl

room_named_watch : asked_of (codes "/rooms/watch") ≡ Some (codes "watch", ReadWrite)
room_named_watch = refl

room_named_watch_to_watch : asked_of (codes "/rooms/watch/watch") ≡ Some (codes "watch", ReadOnly)
room_named_watch_to_watch = refl

room_without_name : asked_of (codes "/rooms/") ≡ None
room_without_name = refl

room_without_name_to_watch : asked_of (codes "/rooms//watch") ≡ None
room_without_name_to_watch = refl

room_with_query : asked_of (codes "/rooms/a?x=1") ≡ None
room_with_query = refl

room_of_two_segments : asked_of (codes "/rooms/a/b") ≡ None
room_of_two_segments = refl

room_with_a_slash_behind : asked_of (codes "/rooms/a/watch/") ≡ None
room_with_a_slash_behind = refl

key_of_23 : key_of ((codes "Sec-WebSocket-Key", codes "dGhlIHNhbXBsZSBub25jZQ=") ∷ []) ≡ None
key_of_23 = refl

two_hosts : only_value (codes "Host") ((codes "host", codes "a") ∷ (codes "HOST", codes "a") ∷ [])
    ≡ None
two_hosts = refl

origin_among_others : origin_of ((codes "Host", codes "a")
    ∷ (codes "ORIGIN", codes "https://a.example") ∷ []) ≡ Some (codes "https://a.example")
origin_among_others = refl

empty_origin : origin_of ((codes "Origin", []) ∷ []) ≡ Some []
empty_origin = refl

no_origin : at_most_one_origin ((codes "Host", codes "a") ∷ []) ≡ true
no_origin = refl

two_origins : at_most_one_origin ((codes "Origin", codes "null") ∷ (codes "origin", codes "null")
    ∷ []) ≡ false
two_origins = refl

origin_beyond_ascii : at_most_one_origin ((codes "Origin", 195 ∷ 164 ∷ []) ∷ []) ≡ false
origin_beyond_ascii = refl

element_among_others : has_element (codes "Connection") (codes "Upgrade") ((
  codes "connection",
  codes "keep-alive,\t upgrade ,x",
) ∷ []) ≡ true
unfolding trim_ows
element_among_others = refl

abbrev field : List ℕ → List ℕ → Field
field name raw = record { name = name; raw = raw; end = crlf }

-- the sample head with this version, and these fields behind its own
abbrev sample : List ℕ → List Field → RequestHead
sample version more = record {
  blank = [];
  method = codes "GET";
  target = codes "/rooms/a";
  minor = 1;
  line_end = crlf;
  fields =
      field (codes "Host") (codes " localhost")
      ∷ field (codes "Upgrade") (codes " websocket")
      ∷ field (codes "Connection") (codes " keep-alive, Upgrade")
      ∷ field (codes "Sec-WebSocket-Key") (codes " dGhlIHNhbXBsZSBub25jZQ==")
      ∷ field (codes "Sec-WebSocket-Version") version
      ∷ more;
  last = crlf;
}

abbrev page : Field
page = field (codes "Origin") (codes " https://example.org")

accepted : verdict_of (sample (codes " 13") []) []
    ≡ accept (codes "a") ReadWrite None (codes "dGhlIHNhbXBsZSBub25jZQ==")
unfolding trim_ows
accepted = refl

accepted_from_a_page : verdict_of (sample (codes " 13") (page ∷ [])) []
    ≡ accept (codes "a") ReadWrite (Some (codes "https://example.org"))
    (codes "dGhlIHNhbXBsZSBub25jZQ==")
unfolding trim_ows
accepted_from_a_page = refl

-- before the version is looked at
from_two_pages : verdict_of (sample (codes " 8") (page ∷ page ∷ [])) [] ≡ refuse 400
unfolding trim_ows
from_two_pages = refl

older_version : verdict_of (sample (codes " 8") []) (codes "x") ≡ refuse 426
unfolding trim_ows
older_version = refl

surplus : verdict_of (sample (codes " 13") []) (codes "x") ≡ refuse 400
unfolding trim_ows
surplus = refl
