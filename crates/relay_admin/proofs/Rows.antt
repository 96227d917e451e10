-- The values of the definitions for a few texts: each row is computed.
use Rattle.std.proofs.Common.{◌≡◌, true, false, [], ◌∷◌, codes, Some, None, refl}
use Rattle.std.specs.Char.{encode_utf8}
use Rattle.std.specs.Str.{is_utf8, chars}
use Rattle.percent_encoding.specs.Percent.{percent_decode}
use Rattle.relay_http_head.specs.Head.{Fields}
use Rattle.relay_admin.specs.Conditions.{listed}
use Rattle.relay_admin.specs.Edits.{is_json_patch, number_of}
use Rattle.relay_admin.specs.Outcome.{outcome_of}
use Rattle.relay_admin.specs.Query.{path_of, query_of, pointer_in}
use Rattle.relay_admin.specs.declared.outcome.Outcome.TheVariants.{Accepted, Stale, Malformed}
use Rattle.relay_admin.specs.declared.outcome.Outcome.TheVariants.{Unprocessable}

-- the path, and the query behind the first `?`
path : path_of (codes "r?at=/a?b") ≡ codes "r"
path = refl

query : query_of (codes "r?at=/a?b") ≡ Some (codes "at=/a?b")
query = refl

no_query : query_of (codes "r") ≡ None
no_query = refl

-- the pointer that a query names: without a query the whole document
whole : pointer_in None ≡ Some []
whole = refl

-- a `+` stays a plus, and an escape is decoded once
pointer : pointer_in (Some (codes "at=/a+b%2525")) ≡ Some (codes "/a+b%25")
unfolding percent_decode is_utf8 chars encode_utf8
pointer = refl

-- another member, a second one, a broken escape, and no UTF-8
other_member : pointer_in (Some (codes "to=/a")) ≡ None
other_member = refl

second_member : pointer_in (Some (codes "at=/a&at=/b")) ≡ None
second_member = refl

broken_escape : pointer_in (Some (codes "at=%2")) ≡ None
broken_escape = refl

no_utf8 : pointer_in (Some (codes "at=%FF")) ≡ None
unfolding percent_decode is_utf8 chars encode_utf8
no_utf8 = refl

-- the media type of a patch, in any case and with parameters
kind : is_json_patch (codes "Application/JSON-Patch+json ; v=1") ≡ true
kind = refl

longer_kind : is_json_patch (codes "application/json-patch+jsonx") ≡ false
longer_kind = refl

-- decimal numbers
number : number_of (codes "0120") ≡ Some 120
number = refl

no_number : number_of (codes "+1") ≡ None
no_number = refl

-- two fields are one list
abbrev fields : Fields
fields =
    (codes "if-match", codes "\"1-2\"") ∷ (codes "Host", codes "localhost") ∷ (
      codes "If-Match",
      codes "W/\"1-3\"",
    ) ∷ []

list : listed (codes "If-Match") fields ≡ codes "\"1-2\",W/\"1-3\","
list = refl

-- what came of a request
done : outcome_of (codes "{\"id\":1,\"kind\":\"done\",\"rev\":2}") ≡ Accepted
done = refl

stale
    : outcome_of (codes "{\"at\":null,\"fault\":\"stale\",\"id\":1,\"kind\":\"refused\",\"rev\":2}")
    ≡ Stale
stale = refl

malformed : outcome_of (codes "{\"at\":0,\"fault\":\"pointer\",\"id\":1,\"kind\":\"refused\"}")
    ≡ Malformed
malformed = refl

impossible : outcome_of (codes "{\"at\":12,\"fault\":\"missing\",\"id\":1,\"kind\":\"refused\"}")
    ≡ Unprocessable
impossible = refl
