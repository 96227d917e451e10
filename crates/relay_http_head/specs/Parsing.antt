-- The head that bytes begin with, if it is within a bound (RFC 9112, sections 3 and 5).
use Rattle.std.specs.Prelude.{◌≡◌, ◌≤◌, ◌<◌, ℕ, Bool, nat_lt, List, length, take, map}
use Rattle.httparse.specs.Borrowed.{header_parts, HoldsSomeRequest}
use Rattle.httparse.specs.Grammar.{RequestHead, ReadsRequest, HasNoRequest, NeverHasRequest}
use Rattle.httparse.specs.Grammar.{MayBecomeRequest}
use Rattle.httparse.specs.Spans.{name_and_value}
use Rattle.httparse.specs.declared.borrowed.Request.{Request}
use Rattle.relay_http_head.specs.Head.{Fields}
use Rattle.relay_http_head.specs.declared.head.Head.{Head}
use Rattle.relay_http_head.specs.declared.parsing.Parsed.{Parsed}
use Rattle.relay_http_head.specs.declared.parsing.Parsed.TheVariants.{Complete, Partial, TooLong}
use Rattle.relay_http_head.specs.declared.parsing.Parsed.TheVariants.{Invalid}

-- the parts of a head, and whether any byte follows it
pub record Parts : Type 0 where
  pub method : List ℕ
  pub target : List ℕ
  pub minor : ℕ
  pub fields : Fields
  pub has_surplus : Bool

-- the parts of a head of the grammar that is followed by the surplus bytes
abbrev pub parts_of : RequestHead → List ℕ → Parts
parts_of head surplus = record {
  method = head.method;
  target = head.target;
  minor = head.minor;
  fields = map name_and_value head.fields;
  has_surplus = nat_lt 0 (length surplus);
}

-- the parts of a borrowed head
abbrev pub parts : Head → Parts
parts head = record {
  method = head.method.now;
  target = head.target.now;
  minor = head.minor;
  fields = map header_parts head.fields.now;
  has_surplus = head.has_surplus;
}

-- the bytes begin with a head of these parts
abbrev pub IsHead : List ℕ → Head → Type 0
IsHead bytes found =
    (head : RequestHead) × (rest : List ℕ) × ReadsRequest bytes head rest
    × (parts found ≡ parts_of head rest)

-- whether bytes that can still become a head are too many for it to be within the first `most`
abbrev pub IsBeforeHead : ℕ → List ℕ → Parsed → Type 0
IsBeforeHead most bytes Partial =
    HasNoRequest (take most bytes) × MayBecomeRequest (take most bytes) × (length bytes ≤ most)
IsBeforeHead most bytes TooLong =
    HasNoRequest (take most bytes) × MayBecomeRequest (take most bytes) × (most < length bytes)
IsBeforeHead most bytes _ = ⊥

-- what the first `most` bytes begin with; if it is a head, the request holds it
abbrev pub IsParsed : ℕ → List ℕ → Request → Parsed → Type 0
IsParsed most bytes request (Complete len) = HoldsSomeRequest (take most bytes) request len
IsParsed most bytes request Invalid = NeverHasRequest (take most bytes)
IsParsed most bytes request before = IsBeforeHead most bytes before
