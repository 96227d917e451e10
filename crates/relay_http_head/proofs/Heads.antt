-- Lemmas on the heads that bytes begin with.
use Rattle.std.proofs.Common.{◌≡◌, ℕ, ◌+◌, ◌*◌, ◌<◌, ◌≤◌, List, [], ◌∷◌, ◌++◌, length, take, drop}
use Rattle.std.proofs.Common.{sym, ◌∙◌, ap, subst, arith, append-nil, append_assoc, length-append}
use Rattle.std.proofs.Common.{length-take, All}
use Rattle.std.specs.List.{flat_map}
use Rattle.httparse.specs.Borrowed.{HoldsSomeRequest}
use Rattle.httparse.specs.Grammar.{RequestHead, ReadsRequest, Field, IsField, LineEnd, crlf, lf}
use Rattle.httparse.specs.Grammar.{print_end, print_field, print_request, HasNoRequest}
use Rattle.httparse.specs.Grammar.{NeverHasRequest}
use Rattle.httparse.specs.Spans.{RequestExceeds}
use Rattle.httparse.specs.declared.borrowed.Request.{Request}
use Rattle.httparse.proofs.GrammarLemmas.{request_unique}
use Rattle.std.proofs.lemmas.List.{take-append-drop, drop-append-le}
use Rattle.std.proofs.lemmas.List.Elements.{All-head, All-tail}
use Rattle.relay_http_head.specs.Parsing.{parts, parts_of, IsHead}
use Rattle.relay_http_head.specs.declared.head.Head.{Head}

-- bytes that never have a head have none
pub none_from_never : (bytes : List ℕ) → NeverHasRequest bytes → HasNoRequest bytes
none_from_never bytes never = subst HasNoRequest (append-nil bytes) (never [])

length-end : (e : LineEnd) → 1 ≤ length (print_end e)
length-end crlf = omega arith
length-end lf = omega arith

-- each header field takes at least three bytes
length-field : (f : Field) → IsField f → 3 ≤ length (print_field f)
length-field f fit =
    simp length-append (omega (arith, fit.name.0, length-end f.end))

length-fields : (fields : List Field) → All IsField fields
    → 3 * length fields ≤ length (flat_map print_field fields)
length-fields [] fit = omega arith
length-fields (f ∷ fields) fit =
    let first = length-field f (All-head IsField f fields fit) in
    omega (
      arith,
      length-fields fields (All-tail IsField f fields fit),
      first,
      length-append (print_field f) (flat_map print_field fields),
    )

-- a head is longer than its header fields
length-head : (head : RequestHead) (rest : List ℕ) → All IsField head.fields
    → 3 * length head.fields < length (print_request head ++ rest)
unfolding print_request
length-head head rest fit =
    simp length-append (omega (arith, length-fields head.fields fit, length-end head.last))

-- the first bytes, `most` at most, have no more header fields than a third of them
pub no_excess : (bytes buffer : List ℕ) (most room : ℕ) → buffer ≡ take most bytes
    → most < 3 * (room + 1) → RequestExceeds room buffer → ⊥
no_excess bytes buffer most room same enough (front, rest, parts, head, reads, many) =
    let long : 3 * length head.fields < length (front ++ print_end lf) =
    subst (λ b. 3 * length head.fields < length b) (sym reads.1)
    (length-head head [] reads.0.fields) in
    omega (
      arith,
      many,
      long,
      enough,
      length-append front (print_end lf),
      ap length parts,
      ap length same,
      length-append front rest,
      length-take most bytes,
    )

-- a head that the first `most` bytes begin with is one that all of them begin with
reads-whole : (most : ℕ) (bytes : List ℕ) (head : RequestHead) (rest : List ℕ)
    → ReadsRequest (take most bytes) head rest → ReadsRequest bytes head (rest ++ drop most bytes)
reads-whole most bytes head rest (fits, is) = (
  fits,
  sym (take-append-drop most bytes) ∙ ap (λ b. b ++ drop most bytes) is
      ∙ append_assoc (print_request head) rest (drop most bytes),
)

-- what is held of the first `most` bytes is held of all of them
pub holds-whole : (most : ℕ) (bytes : List ℕ) (request : Request) (len : ℕ)
    → HoldsSomeRequest (take most bytes) request len → HoldsSomeRequest bytes request len
holds-whole most bytes request len (head, holds) =
    let rest = drop len (take most bytes) in
    let within : len ≤ length (take most bytes) =
    omega (
      arith,
      holds.len_is,
      ap length holds.reads.1,
      length-append (print_request head) rest,
    ) in
    let behind : rest ++ drop most bytes ≡ drop len bytes =
    sym (drop-append-le len (take most bytes) (drop most bytes) within)
    ∙ ap (drop len) (take-append-drop most bytes) in
    let reads : ReadsRequest bytes head (drop len bytes) =
    subst (ReadsRequest bytes head) behind (reads-whole most bytes head rest holds.reads) in (
      head,
      record {
        reads = reads;
        len_is = holds.len_is;
        method = holds.method;
        path = holds.path;
        version = holds.version;
        fields = holds.fields;
      },
    )

-- the head found is each head that the first `most` bytes begin with
pub the_head : (most : ℕ) (bytes : List ℕ) (found : Head) → IsHead bytes found
    → (head : RequestHead) (rest : List ℕ) → ReadsRequest (take most bytes) head rest
    → parts found ≡ parts_of head (rest ++ drop most bytes)
the_head most bytes found (first, behind, at, is) head rest reads =
    let same =
    request_unique bytes first head behind (rest ++ drop most bytes) at
    (reads-whole most bytes head rest reads) in
    is ∙ ap (λ h. parts_of h behind) same.0 ∙ ap (parts_of head) same.1
