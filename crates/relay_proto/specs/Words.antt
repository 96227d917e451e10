-- The words of messages: the reasons of refusals, and the outcomes of a resume.
use Rattle.std.specs.Prelude.{ℕ, List, [], ◌∷◌, codes, bytes_eq, Option, Some, None, if◌then◌else◌}
use Rattle.relay_proto.specs.declared.word.Word.{Word}
use Rattle.relay_proto.specs.declared.word.Word.TheVariants as word
use Rattle.relay_proto.specs.declared.reply.ResumeOutcome.{ResumeOutcome}
use Rattle.relay_proto.specs.declared.reply.ResumeOutcome.TheVariants as how

-- Writing.

abbrev pub word_text : Word → List ℕ
word_text word.TooLong = codes "too-long"
word_text word.NotJson = codes "not-json"
word_text word.Number = codes "number"
word_text word.Shape = codes "shape"
word_text word.TooMany = codes "too-many"
word_text word.UnknownOp = codes "unknown-op"
word_text word.Pointer = codes "pointer"
word_text word.Missing = codes "missing"
word_text word.NotIndex = codes "not-index"
word_text word.PastEnd = codes "past-end"
word_text word.NoContainer = codes "no-container"
word_text word.Root = codes "root"
word_text word.IntoItself = codes "into-itself"
word_text word.TestFailed = codes "test-failed"
word_text word.TooDeep = codes "too-deep"
word_text word.TooHeavy = codes "too-heavy"
word_text word.Exhausted = codes "exhausted"
word_text word.Stale = codes "stale"
word_text word.Future = codes "future"
word_text word.ReadOnly = codes "read-only"

abbrev pub how_text : ResumeOutcome → List ℕ
how_text how.Nothing = codes "nothing"
how_text how.Patch = codes "patch"
how_text how.Snapshot = codes "snapshot"

-- Reading: a search among the words.

-- the first of the words whose text is s
abbrev pub spelled : {W : Type 0} → (W → List ℕ) → List W → List ℕ → Option W
spelled spells [] s = None
spelled spells (w ∷ words) s = if bytes_eq s (spells w) then Some w else spelled spells words s

abbrev pub words : List Word
words =
    word.TooLong ∷ word.NotJson ∷ word.Number ∷ word.Shape ∷ word.TooMany ∷ word.UnknownOp
    ∷ word.Pointer ∷ word.Missing ∷ word.NotIndex ∷ word.PastEnd ∷ word.NoContainer ∷ word.Root
    ∷ word.IntoItself ∷ word.TestFailed ∷ word.TooDeep ∷ word.TooHeavy ∷ word.Exhausted
    ∷ word.Stale ∷ word.Future ∷ word.ReadOnly ∷ []

abbrev pub word_of_text : List ℕ → Option Word
word_of_text s = spelled word_text words s

abbrev pub how_of_text : List ℕ → Option ResumeOutcome
how_of_text s = spelled how_text (how.Nothing ∷ how.Patch ∷ how.Snapshot ∷ []) s
