-- The words of messages in quotes: none has a character that needs an escape.
use Rattle.std.proofs.Common.{◌≡◌, ℕ, List, ◌∷◌, ◌++◌, Option, Some, None, refl, ap, codes, decimal}
use Rattle.json.specs.Print.{escape_byte}
use Rattle.relay_tree.specs.Document.{text}
use Rattle.relay_tree.specs.Text.{text_of}
use Rattle.relay_proto.specs.Message.{count_or_null, reply_document}
use Rattle.relay_proto.specs.Words.{word_text, how_text}
use Rattle.relay_proto.specs.declared.reply.ResumeOutcome.{ResumeOutcome}
use Rattle.relay_proto.specs.declared.reply.ResumeOutcome.TheVariants as how
use Rattle.relay_proto.specs.declared.reply.Reply.TheVariants as reply
use Rattle.relay_proto.specs.declared.word.Word.{Word}
use Rattle.relay_proto.specs.declared.word.Word.TheVariants as word

text_of-word_text : (w : Word) (rest : List ℕ)
    → 34 ∷ (word_text w ++ (34 ∷ rest)) ≡ text_of (text (word_text w)) ++ rest
unfolding escape_byte
text_of-word_text word.TooLong rest = refl
text_of-word_text _ rest = refl

text_of-how_text : (h : ResumeOutcome) (rest : List ℕ)
    → 34 ∷ (how_text h ++ (34 ∷ rest)) ≡ text_of (text (how_text h)) ++ rest
unfolding escape_byte
text_of-how_text how.Nothing rest = refl
text_of-how_text _ rest = refl

-- The texts of the replies that contain a word.

pub refused : {a i f : List ℕ} (id at : Option ℕ) (w : Word) → f ≡ word_text w
    → a ≡ text_of (count_or_null at) → i ≡ text_of (count_or_null id)
    → codes "{\"at\":"
    ++ (a ++ (codes ",\"fault\":\""
    ++ (f ++ (codes "\",\"id\":" ++ (i ++ codes ",\"kind\":\"refused\"}")))))
    ≡ text_of (reply_document (reply.Refused id w at None))
unfolding escape_byte
refused id at w f a i =
    rw (f, a, i)
    (ap (λ rest. codes
    "{\"at\":" ++ (text_of (count_or_null at) ++ (codes ",\"fault\":" ++ rest)))
    (text_of-word_text w
    (codes ",\"id\":" ++ (text_of (count_or_null id) ++ codes ",\"kind\":\"refused\"}"))))

pub refused_naming : {a i f : List ℕ} (id at : Option ℕ) (w : Word) (rev : ℕ) → f ≡ word_text w
    → a ≡ text_of (count_or_null at) → i ≡ text_of (count_or_null id)
    → codes "{\"at\":"
    ++ (a ++ (codes ",\"fault\":\""
    ++ (f ++ (codes "\",\"id\":"
    ++ (i ++ (codes ",\"kind\":\"refused\",\"rev\":" ++ (decimal rev ++ codes "}")))))))
    ≡ text_of (reply_document (reply.Refused id w at (Some rev)))
unfolding escape_byte
refused_naming id at w rev f a i =
    rw (f, a, i)
    (ap (λ rest. codes
    "{\"at\":" ++ (text_of (count_or_null at) ++ (codes ",\"fault\":" ++ rest)))
    (text_of-word_text w
    (codes ",\"id\":"
    ++ (text_of (count_or_null id)
    ++ (codes ",\"kind\":\"refused\",\"rev\":" ++ (decimal rev ++ codes "}"))))))

pub resumed : {f : List ℕ} (id : ℕ) (h : ResumeOutcome) → f ≡ how_text h
    → codes "{\"how\":\""
    ++ (f ++ (codes "\",\"id\":" ++ (decimal id ++ codes ",\"kind\":\"resumed\"}")))
    ≡ text_of (reply_document (reply.Resumed id h))
unfolding escape_byte
resumed id h f =
    rw f (ap (λ rest. codes "{\"how\":" ++ rest)
    (text_of-how_text h (codes ",\"id\":" ++ (decimal id ++ codes ",\"kind\":\"resumed\"}"))))
