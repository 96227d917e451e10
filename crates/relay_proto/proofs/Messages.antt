-- The document of a message reads as the message if its members have their forms.
use Rattle.std.proofs.Common.{◌≡◌, ℕ, ◌<◌, ◌≤◌, ◌^◌, List, length, true, nat_le, Option, Some}
use Rattle.std.proofs.Common.{None, refl, arith}
use Rattle.std.proofs.lemmas.Bool.Decides.{nat_tests}
use Rattle.relay_tree.specs.Count.{count_of, count_most}
use Rattle.relay_tree.specs.Document.{Document}
use Rattle.relay_patch.specs.declared.limits.TheConstants.PatchLimits.{RELAYED}
use Rattle.relay_patch.specs.declared.op.Op.{Op}
use Rattle.relay_proto.specs.Message.{count, count_or_null, reply_document, patch_message}
use Rattle.relay_proto.specs.Message.{snapshot_message}
use Rattle.relay_proto.specs.MessageRead.{nullable_count, message_of}
use Rattle.relay_proto.specs.Words.{word_text, how_text, word_of_text, how_of_text}
use Rattle.relay_proto.specs.Written.{IsCount, IsCountOrNull, HasCounts, HasForms}
use Rattle.relay_proto.specs.declared.message.Message.TheVariants as message
use Rattle.relay_proto.specs.declared.reply.ResumeOutcome.{ResumeOutcome}
use Rattle.relay_proto.specs.declared.reply.ResumeOutcome.TheVariants as how
use Rattle.relay_proto.specs.declared.reply.Reply.{Reply}
use Rattle.relay_proto.specs.declared.reply.Reply.TheVariants as reply
use Rattle.relay_proto.specs.declared.word.Word.{Word}
use Rattle.relay_proto.specs.declared.word.Word.TheVariants as word
use Rattle.relay_proto.proofs.Patches.{patch_back}

pub word_back : (w : Word) → word_of_text (word_text w) ≡ Some w
word_back word.TooLong = refl
word_back _ = refl

pub how_back : (h : ResumeOutcome) → how_of_text (how_text h) ≡ Some h
how_back how.Nothing = refl
how_back _ = refl

count_back : (n : ℕ) → IsCount n → count_of (count n) ≡ Some n
count_back n h = let test : nat_le n count_most ≡ true = grind (arith, nat_tests) in rw test refl

nullable_back : (n : Option ℕ) → IsCountOrNull n → nullable_count (count_or_null n) ≡ Some n
nullable_back None h = refl
nullable_back (Some n) h = rw (count_back n h) refl

pub reply_back : (r : Reply) → HasCounts r → message_of (reply_document r) ≡ Some (message.Reply r)
reply_back (reply.Welcome epoch rev session) h =
    rw (count_back epoch h.0, count_back rev h.1, count_back session h.2) refl
reply_back (reply.Done id rev) h = rw (count_back id h.0, count_back rev h.1) refl
reply_back (reply.Refused id fault at None) h =
    rw (nullable_back id h.0, word_back fault, nullable_back at h.1) refl
reply_back (reply.Refused id fault at (Some rev)) h =
    rw (nullable_back id h.0, word_back fault, nullable_back at h.1, count_back rev h.2) refl
reply_back (reply.Willing id) h = rw (count_back id h) refl
reply_back (reply.Watching id) h = rw (count_back id h) refl
reply_back (reply.Resumed id how) h = rw (count_back id h, how_back how) refl
reply_back (reply.Unwatched id) h = rw (count_back id h) refl

pub patch_message_back : (rev : ℕ) (ops : List Op) → HasForms (message.Patch rev ops)
    → length ops < 2 ^ 64 → message_of (patch_message rev ops) ≡ Some (message.Patch rev ops)
patch_message_back rev ops h few =
    let within : length ops ≤ RELAYED.ops = omega (arith, few) in
    rw (count_back rev h.0, patch_back RELAYED.ops RELAYED.tokens ops h.1 within) refl

pub snapshot_back : (rev : ℕ) (view : Document) → HasForms (message.Snapshot rev view)
    → message_of (snapshot_message rev view) ≡ Some (message.Snapshot rev view)
snapshot_back rev view h = rw (count_back rev h.0, h.1) refl
