-- The text of a message reads back as the message.
use Rattle.std.proofs.Common.{◌≡◌, ℕ, List, [], ◌∷◌, ◌++◌, length, length-append, codes, Bool}
use Rattle.std.proofs.Common.{false, ◌+◌, ◌≤◌, ◌<◌, ◌^◌, true, nat_lt, Option, Some, None}
use Rattle.std.proofs.Common.{option_map, refl, ap, ◌∙◌, lit≤, arith}
use Rattle.std.proofs.lemmas.Bool.Decides.{nat_tests}
use Rattle.json.specs.Lex.{tokens}
use Rattle.json.specs.Print.{quoted}
use Rattle.json.proofs.Printed.Decimals.{IsNumber-decimal}
use Rattle.serde_json.specs.Data as seen
use Rattle.serde_json.specs.Data.{depth}
use Rattle.serde_json.specs.Read.{max_depth}
use Rattle.serde_json.proofs.Numbers.{number_of-decimal}
use Rattle.serde_json.proofs.OnLiterals.{serde_json_on_literals}
use Rattle.serde_json.specs.Written.{compact_text, items_text, members_text, comma_if}
use Rattle.relay_tree.specs.Document.{Document, object}
use Rattle.relay_tree.specs.Text.{data_of, items_data, tree_of_text, tokens_of, text_of, ReadsBack}
use Rattle.relay_tree.proofs.Texts.{text_back}
use Rattle.relay_patch.specs.Form.{patch_document, ops_items, op_members}
use Rattle.relay_patch.specs.declared.op.Op.{Op}
use Rattle.relay_proto.specs.Message.{count, count_or_null, reply_document, patch_message}
use Rattle.relay_proto.specs.Message.{snapshot_message}
use Rattle.relay_proto.specs.MessageRead.{with_form, message_of, message_of_text}
use Rattle.relay_proto.specs.Written.{IsCount, IsCountOrNull, HasCounts, IsWritable}
use Rattle.relay_proto.specs.declared.message.Message.{Message}
use Rattle.relay_proto.specs.declared.message.Message.TheVariants as message
use Rattle.relay_proto.specs.declared.reply.Reply.{Reply}
use Rattle.relay_proto.specs.declared.reply.Reply.TheVariants as reply
use Rattle.relay_proto.proofs.Messages.{reply_back, patch_message_back, snapshot_back}
use Rattle.relay_proto.proofs.Texts.{Reads, text_reads}

-- Members.

pub count_reads : (n : ℕ) → IsCount n → Reads (count n)
count_reads n h =
    let fits : n < 2 ^ 64 = omega (arith, h) in
    let small : nat_lt n (2 ^ 63) ≡ true = grind (arith, nat_tests, h) in
    record {
      numbers = IsNumber-decimal n fits;
      back = record {
        written = ap (option_map seen.number) (number_of-decimal n fits);
        read = rw small refl;
      };
    }

nullable_reads : (n : Option ℕ) → IsCountOrNull n → Reads (count_or_null n)
nullable_reads (Some n) h = count_reads n h
nullable_reads None h = record { numbers = tt; back = record { written = refl; read = refl } }

reply_reads : (r : Reply) → HasCounts r → Reads (reply_document r)
unfolding serde_json_on_literals
reply_reads (reply.Welcome epoch rev session) h =
    let e = count_reads epoch h.0 in
    let r = count_reads rev h.1 in
    let s = count_reads session h.2 in
    record {
      numbers = (e.numbers, (tt, (r.numbers, (s.numbers, tt))));
      back = record {
        written = rw (e.back.written, r.back.written, s.back.written) refl;
        read = rw (e.back.read, r.back.read, s.back.read) refl;
      };
    }
reply_reads (reply.Done id rev) h =
    let i = count_reads id h.0 in
    let r = count_reads rev h.1 in
    record {
      numbers = (i.numbers, (tt, (r.numbers, tt)));
      back = record {
        written = rw (i.back.written, r.back.written) refl;
        read = rw (i.back.read, r.back.read) refl;
      };
    }
reply_reads (reply.Refused id fault at None) h =
    let i = nullable_reads id h.0 in
    let a = nullable_reads at h.1 in
    record {
      numbers = (a.numbers, (tt, (i.numbers, (tt, tt))));
      back = record {
        written = rw (i.back.written, a.back.written) refl;
        read = rw (i.back.read, a.back.read) refl;
      };
    }
reply_reads (reply.Refused id fault at (Some rev)) h =
    let i = nullable_reads id h.0 in
    let a = nullable_reads at h.1 in
    let r = count_reads rev h.2 in
    record {
      numbers = (a.numbers, (tt, (i.numbers, (tt, (r.numbers, tt)))));
      back = record {
        written = rw (i.back.written, a.back.written, r.back.written) refl;
        read = rw (i.back.read, a.back.read, r.back.read) refl;
      };
    }
reply_reads (reply.Willing id) h =
    let i = count_reads id h in
    record {
      numbers = (i.numbers, (tt, tt));
      back = record { written = rw i.back.written refl; read = rw i.back.read refl };
    }
reply_reads (reply.Watching id) h =
    let i = count_reads id h in
    record {
      numbers = (i.numbers, (tt, tt));
      back = record { written = rw i.back.written refl; read = rw i.back.read refl };
    }
reply_reads (reply.Resumed id how) h =
    let i = count_reads id h in
    record {
      numbers = (tt, (i.numbers, (tt, tt)));
      back = record { written = rw i.back.written refl; read = rw i.back.read refl };
    }
reply_reads (reply.Unwatched id) h =
    let i = count_reads id h in
    record {
      numbers = (i.numbers, (tt, tt));
      back = record { written = rw i.back.written refl; read = rw i.back.read refl };
    }

patch_reads : (rev : ℕ) (ops : List Op) → IsCount rev → ReadsBack (patch_document ops)
    → ReadsBack (patch_message rev ops)
unfolding serde_json_on_literals
patch_reads rev ops h p = let r = count_reads rev h in
    record { written = rw (p.written, r.back.written) refl; read = rw (p.read, r.back.read) refl }

snapshot_reads : (rev : ℕ) (view : Document) → IsCount rev → ReadsBack view
    → ReadsBack (snapshot_message rev view)
unfolding serde_json_on_literals
snapshot_reads rev view h v = let r = count_reads rev h in
    record { written = rw (v.written, r.back.written) refl; read = rw (v.read, r.back.read) refl }

nullable_flat : (n : Option ℕ) → depth (data_of (count_or_null n)) ≡ 0
nullable_flat (Some n) = refl
nullable_flat None = refl

reply_flat : (r : Reply) → depth (data_of (reply_document r)) ≤ max_depth
reply_flat (reply.Refused id fault at None) = rw (nullable_flat id, nullable_flat at) (lit≤ tt)
reply_flat (reply.Refused id fault at (Some rev)) =
    rw (nullable_flat id, nullable_flat at) (lit≤ tt)
reply_flat _ = lit≤ tt

-- a text that reads as the document of a message reads as the message
back : (s : List ℕ) (d : Document) (m : Message) → message_of d ≡ Some m → tree_of_text s ≡ Some d
    → message_of_text s ≡ Some m
back s d m of_document of_text = ap (λ o. with_form o message_of) of_text ∙ of_document

pub reply_text_back : (r : Reply) → HasCounts r
    → message_of_text (text_of (reply_document r)) ≡ Some (message.Reply r)
reply_text_back r h =
    back (text_of (reply_document r)) (reply_document r) (message.Reply r) (reply_back r h)
    (text_reads (reply_document r) (reply_reads r h) (reply_flat r))

pub patch_text_back : (s : List ℕ) (rev : ℕ) (ops : List Op)
    → tokens s ≡ tokens_of (patch_message rev ops) → ReadsBack (patch_document ops)
    → length ops < 2 ^ 64
    → IsWritable (message.Patch rev ops) → message_of_text s ≡ Some (message.Patch rev ops)
patch_text_back s rev ops same part few (forms, shallow) =
    back s (patch_message rev ops) (message.Patch rev ops) (patch_message_back rev ops forms few)
    (text_back s (patch_message rev ops) same (patch_reads rev ops forms.0 part) shallow)

pub snapshot_text_back : (s : List ℕ) (rev : ℕ) (view : Document)
    → tokens s ≡ tokens_of (snapshot_message rev view) → ReadsBack view
    → IsWritable (message.Snapshot rev view) → message_of_text s ≡ Some (message.Snapshot rev view)
snapshot_text_back s rev view same part (forms, shallow) =
    back s (snapshot_message rev view) (message.Snapshot rev view) (snapshot_back rev view forms)
    (text_back s (snapshot_message rev view) same
    (snapshot_reads rev view forms.0 part) shallow)

-- the text of a list of operations has at least one byte for each
items_few : (later : Bool) (ops : List Op)
    → length ops ≤ length (items_text later (items_data (ops_items ops)))
items_few later [] = omega arith
items_few later (o ∷ ops) =
    let rest = items_text true (items_data (ops_items ops)) in
    let here = compact_text (data_of (object (op_members o))) in
    omega (
      arith,
      items_few true ops,
      length-append (comma_if later) (here ++ rest),
      length-append here rest,
    )

member_within : (later : Bool) (k : List ℕ) (d : seen.Data) (ms : seen.Members)
    → length (compact_text d) + length (members_text true ms)
    ≤ length (members_text later (seen.member k d ms))
member_within later k d ms =
    let rest = compact_text d ++ members_text true ms in
    omega (
      arith,
      length-append (comma_if later) (quoted k ++ 58 ∷ rest),
      length-append (quoted k) (58 ∷ rest),
      length-append (compact_text d) (members_text true ms),
    )

pub ops_few : (rev : ℕ) (ops : List Op) → length ops ≤ length (text_of (patch_message rev ops))
ops_few rev ops =
    let named = seen.member (codes "rev") (data_of (count rev)) seen.no_members in
    let listed = data_of (patch_document ops) in
    omega (
      arith,
      items_few false ops,
      member_within true (codes "patch") listed named,
      member_within false (codes "kind") (seen.string (codes "patch"))
          (seen.member (codes "patch") listed named),
    )
