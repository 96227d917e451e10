use Rattle.std.proofs.Common.{◌++◌, string_bytes, flat_map, encode_utf8, sym, ap, ◌∙◌, rules}
use Rattle.relay_pointer.specs.Spelling.{escaped}
use Rattle.relay_pointer.proofs.Paths.{escaped_more, escaped_tilde, escaped_slash, escaped_plain}
use Rattle.relay_pointer.proofs.text.push_escaped.Goals as goal

pub loop-character-preserved-in-Continue-1 : goal.loop-character-preserved-in-Continue-1
loop-character-preserved-in-Continue-1 c =
    let spelled =
    c.in_ok-push_str.ensures.bytes
    ∙ ap (λ l. string_bytes c.loop-character.text ++ l)
    (sym escaped_tilde
    ∙ ap (λ d. flat_map escaped (encode_utf8 d)) (sym c.if-character-eq126.true)) in
    record {
      next = search rules;
      finite = search rules;
      so_far = escaped_more (string_bytes c.args.text.now) (string_bytes c.loop-character.text)
          (string_bytes c.push_str.new.self) c.loop-character.yielded c.in-Some.character
          c.loop-character.invariant.so_far spelled;
    }

pub loop-character-preserved-in-Continue-branch-2 :
    goal.loop-character-preserved-in-Continue-branch-2
loop-character-preserved-in-Continue-branch-2 c =
    let spelled =
    c.in_ok-push_str-2.ensures.bytes
    ∙ ap (λ l. string_bytes c.loop-character.text ++ l)
    (sym escaped_slash
    ∙ ap (λ d. flat_map escaped (encode_utf8 d)) (sym c.if-character-eq47.true)) in
    record {
      next = search rules;
      finite = search rules;
      so_far = escaped_more (string_bytes c.args.text.now) (string_bytes c.loop-character.text)
          (string_bytes c.push_str-then-character-eq47.new.self) c.loop-character.yielded
          c.in-Some.character c.loop-character.invariant.so_far spelled;
    }

pub loop-character-preserved : goal.loop-character-preserved
loop-character-preserved c =
    let plain = escaped_plain c.in-Some.character c.if-character-eq126.false
    c.if-character-eq47.false in
    let spelled =
    c.in_ok-push.ensures.bytes
    ∙ ap (λ l. string_bytes c.loop-character.text ++ l) (sym plain) in
    record {
      next = search rules;
      finite = search rules;
      so_far = escaped_more (string_bytes c.args.text.now) (string_bytes c.loop-character.text)
          (string_bytes c.push.new.self) c.loop-character.yielded c.in-Some.character
          c.loop-character.invariant.so_far spelled;
    }
