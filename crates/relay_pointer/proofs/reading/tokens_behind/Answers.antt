use Rattle.std.proofs.Common.{◌==◌, [], ◌∷◌, length, ap, ◌∙◌, string_bytes, rules, arith}
use Rattle.std.specs.List.{slice_split}
use Rattle.std.proofs.lemmas.List.{length_push, map-append}
use Rattle.std.proofs.lemmas.Iterator.Consumers.{YieldsList-turn, YieldsList-end}
use Rattle.std.proofs.lemmas.Iterator.Splits.{YieldsList-from_str_split}
use Rattle.relay_pointer.specs.Path.{path_of}
use Rattle.relay_pointer.proofs.Escapes.{part_written, tokens_more, tokens_all}
use Rattle.relay_pointer.proofs.reading.tokens_behind.Goals as goal

pub unescaped-requires : goal.unescaped-requires
unescaped-requires c =
    let turn = YieldsList-turn
    (YieldsList-from_str_split 47 c.args.written.now (omega arith) (cc) (cc) (cc))
    c.loop-part.yielded _ c.loop-part.yielded_by _ _ c.in-Some.part c.in-Some.is
    c.next.ensures.steps in
    part_written (slice_split (λ b. b == 47) c.args.written.now)
    (length c.loop-part.yielded) c.in-Some.part.now
    (path_of c.loop-part.tokens.items) turn c.loop-part.invariant.rest c.requires

pub loop-part-preserved : goal.loop-part-preserved
loop-part-preserved c =
    let turn = YieldsList-turn
    (YieldsList-from_str_split 47 c.args.written.now (omega arith) (cc) (cc) (cc))
    c.loop-part.yielded _ c.loop-part.yielded_by _ _ c.in-Some.part c.in-Some.is
    c.next.ensures.steps in
    let pushed =
    ap path_of c.in_ok-push.ensures.items
    ∙ map-append string_bytes c.loop-part.tokens.items (c.in_ok-unescaped.field-0 ∷ []) in
    let more = tokens_more (slice_split (λ b. b == 47) c.args.written.now)
    (length c.loop-part.yielded) c.in-Some.part.now _ (path_of c.loop-part.tokens.items)
    (path_of c.push.new.self.items) turn c.in_ok-unescaped.ensures pushed
    c.loop-part.invariant.rest in
    let longer = length_push c.loop-part.yielded c.in-Some.part in
    record { next = search rules; finite = search rules; rest = rw longer more }

pub returns : goal.returns
returns c =
    let end = YieldsList-end
    (YieldsList-from_str_split 47 c.args.written.now (omega arith) (cc) (cc) (cc))
    c.loop-part.yielded _ c.loop-part.yielded_by _ _ c.in-None.is c.next.ensures.steps in
    tokens_all (slice_split (λ b. b == 47) c.args.written.now) (length c.loop-part.yielded)
    (path_of c.loop-part.tokens.items) end.1 c.loop-part.invariant.rest
