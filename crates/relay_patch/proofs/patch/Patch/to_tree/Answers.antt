use Rattle.std.proofs.Common.{◌≡◌, ◌≤◌, length, take, map, ap, ◌∙◌, arith}
use Rattle.std.proofs.lemmas.List.{take_all}
use Rattle.relay_tree.specs.Document.{list, items_of}
use Rattle.relay_patch.specs.Form.{patch_document}
use Rattle.relay_patch.proofs.Written.{reads_back}
use Rattle.relay_patch.proofs.Forms.{op_document, ops_items-map}
use Rattle.relay_patch.proofs.patch.Patch.to_tree.Goals as goal

written : (c : goal.After-from) → c.from.result ≡ patch_document c.args.self.now
written c =
    let ops = c.ops-op-items.result.now in
    let past : length ops ≤ c.loop-op.op-index = grind arith in
    let whole : take c.loop-op.op-index ops ≡ ops = take_all _ ops past in
    c.from.ensures
    ∙ ap (λ ds. list (items_of ds))
    (c.loop-op.invariant ∙ ap (map op_document) (whole ∙ c.ops-op-items.ensures))
    ∙ ap list (ops_items-map c.args.self.now)

pub returns-clause-form : goal.returns-clause-form
returns-clause-form c = written c

pub returns-clause-reads_back : goal.returns-clause-reads_back
returns-clause-reads_back c =
    λ ops tokens deepest few fit. rw (written c)
    (reads_back ops tokens deepest c.args.self.now few fit)
