use Rattle.std.proofs.Common.{◌≡◌, ◌≤◌, [], ◌∷◌, ◌++◌, length, map, ap, ◌∙◌, subst, arith, rules}
use Rattle.std.proofs.lemmas.Result.{on_ok_weaker}
use Rattle.json.specs.Token.{begin_array}
use Rattle.relay_tree.specs.Document.{list, items_of}
use Rattle.relay_tree.specs.Text.{tokens_of, ReadsBack}
use Rattle.relay_tree.proofs.Writing.{writes_all, all_back}
use Rattle.relay_patch.specs.Form.{patch_document}
use Rattle.relay_patch.proofs.Forms.{op_document, ops_items-map}
use Rattle.relay_patch.proofs.patch.Patch.write.Goals as goal

same : (c : goal.After-end_array)
    → list (items_of (map op_document c.ops-op-items.result.now)) ≡ patch_document c.args.self.now
same c = ap (λ ops. list (items_of (map op_document ops))) c.ops-op-items.ensures
    ∙ ap list (ops_items-map c.args.self.now)

pub returns-clause-tokens : goal.returns-clause-tokens
returns-clause-tokens c =
    let ops = c.ops-op-items.result.now in
    let old = c.args.out.now.tokens in
    let past : length ops ≤ c.loop-op.op-index = grind arith in
    let start : c.begin_array.new.self.tokens ≡ old ++ begin_array ∷ [] = search rules in
    on_ok_weaker c.end_array.result
    (λ e. writes_all op_document ops c.loop-op.op-index old past start c.loop-op.invariant.each
    e ∙ ap (λ d. old ++ tokens_of d) (same c)) c.end_array.ensures.ok

pub returns-clause-reads_back : goal.returns-clause-reads_back
returns-clause-reads_back c =
    let ops = c.ops-op-items.result.now in
    let past : length ops ≤ c.loop-op.op-index = grind arith in
    on_ok_weaker c.end_array.result
    (λ e. subst ReadsBack (same c)
    (all_back op_document ops c.loop-op.op-index past c.loop-op.invariant.each))
    c.end_array.ensures.ok
