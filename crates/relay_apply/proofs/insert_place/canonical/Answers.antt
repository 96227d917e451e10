use Rattle.std.proofs.Common.{◌≡◌, true, string_bytes, sym, ap, ◌∙◌, arith}
use Rattle.relay_pointer.proofs.Indexes.{index_text-decimal}
use Rattle.relay_patch.specs.Walk.{is_dash}
use Rattle.relay_apply.proofs.insert_place.canonical.Goals as goal
use Rattle.relay_tree.proofs.Outcomes.{if_ok}

pub returns-then-is_dash : goal.returns-then-is_dash
returns-then-is_dash c =
    let dash : is_dash (string_bytes c.args.token.now) ≡ true =
    ap is_dash (sym c.deref.ensures) ∙ sym c.is_dash.ensures ∙ c.if-is_dash.true in
    rw dash (if_ok c.to_string.result c.to_string.ensures.ok (λ s h.
    h ∙ sym (index_text-decimal c.args.index (omega arith))))
