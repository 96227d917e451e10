use Rattle.std.proofs.Common.{◌≡◌, ◌∙◌, ◌≤◌, take, length, map, sym, ap, Bor, arith}
use Rattle.std.specs.List.{list_any}
use Rattle.std.proofs.lemmas.List.{take_all}
use Rattle.relay_patch.specs.declared.change.Change.{Change}
use Rattle.relay_view.specs.declared.slot.Slot.{Slot}
use Rattle.relay_translate.specs.Watches.{touches, is_touched}
use Rattle.relay_translate.proofs.Gained.{any_map}
use Rattle.relay_translate.proofs.watch_index.sessions_touched.Goals as goal

pub returns : goal.returns
returns c =
    let changes = c.args.changes.now in
    let past : length changes ≤ c.loop-change.change-index = grind arith in
    let all : (v : Slot)
    → list_any (λ (x : Bor Change). touches x.now v) (take c.loop-change.change-index changes)
    ≡ is_touched (map (λ (x : Bor Change). x.now) changes) v =
    λ v. ap (list_any (λ (x : Bor Change). touches x.now v)) (take_all _ changes past)
    ∙ sym (any_map (λ (x : Bor Change). x.now) (λ x. touches x v) changes) in
    record {
      found = λ v s stands passes. c.loop-change.invariant.found v s stands (all v ∙ passes);
      only = λ s there. let some = c.loop-change.invariant.only s there in
          (some.0, some.1, sym (all some.0) ∙ some.2);
    }
