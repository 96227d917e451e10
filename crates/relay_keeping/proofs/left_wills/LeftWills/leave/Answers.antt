use Rattle.std.proofs.Common.{◌∙◌, ◌++◌, ◌∷◌, [], ap, ap₂, map, nat_eq}
use Rattle.std.proofs.lemmas.List.{map-append}
use Rattle.indexmap.proofs.CallerLemmas.{insert_entry-new}
use Rattle.relay_store.specs.Kept.{Will}
use Rattle.relay_keeping.specs.LeftWills.{kept_will}
use Rattle.relay_keeping.specs.declared.left_wills.LeftWill.{LeftWill}
use Rattle.relay_keeping.proofs.left_wills.LeftWills.leave.Goals as goal

pub returns : goal.returns
returns c = λ kept were.
    let s = c.args.session in
    let left = c.end.new.self.wills in
    let will : LeftWill =
    record { room = c.in_ok-from_str.field-0; text = c.in_ok-from_str-2.field-0 } in
    let room = c.in_ok-from_str.ensures.ok in
    let text = c.in_ok-from_str-2.ensures.ok in
    record {
      wills = ap (map kept_will) (c.in_ok-insert.ensures.entries
          ∙ insert_entry-new nat_eq left s will c.end.ensures.gone)
          ∙ map-append kept_will left.entries ((s, will) ∷ [])
          ∙ ap₂ (λ wills (last : Will). wills ++ last ∷ []) (c.end.ensures.kept kept were).wills
          (λ i. record { session = s; room = room i; text = text i });
      apart = c.in_ok-insert.ensures.unique;
    }
