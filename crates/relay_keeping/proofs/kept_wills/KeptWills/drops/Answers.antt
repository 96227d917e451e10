use Rattle.std.proofs.Common.{◌∙◌, ◌++◌, ◌∷◌, [], ℕ, ap, append-nil, false, is_some}
use Rattle.std.proofs.Common.{map, sym, true}
use Rattle.std.proofs.lemmas.List.{map-append}
use Rattle.relay_store.specs.Texts.{owned}
use Rattle.relay_store.specs.declared.change.Change.TheVariants.{DropWill}
use Rattle.relay_keeping.specs.Wills.{drop_change}
use Rattle.relay_keeping.proofs.FindingWills.{dropped, mapped_more}
use Rattle.relay_keeping.proofs.kept_wills.KeptWills.drops.Goals as goal
use Rattle.relay_keeping.proofs.kept_wills.KeptWills.drops.Goals.{then-not-contains_key+in_ok-push}
use Rattle.relay_keeping.proofs.kept_wills.KeptWills.drops.Goals.{else-not-contains_key}

pub loop-index-preserved : goal.loop-index-preserved
loop-index-preserved c = λ wills notes.
    let noted = c.args.self.now.noted.entries in
    let i = c.loop-index.index in
    let entry : ℕ × ℕ = (c.in-Some.session.now, c.in-Some.field-0-1.now) in
    let before = c.loop-index.changes.items in
    let has = ap is_some (notes entry.0) in
    let step = ap (λ cs. cs ++ drop_change wills entry) (c.loop-index.invariant wills notes)
    ∙ sym (mapped_more (drop_change wills) noted i entry (sym c.in-Some.ensures.entry)) in
    elim c.if-not-contains_key.branch [
      | then-not-contains_key+in_ok-push w ↦
          ap (λ v. map owned v.items) w.changes-is ∙ ap (map owned) w.in_ok-push.ensures.items
          ∙ map-append owned before (DropWill entry.0 ∷ [])
          ∙ ap (λ cs. map owned before ++ cs)
          (sym (dropped wills entry false (w.if-not-contains_key.ensures ∙ has)))
          ∙ step
      | else-not-contains_key w ↦
          ap (λ v. map owned v.items) w.changes-is ∙ sym (append-nil (map owned before))
          ∙ ap (λ cs. map owned before ++ cs)
          (sym (dropped wills entry true (w.if-not-contains_key.ensures ∙ has)))
          ∙ step
    ]
