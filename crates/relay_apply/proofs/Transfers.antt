-- A value that a move takes out of its place, and what the move makes of it.
use Rattle.std.proofs.Common.{◌≡◌, Ok, IsOk, sym, subst, ◌∙◌}
use Rattle.relay_tree.specs.Document.{Document}
use Rattle.relay_tree.proofs.Outcomes.{is_ok_then}
use Rattle.relay_patch.specs.Walk.{walk}
use Rattle.relay_patch.specs.declared.change.Place.{Place}
use Rattle.relay_patch.specs.declared.change.Change.{Change}
use Rattle.relay_patch.specs.declared.change.Change.TheVariants as change
use Rattle.relay_patch.specs.Change.{Makes, dropped, inserted}
use Rattle.relay_patch.proofs.Carried.{CanMake, moves_as, move_made}

module _ (c : Change) (d : Document) (from to : Place) (v b w : Document) (is : c
    ≡ change.Move from to v) (can : CanMake d c) (took : walk d from.path ≡ Ok w) where
  -- it is the value that the change names
  same_value : v ≡ w
  same_value =
      let m = moves_as c d from to v is can in
      let both : Ok v ≡ Ok w = sym m.there ∙ took in
      cc

  pub transfer_fits : dropped from d ≡ Ok b → IsOk (inserted to w b)
  transfer_fits went =
      let m = moves_as c d from to v is can in
      let both : Ok m.between ≡ Ok b = sym m.went ∙ went in
      let between : m.between ≡ b = cc in
      is_ok_then _ can.0 (subst (λ x.
      inserted to x b ≡ Ok can.0) same_value (subst (λ x.
      inserted to v x ≡ Ok can.0) between m.came))

  pub transfer_makes : (n : Document) → dropped from d ≡ Ok b → inserted to w b ≡ Ok n → Makes d c n
  transfer_makes n went came =
      move_made c d from to v b n is can went (subst (λ x.
      inserted to x b ≡ Ok n) (sym same_value) came)
