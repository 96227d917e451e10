-- Events that are none of the admin port's.
use Rattle.std.proofs.Common.{rules, ◌≡◌, inl, inr, true, false, Bool, not, List, refl, subst, sym}
use Rattle.std.proofs.lemmas.List.Elements.{filter_passes, All-push}
use Rattle.relay_readiness.specs.Readiness.{is_admin, MayTellSecond, NoneIsAdmin, without_admin}
use Rattle.relay_readiness.specs.declared.readiness.ReadyEvent.{ReadyEvent}
use Rattle.relay_readiness.specs.declared.readiness.ReadyEvent.TheVariants.{Second}

not_true : (b : Bool) → not b ≡ true → b ≡ false
not_true b h = search rules

pub none_left : (events : List ReadyEvent) → NoneIsAdmin (without_admin events)
none_left events k d within =
    not_true _ (filter_passes (λ event. not (is_admin event)) events k d within)

-- nor once they tell of a second
pub none_after : (events between after : List ReadyEvent) → between ≡ without_admin events
    → MayTellSecond between after → NoneIsAdmin after
none_after events between after left told =
    let none : NoneIsAdmin between = subst NoneIsAdmin (sym left) (none_left events) in
    elim told [
      | inl same ↦ subst NoneIsAdmin (sym same) none
      | inr more ↦
          subst NoneIsAdmin (sym more)
          (All-push (λ event. is_admin event ≡ false) between Second none refl)
    ]
