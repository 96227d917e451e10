use Rattle.std.proofs.Common.{◌≡◌, ◌∙◌, sym, ap, rules}
use Rattle.relay_pointer.specs.Path.{same_path}
use Rattle.relay_pointer.proofs.Prefixes.{equal_paths, same_itself}
use Rattle.relay_view.specs.View.{Slot}
use Rattle.relay_view.proofs.same.same_slot.Goals as goal

one_slot : (s t : Slot) → s.pointer ≡ t.pointer → s.kind ≡ t.kind → s ≡ t
one_slot s t pointer kind = λ i. record { pointer = pointer i; kind = kind i }

pub returns-then-eq : goal.returns-then-eq
returns-then-eq c =
    let s = c.args.slot.now in
    let t = c.args.other.now in
    let is : c.same_path.result ≡ same_path s.pointer t.pointer =
    rw (c.tokens.ensures, c.tokens-then-eq.ensures) at c.same_path.ensures in
    let kind : s.kind ≡ t.kind = search rules in (
      λ h. one_slot s t (equal_paths s.pointer t.pointer (sym is ∙ h)) kind,
      λ h. is ∙ (ap (λ (u : Slot). same_path u.pointer t.pointer) h ∙ same_itself t.pointer),
    )
