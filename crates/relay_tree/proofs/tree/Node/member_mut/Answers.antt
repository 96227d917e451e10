use Rattle.std.proofs.Common.{refl, ap, ◌∙◌}
use Rattle.relay_tree.specs.Document.{object}
use Rattle.relay_tree.specs.Seen.{members_of}
use Rattle.relay_tree.proofs.Parts.{on_some, is_object, no_member}
use Rattle.relay_tree.proofs.Named.{members_of-lookup, members_of-set_value}
use Rattle.relay_tree.proofs.tree.Node.member_mut.Goals as goal

pub returns-in-Some : goal.returns-in-Some
returns-in-Some c =
    let m = c.in-Some.members.now in
    let whole = is_object c.args.self.now m c.in-Some.ensures.value in
    let lent = c.get_mut.follows in
    rw whole (
      (
        refl,
        λ w. on_some c.get_mut.result
            (ap (λ n. object (members_of n.entries)) (lent.holds w)
            ∙ ap object (members_of-set_value c.args.name.now m.entries w)),
        ap (λ n. object (members_of n.entries)) lent.holds-at-none,
      ),
      c.get_mut.ensures.value ∙ members_of-lookup c.args.name.now m.entries,
    )

pub returns-in-None : goal.returns-in-None
returns-in-None c =
    ((refl, λ w. tt, refl), no_member c.args.self.now c.args.name.now c.in-None.ensures.value)
