use Rattle.std.proofs.Common.{refl, sym, ap, ◌∙◌}
use Rattle.std_collections.proofs.Entries.{lookup-none, set_value_none}
use Rattle.std_collections.proofs.Seek.{found_at, missing_at}
use Rattle.relay_tree.specs.Entries.{compared, value_at, with_value}
use Rattle.relay_tree.proofs.Finding.{below, set_ascending, set_there, value_there}
use Rattle.relay_tree.proofs.members.Members.get_mut.Goals as goal

pub invariant_of-self-lent : goal.invariant_of-self-lent
invariant_of-self-lent c =
    λ w. set_ascending c.self.inside.entries.items c.in-Ok.at c.index_mut.result.now w
    c.in-Ok.ensures.range c.index_mut.ensures.value c.self.invariant

pub returns-in-Ok : goal.returns-in-Ok
returns-in-Ok c =
    let es = c.self.inside.entries.items in
    let name = c.args.name.now in
    let entry = c.index_mut.result.now in
    let there = found_at (compared name) es c.in-Ok.at (sym c.in-Ok.ensures.place) in (
      (
        refl,
        λ w. ap (λ entries. record { entries = entries; capacity = c.self.inside.entries.cap })
            (set_there es c.in-Ok.at entry w c.in-Ok.ensures.range c.index_mut.ensures.value
            ∙ there.writes w)
            ∙ ap (λ m. with_value m name w) c.self.view_is,
        refl,
      ),
      sym (ap (λ m. value_at m.entries name) (sym c.self.view_is)
          ∙ (there.value
          ∙ value_there es c.in-Ok.at entry c.in-Ok.ensures.range c.index_mut.ensures.value)),
    )

pub returns-in-Err : goal.returns-in-Err
returns-in-Err c =
    let es = c.self.inside.entries.items in
    let name = c.args.name.now in
    let missing =
    missing_at (compared name) (below name) es c.in-Err.field-0 c.self.invariant
    (sym c.in-Err.ensures.place) in (
      (
        refl,
        λ w. ap (λ entries. record { entries = entries; capacity = c.self.inside.entries.cap })
            (sym (set_value_none _ es w missing)) ∙ ap (λ m. with_value m name w) c.self.view_is,
        c.self.view_is,
      ),
      sym (ap (λ m. value_at m.entries name) (sym c.self.view_is) ∙ lookup-none _ es missing),
    )
