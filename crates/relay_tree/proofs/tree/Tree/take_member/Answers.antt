use Rattle.std.proofs.Common.{ap, ◌∙◌, rules}
use Rattle.relay_tree.specs.Part.{object_member, with_member}
use Rattle.relay_tree.proofs.Parts.{with_member-other}
use Rattle.relay_tree.proofs.tree.Tree.take_member.Goals as goal
use Rattle.relay_tree.proofs.tree.Tree.take_member.Goals.{in-Some, in-None}

pub returns-clause-taken : goal.returns-clause-taken
returns-clause-taken c =
    elim c.match-member_mut.branch [
      | in-Some w ↦
          let wrote = rw w.in-Some.is at (c.member_mut.follows.holds w.replace.new.dest) in
          rw (← c.self.view_is, w.self-inside-is, w.result-is)
          (wrote
          ∙ ap (λ d. with_member _ c.args.name.now d) (w.replace.ensures.after ∙ w.from.ensures))
      | in-None w ↦ search rules
    ]

pub returns-clause-others : goal.returns-clause-others
returns-clause-others c other apart =
    elim c.match-member_mut.branch [
      | in-Some w ↦
          let wrote = rw w.in-Some.is at (c.member_mut.follows.holds w.replace.new.dest) in
          rw (← c.self.view_is, w.self-inside-is)
          (ap (λ d. object_member d other) wrote ∙ with_member-other _ _ other _ apart)
      | in-None w ↦ search rules
    ]
