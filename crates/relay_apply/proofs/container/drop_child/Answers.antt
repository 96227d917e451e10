use Rattle.std.proofs.Common.{◌≡◌, Some, Ok, refl, sym, ap, ◌∙◌}
use Rattle.relay_tree.specs.Document.{object}
use Rattle.relay_tree.specs.Seen.{members_of}
use Rattle.relay_apply.proofs.Contained.{member_taken, member_drops, no_parts}
use Rattle.relay_apply.proofs.container.drop_child.Goals as goal
use Rattle.relay_apply.proofs.container.drop_child.Goals.{in-List, in-Members}

pub unwrap-requires : goal.unwrap-requires
unwrap-requires c =
    let there = rw (← c.container.view_is, c.in-Members.is) at c.requires in
    let m =
    member_taken c.in-Members.members.entries c.args.token.now c.remove.result there
    c.remove.ensures.value in
    rw m.1 refl

pub unreachable-requires : goal.unreachable-requires
unreachable-requires c =
    let there = rw (← c.container.view_is) at c.requires in
    no_parts c.container.inside.node c.args.token.now c.in_default.not-List
    c.in_default.not-Members there

pub returns-clause-value : goal.returns-clause-value
returns-clause-value c =
    let same = c.container.view_is in
    elim c.match-container.branch [
      | in-List w ↦ rw (← same, w.in-List.is, w.result-is) w.drop_item.ensures.value
      | in-Members w ↦
          let there = rw (← same, w.in-Members.is) at c.requires in
          let m =
          member_taken w.in-Members.members.entries c.args.token.now w.remove.result there
          w.remove.ensures.value in
          let taken : w.unwrap.result ≡ m.0 =
          let k : Some w.unwrap.result ≡ Some m.0 = sym w.unwrap.ensures ∙ m.1 in cc in
          rw (← same, w.in-Members.is, w.result-is, m.2) (ap Ok (sym taken))
    ]

pub returns-clause-rest : goal.returns-clause-rest
returns-clause-rest c =
    let same = c.container.view_is in
    elim c.match-container.branch [
      | in-List w ↦ rw (← same, w.in-List.is, w.container-inside-is) w.drop_item.ensures.rest
      | in-Members w ↦
          let there = rw (← same, w.in-Members.is) at c.requires in
          let m =
          member_taken w.in-Members.members.entries c.args.token.now w.remove.result there
          w.remove.ensures.value in
          rw (
            ← same,
            w.in-Members.is,
            w.container-inside-is,
          )
          (member_drops w.in-Members.members.entries c.args.token.now m.0 m.2
          ∙ ap (λ es. Ok (object (members_of es))) (sym w.remove.ensures.entries))
    ]
