use Rattle.std.proofs.Common.{◌≡◌, None, refl, ◌∙◌}
use Rattle.relay_tree.specs.Part.{list_len}
use Rattle.relay_tree.specs.Seen.{document_of}
use Rattle.relay_pointer.proofs.Walks.{child-number, with_child-number, child-member}
use Rattle.relay_pointer.proofs.Walks.{with_child-member, was_list, was_other}
use Rattle.relay_pointer.proofs.walk.child_mut.Goals as goal

pub returns-then-is_none : goal.returns-then-is_none
returns-then-is_none c =
    let d = document_of c.args.node.now in
    let other : list_len d ≡ None =
    was_other (list_len d) c.list_len.result c.list_len.ensures.len c.if-is_none.ensures in (
      (
        refl,
        λ w. rw (← with_child-member d c.args.token.now w other) (c.member_mut.follows.holds w),
        c.member_mut.follows.holds-at-none,
      ),
      c.member_mut.ensures.value
          ∙ child-member d c.args.token.now other,
    )

pub returns-in-Some : goal.returns-in-Some
returns-in-Some c =
    let d = document_of c.args.node.now in
    let s = was_list
    (list_len d) c.list_len.result c.list_len.ensures.len c.list_len.ensures.few
    c.if-is_none.ensures in (
      (
        refl,
        λ w. rw (← with_child-number d c.args.token.now c.in-Some.index s.0 w s.1 s.2
            c.in-Some.ensures) (c.item_mut.follows.holds w),
        c.item_mut.follows.holds-at-none,
      ),
      c.item_mut.ensures.value
          ∙ child-number d c.args.token.now c.in-Some.index s.0 s.1 s.2 c.in-Some.ensures,
    )
