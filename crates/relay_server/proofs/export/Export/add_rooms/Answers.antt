use Rattle.std.proofs.Common.{◌∙◌, [], ◌∷◌, ◌++◌, ap, append_assoc, append-nil, subst, sym}
use Rattle.std.specs.Str.Iter.{lines_rest}
use Rattle.relay_server.specs.Exports.{AreRoomsOf, more, none}
use Rattle.relay_server.proofs.export.Export.add_rooms.Goals as goal

pub loop-line-preserved : goal.loop-line-preserved
loop-line-preserved c =
    let before = c.loop-line.invariant in
    let added = c.in_ok-add_room.ensures.ok in
    let rooms = before.1 in (
      c.in_ok-add_room.ensures.epoch ∙ before.0,
      rooms ++ added.0 ∷ [],
      added.2 ∙ ap (λ changes. changes ++ added.0 ∷ []) before.2
          ∙ append_assoc _ rooms (added.0 ∷ []),
      λ others follow. subst (AreRoomsOf _) (sym (append_assoc rooms (added.0 ∷ []) others))
          (before.3 (added.0 ∷ others) (more c.in-Some.ensures.steps.0.2 added.1 follow)),
    )

pub returns-clause-ok : goal.returns-clause-ok
returns-clause-ok c =
    let all = c.loop-line.invariant in
    let begins = ap lines_rest c.into_iter-line-iterator.ensures.into_iter_gives in (
      all.1,
      subst (λ text. AreRoomsOf text all.1) begins
          (subst (AreRoomsOf _) (append-nil all.1) (all.3 [] (none c.in-None.ensures.steps.0.0))),
      all.2,
    )
