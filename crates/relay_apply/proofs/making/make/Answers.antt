use Rattle.std.proofs.Common.{sym}
use Rattle.relay_patch.proofs.Carried.{passes_as, makes_as, moves_as, stays_in_list, slid_makes}
use Rattle.relay_patch.proofs.Carried.{slid_gone}
use Rattle.relay_patch.proofs.Exchanges.{replaced_needs}
use Rattle.relay_patch.proofs.Walks.{at_reached}
use Rattle.relay_apply.proofs.making.make.Goals as goal
use Rattle.relay_tree.proofs.Outcomes.{on_ok}

pub exchange-requires : goal.exchange-requires
exchange-requires c =
    replaced_needs c.in-Set.path c.in-Set.value c.args.tree.now
    (passes_as c.args.change.now _ c.args.tree.now c.in-Set.is c.requires.makes)

pub insert_copy-requires : goal.insert_copy-requires
insert_copy-requires c =
    rw c.tokens.ensures (passes_as c.args.change.now _ c.args.tree.now c.in-AddMember.is
    c.requires.makes)

pub insert_copy-requires-in-AddItem : goal.insert_copy-requires-in-AddItem
insert_copy-requires-in-AddItem c =
    rw c.tokens-in-AddItem.ensures
    (passes_as c.args.change.now _ c.args.tree.now c.in-AddItem.is c.requires.makes)

pub remove_at-requires : goal.remove_at-requires
remove_at-requires c =
    rw c.tokens-in-DropMember.ensures
    (passes_as c.args.change.now _ c.args.tree.now c.in-DropMember.is c.requires.makes)

pub remove_at-requires-in-DropItem : goal.remove_at-requires-in-DropItem
remove_at-requires-in-DropItem c =
    rw c.tokens-in-DropItem.ensures
    (passes_as c.args.change.now _ c.args.tree.now c.in-DropItem.is c.requires.makes)

pub returns-in-AddMember-clause-made : goal.returns-in-AddMember-clause-made
returns-in-AddMember-clause-made c =
    on_ok c.insert_copy.result (rw c.tokens.ensures at c.insert_copy.ensures.made)
    (makes_as c.args.change.now _ c.args.tree.now c.insert_copy.new.tree c.in-AddMember.is
    c.requires.makes)

pub returns-in-AddItem-clause-made : goal.returns-in-AddItem-clause-made
returns-in-AddItem-clause-made c =
    on_ok c.insert_copy-in-AddItem.result
    (rw c.tokens-in-AddItem.ensures at c.insert_copy-in-AddItem.ensures.made)
    (makes_as c.args.change.now _ c.args.tree.now c.insert_copy-in-AddItem.new.tree
    c.in-AddItem.is c.requires.makes)

pub returns-in-DropMember-clause-made : goal.returns-in-DropMember-clause-made
returns-in-DropMember-clause-made c =
    makes_as c.args.change.now _ c.args.tree.now c.remove_at.new.tree c.in-DropMember.is
    c.requires.makes (rw c.tokens-in-DropMember.ensures at c.remove_at.ensures.rest)

pub returns-in-DropItem-clause-made : goal.returns-in-DropItem-clause-made
returns-in-DropItem-clause-made c =
    makes_as c.args.change.now _ c.args.tree.now c.remove_at-in-DropItem.new.tree c.in-DropItem.is
    c.requires.makes (rw c.tokens-in-DropItem.ensures at c.remove_at-in-DropItem.ensures.rest)

pub slide-requires-clause-list : goal.slide-requires-clause-list
slide-requires-clause-list c =
    stays_in_list c.args.change.now _ _ _ c.in-Move.is c.requires.in_place

pub slide-requires-clause-moves : goal.slide-requires-clause-moves
slide-requires-clause-moves c =
    let m = c.requires.makes in (
      c.in-Move.value,
      m.0,
      moves_as c.args.change.now c.args.tree.now c.in-Move.from c.in-Move.to c.in-Move.value
          c.in-Move.is m,
    )

pub returns-in_ok-slide-in-Move-clause-made : goal.returns-in_ok-slide-in-Move-clause-made
returns-in_ok-slide-in-Move-clause-made c =
    slid_makes c.args.change.now c.args.tree.now c.in-Move.from c.in-Move.to c.in-Move.value
    c.slide.new.tree c.in-Move.is c.requires.makes c.in_ok-slide-in-Move.ensures.made

pub returns-in_ok-slide-in-Move-clause-went : goal.returns-in_ok-slide-in-Move-clause-went
returns-in_ok-slide-in-Move-clause-went c =
    slid_gone c.args.change.now c.args.tree.now c.in-Move.from c.in-Move.to c.in-Move.value
    c.in-Move.is c.requires.in_place

pub returns-in_ok-put-in-Copy-clause-made : goal.returns-in_ok-put-in-Copy-clause-made
returns-in_ok-put-in-Copy-clause-made c =
    makes_as c.args.change.now _ c.args.tree.now c.put.new.tree c.in-Copy.is c.requires.makes
    (rw c.in_ok-value-in-Copy.ensures at c.in_ok-put-in-Copy.ensures.made)

pub returns-in_ok-value-in-Set-clause-went : goal.returns-in_ok-value-in-Set-clause-went
returns-in_ok-value-in-Set-clause-went c =
    rw c.in-Set.is (sym (at_reached c.in-Set.path c.args.tree.now c.exchange.result
    c.exchange.ensures.old))

pub returns-in-DropMember-clause-went : goal.returns-in-DropMember-clause-went
returns-in-DropMember-clause-went c =
    rw c.in-DropMember.is
    (sym (at_reached c.in-DropMember.path c.args.tree.now c.remove_at.result
    (rw c.tokens-in-DropMember.ensures at c.remove_at.ensures.value)))

pub returns-in-DropItem-clause-went : goal.returns-in-DropItem-clause-went
returns-in-DropItem-clause-went c =
    rw c.in-DropItem.is (sym
    (at_reached c.in-DropItem.path c.args.tree.now c.remove_at-in-DropItem.result
    (rw c.tokens-in-DropItem.ensures at c.remove_at-in-DropItem.ensures.value)))
