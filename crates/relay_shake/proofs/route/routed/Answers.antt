-- The router has the one row, whose prefix is below the tokens.
use Rattle.std.proofs.Common.{◌≡◌, ◌∙◌, ◌<◌, [], ◌∷◌, ◌++◌, All, codes, sym, arith}
use Rattle.std.proofs.lemmas.List.Elements.{All-from_get_or}
use Rattle.matchit.specs.Seek.{first}
use Rattle.matchit.proofs.OnLiterals.{matchit_on_literals}
use Rattle.relay_shake.proofs.Routes.{plain, room_route, found, found-true, found-false}
use Rattle.relay_shake.proofs.Routes.{has_segment_after, seek-row, missed, taken, only_memory}
use Rattle.relay_shake.proofs.route.routed.Goals as goal

pub alloc_error-requires : goal.alloc_error-requires
unfolding matchit_on_literals
alloc_error-requires c =
    let refused = rw c.new-router.ensures at c.in-Err.ensures in
    only_memory (codes "/rooms/" ++ 256 ∷ []) _ refused.1

pub returns-in-Ok-at : goal.returns-in-Ok-at
unfolding matchit_on_literals
returns-in-Ok-at c =
    let rows = rw c.new-router.ensures at c.in-Ok.ensures in
    let target = c.args.target.now in
    let bytes : All (λ b. b < 256) target =
    All-from_get_or (λ b. b < 256) target 0 (λ i _. let fits = c.type_inv.target i in
    omega (arith, fits)) in
    let row : first c.insert.new.self target
    ≡ found room_route (has_segment_after (codes "/rooms/") target) =
    rw rows.1 (seek-row room_route (codes "/rooms/") target plain bytes) in
    let there =
    found-true room_route _ (has_segment_after (codes "/rooms/") target) (sym row
    ∙ c.in-Ok-at.ensures.found) in
    taken target _ _ c.get.result there.1 c.in-Ok-at.ensures.path c.utf8.target there.0
    c.get.ensures

pub returns : goal.returns
unfolding matchit_on_literals
returns c =
    let rows = rw c.new-router.ensures at c.in-Ok.ensures in
    let target = c.args.target.now in
    let bytes : All (λ b. b < 256) target =
    All-from_get_or (λ b. b < 256) target 0 (λ i _. let fits = c.type_inv.target i in
    omega (arith, fits)) in
    let row : first c.insert.new.self target
    ≡ found room_route (has_segment_after (codes "/rooms/") target) =
    rw rows.1 (seek-row room_route (codes "/rooms/") target plain bytes) in
    missed target (found-false room_route (has_segment_after (codes "/rooms/") target) (sym row
    ∙ c.in-Err-at.ensures.missing))
