use Rattle.std.proofs.Common.{◌≡◌, ◌∙◌, ◌||◌, sym, ap, refl}
use Rattle.std.proofs.lemmas.Result.{on_ok_weaker}
use Rattle.relay_pointer.specs.Path.{Path, path_of}
use Rattle.relay_translate.specs.SlotIndex.{container, is_near}
use Rattle.relay_translate.proofs.Near.{near_places, near_at, near_item}
use Rattle.relay_translate.proofs.Gained.{gains_all, gains_either}
use Rattle.relay_translate.proofs.nearby.add_touched.Goals as goal

pub returns-in-Set : goal.returns-in-Set
returns-in-Set c =
    let change = c.args.change.now in
    let path = path_of c.tokens-in-Set.result.now in
    let same : (q : Path) → near_places change q ≡ is_near path q =
    λ q. near_at change c.in-Set.path c.in-Set.is q
    ∙ ap (λ p. is_near p q) (sym c.tokens-in-Set.ensures) in
    on_ok_weaker c.add_near-in-Set.result
    (gains_all change
    (is_near path) c.args.index.now c.args.sessions.now.items
    c.add_near-in-Set.new.sessions.items same) c.add_near-in-Set.ensures

pub returns-in-AddItem : goal.returns-in-AddItem
returns-in-AddItem c =
    let change = c.args.change.now in
    let path = path_of c.container.result.now in
    let is : path ≡ container c.in-AddItem.path =
    c.container.ensures ∙ ap container c.tokens.ensures in
    let same : (q : Path) → near_places change q ≡ is_near path q =
    λ q. near_item change c.in-AddItem.path c.in-AddItem.is q
    ∙ ap (λ p. is_near p q) (sym is) in
    on_ok_weaker c.add_near-in-AddItem.result
    (gains_all change
    (is_near path) c.args.index.now c.args.sessions.now.items
    c.add_near-in-AddItem.new.sessions.items same) c.add_near-in-AddItem.ensures

pub returns-in-Copy : goal.returns-in-Copy
returns-in-Copy c =
    let change = c.args.change.now in
    let path = path_of c.scope-in-Copy.result.now in
    let same : (q : Path) → near_places change q ≡ is_near path q =
    λ q. rw (c.in-Copy.is, c.scope-in-Copy.ensures) refl in
    on_ok_weaker c.add_near-in-Copy.result
    (gains_all change
    (is_near path) c.args.index.now c.args.sessions.now.items
    c.add_near-in-Copy.new.sessions.items same) c.add_near-in-Copy.ensures

pub returns-in_ok-add_near-in-Move : goal.returns-in_ok-add_near-in-Move
returns-in_ok-add_near-in-Move c =
    let change = c.args.change.now in
    let index = c.args.index.now in
    let from = is_near (path_of c.scope.result.now) in
    let to = is_near (path_of c.scope-in-Move.result.now) in
    let same : (q : Path) → near_places change q ≡ (from q || to q) =
    λ q. rw (c.in-Move.is, c.scope.ensures, c.scope-in-Move.ensures) refl in
    on_ok_weaker c.add_near-in-Move.result
    (λ told. gains_all change
    (λ q. from q || to q) index c.args.sessions.now.items c.add_near-in-Move.new.sessions.items
    same
    (gains_either from to change index c.args.sessions.now.items c.add_near.new.sessions.items
    c.add_near-in-Move.new.sessions.items c.in_ok-add_near-in-Move.ensures told))
    c.add_near-in-Move.ensures
