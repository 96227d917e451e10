use Rattle.std.proofs.Common.{◌≡◌, ◌∙◌, ap, List, [], ◌∷◌, ◌++◌}
use Rattle.relay_hub.specs.Session.{Session}
use Rattle.relay_hub.proofs.Watching.{first_agrees}
use Rattle.relay_hub.proofs.room_sessions.RoomSessions.begin.Goals as goal

pub invariant_of-result : goal.invariant_of-result
invariant_of-result c =
    let first = c.args.first in
    let one : c.push.new.self.items ≡ first ∷ [] =
    c.in_ok-push.ensures.items
    ∙ ap (λ (xs : List Session). xs ++ first ∷ []) c.in_ok-sessions.ensures.items in
    (rw (c.new-audiences.ensures, one) (first_agrees first c.requires), rw c.none.ensures tt)
