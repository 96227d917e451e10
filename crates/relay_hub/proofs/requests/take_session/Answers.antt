use Rattle.std.proofs.Common.{◌≡◌, Some, position, sym, ap, ◌∙◌}
use Rattle.relay_hub.specs.State.{is_number}
use Rattle.relay_hub.proofs.Rising.{once_rising}
use Rattle.relay_hub.proofs.Sessions.{removed_at, found_at}
use Rattle.relay_hub.proofs.requests.take_session.Goals as goal

index : (c : goal.After-remove)
    → position (is_number c.args.number) c.args.sessions.now.items ≡ Some c.find-caller.result.index
index c = rw (c.as_slice.ensures.value, c.find-caller.ensures.number) at c.find-caller.ensures.index

pub returns-clause-session : goal.returns-clause-session
returns-clause-session c =
    found_at c.args.sessions.now.items c.args.number c.find-caller.result.index (index c)
    c.remove.result
    ∙ ap Some (sym c.remove.ensures.value)

pub returns-clause-others : goal.returns-clause-others
returns-clause-others c =
    let xs = c.args.sessions.now.items in
    c.remove.ensures.items
    ∙ removed_at xs c.args.number c.find-caller.result.index (once_rising xs c.requires.rising)
    (index c)
