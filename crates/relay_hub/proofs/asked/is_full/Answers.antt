use Rattle.relay_hub.proofs.Sessions.{full_or_room}
use Rattle.relay_hub.proofs.asked.is_full.Goals as goal

pub returns : goal.returns
returns c =
    let x = c.session_at.result.now in
    rw c.is_full.ensures.full
    (full_or_room c.args.sessions.now c.args.caller.number x c.session_at.ensures
    c.is_full.ensures.within)
