use Rattle.std.proofs.Common.{sym, ◌∙◌, ap, Some}
use Rattle.relay_hub.proofs.Sessions.{found_at}
use Rattle.relay_hub.proofs.caller.session_at.Goals as goal

pub returns : goal.returns
returns c =
    let x = c.index-sessions-caller.result in
    found_at c.args.sessions.now c.args.caller.number c.args.caller.index c.requires x
    ∙ ap Some (sym c.index-sessions-caller.is)
