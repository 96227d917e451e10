use Rattle.std.proofs.Common.{refl, sym, ◌∙◌, ap, Some}
use Rattle.relay_hub.proofs.Sessions.{found_at}
use Rattle.relay_hub.proofs.caller.session_mut.Goals as goal

pub returns : goal.returns
returns c =
    let x = c.index-sessions-caller.result in
    let at = found_at c.args.sessions.now c.args.caller.number c.args.caller.index c.requires x in
    let found = at ∙ ap Some (sym c.index-sessions-caller.is) in
    ((refl, λ w. refl), record { writes_back = tt; found = found })
