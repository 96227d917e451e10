use Rattle.std.proofs.Common.{◌∙◌, sym}
use Rattle.relay_audience.specs.Audiences.{OthersStay}
use Rattle.relay_audience.proofs.Laws.{exact}
use Rattle.relay_hub.specs.Telling.{named, views_of}
use Rattle.relay_hub.proofs.Untouched.{all_told, newest_since, not_outside, quiet_outside}
use Rattle.relay_hub.proofs.broadcast.broadcast.Goals as goal

pub tell_those-requires-clause-apart : goal.tell_those-requires-clause-apart
tell_those-requires-clause-apart c = c.in-Ok.ensures.apart

pub tell_those-requires-clause-exact : goal.tell_those-requires-clause-exact
tell_those-requires-clause-exact c = exact c.args.audiences.now c.in-Ok.ensures.apart

pub returns-in-Ok-clause-notified : goal.returns-in-Ok-clause-notified
returns-in-Ok-clause-notified c = λ d changes since leads.
    let room = c.args.room.now in
    let audiences = c.args.audiences.now in
    let ns = c.in-Ok.numbers.items in
    let others : OthersStay changes audiences ns =
    rw (newest_since room.history c.requires.edited c.requires.reaches ∙ sym since) at
    c.in-Ok.ensures.others in
    all_told room d changes leads c.args.telling.now.most c.args.telling.now.left
    c.tell_those.new.telling.left (views_of (named audiences ns)) c.args.sessions.now
    c.tell_those.new.sessions c.tell_those.result
    (rw c.as_slice.ensures.value at (c.tell_those.ensures.notified d changes since leads))
    (λ t v has none.
    quiet_outside audiences c.in-Ok.ensures.apart c.args.sessions.now c.requires.agree t v has
    changes ns others none room.document)

pub returns-in-Err-clause-notified : goal.returns-in-Err-clause-notified
returns-in-Err-clause-notified c = λ d changes since leads.
    let room = c.args.room.now in
    let audiences = c.args.audiences.now in
    all_told room d changes leads c.args.telling.now.most c.args.telling.now.left
    c.tell_all.new.telling.left (views_of audiences) c.args.sessions.now c.tell_all.new.sessions
    c.tell_all.result
    (rw c.all.ensures.same at (c.tell_all.ensures.notified d changes since leads))
    (λ t v has none.
    absurd (not_outside audiences c.all.ensures.apart c.args.sessions.now c.requires.agree t v
    has none))
