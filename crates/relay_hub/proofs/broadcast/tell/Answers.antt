use Rattle.std.proofs.Common.{◌∙◌}
use Rattle.relay_hub.proofs.OneAudience.{told_due, told_made, told_short}
use Rattle.relay_hub.proofs.broadcast.tell.Goals as goal

pub returns-then-all_due-clause-notified : goal.returns-then-all_due-clause-notified
returns-then-all_due-clause-notified c = λ d changes since leads.
    rw c.note.ensures.left
    (told_due c.args.room.now d changes c.requires.room c.requires.edited c.requires.reaches since
    leads c.args.telling.now.most c.args.audience.now c.args.sessions.now c.requires.agree
    c.args.telling.now.left
    (rw c.as_slice-numbers.ensures.same at (c.all_due.ensures c.if-all_due.true)))

pub returns-in-Ok-clause-notified : goal.returns-in-Ok-clause-notified
returns-in-Ok-clause-notified c = λ d changes since leads.
    told_made c.args.room.now d changes c.requires.room c.requires.edited c.requires.reaches since
    leads c.args.telling.now.most c.args.audience.now c.args.sessions.now c.requires.agree
    c.args.telling.now.left c.make.new.self.left c.in-Ok.update
    (rw (c.get.ensures, c.note.ensures.most, c.note.ensures.left) at
    (c.in-Ok.ensures.update d changes since leads))
    (rw c.note.ensures.left at c.in-Ok.ensures.left) c.give.new.sessions c.give.result
    (rw c.as_slice-numbers.ensures.same at c.give.ensures)

pub returns-in-Err-clause-notified : goal.returns-in-Err-clause-notified
returns-in-Err-clause-notified c = λ d changes since leads.
    rw (c.in-Err.ensures.err ∙ c.note.ensures.left)
    (told_short c.args.room.now d changes c.requires.room c.requires.edited c.requires.reaches since
    leads c.args.telling.now.most c.args.audience.now c.args.sessions.now c.requires.agree
    c.args.telling.now.left c.give-in-Err.new.sessions c.give-in-Err.result
    (rw c.as_slice-numbers.ensures.same at c.give-in-Err.ensures))
