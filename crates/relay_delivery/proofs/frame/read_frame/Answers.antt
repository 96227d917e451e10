use Rattle.std.proofs.Common.{◌<◌, ◌^◌, length, arith, Err, ap}
use Rattle.relay_delivery.proofs.Frames.{takes_text, never_partial, refuses_text, takes_bytes}
use Rattle.relay_delivery.proofs.Frames.{short}
use Rattle.relay_delivery.proofs.frame.read_frame.Goals as goal

pub returns-in-Ok-Complete-clause-progress : goal.returns-in-Ok-Complete-clause-progress
returns-in-Ok-Complete-clause-progress c =
    takes_bytes c.args.context.now c.args.frames.now c.read.new.input c.in-Ok-Complete.step
    (rw c.in-Ok-Complete.field-0-is at c.in-Ok-Complete.ensures.returns)

pub returns-in-Ok-Complete-clause-takes : goal.returns-in-Ok-Complete-clause-takes
returns-in-Ok-Complete-clause-takes c = λ text rest listens is.
    let bound : length c.args.frames.now < 2 ^ 63 = omega arith in
    takes_text text rest c.args.frames.now c.args.context.now listens is
    (short text rest c.args.frames.now is bound) c.read.new.self c.read.new.input _ _
    c.in-Ok-Complete.step
    (rw c.in-Ok-Complete.field-0-is at c.in-Ok-Complete.ensures.returns)
    c.in-Ok-Complete.ensures.leaves

pub returns-in-Ok-Partial-clause-refuses : goal.returns-in-Ok-Partial-clause-refuses
returns-in-Ok-Partial-clause-refuses c = λ text rest listens is.
    let bound : length c.args.frames.now < 2 ^ 63 = omega arith in
    absurd (never_partial text rest c.args.frames.now c.args.context.now listens is
    (short text rest c.args.frames.now is bound) c.read.new.input c.in-Ok-Partial.field-0-0
    (rw c.in-Ok-Partial.field-0-is at c.in-Ok-Partial.ensures.returns))

pub returns-clause-refuses : goal.returns-clause-refuses
returns-clause-refuses c = λ text rest listens is.
    let bound : length c.args.frames.now < 2 ^ 63 = omega arith in
    rw c.of_frame.ensures
    (refuses_text text rest c.args.frames.now c.args.context.now listens is
    (short text rest c.args.frames.now is bound) c.in-Err.error c.in-Err.ensures.err
    (λ none. c.in-Err.ensures.reply_due (ap Err none)))
