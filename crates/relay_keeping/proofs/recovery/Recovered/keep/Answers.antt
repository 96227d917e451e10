use Rattle.relay_keeping.proofs.recovery.Recovered.keep.Goals as goal

pub returns-in-Ok-clause-mirrors : goal.returns-in-Ok-clause-mirrors
returns-in-Ok-clause-mirrors g c = λ b was clean.
    c.in-Ok.ensures.mirrors b was.log was.stands was.behind clean

pub returns-in-Ok-clause-behind : goal.returns-in-Ok-clause-behind
returns-in-Ok-clause-behind g c = λ b was clean.
    c.in-Ok.ensures.settles b was.log was.stands was.behind clean

pub returns-in-Ok-clause-only : goal.returns-in-Ok-clause-only
returns-in-Ok-clause-only g c = λ all clean. c.in-Ok.ensures.only clean all
