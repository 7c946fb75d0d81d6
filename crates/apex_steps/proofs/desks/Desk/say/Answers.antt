use Rattle.apex_steps.proofs.desks.Desk.say.Goals as goal

pub returns-clause-ok : goal.returns-clause-ok
returns-clause-ok g c = rw (c.kernel.ensures.table, c.kernel.ensures.machine) at c.say_of.ensures.ok

pub returns-clause-err : goal.returns-clause-err
returns-clause-err g c = rw (c.kernel.ensures.table, c.kernel.ensures.machine) at c.say_of.ensures.err
