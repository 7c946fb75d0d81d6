-- The schedule is the one that was found.
use Rattle.std.proofs.Common.{◌≡◌, sym, Some}
use Rattle.apex_search.specs.Worst.{schedule_in}
use Rattle.apex_printouts.proofs.worst.print_run.Goals as goal

pub returns-in-Some-clause-ok : goal.returns-in-Some-clause-ok
returns-in-Some-clause-ok g c =
    let found : schedule_in c.args.answer.now.worst ≡ Some c.in-Some.events.now = sym (rw c.in-Some.is at c.schedule.ensures) in
    rw found c.write_made_run.ensures.ok

pub returns-in-Some-clause-err : goal.returns-in-Some-clause-err
returns-in-Some-clause-err g c =
    let found : schedule_in c.args.answer.now.worst ≡ Some c.in-Some.events.now = sym (rw c.in-Some.is at c.schedule.ensures) in
    rw found c.write_made_run.ensures.err
