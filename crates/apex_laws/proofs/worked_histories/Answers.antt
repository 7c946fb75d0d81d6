use Rattle.std.proofs.Common.{refl}
use Rattle.std.specs.Fmt.{digits}
use Rattle.apex_machine.specs.processes.Running.{runs_on}
use Rattle.apex_machine.specs.processes.Waiters.{waits_in}
use Rattle.apex_machine.specs.services.PartitionServices.{enter_normal}
use Rattle.apex_machine.specs.processes.Dues.{is_due_at, is_missed_at}
use Rattle.apex_machine.specs.Ticks.{pass_time}
use Rattle.apex_machine.specs.Machine.{turn, tick}
use Rattle.apex_laws.proofs.worked_histories.Goals as goal

pub returns-clause-signal_wakes_waiter : goal.returns-clause-signal_wakes_waiter
unfolding turn tick pass_time enter_normal runs_on waits_in is_due_at is_missed_at digits
returns-clause-signal_wakes_waiter c = refl

pub returns-clause-missed_deadline_then_next_release : goal.returns-clause-missed_deadline_then_next_release
unfolding turn tick pass_time enter_normal runs_on waits_in is_due_at is_missed_at digits
returns-clause-missed_deadline_then_next_release c = refl

pub returns-clause-work_is_lost_after_absence : goal.returns-clause-work_is_lost_after_absence
unfolding turn tick pass_time enter_normal runs_on waits_in is_due_at is_missed_at digits
returns-clause-work_is_lost_after_absence c = refl
