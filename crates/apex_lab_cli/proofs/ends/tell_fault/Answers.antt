-- What is reported is the line of the fault.
use Rattle.std.proofs.Common.{◌∙◌}
use Rattle.apex_lab_cli.proofs.Endings.{told_line}
use Rattle.apex_lab_cli.proofs.ends.tell_fault.Goals as goal

pub returns-in-Schedule : goal.returns-in-Schedule
returns-in-Schedule g c =
    rw c.in-Schedule.is (told_line _ _ _ _ (c.as_bytes.ensures.value ∙ c.as_str.ensures.value ∙ c.schedule_line.ensures) c.write_error.ensures)

pub returns-in-NoProcess : goal.returns-in-NoProcess
returns-in-NoProcess g c =
    rw c.in-NoProcess.is (told_line _ _ _ _ (c.as_slice.ensures.value ∙ c.process_line.ensures) c.write_error-in-NoProcess.ensures)

pub returns-in-StatesFull : goal.returns-in-StatesFull
returns-in-StatesFull g c =
    rw c.in-StatesFull.is (told_line _ _ _ _ (c.as_bytes-in-StatesFull.ensures.value ∙ c.as_str-in-StatesFull.ensures.value ∙ c.states_line.ensures) c.write_error-in-StatesFull.ensures)

pub returns-in-NoEntry : goal.returns-in-NoEntry
returns-in-NoEntry g c =
    rw c.in-NoEntry.is (told_line _ _ _ _ (c.as_bytes-in-NoEntry.ensures.value ∙ c.as_str-in-NoEntry.ensures.value ∙ c.entry_line.ensures) c.write_error-in-NoEntry.ensures)

pub returns-in-Empty : goal.returns-in-Empty
returns-in-Empty g c =
    rw c.in-Empty.is (told_line _ _ _ _ (c.as_bytes-in-Empty.ensures.value ∙ c.as_str-in-Empty.ensures.value ∙ c.window_line.ensures) c.write_error-in-Empty.ensures)
