-- The text of a line of the status listing, by its values.
use Rattle.std.specs.Prelude.{ℕ, ◌<◌, ◌≤◌, List, length}
use Rattle.apex_history.specs.declared.status_rows.StatusRow.{StatusRow}
use Rattle.apex_history.specs.declared.status_rows.StatusRow.TheVariants.{Time, Mode, History, Core, Process, Semaphore, Buffer, Blackboard, EventFlag, Mutex}
use Rattle.apex_types.specs.declared.limits.TheConstants.{MOST_MESSAGES, MOST_PROCESSES}
use Rattle.apex_machine.specs.text.Status.{time_line, mode_line, history_line, core_line, process_line, semaphore_line, buffer_line, blackboard_line, event_flag_line, mutex_line}
use Rattle.apex_machine.specs.table.Table.{Table}

-- the line of the row, with its line feed
abbrev pub row_text : Table → StatusRow → List ℕ
row_text table (Time now) = time_line now
row_text table (Mode mode) = mode_line mode
row_text table (History entries) = history_line entries
row_text table (Core core running) = core_line core running
row_text table (Process process state r) = process_line table process state r
row_text table (Semaphore semaphore value waiting) =
    semaphore_line table semaphore value waiting.now
row_text table (Buffer buffer messages waiting) = buffer_line table buffer messages.now waiting.now
row_text table (Blackboard blackboard message waiting) =
    blackboard_line table blackboard message waiting.now
row_text table (EventFlag event_flag up waiting) = event_flag_line table event_flag up waiting.now
row_text table (Mutex mutex owner depth waiting) = mutex_line table mutex owner depth waiting.now

-- the thing is one of `many`, and no more processes wait for it than a table may have
abbrev pub IsListed : ℕ → ℕ → List ℕ → Type 0
IsListed many i waiting = (i < many) × (length waiting ≤ MOST_PROCESSES)

-- a thing of the table that the row is about is there, and the row's lists are within the limits
abbrev pub IsPrintableRow : Table → StatusRow → Type 0
IsPrintableRow table (Time now) = Unit {0}
IsPrintableRow table (Mode mode) = Unit {0}
IsPrintableRow table (History entries) = Unit {0}
IsPrintableRow table (Core core running) = Unit {0}
IsPrintableRow table (Process process state r) = process < length table.processes
IsPrintableRow table (Semaphore semaphore value waiting) =
    IsListed (length table.semaphores) semaphore waiting.now
IsPrintableRow table (Buffer buffer messages waiting) =
    IsListed (length table.buffers) buffer waiting.now × (length messages.now ≤ MOST_MESSAGES)
IsPrintableRow table (Blackboard blackboard message waiting) =
    IsListed (length table.blackboards) blackboard waiting.now
IsPrintableRow table (EventFlag event_flag up waiting) =
    IsListed (length table.event_flags) event_flag waiting.now
IsPrintableRow table (Mutex mutex owner depth waiting) =
    IsListed (length table.mutexes) mutex waiting.now
