-- The warnings about a step.
use Rattle.std.specs.Prelude.{ℕ, ◌+◌, Bool, false, List, drop, nat_lt, ◌==◌, ◌&&◌, not, is_some}
use Rattle.apex_warnings.specs.Acts.{does, is_taken, waits_for_period}
use Rattle.apex_warnings.specs.Calls.{any_step, script}
use Rattle.apex_warnings.specs.Owning.{is_released, waits_as_owner}
use Rattle.apex_warnings.specs.Terms.{Call, StepWarning}
use Rattle.apex_warnings.specs.declared.acts.Act.TheVariants as act
use Rattle.apex_warnings.specs.declared.step_warnings.StepWarning.TheVariants.{MessageRefused, AperiodicWait, SuspendsPeriodic, LowCeiling, NotReleased, WaitsAsOwner, NeverAnswered}
use Rattle.apex_types.specs.declared.calls.BlackboardService.TheVariants as blackboard
use Rattle.apex_types.specs.declared.calls.BufferService.TheVariants as buffer
use Rattle.apex_types.specs.declared.calls.Call.TheVariants.{Process, Caller, Semaphore, Buffer, Blackboard, EventFlag, Mutex}
use Rattle.apex_types.specs.declared.calls.CallerCall.TheVariants.{SuspendSelf}
use Rattle.apex_types.specs.declared.calls.EventFlagService.TheVariants as event_flag
use Rattle.apex_types.specs.declared.calls.MutexService.TheVariants.{Acquire}
use Rattle.apex_types.specs.declared.calls.ObjectCall.TheVariants.{KindService}
use Rattle.apex_types.specs.declared.calls.ProcessService.TheVariants.{Suspend, Resume}
use Rattle.apex_types.specs.declared.calls.SemaphoreService.TheVariants as semaphore
use Rattle.apex_machine.specs.table.Table.{Table, blackboard_config, buffer_config, mutex_config, process_config, semaphore_config}

-- the message is empty or longer than those of its buffer or blackboard, so the answer is always
-- INVALID_PARAM
abbrev pub message_is_refused : Table → Call → Bool
message_is_refused table (Buffer (KindService b (buffer.Send message timeout))) =
    not (is_taken (buffer_config table b).length message)
message_is_refused table (Blackboard (KindService b (blackboard.Display message))) =
    not (is_taken (blackboard_config table b).length message)
message_is_refused table _ = false

-- process p is periodic
abbrev pub is_periodic : Table → ℕ → Bool
is_periodic table p = is_some (process_config table p).attributes.period

-- SUSPEND or RESUME of a periodic process, or its SUSPEND_SELF: the answer is always INVALID_MODE,
-- or INVALID_PARAM for the caller itself and for a process that is not created
abbrev pub suspends_periodic : Table → ℕ → Call → Bool
suspends_periodic table p (Process (KindService q Suspend)) = is_periodic table q
suspends_periodic table p (Process (KindService q Resume)) = is_periodic table q
suspends_periodic table p (Caller (SuspendSelf timeout)) = is_periodic table p
suspends_periodic table p _ = false

-- ACQUIRE_MUTEX of a mutex whose ceiling is below the table's priority of process p, and no step
-- sets its priority to the ceiling or lower: the answer is always INVALID_MODE, or INVALID_PARAM if
-- the mutex is not created
abbrev pub ceiling_is_low : Table → ℕ → Call → Bool
ceiling_is_low table p (Mutex (KindService m (Acquire timeout))) =
    nat_lt (mutex_config table m).ceiling (process_config table p).attributes.priority
    && not (any_step (does (act.Lower p (mutex_config table m).ceiling)) table)
ceiling_is_low table p _ = false

-- ACQUIRE_MUTEX, and the rest of the script does not give the mutex up
abbrev pub is_unreleased : Call → List Call → Bool
is_unreleased (Mutex (KindService m (Acquire timeout))) rest = not (is_released m 1 rest)
is_unreleased _ rest = false

-- a wait that no step ends: for a semaphore that begins at 0 and is not signalled, for a message
-- of a buffer that is sent none, or of a blackboard on which none is displayed, or for an event flag
-- that is not set
abbrev pub is_unanswered : Table → Call → Bool
is_unanswered table (Semaphore (KindService s (semaphore.Wait timeout))) =
    (semaphore_config table s).initial == 0 && not (any_step (does (act.Signal s)) table)
is_unanswered table (Buffer (KindService b (buffer.Receive timeout))) =
    not (any_step (does (act.Send b (buffer_config table b).length)) table)
is_unanswered table (Blackboard (KindService b (blackboard.Read timeout))) =
    not (any_step (does (act.Display b (blackboard_config table b).length)) table)
is_unanswered table (EventFlag (KindService e (event_flag.Wait timeout))) =
    not (any_step (does (act.Set e)) table)
is_unanswered table _ = false

-- the warning is about a step of the init list with this call
abbrev pub init_step_warned : StepWarning → Table → Call → Bool
init_step_warned MessageRefused table call = message_is_refused table call
init_step_warned _ table call = false

-- the warning is about step k of the script of process p, with this call
abbrev pub step_warned : StepWarning → Table → ℕ → ℕ → Call → Bool
step_warned MessageRefused table p k call = message_is_refused table call
step_warned AperiodicWait table p k call = waits_for_period call && not (is_periodic table p)
step_warned SuspendsPeriodic table p k call = suspends_periodic table p call
step_warned LowCeiling table p k call = ceiling_is_low table p call
step_warned NotReleased table p k call = is_unreleased call (drop (k + 1) (script table p))
step_warned WaitsAsOwner table p k call = waits_as_owner table p k call
step_warned NeverAnswered table p k call = is_unanswered table call
