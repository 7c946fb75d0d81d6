-- The text of a warning: its place, and the reason. Processes, steps and objects are counted from 1
-- there, and cores from 0.
use Rattle.std.specs.Prelude.{codes, decimal, ℕ, ◌+◌, List, ◌++◌}
use Rattle.apex_types.specs.declared.calls.Origin.TheVariants.{Init, Script}
use Rattle.apex_warnings.specs.Terms.{Group, Origin, ProcessWarning, StepWarning, Warning}
use Rattle.apex_warnings.specs.declared.objects.Group.TheVariants.{Semaphores, Buffers, Blackboards, EventFlags, Mutexes}
use Rattle.apex_warnings.specs.declared.process_warnings.ProcessWarning.TheVariants.{EmptyScript, NotStarted, CapacityAbovePeriod, NoPeriodicWait, MuchWork}
use Rattle.apex_warnings.specs.declared.step_warnings.StepWarning.TheVariants.{MessageRefused, AperiodicWait, SuspendsPeriodic, LowCeiling, NotReleased, WaitsAsOwner, NeverAnswered}
use Rattle.apex_warnings.specs.declared.warnings.Warning.TheVariants.{Process, Step, UnusedObject, UnusedCore}

-- why a process is warned of
abbrev pub process_reason : ProcessWarning → List ℕ
process_reason EmptyScript = codes "its script is empty, so it stops at its first turn"
process_reason NotStarted = codes "no step outside its script starts it, so it stays dormant"
process_reason CapacityAbovePeriod =
    codes "its time capacity is longer than its period, so its next release comes first"
process_reason NoPeriodicWait =
    codes "it is periodic and loops without PERIODIC_WAIT, so only a start releases it"
process_reason MuchWork =
    codes "the work of a job has no fewer units than its period or its time capacity has ticks"

-- why a step is warned of
abbrev pub step_reason : StepWarning → List ℕ
step_reason MessageRefused =
    codes "the message is empty or too long, so the answer is INVALID_PARAM"
step_reason AperiodicWait = codes "the process is aperiodic, so the answer is INVALID_MODE"
step_reason SuspendsPeriodic =
    codes "a periodic process cannot be suspended, so the call is refused"
step_reason LowCeiling =
    codes "the ceiling is below the priority of the process, so the call is refused"
step_reason NotReleased = codes "the rest of the script does not give the mutex up"
step_reason WaitsAsOwner =
    codes "if the process got its mutexes, it owns one here, and the call is refused"
step_reason NeverAnswered = codes "no step gives what the call waits for"

-- the word of an object
abbrev pub group_word : Group → List ℕ
group_word Semaphores = codes "semaphore"
group_word Buffers = codes "buffer"
group_word Blackboards = codes "blackboard"
group_word EventFlags = codes "event"
group_word Mutexes = codes "mutex"

-- the place of a step
abbrev pub step_place : Origin → List ℕ
step_place (Init k) = codes "init " ++ decimal (k + 1)
step_place (Script p k) = codes "process " ++ decimal (p + 1) ++ codes " step " ++ decimal (k + 1)

-- the text
abbrev pub warning_text : Warning → List ℕ
warning_text (Process warning p) =
    codes "process " ++ decimal (p + 1) ++ codes ": " ++ process_reason warning
warning_text (Step warning origin) = step_place origin ++ codes ": " ++ step_reason warning
warning_text (UnusedObject group i) =
    group_word group ++ codes " " ++ decimal (i + 1)
    ++ codes ": no step names it, apart from its creation"
warning_text (UnusedCore core) =
    codes "core " ++ decimal core ++ codes ": the init list binds no process to it"
