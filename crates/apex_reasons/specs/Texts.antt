-- The text of a reason: who acts, by which step, and the guard or the rule (this profile).
use Rattle.std.specs.Prelude.{ℕ, List, [], ◌++◌, Option, None, Some, codes, decimal}
use Rattle.apex_types.specs.declared.entries.Caller.TheVariants.{Process, Init, Nobody}
use Rattle.apex_calls.specs.Lines.{code_text}
use Rattle.apex_machine.specs.table.Table.{Table}
use Rattle.apex_machine.specs.text.Texts.{process_name}
use Rattle.apex_reasons.specs.Terms.{Caller}
use Rattle.apex_reasons.specs.Guards.{code_of, sentence_of}
use Rattle.apex_reasons.specs.declared.reasons.Reason.{Reason}
use Rattle.apex_reasons.specs.declared.rules.Rule.{Rule}
use Rattle.apex_reasons.specs.declared.rules.Rule.TheVariants.{Refused, Served, Waits, WouldWait, WorkWasKept, WorkWasBroken, ModeIsIdle, NoInitStepIsDue, NobodyIsEligible, TickStops, TickGoesWhole}
use Rattle.apex_reasons.specs.declared.rules.WaitCause.{WaitCause}
use Rattle.apex_reasons.specs.declared.rules.WaitCause.TheVariants.{SemaphoreIsAtZero, BufferIsFull, BufferIsEmpty, BlackboardIsEmpty, EventFlagIsDown, MutexIsOwned, AsksForTime, AsksForRelease, AsksForSuspension}

-- the place of the step in its list, counted from 0 and with a space before it
abbrev pub step_text : Option ℕ → List ℕ
step_text None = []
step_text (Some step) = codes " step " ++ decimal step

-- the caller by its name, and its step
abbrev pub actor_text : Table → Caller → Option ℕ → List ℕ
actor_text table (Process p) step = process_name table p ++ step_text step ++ codes ": "
actor_text table Init step = codes "init" ++ step_text step ++ codes ": "
actor_text table Nobody step = []

-- why a caller begins to wait, in words
abbrev pub cause_text : WaitCause → List ℕ
cause_text SemaphoreIsAtZero = codes "the value of the semaphore is 0"
cause_text BufferIsFull = codes "the buffer is full"
cause_text BufferIsEmpty = codes "the buffer holds no message"
cause_text BlackboardIsEmpty = codes "the blackboard holds no message"
cause_text EventFlagIsDown = codes "the event flag is down"
cause_text MutexIsOwned = codes "another process owns the mutex"
cause_text AsksForTime = codes "the caller asks to wait"
cause_text AsksForRelease = codes "the caller asks to wait for its next release"
cause_text AsksForSuspension = codes "the caller asks to be suspended"

-- a rule in words
abbrev pub words_of : Rule → List ℕ
words_of (Refused guard) = sentence_of guard
words_of Served = codes "no guard of the service holds"
words_of (Waits cause) = cause_text cause
words_of (WouldWait cause) = cause_text cause
words_of WorkWasKept = codes "the process has kept the core since the work began"
words_of WorkWasBroken = codes "the process has lost the core since the work began"
words_of ModeIsIdle = codes "the mode is IDLE"
words_of NoInitStepIsDue = codes "the mode is COLD_START and no init step is due on the core"
words_of NobodyIsEligible = codes "no eligible process is bound to the core"
words_of TickStops = codes "a wait ends or a deadline passes before the tick is over"
words_of TickGoesWhole = codes "no wait ends and no deadline passes before the tick is over"

-- what stands before the words: the beginning of the reply, if the rule gives it
abbrev pub head_of : Rule → List ℕ
head_of (Refused guard) = code_text (code_of guard) ++ codes ": "
head_of Served = []
head_of (Waits cause) = codes "BLOCKED: "
head_of (WouldWait cause) = codes "NOT_AVAILABLE: "
head_of WorkWasKept = codes "DONE: "
head_of WorkWasBroken = codes "LOST: "
head_of ModeIsIdle = codes "IDLE: "
head_of NoInitStepIsDue = codes "IDLE: "
head_of NobodyIsEligible = codes "IDLE: "
head_of TickStops = codes "ADVANCED: "
head_of TickGoesWhole = codes "ADVANCED: "

-- the text of a reason, as `WRITER step 3: INVALID_MODE: the caller owns a mutex and the timeout is
-- not 0`
abbrev pub reason_text : Table → Reason → List ℕ
reason_text table reason =
    actor_text table reason.caller reason.step ++ head_of reason.rule ++ words_of reason.rule
