-- The machine refuses the calls of some warnings, whatever happened before.
use Rattle.std.specs.Prelude.{◌≡◌, ℕ, Bool, true, false}
use Rattle.apex_warnings.specs.Acts.{is_taken}
use Rattle.apex_machine.specs.Deeds.{Objects}
use Rattle.apex_machine.specs.Terms.{Caller, Message, Reply, Timeout}
use Rattle.apex_machine.specs.processes.Periods.{is_periodic}
use Rattle.apex_machine.specs.processes.Roster.{Roster, record_at}
use Rattle.apex_machine.specs.services.BlackboardServices.{BlackboardObject, display_blackboard}
use Rattle.apex_machine.specs.services.BufferServices.{BufferObject, send_buffer}
use Rattle.apex_machine.specs.services.CallerServices.{suspend_self}
use Rattle.apex_machine.specs.services.ProcessServices.{ProcessObject, resume_process, suspend_process}
use Rattle.apex_machine.specs.services.TimeServices.{periodic_wait}
use Rattle.apex_types.specs.declared.entries.Reply.TheVariants.{Code}
use Rattle.apex_types.specs.declared.entries.ReturnCode.TheVariants.{InvalidParam, InvalidMode}

-- SEND_BUFFER of a message that the buffer does not take
abbrev pub RefusesSends : Type 0
RefusesSends = (roster : Roster) (buffer : BufferObject) (b : ℕ) (caller : Caller)
    (message : Message) (timeout : Timeout) → is_taken buffer.longest message ≡ false
    → (send_buffer roster buffer b caller message timeout).reply ≡ Code InvalidParam

-- DISPLAY_BLACKBOARD of a message that the blackboard does not take
abbrev pub RefusesDisplays : Type 0
RefusesDisplays = (roster : Roster) (blackboard : BlackboardObject) (b : ℕ) (message : Message)
    → is_taken blackboard.longest message ≡ false
    → (display_blackboard roster blackboard b message).reply ≡ Code InvalidParam

-- PERIODIC_WAIT of an aperiodic process
abbrev pub RefusesAperiodicWaits : Type 0
RefusesAperiodicWaits = (roster : Roster) (objects : Objects) (p : ℕ)
    → is_periodic (record_at roster p) ≡ false
    → (periodic_wait roster objects p).reply ≡ Code InvalidMode

-- SUSPEND_SELF of a periodic process
abbrev pub RefusesPeriodicSuspensions : Type 0
RefusesPeriodicSuspensions = (roster : Roster) (objects : Objects) (p : ℕ) (timeout : Timeout)
    → is_periodic (record_at roster p) ≡ true
    → (suspend_self roster objects p timeout).reply ≡ Code InvalidMode

-- the reply is INVALID_PARAM or INVALID_MODE
abbrev pub is_refusal : Reply → Bool
is_refusal (Code InvalidParam) = true
is_refusal (Code InvalidMode) = true
is_refusal _ = false

-- SUSPEND and RESUME of a periodic process
abbrev pub RefusesSuspends : Type 0
RefusesSuspends = (roster : Roster) (process : ProcessObject) (p : ℕ) (caller : Caller)
    → is_periodic (record_at roster p) ≡ true
    → is_refusal (suspend_process roster process p caller).reply ≡ true

abbrev pub RefusesResumes : Type 0
RefusesResumes = (roster : Roster) (process : ProcessObject) (p : ℕ) (caller : Caller)
    → is_periodic (record_at roster p) ≡ true
    → is_refusal (resume_process roster process p caller).reply ≡ true
