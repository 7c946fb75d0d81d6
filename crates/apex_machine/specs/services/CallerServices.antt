-- The services of process management that a process asks for itself (ARINC 653 Part 1, process
-- management; the guards are this profile's).
use Rattle.std.specs.Prelude.{ℕ, ◌+◌, [], ◌∷◌}
use Rattle.apex_machine.specs.Terms.{Caller, CallerCall, Timeout}
use Rattle.apex_types.specs.declared.calls.CallerCall.TheVariants.{StopSelf, SuspendSelf, GetMyId, GetMyProcessorCoreId}
use Rattle.apex_types.specs.declared.calls.Timeout.TheVariants.{Poll, Ticks, Infinite}
use Rattle.apex_types.specs.declared.entries.Reply.TheVariants.{Value, Blocked, Gone}
use Rattle.apex_types.specs.declared.entries.ReturnCode.TheVariants.{InvalidMode}
use Rattle.apex_machine.specs.processes.Dues.{due_after}
use Rattle.apex_machine.specs.services.Handovers.{halted}
use Rattle.apex_machine.specs.processes.Owners.{owns_some}
use Rattle.apex_machine.specs.processes.Periods.{is_periodic}
use Rattle.apex_machine.specs.processes.Roster.{Roster, record_at}
use Rattle.apex_machine.specs.services.Rows.{Outcome, replied, accepted, answered_with, by_process, guarded, ◌⟶◌}
use Rattle.apex_machine.specs.processes.Stamps as stamps

-- process p suspends itself, until the timeout is over
abbrev pub suspended_for : {X : Type 0} → Roster → X → ℕ → Timeout → Outcome X
suspended_for roster objects p timeout =
    replied (stamps.suspend_self roster p (due_after roster timeout)) objects Blocked

-- a suspension of process p by itself; with a timeout of 0 it changes nothing
abbrev pub self_suspension : {X : Type 0} → Roster → X → ℕ → Timeout → Outcome X
self_suspension roster objects p Poll = accepted roster objects []
self_suspension roster objects p (Ticks n) = suspended_for roster objects p (Ticks n)
self_suspension roster objects p Infinite = suspended_for roster objects p Infinite

-- SUSPEND_SELF by process p
abbrev pub suspend_self : {X : Type 0} → Roster → X → ℕ → Timeout → Outcome X
suspend_self roster objects p timeout =
    guarded roster objects
    (is_periodic (record_at roster p) ⟶ InvalidMode ∷ owns_some (record_at roster p) ⟶ InvalidMode
    ∷ [])
    (self_suspension roster objects p timeout)

-- a service that process p asks for itself
abbrev pub service_by : {X : Type 0} → Roster → X → CallerCall → ℕ → Outcome X
service_by roster objects StopSelf p = answered_with Gone objects (halted roster p)
service_by roster objects (SuspendSelf timeout) p = suspend_self roster objects p timeout
service_by roster objects GetMyId p = replied roster objects (Value (p + 1))
service_by roster objects GetMyProcessorCoreId p =
    replied roster objects (Value (record_at roster p).core)

-- any service that a process asks for itself
abbrev pub caller_service : {X : Type 0} → Roster → X → Caller → CallerCall → Outcome X
caller_service roster objects caller call =
    by_process roster objects caller (service_by roster objects call)
