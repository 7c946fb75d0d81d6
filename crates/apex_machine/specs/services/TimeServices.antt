-- The services of time management, row by row: the first guard that holds answers and changes
-- nothing (ARINC 653 Part 1, time management; the guards are this profile's).
use Rattle.std.specs.Prelude.{ℕ, ◌+◌, [], ◌∷◌, Some, is_none, not}
use Rattle.apex_machine.specs.Terms.{Caller, TimeCall, Timeout}
use Rattle.apex_types.specs.declared.calls.TimeCall.TheVariants.{TimedWait, PeriodicWait, Replenish, GetTime}
use Rattle.apex_types.specs.declared.calls.Timeout.TheVariants.{Poll, Ticks, Infinite}
use Rattle.apex_types.specs.declared.entries.Reply.TheVariants.{Blocked, Value}
use Rattle.apex_types.specs.declared.entries.ReturnCode.TheVariants.{NoAction, InvalidMode, InvalidParam}
use Rattle.apex_machine.specs.declared.records.Wait.TheVariants as wait
use Rattle.apex_machine.specs.processes.Owners.{is_owner, owns_some}
use Rattle.apex_machine.specs.processes.Periods.{is_beyond, is_periodic}
use Rattle.apex_machine.specs.processes.Roster.{Roster, record_at}
use Rattle.apex_machine.specs.services.Rows.{Outcome, replied, refused, accepted, by_process, guarded, ◌⟶◌}
use Rattle.apex_machine.specs.processes.Stamps.{await_release, place_newest, set_deadline}
use Rattle.apex_machine.specs.services.Waiting.{blocked}

-- TIMED_WAIT by process p: a wait of 0 ticks lets the others of its priority go first
abbrev pub timed_wait : {X : Type 0} → Roster → X → Timeout → ℕ → Outcome X
timed_wait roster objects Poll p = accepted (place_newest roster p) objects []
timed_wait roster objects (Ticks n) p = blocked roster objects p wait.Time (Ticks n)
timed_wait roster objects Infinite p = refused roster objects InvalidParam

-- TIMED_WAIT
abbrev pub timed_wait_service : {X : Type 0} → Roster → X → Caller → Timeout → Outcome X
timed_wait_service roster objects caller timeout =
    guarded roster objects (is_owner roster caller ⟶ InvalidMode ∷ [])
    (by_process roster objects caller (timed_wait roster objects timeout))

-- PERIODIC_WAIT by process p
abbrev pub periodic_wait : {X : Type 0} → Roster → X → ℕ → Outcome X
periodic_wait roster objects p =
    guarded roster objects
    (not (is_periodic (record_at roster p)) ⟶ InvalidMode
    ∷ owns_some (record_at roster p) ⟶ InvalidMode ∷ [])
    (replied (await_release roster p) objects Blocked)

-- REPLENISH by process p: its deadline is the budget's ticks from now
abbrev pub replenish : {X : Type 0} → Roster → X → ℕ → ℕ → Outcome X
replenish roster objects budget p =
    let r = record_at roster p in
    guarded roster objects
    (is_none r.attributes.capacity ⟶ NoAction
    ∷ is_beyond r.release r.attributes.period (roster.now + budget) ⟶ InvalidMode ∷ [])
    (accepted (set_deadline roster p (Some (roster.now + budget))) objects [])

-- any service of time management
abbrev pub time_service : {X : Type 0} → Roster → X → Caller → TimeCall → Outcome X
time_service roster objects caller (TimedWait timeout) =
    timed_wait_service roster objects caller timeout
time_service roster objects caller PeriodicWait =
    by_process roster objects caller (periodic_wait roster objects)
time_service roster objects caller (Replenish budget) =
    by_process roster objects caller (replenish roster objects budget)
time_service roster objects caller GetTime = replied roster objects (Value roster.now)
