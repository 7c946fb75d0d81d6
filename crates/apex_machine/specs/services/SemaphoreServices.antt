-- The services of semaphores, row by row: the first guard that holds answers and changes nothing
-- (ARINC 653 Part 1, semaphores; the guards are this profile's).
use Rattle.std.specs.Prelude.{ℕ, ◌+◌, ◌-◌, Bool, true, false, List, [], ◌∷◌, Option, None, Some, nat_lt, not, if◌then◌else◌}
use Rattle.apex_machine.specs.Terms.{Caller, Entry, Reply, SemaphoreService, Timeout}
use Rattle.apex_types.specs.declared.calls.SemaphoreService.TheVariants.{Wait, Signal}
use Rattle.apex_types.specs.declared.entries.Reply.TheVariants.{Status}
use Rattle.apex_types.specs.declared.entries.ReturnCode.TheVariants.{NoAction, InvalidParam, InvalidMode}
use Rattle.apex_machine.specs.declared.records.Queue.TheVariants as queues
use Rattle.apex_machine.specs.declared.records.Wait.TheVariants as wait
use Rattle.apex_machine.specs.services.Calls.{created_semaphore}
use Rattle.apex_machine.specs.History.{is_created}
use Rattle.apex_machine.specs.services.Objects.{ObjectKind}
use Rattle.apex_machine.specs.processes.Owners.{is_waiting_owner}
use Rattle.apex_machine.specs.processes.Roster.{Roster}
use Rattle.apex_machine.specs.services.Rows.{Outcome, accepted, accepted_with, guarded, ◌⟶◌, by_process}
use Rattle.apex_machine.specs.services.Satisfied.{semaphore_value}
use Rattle.apex_machine.specs.table.Table.{SemaphoreConfig}
use Rattle.apex_machine.specs.processes.Waiters.{first_waiter, waiter_count}
use Rattle.apex_machine.specs.services.Waiting.{wait_for}
use Rattle.apex_machine.specs.services.Waking.{granted}

-- a semaphore as its services see it
pub record SemaphoreObject : Type 0 where
  pub maximum : ℕ
  pub created : Bool
  pub value : ℕ

-- WAIT_SEMAPHORE: takes one of the value, else waits
abbrev pub wait_semaphore : Roster → SemaphoreObject → ℕ → Caller → Timeout
    → Outcome SemaphoreObject
wait_semaphore roster semaphore s caller timeout =
    guarded roster semaphore
    (not semaphore.created ⟶ InvalidParam ∷ is_waiting_owner roster caller timeout ⟶ InvalidMode
    ∷ [])
    (by_process roster semaphore caller (λ p.
    if nat_lt 0 semaphore.value then
    accepted roster (record semaphore { value = semaphore.value - 1 }) []
    else wait_for roster semaphore p (wait.Semaphore s) timeout))

-- a signal to a semaphore with this first waiter: the waiter is woken; without one the value is
-- raised, unless it is at its maximum
abbrev pub signal_to : Roster → SemaphoreObject → Option ℕ → Outcome SemaphoreObject
signal_to roster semaphore None =
    guarded roster semaphore (not (nat_lt semaphore.value semaphore.maximum) ⟶ NoAction ∷ [])
    (accepted roster (record semaphore { value = semaphore.value + 1 }) [])
signal_to roster semaphore (Some p) = accepted_with semaphore (granted None roster p)

-- SIGNAL_SEMAPHORE
abbrev pub signal_semaphore : Roster → SemaphoreObject → ℕ → Outcome SemaphoreObject
signal_semaphore roster semaphore s =
    guarded roster semaphore (not semaphore.created ⟶ InvalidParam ∷ [])
    (signal_to roster semaphore (first_waiter roster (queues.Semaphore s)))

-- the services that semaphores alone have
abbrev pub semaphore_service : Roster → SemaphoreObject → ℕ → Caller → SemaphoreService
    → Outcome SemaphoreObject
semaphore_service roster semaphore s caller (Wait timeout) =
    wait_semaphore roster semaphore s caller timeout
semaphore_service roster semaphore s caller Signal = signal_semaphore roster semaphore s

-- the status: the value, and the number of waiters
abbrev pub semaphore_status : Roster → SemaphoreObject → ℕ → Reply
semaphore_status roster semaphore s =
    Status semaphore.value (waiter_count roster (queues.Semaphore s))

-- semaphore s of this entry after the history
abbrev pub semaphore_after : List Entry → ℕ → SemaphoreConfig → SemaphoreObject
semaphore_after history s entry = record {
  maximum = entry.maximum;
  created = is_created created_semaphore s history;
  value = semaphore_value entry.initial s history;
}

-- semaphores
abbrev pub semaphore_kind : ObjectKind SemaphoreConfig SemaphoreObject SemaphoreService
semaphore_kind = record {
  absent = record { maximum = 0; created = false; value = 0 };
  created = λ semaphore. semaphore.created;
  made = λ semaphore. record semaphore { created = true };
  status = semaphore_status;
  service = semaphore_service;
  after = semaphore_after;
}
