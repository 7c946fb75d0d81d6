-- The premises of a service and of a tick: the things that are named are there, and stamps are
-- left.
use Rattle.std.specs.Prelude.{◌*◌, ◌≡◌, ℕ, count_by, length}
use Rattle.apex_laws.specs.Terms.{Call}
use Rattle.apex_types.specs.declared.calls.Call.TheVariants.{Partition, Process as ToProcess, Caller as ToCaller, Time, Semaphore, Buffer, Blackboard, EventFlag, Mutex, Work}
use Rattle.apex_machine.specs.processes.Dues.{is_due_at}
use Rattle.apex_types.specs.declared.limits.TheConstants.{MOST_PROCESSES}
use Rattle.apex_machine.specs.Deeds.{Objects}
use Rattle.apex_machine.specs.processes.Roster.{Roster}
use Rattle.apex_machine.specs.processes.Stamps.{HasStampsFor}
use Rattle.apex_machine.specs.table.Table.{Table, IsKnownObject}

-- if the call names a thing, it is one of these objects
abbrev pub IsKnownTo : Objects → Call → Type 0
IsKnownTo objects (Partition call) = Unit {0}
IsKnownTo objects (ToProcess call) = IsKnownObject (length objects.processes) call
IsKnownTo objects (ToCaller call) = Unit {0}
IsKnownTo objects (Time call) = Unit {0}
IsKnownTo objects (Semaphore call) = IsKnownObject (length objects.semaphores) call
IsKnownTo objects (Buffer call) = IsKnownObject (length objects.buffers) call
IsKnownTo objects (Blackboard call) = IsKnownObject (length objects.blackboards) call
IsKnownTo objects (EventFlag call) = IsKnownObject (length objects.event_flags) call
IsKnownTo objects (Mutex call) = IsKnownObject (length objects.mutexes) call
IsKnownTo objects (Work amount) = Unit {0}

-- there is an object for each entry of the table
pub record AreOf (table : Table) (objects : Objects) : Type 0 where
  pub processes : length objects.processes ≡ length table.processes
  pub semaphores : length objects.semaphores ≡ length table.semaphores
  pub buffers : length objects.buffers ≡ length table.buffers
  pub blackboards : length objects.blackboards ≡ length table.blackboards
  pub event_flags : length objects.event_flags ≡ length table.event_flags
  pub mutexes : length objects.mutexes ≡ length table.mutexes

-- the stamps that one event gives at the most: as many as the deadlines tell notices, two for each
-- process, and one for each due
abbrev pub most_given : ℕ
most_given = 3 * MOST_PROCESSES

-- there are stamps left for every process
abbrev pub HasStampsForAll : Roster → Type 0
HasStampsForAll = HasStampsFor MOST_PROCESSES

-- the number of processes that are due now
abbrev pub due_count : Roster → ℕ
due_count roster = count_by (is_due_at roster.now) roster.records
