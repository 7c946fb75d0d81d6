-- The processes and the objects from which a reason is read.
use Rattle.std.specs.Prelude.{◌≡◌, ℕ, ◌<◌, List, length, slice_index_or}
use Rattle.apex_machine.specs.Deeds.{Objects}
use Rattle.apex_machine.specs.processes.Dues.{HasTime}
use Rattle.apex_machine.specs.processes.Roster.{Roster}
use Rattle.apex_machine.specs.services.BlackboardServices.{BlackboardObject, blackboard_kind}
use Rattle.apex_machine.specs.services.BufferServices.{BufferObject, buffer_kind}
use Rattle.apex_machine.specs.services.EventFlagServices.{EventFlagObject, event_flag_kind}
use Rattle.apex_machine.specs.services.SemaphoreServices.{SemaphoreObject, semaphore_kind}
use Rattle.apex_machine.specs.table.Table.{Table, semaphore_config, buffer_config, blackboard_config}
use Rattle.apex_laws.specs.Premises.{AreOf}

-- the semaphore, the buffer, the blackboard and the event flag at a place of these lists
abbrev pub semaphore_in : List SemaphoreObject → ℕ → SemaphoreObject
semaphore_in semaphores s = slice_index_or semaphores s semaphore_kind.absent

abbrev pub buffer_in : List BufferObject → ℕ → BufferObject
buffer_in buffers b = slice_index_or buffers b buffer_kind.absent

abbrev pub blackboard_in : List BlackboardObject → ℕ → BlackboardObject
blackboard_in blackboards b = slice_index_or blackboards b blackboard_kind.absent

abbrev pub event_flag_in : List EventFlagObject → ℕ → EventFlagObject
event_flag_in event_flags e = slice_index_or event_flags e event_flag_kind.absent

-- the processes and the objects are those of the table: there is a record and an object for each
-- entry, with the limits that the table gives; and the time is one that a history reaches
pub record AreOfTable (table : Table) (roster : Roster) (objects : Objects) : Type 0 where
  pub records : length roster.records ≡ length table.processes
  pub all : AreOf table objects
  pub maxima : (i : ℕ) → i < length table.semaphores
      → (semaphore_in objects.semaphores i).maximum ≡ (semaphore_config table i).maximum
  pub capacities : (i : ℕ) → i < length table.buffers
      → (buffer_in objects.buffers i).capacity ≡ (buffer_config table i).capacity
  pub lengths : (i : ℕ) → i < length table.buffers
      → (buffer_in objects.buffers i).longest ≡ (buffer_config table i).length
  pub widths : (i : ℕ) → i < length table.blackboards
      → (blackboard_in objects.blackboards i).longest ≡ (blackboard_config table i).length
  pub time : HasTime roster
