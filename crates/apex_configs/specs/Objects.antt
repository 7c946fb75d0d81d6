-- The objects of a table, kind by kind.
use Rattle.std.specs.Prelude.{List}
use Rattle.apex_machine.specs.table.Table.{SemaphoreConfig, BufferConfig, BlackboardConfig, EventFlagConfig, MutexConfig}

-- the objects of each kind, in the order of the table
pub record Objects : Type 0 where
  pub semaphores : List SemaphoreConfig
  pub buffers : List BufferConfig
  pub blackboards : List BlackboardConfig
  pub event_flags : List EventFlagConfig
  pub mutexes : List MutexConfig
