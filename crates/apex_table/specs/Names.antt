-- The names that a table gives its things, kind by kind. Steps name things by them.
use Rattle.std.specs.Prelude.{ℕ, List}
use Rattle.apex_calls.specs.declared.catalogue.Kind.TheVariants.{Process, Semaphore, Buffer, Blackboard, EventFlag, Mutex}
use Rattle.apex_table.specs.Terms.{Kind}
use Rattle.apex_table.specs.Processes.{ProcessDraft, process_names}
use Rattle.apex_table.specs.Semaphores.{semaphore_names}
use Rattle.apex_table.specs.Buffers.{buffer_names}
use Rattle.apex_table.specs.Blackboards.{blackboard_names}
use Rattle.apex_table.specs.EventFlags.{event_flag_names}
use Rattle.apex_table.specs.Mutexes.{mutex_names}
use Rattle.apex_configs.specs.Objects.{Objects}

-- the names of the things of each kind, in the order of the table
pub record Names : Type 0 where
  pub processes : List (List ℕ)
  pub semaphores : List (List ℕ)
  pub buffers : List (List ℕ)
  pub blackboards : List (List ℕ)
  pub event_flags : List (List ℕ)
  pub mutexes : List (List ℕ)

-- the names of these things
abbrev pub names_of : List ProcessDraft → Objects → Names
names_of processes objects = record {
  processes = process_names processes;
  semaphores = semaphore_names objects.semaphores;
  buffers = buffer_names objects.buffers;
  blackboards = blackboard_names objects.blackboards;
  event_flags = event_flag_names objects.event_flags;
  mutexes = mutex_names objects.mutexes;
}

-- the names of the things of a kind
abbrev pub names_in : Names → Kind → List (List ℕ)
names_in names Process = names.processes
names_in names Semaphore = names.semaphores
names_in names Buffer = names.buffers
names_in names Blackboard = names.blackboards
names_in names EventFlag = names.event_flags
names_in names Mutex = names.mutexes
