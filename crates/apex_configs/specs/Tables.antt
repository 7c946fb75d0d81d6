-- A table by its parts.
use Rattle.std.specs.Prelude.{ℕ, List}
use Rattle.apex_machine.specs.declared.profiles.Profile.{Profile}
use Rattle.apex_machine.specs.table.Table.{ProcessConfig, Step, Table}
use Rattle.apex_configs.specs.Objects.{Objects}

-- the table of these parts
abbrev pub table_with : Profile → ℕ → ℕ → List ProcessConfig → Objects → List Step → Table
table_with profile cores limit processes objects init = record {
  profile = profile;
  cores = cores;
  limit = limit;
  processes = processes;
  semaphores = objects.semaphores;
  buffers = objects.buffers;
  blackboards = objects.blackboards;
  event_flags = objects.event_flags;
  mutexes = objects.mutexes;
  init = init;
}
