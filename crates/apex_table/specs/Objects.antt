-- The reading of the objects of a table, kind by kind.
use Rattle.std.specs.Prelude.{Result, Ok}
use Rattle.toml.specs.Data.{Members}
use Rattle.apex_configs.specs.Objects.{Objects}
use Rattle.apex_table.specs.Terms.{TableFault}
use Rattle.apex_words.specs.Outcome.{◌>>=◌}
use Rattle.apex_table.specs.Sections.{section}
use Rattle.apex_table.specs.Semaphores.{semaphores}
use Rattle.apex_table.specs.Buffers.{buffers}
use Rattle.apex_table.specs.Blackboards.{blackboards}
use Rattle.apex_table.specs.EventFlags.{event_flags}
use Rattle.apex_table.specs.Mutexes.{mutexes}

-- the sections of objects, in the order of the checks
unfoldable pub objects : Members → Result Objects TableFault
objects top = do
  semaphores ← section semaphores top
  buffers ← section buffers top
  blackboards ← section blackboards top
  event_flags ← section event_flags top
  mutexes ← section mutexes top
  Ok (record {
    semaphores = semaphores;
    buffers = buffers;
    blackboards = blackboards;
    event_flags = event_flags;
    mutexes = mutexes;
  })
