-- The kind of semaphores.
use Rattle.std.specs.Prelude.{ℕ, List, [], ◌∷◌, map, Result, Ok}
use Rattle.toml.specs.Data.{Members}
use Rattle.apex_types.specs.declared.limits.TheConstants.{MOST_OBJECTS, MOST_VALUE}
use Rattle.apex_machine.specs.table.Table.{SemaphoreConfig}
use Rattle.apex_table.specs.Terms.{Place, TableFault}
use Rattle.apex_words.specs.declared.key.Key.TheVariants as key
use Rattle.apex_words.specs.declared.fault.Section.TheVariants.{Semaphore}
use Rattle.apex_words.specs.Outcome.{◌>>=◌}
use Rattle.apex_table.specs.Keys.{number_at, discipline_at}
use Rattle.apex_table.specs.Sections.{EntryKind}

-- the names of semaphores
abbrev pub semaphore_names : List SemaphoreConfig → List (List ℕ)
semaphore_names semaphores = map (λ (s : SemaphoreConfig). s.name) semaphores

-- a semaphore of a name
unfoldable pub semaphore : Place → List ℕ → Members → Result SemaphoreConfig TableFault
semaphore at name ms = do
  maximum ← number_at at 1 MOST_VALUE key.Maximum ms
  initial ← number_at at 0 maximum key.Initial ms
  discipline ← discipline_at at ms
  Ok (record { name = name; maximum = maximum; initial = initial; discipline = discipline })

-- the kind of semaphores
abbrev pub semaphores : EntryKind SemaphoreConfig
semaphores = record {
  head =
      record {
        section = Semaphore;
        most = MOST_OBJECTS;
        keys = key.Name ∷ key.Maximum ∷ key.Initial ∷ key.Discipline ∷ [];
      };
  name_of = λ s. s.name;
  read = semaphore;
}
