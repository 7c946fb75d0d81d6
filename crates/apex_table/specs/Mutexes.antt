-- The kind of mutexes.
use Rattle.std.specs.Prelude.{ℕ, List, [], ◌∷◌, map, Result, Ok}
use Rattle.toml.specs.Data.{Members}
use Rattle.apex_types.specs.declared.limits.TheConstants.{MOST_OBJECTS, MOST_PRIORITY}
use Rattle.apex_machine.specs.table.Table.{MutexConfig}
use Rattle.apex_table.specs.Terms.{Place, TableFault}
use Rattle.apex_words.specs.declared.key.Key.TheVariants as key
use Rattle.apex_words.specs.declared.fault.Section.TheVariants.{Mutex}
use Rattle.apex_words.specs.Outcome.{◌>>=◌}
use Rattle.apex_table.specs.Keys.{number_at, discipline_at}
use Rattle.apex_table.specs.Sections.{EntryKind}

-- the names of mutexes
abbrev pub mutex_names : List MutexConfig → List (List ℕ)
mutex_names mutexes = map (λ (m : MutexConfig). m.name) mutexes

-- a mutex of a name
unfoldable pub mutex : Place → List ℕ → Members → Result MutexConfig TableFault
mutex at name ms = do
  ceiling ← number_at at 1 MOST_PRIORITY key.Ceiling ms
  discipline ← discipline_at at ms
  Ok (record { name = name; ceiling = ceiling; discipline = discipline })

-- the kind of mutexes
abbrev pub mutexes : EntryKind MutexConfig
mutexes = record {
  head =
      record {
        section = Mutex;
        most = MOST_OBJECTS;
        keys = key.Name ∷ key.Ceiling ∷ key.Discipline ∷ [];
      };
  name_of = λ m. m.name;
  read = mutex;
}
