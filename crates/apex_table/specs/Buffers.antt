-- The kind of buffers.
use Rattle.std.specs.Prelude.{ℕ, List, [], ◌∷◌, map, Result, Ok}
use Rattle.toml.specs.Data.{Members}
use Rattle.apex_types.specs.declared.limits.TheConstants.{MOST_MESSAGE, MOST_MESSAGES, MOST_OBJECTS}
use Rattle.apex_machine.specs.table.Table.{BufferConfig}
use Rattle.apex_table.specs.Terms.{Place, TableFault}
use Rattle.apex_words.specs.declared.key.Key.TheVariants as key
use Rattle.apex_words.specs.declared.fault.Section.TheVariants.{Buffer}
use Rattle.apex_words.specs.Outcome.{◌>>=◌}
use Rattle.apex_table.specs.Keys.{number_at, discipline_at}
use Rattle.apex_table.specs.Sections.{EntryKind}

-- the names of buffers
abbrev pub buffer_names : List BufferConfig → List (List ℕ)
buffer_names buffers = map (λ (b : BufferConfig). b.name) buffers

-- a buffer of a name
unfoldable pub buffer : Place → List ℕ → Members → Result BufferConfig TableFault
buffer at name ms = do
  length ← number_at at 1 MOST_MESSAGE key.Length ms
  capacity ← number_at at 1 MOST_MESSAGES key.Capacity ms
  discipline ← discipline_at at ms
  Ok (record { name = name; length = length; capacity = capacity; discipline = discipline })

-- the kind of buffers
abbrev pub buffers : EntryKind BufferConfig
buffers = record {
  head =
      record {
        section = Buffer;
        most = MOST_OBJECTS;
        keys = key.Name ∷ key.Length ∷ key.Capacity ∷ key.Discipline ∷ [];
      };
  name_of = λ b. b.name;
  read = buffer;
}
