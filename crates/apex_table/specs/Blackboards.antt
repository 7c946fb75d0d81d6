-- The kind of blackboards.
use Rattle.std.specs.Prelude.{ℕ, List, [], ◌∷◌, map, Result, Ok}
use Rattle.toml.specs.Data.{Members}
use Rattle.apex_types.specs.declared.limits.TheConstants.{MOST_MESSAGE, MOST_OBJECTS}
use Rattle.apex_machine.specs.table.Table.{BlackboardConfig}
use Rattle.apex_table.specs.Terms.{Place, TableFault}
use Rattle.apex_words.specs.declared.key.Key.TheVariants as key
use Rattle.apex_words.specs.declared.fault.Section.TheVariants.{Blackboard}
use Rattle.apex_words.specs.Outcome.{◌>>=◌}
use Rattle.apex_table.specs.Keys.{number_at}
use Rattle.apex_table.specs.Sections.{EntryKind}

-- the names of blackboards
abbrev pub blackboard_names : List BlackboardConfig → List (List ℕ)
blackboard_names blackboards = map (λ (b : BlackboardConfig). b.name) blackboards

-- a blackboard of a name
unfoldable pub blackboard : Place → List ℕ → Members → Result BlackboardConfig TableFault
blackboard at name ms = do
  length ← number_at at 1 MOST_MESSAGE key.Length ms
  Ok (record { name = name; length = length })

-- the kind of blackboards
abbrev pub blackboards : EntryKind BlackboardConfig
blackboards = record {
  head =
      record {
        section = Blackboard;
        most = MOST_OBJECTS;
        keys = key.Name ∷ key.Length ∷ [];
      };
  name_of = λ b. b.name;
  read = blackboard;
}
