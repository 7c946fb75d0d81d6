-- The kind of event flags.
use Rattle.std.specs.Prelude.{ℕ, List, [], ◌∷◌, map, Result, Ok}
use Rattle.toml.specs.Data.{Members}
use Rattle.apex_types.specs.declared.limits.TheConstants.{MOST_OBJECTS}
use Rattle.apex_machine.specs.table.Table.{EventFlagConfig}
use Rattle.apex_table.specs.Terms.{Place, TableFault}
use Rattle.apex_words.specs.declared.key.Key.TheVariants as key
use Rattle.apex_words.specs.declared.fault.Section.TheVariants.{EventFlag}
use Rattle.apex_table.specs.Sections.{EntryKind}

-- the names of event flags
abbrev pub event_flag_names : List EventFlagConfig → List (List ℕ)
event_flag_names event_flags = map (λ (e : EventFlagConfig). e.name) event_flags

-- an event flag of a name
abbrev pub event_flag : Place → List ℕ → Members → Result EventFlagConfig TableFault
event_flag at name ms = Ok (record { name = name })

-- the kind of event flags
abbrev pub event_flags : EntryKind EventFlagConfig
event_flags = record {
  head = record { section = EventFlag; most = MOST_OBJECTS; keys = key.Name ∷ [] };
  name_of = λ e. e.name;
  read = event_flag;
}
