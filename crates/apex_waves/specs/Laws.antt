-- What holds of the times of a dump.
use Rattle.std.specs.Prelude.{◌<◌, ℕ, ◌+◌, List, length}
use Rattle.apex_types.specs.declared.entries.Event.{Event}
use Rattle.apex_machine.specs.Machine.{Machine, opening, run}
use Rattle.apex_machine.specs.table.Table.{IsLawful, Table}
use Rattle.apex_waves.specs.Dumps.{end_time, time_after}

-- the machine after these events
abbrev pub after : Table → List Event → Machine
after table events = run table (opening table) events

-- In the dump of every run, of a lawful table, the time of an entry comes after the time of the entry before it,
-- or after 0 if it is the first one. The time at the end comes after all of them.
pub record TimesRise : Type 0 where
  pub entries : (table : Table) → IsLawful table → (events : List Event) (k : ℕ)
      → k < length (after table events).history
      → time_after (after table events) k < time_after (after table events) (k + 1)
  pub end : (table : Table) → IsLawful table → (events : List Event)
      → time_after (after table events) (length (after table events).history)
      < end_time (after table events)
