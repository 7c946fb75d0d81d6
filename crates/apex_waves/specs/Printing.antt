-- The text of a dump, as it grows.
use Rattle.std.specs.Prelude.{◌≡◌, ℕ, List, ◌++◌, length, map}
use Rattle.apex_machine.specs.Machine.{Machine}
use Rattle.apex_machine.specs.table.Table.{Table}
use Rattle.apex_moments.specs.Instants.{instant_after}
use Rattle.apex_waves.specs.Dumps.{steps_text}
use Rattle.apex_waves.specs.Levels.{level_of}
use Rattle.apex_waves.specs.Snapshots.{roster_after, snapshot_in}
use Rattle.apex_waves.specs.Signals.{signals_of}
use Rattle.apex_waves.specs.declared.printing.Course.{Course}

-- the dump has further steps, and their text follows the text
abbrev pub Grows : Table → Machine → Machine → List ℕ → List ℕ → Type 0
Grows table old new before after =
    (more : List ℕ) × (steps_text table new ≡ steps_text table old ++ more)
    × (after ≡ before ++ more)

-- the instant and the levels are those of a machine
pub record IsAt (table : Table) (machine : Machine) (course : Course) : Type 0 where
  pub instant : course.instant ≡ instant_after machine.history
  pub levels : course.levels.items ≡ map (level_of (snapshot_in table machine)) (signals_of table)

-- the machine's past has a roster for each entry, and the last of them is the machine's
pub record IsFollowed (table : Table) (machine : Machine) : Type 0 where
  pub many : length machine.past ≡ length machine.history
  pub last : roster_after table machine (length machine.history) ≡ machine.roster
