-- The values of signals in a dump.
use Rattle.std.specs.Prelude.{ℕ, List, [], ◌++◌, None, Some, codes, decimal, if◌then◌else◌}
use Rattle.apex_machine.specs.table.Table.{Table}
use Rattle.apex_machine.specs.text.Status.{state_text}
use Rattle.apex_machine.specs.text.Texts.{process_name}
use Rattle.apex_waves.specs.Levels.{level_of, same_level}
use Rattle.apex_waves.specs.Snapshots.{Snapshot}
use Rattle.apex_waves.specs.Names.{code_text, dump_name}
use Rattle.apex_waves.specs.declared.levels.Level.{Level}
use Rattle.apex_waves.specs.declared.levels.Level.TheVariants.{State, Process, Count}
use Rattle.apex_waves.specs.declared.signals.Signal.{Signal}

-- the text of a level: `s` and a word, or `r` and a number
abbrev pub level_text : Table → Level → List ℕ
level_text table (State state) = codes "s" ++ state_text state
level_text table (Process None) = codes "s(none)"
level_text table (Process (Some p)) = codes "s" ++ dump_name (process_name table p)
level_text table (Count count) = codes "r" ++ decimal count

-- the line of a signal's value: the level and the code
abbrev pub value_text : Table → Signal → Level → List ℕ
value_text table signal level =
    level_text table level ++ codes " " ++ code_text signal ++ codes "\n"

-- the line of a signal at a moment
abbrev pub value_in : Table → Snapshot → Signal → List ℕ
value_in table moment signal = value_text table signal (level_of moment signal)

-- the line of a signal whose level is not the one before, and nothing if it is
abbrev pub change_text : Table → Signal → Level → Level → List ℕ
change_text table signal before after =
    if same_level before after then [] else value_text table signal after

-- the change of a signal from one moment to the next
abbrev pub change_in : Table → Snapshot → Snapshot → Signal → List ℕ
change_in table before after signal =
    change_text table signal (level_of before signal) (level_of after signal)
