-- The dump of a run: the values before any entry, and for each entry its time and the values that it changes.
use Rattle.std.specs.Prelude.{ℕ, ◌+◌, List, ◌++◌, codes, decimal, flat_map, length, take}
use Rattle.apex_machine.specs.Machine.{Machine, opening}
use Rattle.apex_machine.specs.table.Table.{Table}
use Rattle.apex_machine.specs.text.Listing.{texts_of}
use Rattle.apex_waves.specs.Heads.{head_text}
use Rattle.apex_moments.specs.Instants.{instant_after, next_instant}
use Rattle.apex_waves.specs.Instants.{units}
use Rattle.apex_waves.specs.Snapshots.{Snapshot, snapshot_after, snapshot_in}
use Rattle.apex_waves.specs.Signals.{signals_of}
use Rattle.apex_waves.specs.Values.{change_in}

-- the time of a machine after the first k entries of its history
abbrev pub time_after : Machine → ℕ → ℕ
time_after machine k = units (instant_after (take k machine.history))

-- the line of a time
abbrev pub time_line : ℕ → List ℕ
time_line time = codes "#" ++ decimal time ++ codes "\n"

-- a step of a dump: the line of its time, and the changes from one moment to the next
abbrev pub step_text : Table → ℕ → Snapshot → Snapshot → List ℕ
step_text table time before after =
    time_line time ++ flat_map (change_in table before after) (signals_of table)

-- the step of the entry that follows the first k of them
unfoldable pub entry_text : Table → Machine → ℕ → List ℕ
entry_text table machine k =
    step_text table (time_after machine (k + 1)) (snapshot_after table machine k)
    (snapshot_after table machine (k + 1))

-- the steps of all entries
abbrev pub steps_text : Table → Machine → List ℕ
steps_text table machine = texts_of (entry_text table machine) (length machine.history)

-- the time at the end of a dump: that which the next moment would have now, so that the last values last until then
abbrev pub end_time : Machine → ℕ
end_time machine = units (next_instant (instant_after machine.history) machine.roster.now)

-- the end of a dump
abbrev pub end_text : Machine → List ℕ
end_text machine = time_line (end_time machine)

-- the dump of a machine
abbrev pub dump_text : Table → Machine → List ℕ
dump_text table machine =
    head_text table (snapshot_in table (opening table)) ++ steps_text table machine
    ++ end_text machine
