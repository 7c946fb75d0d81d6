-- What holds in a run before any entry, and after each entry.
use Rattle.std.specs.Prelude.{ℕ, ◌∷◌, slice_index_or, take}
use Rattle.apex_machine.specs.Deeds.{Objects}
use Rattle.apex_machine.specs.Machine.{Machine, objects_after}
use Rattle.apex_machine.specs.processes.Roster.{Roster, opening_roster}
use Rattle.apex_machine.specs.table.Table.{Table}

-- the processes and the objects of a moment
pub record Snapshot : Type 0 where
  pub roster : Roster
  pub objects : Objects

-- the snapshot of these
abbrev pub snapshot_of : Roster → Objects → Snapshot
snapshot_of roster objects = record { roster = roster; objects = objects }

-- the present snapshot of a machine
abbrev pub snapshot_in : Table → Machine → Snapshot
snapshot_in table machine = snapshot_of machine.roster (objects_after table machine.history)

-- the roster of a machine after the first k entries of its history
abbrev pub roster_after : Table → Machine → ℕ → Roster
roster_after table machine k =
    slice_index_or (opening_roster table ∷ machine.past) k (opening_roster table)

-- the snapshot of a machine after the first k entries of its history
abbrev pub snapshot_after : Table → Machine → ℕ → Snapshot
snapshot_after table machine k =
    snapshot_of (roster_after table machine k) (objects_after table (take k machine.history))
