-- What the columns of a picture say.
use Rattle.std.specs.Prelude.{◌≡◌, ◌+◌, ◌*◌, ◌<◌, ◌≤◌, ℕ, List, Some, None, length, slice_get, slice_index_or, take}
use Rattle.apex_types.specs.declared.limits.TheConstants.{MOST_CORES}
use Rattle.apex_machine.specs.Machine.{Machine, accept, objects_after, opening, run}
use Rattle.apex_machine.specs.processes.Owners.{owner}
use Rattle.apex_machine.specs.processes.Roster.{Roster, record_at}
use Rattle.apex_machine.specs.processes.Running.{chosen, process_state}
use Rattle.apex_machine.specs.table.Table.{IsLawful, Table}
use Rattle.apex_moments.specs.Counts.{Counts, content_of, displayed_on, raised_of, value_of}
use Rattle.apex_moments.specs.Instants.{instant_after, time_at}
use Rattle.apex_scales.specs.declared.ticks.TheConstants.{LEAST_TICK}
use Rattle.apex_moments.specs.Moments.{Column, no_cell, picture}
use Rattle.apex_moments.specs.Terms.{Cell, Entry, Event}

-- the cell of process p in a column
abbrev pub cell_in : Column → ℕ → Cell
cell_in column p = slice_index_or column.after.cells p no_cell

-- the counts are those after these entries: the value of each semaphore, the number of messages in each buffer
-- and on each blackboard, and whether each event flag is up
pub record CountsAll (table : Table) (done : List Entry) (counts : Counts) : Type 0 where
  pub values : (s : ℕ) → s < length table.semaphores
      → slice_get counts.values s ≡ Some (value_of (objects_after table done) s)
  pub contents : (b : ℕ) → b < length table.buffers
      → slice_get counts.contents b ≡ Some (content_of (objects_after table done) b)
  pub displays : (b : ℕ) → b < length table.blackboards
      → slice_get counts.displays b ≡ Some (displayed_on (objects_after table done) b)
  pub flags : (e : ℕ) → e < length table.event_flags
      → slice_get counts.flags e ≡ Some (raised_of (objects_after table done) e)

-- Column k has entry k of the machine's history, and what holds in the roster after that entry: the state of
-- each process, what it waits for and owns, the process that each core runs, and the owner of each mutex. It has
-- the counts of the objects before the entry and after it, and the instants of both moments.
pub record Says (table : Table) (machine : Machine) (k : ℕ) (column : Column) : Type 0 where
  pub entry : slice_get machine.history k ≡ Some column.entry
  pub begun : column.begun ≡ instant_after (take k machine.history)
  pub instant : column.instant ≡ instant_after (take (k + 1) machine.history)
  pub roster : Roster
  pub after : slice_get machine.past k ≡ Some roster
  pub state : (p : ℕ) → p < length roster.records
      → (cell_in column p).state ≡ process_state roster p
  pub wait : (p : ℕ) → p < length roster.records
      → (cell_in column p).wait ≡ (record_at roster p).wait
  pub owned : (p : ℕ) → p < length roster.records
      → (cell_in column p).owned ≡ (record_at roster p).owned
  pub running : (core : ℕ) → core < MOST_CORES
      → slice_index_or column.after.running core None ≡ chosen roster core
  pub owners : (m : ℕ) → m < length table.mutexes
      → slice_get column.after.counts.owners m ≡ Some (owner roster m)
  pub counts_after : CountsAll table (take (k + 1) machine.history) column.after.counts
  pub counts_before : CountsAll table (take k machine.history) column.before.counts

-- the picture of every run has a column for each entry, and each column says what holds
pub record ArePictures : Type 0 where
  pub many : (table : Table) (events : List Event)
      → length (picture table (run table (opening table) events))
      ≡ length (run table (opening table) events).history
  pub says : (table : Table) (machine : Machine) (k : ℕ) (column : Column)
      → slice_get (picture table machine) k ≡ Some column → Says table machine k column

-- On the axis of a trace with ticks of any length that it may have, the moment after an event comes after the one
-- before it. Each moment has the time of its roster, and is in that tick, which begins at 1,000 nanoseconds for each
-- microsecond of the ticks before it.
pub record AreInOrder : Type 0 where
  pub rises : (table : Table) → IsLawful table → (tick : ℕ) → LEAST_TICK ≤ tick
      → (events : List Event) (event : Event)
      → length (run table (opening table) events).history < table.limit
      → time_at tick (instant_after (run table (opening table) events).history)
      < time_at tick (instant_after
      (accept table (run table (opening table) events) event).history)
  pub time : (table : Table) → IsLawful table → (events : List Event)
      → (instant_after (run table (opening table) events).history).now
      ≡ (run table (opening table) events).roster.now
  pub ticks : (table : Table) → IsLawful table → (tick : ℕ) → LEAST_TICK ≤ tick
      → (events : List Event)
      → time_at tick (instant_after (run table (opening table) events).history)
      < 1000 * tick * ((instant_after (run table (opening table) events).history).now + 1)
