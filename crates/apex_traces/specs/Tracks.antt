-- The processes and the counts after an entry, as a trace shows them: of each cell what the slice shows.
use Rattle.std.specs.Prelude.{ℕ, List, [], length, map, Option, None, Some}
use Rattle.apex_moments.specs.Moments.{Shown, cell_of}
use Rattle.apex_moments.specs.Places.{of_places}
use Rattle.apex_moments.specs.Terms.{State, Wait}
use Rattle.apex_moments.specs.declared.moments.Cell.{Cell}
use Rattle.apex_traces.specs.declared.beings.Being.{Being}
use Rattle.apex_traces.specs.declared.beings.Being.TheVariants.{Dormant, Ready, Running, Waiting, Normal, Start, Time, Period, Semaphore, Buffer, Blackboard, EventFlag, Mutex}
use Rattle.apex_traces.specs.Beings.{being_in, being_of}
use Rattle.apex_machine.specs.declared.records.Wait.TheVariants as waits
use Rattle.apex_machine.specs.processes.Roster.{Roster, record_at}
use Rattle.apex_machine.specs.processes.Running.{process_state}
use Rattle.apex_types.specs.declared.modes.State.TheVariants as states

-- what the track of process p shows
abbrev pub track_of : Roster → ℕ → Being
track_of roster p = being_of (process_state roster p) (record_at roster p).wait

-- a waiting process's cell
abbrev pub waiting_cell : Option Wait → Cell
waiting_cell wait = record { state = states.Waiting; wait = wait; owned = [] }

-- another process's cell
abbrev pub cell_without : State → Cell
cell_without state = record { state = state; wait = None; owned = [] }

-- a cell that shows this
abbrev pub cell_on : Being → Cell
cell_on Dormant = cell_without states.Dormant
cell_on Ready = cell_without states.Ready
cell_on Running = cell_without states.Running
cell_on Waiting = waiting_cell None
cell_on Normal = waiting_cell (Some (waits.Normal 0))
cell_on Start = waiting_cell (Some waits.Start)
cell_on Time = waiting_cell (Some waits.Time)
cell_on Period = waiting_cell (Some waits.Period)
cell_on (Semaphore s) = waiting_cell (Some (waits.Semaphore s))
cell_on (Buffer b) = waiting_cell (Some (waits.Receive b))
cell_on (Blackboard b) = waiting_cell (Some (waits.Blackboard b))
cell_on (EventFlag e) = waiting_cell (Some (waits.EventFlag e))
cell_on (Mutex m) = waiting_cell (Some (waits.Mutex m))

-- what a trace shows of a cell
abbrev pub bare_cell : Cell → Cell
bare_cell cell = cell_on (being_in cell)

-- what a trace shows of the cells of all processes
abbrev pub bare_cells : Roster → List Cell
bare_cells roster = map bare_cell (of_places (cell_of roster) (length roster.records))

-- what a trace shows of a moment
abbrev pub bare : Shown → Shown
bare shown = record {
  cells = map bare_cell shown.cells;
  running = shown.running;
  counts = shown.counts;
}
