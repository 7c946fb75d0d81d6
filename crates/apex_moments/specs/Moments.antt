-- The processes and the counts after an entry, as a picture shows them, and the columns of a picture.
use Rattle.std.specs.Prelude.{◌≡◌, ◌==◌, ℕ, Bool, true, false, List, [], ◌∷◌, ◌++◌, length, Option, None, Some}
use Rattle.apex_moments.specs.Counts.{Counts, counts_after, counts_of, no_counts}
use Rattle.apex_moments.specs.Instants.{instant_after}
use Rattle.apex_moments.specs.declared.instants.Instant.{Instant}
use Rattle.apex_moments.specs.Places.{of_places}
use Rattle.apex_moments.specs.Terms.{Cell, Entry}
use Rattle.apex_types.specs.declared.modes.State.TheVariants.{Dormant}
use Rattle.apex_types.specs.declared.limits.TheConstants.{MOST_CORES}
use Rattle.apex_machine.specs.Machine.{Machine}
use Rattle.apex_machine.specs.Situations.{Situation}
use Rattle.apex_machine.specs.processes.Roster.{Roster, record_at, opening_roster}
use Rattle.apex_machine.specs.processes.Running.{chosen, process_state}
use Rattle.apex_machine.specs.table.Table.{Table}

-- the cell of process p: its state, what it waits for and the mutexes that it owns
abbrev pub cell_of : Roster → ℕ → Cell
cell_of roster p = record {
  state = process_state roster p;
  wait = (record_at roster p).wait;
  owned = (record_at roster p).owned;
}

-- the cell of no process
abbrev pub no_cell : Cell
no_cell = record { state = Dormant; wait = None; owned = [] }

-- the process that each core runs: its chosen one
abbrev pub running_in : Roster → List (Option ℕ)
running_in roster = of_places (chosen roster) MOST_CORES

-- two processes are the same, or both are none
abbrev pub same_process : Option ℕ → Option ℕ → Bool
same_process None None = true
same_process None (Some q) = false
same_process (Some p) None = false
same_process (Some p) (Some q) = p == q

-- a cell for each process, the process that each core runs, and the counts of the objects
pub record Shown : Type 0 where
  pub cells : List Cell
  pub running : List (Option ℕ)
  pub counts : Counts

-- nothing is shown
abbrev pub none_shown : Shown
none_shown = record { cells = []; running = []; counts = no_counts }

-- these cells are shown, and nothing else
abbrev pub with_cells : List Cell → Shown
with_cells cells = record none_shown { cells = cells }

-- each core runs its process of these, and nothing else is shown
abbrev pub with_running : List (Option ℕ) → Shown
with_running running = record none_shown { running = running }

-- the moment of these processes and counts
abbrev pub moment_of : Roster → Counts → Shown
moment_of roster counts = record {
  cells = of_places (cell_of roster) (length roster.records);
  running = running_in roster;
  counts = counts;
}

-- the moment of a situation of this table
abbrev pub moment_at : Table → Situation → Shown
moment_at table situation =
    moment_of situation.roster (counts_of table situation.roster situation.objects)

-- the moment of a machine
abbrev pub moment_in : Table → Machine → Shown
moment_in table machine =
    moment_of machine.roster (counts_after table machine.roster machine.history)

-- a column of a picture: an entry, the moments before and after it, and their instants
pub record Column : Type 0 where
  pub begun : Instant
  pub instant : Instant
  pub before : Shown
  pub entry : Entry
  pub after : Shown

-- the column of an entry, by the entries and the roster before it, and the roster after it
abbrev pub column_of : Table → List Entry → Roster → Entry → Roster → Column
column_of table done before entry after = record {
  begun = instant_after done;
  instant = instant_after (done ++ entry ∷ []);
  before = moment_of before (counts_after table before done);
  entry = entry;
  after = moment_of after (counts_after table after (done ++ entry ∷ []));
}

-- the columns of entries, by the entries and the roster before the first, and the roster after each
abbrev pub columns_from : Table → List Entry → Roster → List Entry → List Roster → List Column
columns_from table done before [] rosters = []
columns_from table done before (entry ∷ entries) [] = []
columns_from table done before (entry ∷ entries) (roster ∷ rosters) =
    column_of table done before entry roster
    ∷ columns_from table (done ++ entry ∷ []) roster entries rosters

-- the picture of a machine: a column for each entry, with the roster after it
abbrev pub picture : Table → Machine → List Column
picture table machine = columns_from table [] (opening_roster table) machine.history machine.past

-- the last roster, or this one if there is none
abbrev pub last_roster : Roster → List Roster → Roster
last_roster before [] = before
last_roster before (roster ∷ rosters) = last_roster roster rosters

-- the machine's past has a roster for each entry, and the last of them is the machine's
pub record IsPictured (table : Table) (machine : Machine) : Type 0 where
  pub many : length machine.past ≡ length machine.history
  pub last : last_roster (opening_roster table) machine.past ≡ machine.roster
