-- The timers of a state: the instant at which each process's wait ends by itself, and the one at
-- which its deadline passes.
use Rattle.std.specs.Prelude.{◌≡◌, ℕ, Option, length}
use Rattle.apex_machine.specs.processes.Dues.{IsFrom}
use Rattle.apex_machine.specs.processes.Roster.{Roster, record_at}
use Rattle.apex_timeouts.specs.Timeline.{Times, instant_on}

-- the line has these instants, for `many` processes, and none of them is past
pub record IsLineOf (now many : ℕ) (instants : ℕ → Option ℕ) (times : Times) : Type 0 where
  pub each : (p : ℕ) → instant_on times p ≡ instants p
  pub count : length times.instants ≡ many
  pub later : (p : ℕ) → IsFrom now (instants p)

-- the due of process p, and its deadline
abbrev pub due_of : Roster → ℕ → Option ℕ
due_of roster p = (record_at roster p).due

abbrev pub deadline_of : Roster → ℕ → Option ℕ
deadline_of roster p = (record_at roster p).deadline

-- the lines have the dues and the deadlines of the processes
pub record AreTimers (roster : Roster) (due_line deadline_line : Times) : Type 0 where
  pub dues : IsLineOf roster.now (length roster.records) (due_of roster) due_line
  pub deadlines : IsLineOf roster.now (length roster.records) (deadline_of roster) deadline_line
