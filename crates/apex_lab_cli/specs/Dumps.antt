-- The value changes of a run, and how the program ends.
use Rattle.std.specs.Prelude.{◌≡◌, ℕ, List, Option, None, Some, All}
use Rattle.std.specs.Io.KnownBytes.{Appends, Keeps}
use Rattle.apex_machine.specs.Events.{IsWithin}
use Rattle.apex_machine.specs.Machine.{Machine, opening, run}
use Rattle.apex_machine.specs.table.Table.{Table}
use Rattle.apex_history.specs.Counted.{AppendsBeginning, one_more}
use Rattle.apex_history.specs.Ports.{Ports}
use Rattle.apex_console.specs.declared.CliFault.{CliFault}
use Rattle.apex_console.specs.declared.CliFault.TheVariants.{Memory, Write}
use Rattle.apex_showings.specs.Showings.{Source}
use Rattle.apex_views.specs.Departures.{Departure}
use Rattle.apex_views.specs.Shows.{Gives, Outcome, ShowEnd, parts, shows, stops}
use Rattle.apex_waves.specs.Dumps.{dump_text}
use Rattle.apex_lab_cli.specs.Ends.{End, complete, departs, end_of_showing, fails}
use Rattle.apex_lab_cli.specs.declared.dumping.Dump.{Dump}
use Rattle.apex_lab_cli.specs.declared.faults.LabFault.TheVariants.{Common}

-- the end with the fault that is reported besides, if there is one
abbrev pub end_with : Option CliFault → End
end_with None = complete
end_with (Some fault) = fails (Common fault)

-- a dump is to be made of a table's machine: by a kernel before any event, and by events that give the
-- machine
pub record IsDumpOf (table : Table) (machine : Machine) (dump : Dump) : Type 0 where
  pub table_is : dump.kernel.table ≡ table
  pub opened : dump.kernel.machine ≡ opening dump.kernel.table
  pub within : All (IsWithin dump.kernel.table.cores) dump.events.items
  pub same : run dump.kernel.table (opening dump.kernel.table) dump.events.items ≡ machine

-- How the dump of a machine ends: by the fault that is reported besides, the writer before and how
-- many of its calls failed, the end, and the writer afterwards and how many failed.
pub data RunDumpEnds (table : Table) (machine : Machine) (reported : Option CliFault)
    (held : Option (List ℕ)) (failed : ℕ) : End → Option (List ℕ) → ℕ → Type 0 where
  -- memory was refused: nothing was written
  no_memory : {after : Option (List ℕ)} → Keeps held after
      → RunDumpEnds table machine reported held failed (fails (Common Memory)) after failed
  -- the dump was written
  dumped : {after : Option (List ℕ)} → Appends held after (dump_text table machine)
      → RunDumpEnds table machine reported held failed (end_with reported) after failed
  -- a write failed: a prefix of the dump was written
  unwritten : {after : Option (List ℕ)} → AppendsBeginning held after (dump_text table machine)
      → RunDumpEnds table machine reported held failed (fails (Common Write)) after
      (one_more failed)

-- the end behind the dump of a run before a departure
abbrev pub end_behind : Departure → End → End
end_behind departure complete = departs departure.verdict
end_behind departure ends = ends

-- The ways in which the dump of what a source gives ends: by the outcome of the source, the writer before
-- and how many of its calls failed, the end, and the writer afterwards and how many failed.
pub data OutcomeDumpEnds (held : Option (List ℕ)) (failed : ℕ) : Outcome → End → Option (List ℕ) → ℕ
    → Type 0 where
  -- there is no run: nothing was written
  stopped : {ends : ShowEnd} {after : Option (List ℕ)} → Keeps held after
      → OutcomeDumpEnds held failed (stops ends) (end_of_showing ends) after failed
  -- the dump of the run of a machine
  ran : (table : Table) (machine : Machine) (reported : Option CliFault)
      → {ends : End} {after : Option (List ℕ)} {failures : ℕ}
      → RunDumpEnds table machine reported held failed ends after failures
      → OutcomeDumpEnds held failed (shows table machine reported) ends after failures
  -- the dump of the run before a departure
  ran_before : (table : Table) (machine : Machine) (departure : Departure)
      → {ends : End} {after : Option (List ℕ)} {failures : ℕ}
      → RunDumpEnds table machine None held failed ends after failures
      → OutcomeDumpEnds held failed (parts table machine departure)
      (end_behind departure ends) after failures

-- the dump of a run has this end: by the source of the run, the reader and the writer before, and the
-- reader and the writer afterwards
pub record DumpEnds (source : Source) (before : Ports) (ends : End) (after : Ports) : Type 0 where
  pub outcome : Outcome
  pub gives : Gives before.left before.failed_reads source outcome after.failed_reads
  pub dumps : OutcomeDumpEnds before.held before.failed_writes outcome ends
      after.held after.failed_writes
