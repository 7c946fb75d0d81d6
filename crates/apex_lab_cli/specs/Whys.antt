-- The reason of one entry of a run, and how the program ends.
use Rattle.std.specs.Prelude.{◌≡◌, ℕ, List, ◌++◌, Option, codes}
use Rattle.std.specs.Io.KnownBytes.{Appends, Keeps}
use Rattle.apex_machine.specs.Machine.{Machine, events_of}
use Rattle.apex_machine.specs.table.Table.{Table}
use Rattle.apex_history.specs.Counted.{AppendsBeginning, one_more}
use Rattle.apex_history.specs.Ports.{Ports}
use Rattle.apex_console.specs.declared.CliFault.{CliFault}
use Rattle.apex_console.specs.declared.CliFault.TheVariants.{Memory, Write}
use Rattle.apex_departures.specs.Why.{IsReasonAt, LacksEvent}
use Rattle.apex_showings.specs.Showings.{Source}
use Rattle.apex_views.specs.Departures.{Departure}
use Rattle.apex_views.specs.Shows.{Gives, Outcome, ShowEnd, parts, shows, stops}
use Rattle.apex_lab_cli.specs.Ends.{End, complete, departs, end_of_showing, fails}
use Rattle.apex_lab_cli.specs.declared.faults.LabFault.TheVariants.{Common, NoEntry}

-- the text is the reason of the entry of this number, and a line feed
abbrev pub IsAnswer : Table → Machine → ℕ → List ℕ → Type 0
IsAnswer table machine entry text =
    (reason : List ℕ) × IsReasonAt table (events_of machine.history) entry reason
    × (text ≡ reason ++ codes "\n")

-- How the answer ends, for the run of a machine: by the writer before and how many of its calls
-- failed, the end, and the writer afterwards and how many failed.
pub data AnswerEnds (table : Table) (machine : Machine) (entry : ℕ) (held : Option (List ℕ))
    (failed : ℕ) : End → Option (List ℕ) → ℕ → Type 0 where
  -- memory was refused: nothing was written
  no_memory : {after : Option (List ℕ)} → Keeps held after
      → AnswerEnds table machine entry held failed (fails (Common Memory)) after failed
  -- the history has no entry of this number: nothing was written
  lacking : {after : Option (List ℕ)} → LacksEvent (events_of machine.history) entry
      → Keeps held after
      → AnswerEnds table machine entry held failed (fails (NoEntry entry)) after failed
  -- the reason was written
  answered : (text : List ℕ) → {after : Option (List ℕ)} → IsAnswer table machine entry text
      → Appends held after text → AnswerEnds table machine entry held failed complete after failed
  -- a write failed: a prefix of the text was written
  unwritten : (text : List ℕ) → {after : Option (List ℕ)} → IsAnswer table machine entry text
      → AppendsBeginning held after text
      → AnswerEnds table machine entry held failed (fails (Common Write)) after (one_more failed)

-- The ways in which the answer about what a source gives ends: by the number of the entry, the writer
-- before and how many of its calls failed, the outcome of the source, the end, and the writer
-- afterwards and how many failed.
pub data OutcomeWhyEnds (entry : ℕ) (held : Option (List ℕ)) (failed : ℕ)
    : Outcome → End → Option (List ℕ) → ℕ → Type 0 where
  -- there is no run: nothing was written
  stopped : {ends : ShowEnd} {after : Option (List ℕ)} → Keeps held after
      → OutcomeWhyEnds entry held failed (stops ends) (end_of_showing ends) after failed
  -- the run of a machine
  ran : (table : Table) (machine : Machine) (reported : Option CliFault)
      → {ends : End} {after : Option (List ℕ)} {failures : ℕ}
      → AnswerEnds table machine entry held failed ends after failures
      → OutcomeWhyEnds entry held failed (shows table machine reported) ends after failures
  -- the history departs: nothing was written
  ran_before : (table : Table) (machine : Machine) (departure : Departure)
      → {after : Option (List ℕ)} → Keeps held after
      → OutcomeWhyEnds entry held failed (parts table machine departure)
      (departs departure.verdict) after failed

-- the answer to the reason of an entry has this end: by the source of the run, the number of the entry,
-- the reader and the writer before, and the reader and the writer afterwards
pub record WhyEnds (source : Source) (entry : ℕ) (before : Ports) (ends : End) (after : Ports)
    : Type 0 where
  pub outcome : Outcome
  pub gives : Gives before.left before.failed_reads source outcome after.failed_reads
  pub answers : OutcomeWhyEnds entry before.held before.failed_writes outcome ends
      after.held after.failed_writes
