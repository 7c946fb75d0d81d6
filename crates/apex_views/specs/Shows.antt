-- What a source gives, and how a run is shown.
use Rattle.std.specs.Prelude.{◌≡◌, ℕ, Bool, List, [], Option, None, Some, Result, Ok, Err, option_map}
use Rattle.std.specs.Io.KnownBytes.{Keeps}
use Rattle.apex_history.specs.Counted.{one_more}
use Rattle.apex_history.specs.Ports.{Ports}
use Rattle.apex_machine.specs.Machine.{Machine, opening, run}
use Rattle.apex_machine.specs.table.Table as tables
use Rattle.apex_types.specs.declared.entries.Entry.{Entry}
use Rattle.apex_incoming.specs.Ahead.{IsAhead}
use Rattle.apex_check.specs.Legal.{IsLegal}
use Rattle.apex_check.specs.Texts.{HasNoSeparator, IsParted}
use Rattle.apex_check.specs.Verdicts.{IsAtFault}
use Rattle.apex_check.specs.declared.CheckFault.{CheckFault}
use Rattle.apex_console.specs.Faults.{fault_of_checking}
use Rattle.apex_console.specs.Reports.{Answer, answer_of, refuses, runs_to}
use Rattle.apex_console.specs.declared.CliFault.{CliFault}
use Rattle.apex_console.specs.declared.CliFault.TheVariants.{Memory, NoSeparator, Read, Write}
use Rattle.apex_schedules.specs.Readings.{AreItemsOf}
use Rattle.apex_schedules.specs.declared.Item.{Item}
use Rattle.apex_views.specs.Departures.{Departure, DepartsBehind, departure_at, departure_said}
use Rattle.apex_showings.specs.Schedules.{IsBadIn}
use Rattle.apex_views.specs.Paced.{paced_answer}
use Rattle.apex_pictures.specs.declared.Excerpt.{Excerpt}
use Rattle.apex_views.specs.Plans.{AppendsPrefixOfView, AppendsView, IsPlanFor, columns_asked, excerpt_shown, machine_of}
use Rattle.apex_views.specs.Rows.{rows_for}
use Rattle.apex_showings.specs.Showings.{Chart, Picture, Showing, Source, View, drawn, history, listed, paced, schedule, schedule_read, svg, trace}
use Rattle.apex_showings.specs.Windows.{empty_in}
use Rattle.apex_views.specs.declared.departures.Departure.{Departure as DepartureIn}
use Rattle.apex_showings.specs.declared.BadSchedule.{BadSchedule}
use Rattle.apex_views.specs.declared.faults.ShowFault.{ShowFault}
use Rattle.apex_views.specs.declared.faults.ShowFault.TheVariants.{Common, Empty, NoProcess, Schedule as BadText}
use Rattle.apex_views.specs.declared.plans.Plan.{Plan}
use Rattle.apex_views.specs.declared.showing.Shown.{Shown}
use Rattle.apex_views.specs.declared.showing.Shown.TheVariants as ending
use Rattle.apex_views.specs.declared.sources.Given.{Given}
use Rattle.apex_views.specs.declared.sources.GivenRun.{GivenRun}
use Rattle.apex_views.specs.declared.sources.GivenRun.TheVariants as run_in
use Rattle.apex_showings.specs.declared.Window.{Window}

-- the end of a showing
pub data ShowEnd : Type 0 where
  -- the run was shown
  complete : ShowEnd
  -- this part of the run was shown, of which more was asked for
  in_part : Excerpt → ShowEnd
  -- the history departs from what the partition does, by the verdict of this text
  departs : List ℕ → ShowEnd
  -- with this fault
  fails : ShowFault → ShowEnd

-- the end if a part was shown, or all
abbrev pub end_of_part : Option Excerpt → ShowEnd
end_of_part None = complete
end_of_part (Some excerpt) = in_part excerpt

-- the end with the fault, if there is one
abbrev pub end_of : Option Excerpt → Option CliFault → ShowEnd
end_of part None = end_of_part part
end_of part (Some fault) = fails (Common fault)

-- the end of an outcome
abbrev pub end_in : Result Shown ShowFault → ShowEnd
end_in (Ok ending.Complete) = complete
end_in (Ok (ending.InPart excerpt)) = in_part excerpt
end_in (Ok (ending.Departed verdict)) = departs verdict.items
end_in (Err fault) = fails fault

-- what a source gives: an end; a machine to show, with the fault that is reported besides; or the
-- machine before a departure
pub data Outcome : Type 0 where
  stops : ShowEnd → Outcome
  shows : tables.Table → Machine → Option CliFault → Outcome
  parts : tables.Table → Machine → Departure → Outcome

-- This is the answer to the items of the schedule behind a table. The table comes before the first
-- line `%%`, and the schedule behind it.
pub record IsBehind (text : List ℕ) (answer : Answer) : Type 0 where
  pub table : List ℕ
  pub behind : List ℕ
  pub items : List Item
  pub parted : IsParted text table behind
  pub read : AreItemsOf behind items
  pub answers : answer_of items table ≡ answer

-- this is the answer of a source to the bytes that are read, memory aside; a history has none
abbrev pub Answers : Source → List ℕ → Answer → Type 0
Answers (schedule items) bytes answer = answer_of items bytes ≡ answer
Answers schedule_read bytes answer = IsBehind bytes answer
Answers (paced pace until) bytes answer = paced_answer pace until bytes ≡ answer
Answers history bytes answer = ⊥

-- what the text of a history gives, memory aside
pub data IsToldBy (text : List ℕ) : Outcome → Type 0 where
  -- the text has a fault
  at_fault : {fault : CheckFault} → IsAtFault text fault
      → IsToldBy text (stops (fails (Common (fault_of_checking fault))))
  -- the history departs from what the partition does
  departed : (table : tables.Table) (machine : Machine) → {n : ℕ} {expected : Option Entry}
      → DepartsBehind text table n expected machine
      → IsToldBy text (parts table machine (departure_at text table n expected))
  -- the history is legal
  legal : {n : ℕ} → (is : IsLegal text n)
      → IsToldBy text (shows is.table (run is.table (opening is.table) is.events) None)

-- What a source gives, by the bytes that the reader had left and how many of its calls failed
-- before, and how many failed afterwards.
pub data Gives (left : Option (List ℕ)) (failed : ℕ) : Source → Outcome → ℕ → Type 0 where
  -- memory was refused
  no_memory : {source : Source} → Gives left failed source (stops (fails (Common Memory))) failed
  -- a read failed
  unread : {source : Source}
      → Gives left failed source (stops (fails (Common Read))) (one_more failed)
  -- the bytes are refused
  refused : (bytes : List ℕ) → {source : Source} {fault : CliFault} → IsAhead bytes left
      → Answers source bytes (refuses fault)
      → Gives left failed source (stops (fails (Common fault))) failed
  -- the events of a schedule, or those of a pace, are made
  ran : (bytes : List ℕ) → {source : Source} {table : tables.Table} {machine : Machine}
      {fault : Option CliFault} → IsAhead bytes left
      → Answers source bytes (runs_to table machine fault)
      → Gives left failed source (shows table machine fault) failed
  -- no line separates a table from a schedule
  unparted : (bytes : List ℕ) → IsAhead bytes left → HasNoSeparator bytes
      → Gives left failed schedule_read (stops (fails (Common NoSeparator))) failed
  -- the text behind the table is no schedule
  ill_scheduled : (bytes table behind : List ℕ) → {bad : BadSchedule} → IsAhead bytes left
      → IsParted bytes table behind → IsBadIn behind bad
      → Gives left failed schedule_read (stops (fails (BadText bad))) failed
  -- the text is that of a history
  told : (text : List ℕ) → {outcome : Outcome} → IsAhead text left → IsToldBy text outcome
      → Gives left failed history outcome failed

-- The ways in which the showing of a machine ends, behind whose history there may be a departure: by
-- the view, the writer before and how many of its calls failed, the fault, and the writer afterwards
-- and how many failed.
pub data Shows (view : View) (table : tables.Table) (machine : Machine)
    (departure : Option Departure) (held : Option (List ℕ)) (failed : ℕ)
    : Option CliFault → Option (List ℕ) → ℕ → Type 0 where
  -- memory was refused before anything was written
  unbegun : {after : Option (List ℕ)} → Keeps held after
      → Shows view table machine departure held failed (Some Memory) after failed
  -- the whole text was written
  whole : {after : Option (List ℕ)} → AppendsView held after view table machine departure
      → Shows view table machine departure held failed None after failed
  -- memory was refused: a prefix of a picture was written
  cut_off : {picture : Picture} {after : Option (List ℕ)} → view ≡ drawn picture
      → AppendsPrefixOfView held after view table machine departure
      → Shows view table machine departure held failed (Some Memory) after failed
  -- a write failed: a prefix of the text was written
  unwritten : {after : Option (List ℕ)}
      → AppendsPrefixOfView held after view table machine departure
      → Shows view table machine departure held failed (Some Write) after (one_more failed)

-- the fault of the showing, or else the one that is reported besides
abbrev pub first_fault : Option CliFault → Option CliFault → Option CliFault
first_fault None reported = reported
first_fault (Some fault) reported = Some fault

-- the outcome of a machine, with the fault that is reported besides, or of that before a departure
abbrev pub outcome_with : Option DepartureIn → tables.Table → Machine → Option CliFault → Outcome
outcome_with None table machine fault = shows table machine fault
outcome_with (Some departure) table machine fault =
    parts table machine (departure_said departure)

-- the outcome of a run, or of that before a departure
abbrev pub outcome_of_run : Option DepartureIn → GivenRun → Outcome
outcome_of_run departure (run_in.Picture plan) =
    outcome_with departure plan.table (machine_of plan) plan.fault
outcome_of_run departure (run_in.Listing listing run) =
    outcome_with departure run.kernel.table run.kernel.machine run.fault
outcome_of_run departure (run_in.Empty window fold run) =
    outcome_with departure run.kernel.table run.kernel.machine run.fault
outcome_of_run departure (run_in.Lacking name run) =
    outcome_with departure run.kernel.table run.kernel.machine run.fault

-- what a source gave
abbrev pub outcome_in : Result Given ShowFault → Outcome
outcome_in (Ok given) = outcome_of_run given.departure given.made
outcome_in (Err fault) = stops (fails fault)

-- the plan is for the picture of this view
pub record IsPlanIn (view : View) (departure : Option Departure) (plan : Plan) : Type 0 where
  pub picture : Picture
  pub is : view ≡ drawn picture
  pub planned : IsPlanFor picture departure plan

-- the view is a chart of this window, with idle entries folded or not, and no entry of a history in the
-- window has a column
pub record IsEmptyIn (view : View) (window : Window) (fold : Bool) (history : List Entry)
    : Type 0 where
  pub chart : Chart
  pub is : view ≡ drawn (svg chart)
  pub window_is : chart.window ≡ window
  pub fold_is : chart.fold ≡ fold
  pub none : columns_asked chart history ≡ []

-- the view is a chart with a row for a process of this name or number, which a table lacks
pub record IsLackingIn (view : View) (table : tables.Table) (name : List ℕ) : Type 0 where
  pub chart : Chart
  pub is : view ≡ drawn (svg chart)
  pub lacks : rows_for table chart.only ≡ Err name

-- A run that a source gave, behind which there may be a departure, is to be shown in this view: its
-- picture is planned for the view, the view is its listing, the run has no entry with a column in the
-- window of the view, or its table lacks a process that is to have a row.
abbrev pub IsRunFor : View → Option Departure → GivenRun → Type 0
IsRunFor view departure (run_in.Picture plan) = IsPlanIn view departure plan
IsRunFor view departure (run_in.Listing listing run) = view ≡ listed listing
IsRunFor view departure (run_in.Empty window fold run) =
    IsEmptyIn view window fold run.kernel.machine.history
IsRunFor view departure (run_in.Lacking name run) = IsLackingIn view run.kernel.table name

-- what a source gave is to be shown in this view
abbrev pub IsGivenFor : View → Given → Type 0
IsGivenFor view given = IsRunFor view (option_map departure_said given.departure) given.made

-- the run that was given is that of an answer
abbrev pub IsRunTo : Answer → GivenRun → Type 0
IsRunTo answer (run_in.Picture plan) = answer ≡ runs_to plan.table (machine_of plan) plan.fault
IsRunTo answer (run_in.Listing listing run) =
    answer ≡ runs_to run.kernel.table run.kernel.machine run.fault
IsRunTo answer (run_in.Empty window fold run) =
    answer ≡ runs_to run.kernel.table run.kernel.machine run.fault
IsRunTo answer (run_in.Lacking name run) =
    answer ≡ runs_to run.kernel.table run.kernel.machine run.fault

-- what was given is a run, and that of an answer
abbrev pub IsGivenTo : Answer → Given → Type 0
IsGivenTo answer given = (given.departure ≡ None) × IsRunTo answer given.made

-- the end behind a picture that is drawn up to a departure, by the fault of the drawing
abbrev pub end_before : Departure → Option CliFault → ShowEnd
end_before departure None = departs departure.verdict
end_before departure (Some fault) = fails (Common fault)

-- a view shows nothing of a history that departs: it is a listing, or no entry before the departure that
-- is in its window has a column
abbrev pub IsUnshown : View → List Entry → Type 0
IsUnshown (drawn (svg chart)) entries = columns_asked chart entries ≡ []
IsUnshown (drawn (trace tick)) entries = ⊥
IsUnshown (listed listing) entries = Unit {0}

-- what a source gives is a run of this table
abbrev pub IsRunOn : Outcome → tables.Table → Type 0
IsRunOn (stops ends) table = ⊥
IsRunOn (shows other machine fault) table = other ≡ table
IsRunOn (parts other machine departure) table = other ≡ table

-- The ways in which the showing of what a source gives ends: by the view, the writer before and how
-- many of its calls failed, the outcome of the source, the end, and the writer afterwards and how many
-- failed.
pub data ShowsOutcome (view : View) (held : Option (List ℕ)) (failed : ℕ)
    : Outcome → ShowEnd → Option (List ℕ) → ℕ → Type 0 where
  -- there is nothing to show: nothing was written
  stopped : {ends : ShowEnd} {after : Option (List ℕ)} → Keeps held after
      → ShowsOutcome view held failed (stops ends) ends after failed
  -- the machine is shown
  shown : (table : tables.Table) (machine : Machine) (fault reported : Option CliFault)
      → {after : Option (List ℕ)} {failures : ℕ}
      → Shows view table machine None held failed fault after failures
      → ShowsOutcome view held failed (shows table machine reported)
      (end_of (excerpt_shown view machine.history) (first_fault fault reported)) after failures
  -- no entry of the machine in the window of the picture has a column: nothing was written
  empty : (table : tables.Table) (machine : Machine) (reported : Option CliFault) (window : Window)
      (fold : Bool) → {after : Option (List ℕ)} → IsEmptyIn view window fold machine.history
      → Keeps held after
      → ShowsOutcome view held failed (shows table machine reported)
      (fails (Empty (empty_in window fold machine))) after failed
  -- the table lacks a process that is to have a row: nothing was written
  lacking : (table : tables.Table) (name : List ℕ) → {outcome : Outcome} {after : Option (List ℕ)}
      → IsRunOn outcome table → IsLackingIn view table name → Keeps held after
      → ShowsOutcome view held failed outcome (fails (NoProcess name)) after failed
  -- the picture of the machine before a departure is drawn, and marks it
  cut_short : (table : tables.Table) (machine : Machine) (departure : Departure)
      (picture : Picture) (fault : Option CliFault) → {after : Option (List ℕ)} {failures : ℕ}
      → view ≡ drawn picture
      → Shows view table machine (Some departure) held failed fault after failures
      → ShowsOutcome view held failed (parts table machine departure)
      (end_before departure fault) after failures
  -- nothing of the machine before a departure is shown: nothing was written
  unshown : (table : tables.Table) (machine : Machine) (departure : Departure)
      → {after : Option (List ℕ)} → IsUnshown view machine.history → Keeps held after
      → ShowsOutcome view held failed (parts table machine departure)
      (departs departure.verdict) after failed

-- the showing of a run has this end: by the run, the reader and the writer before, and the reader and
-- the writer afterwards
pub record ShowEnds (showing : Showing) (before : Ports) (ends : ShowEnd) (after : Ports)
    : Type 0 where
  pub outcome : Outcome
  pub gives : Gives before.left before.failed_reads showing.source outcome after.failed_reads
  pub shows : ShowsOutcome showing.view before.held before.failed_writes outcome ends
      after.held after.failed_writes
