-- What a search for the greatest response of a process says.
use Rattle.std.specs.Prelude.{◌≡◌, ℕ, ◌≤◌, All, List, Ok, [], ◌∷◌, ◌++◌, codes, decimal, length, Option, None, Some}
use Rattle.std.specs.List.{last_or}
use Rattle.apex_calls.specs.Lines.{line_of}
use Rattle.apex_dispatch.specs.Kernel.{KernelState}
use Rattle.apex_machine.specs.Events.{IsWithin}
use Rattle.apex_machine.specs.Machine.{entry_of, opening, run}
use Rattle.apex_machine.specs.Situations.{deed, maker}
use Rattle.apex_machine.specs.table.Table.{Table}
use Rattle.apex_pace.specs.Pace.{paced_opening, paced_run}
use Rattle.apex_search.specs.Steps.{Searched}
use Rattle.apex_search.specs.Worst.{IsWorst, schedule_in}
use Rattle.apex_search.specs.declared.Slowest.{Slowest}
use Rattle.apex_search.specs.declared.Worst.{Worst}
use Rattle.apex_search.specs.declared.Worst.TheVariants.{Greatest, Overrun, Full, Beyond}
use Rattle.apex_table.specs.Reading.{table_of}
use Rattle.apex_types.specs.declared.entries.Entry.{Entry}
use Rattle.apex_types.specs.declared.entries.Event.{Event}
use Rattle.apex_answers.specs.Answers.{SearchEnd, finds, is_beyond, is_full, never}
use Rattle.apex_answers.specs.declared.worst.WorstAnswer.{WorstAnswer}
use Rattle.apex_answers.specs.Texts.{line_in, run_text, states_text, within_text}

-- the entry is the last one of the events' run: that of the last event's deed
pub record IsLastEntry (table : Table) (events : List Event) (entry : Entry) : Type 0 where
  pub earlier : List Event
  pub last : Event
  pub is : events ≡ earlier ++ last ∷ []
  pub entry_is : entry ≡ entry_of (length events) (maker last)
      (deed table (paced_run table (paced_opening table) earlier).situation last)
  pub ends : last_or None (run table (opening table) events).history ≡ Some entry

-- the text of a schedule and of the last entry of its run; none without a schedule
pub data ShowsRun (table : Table) : Option (List Event) → List ℕ → Type 0 where
  nothing : ShowsRun table None []
  shows : (events : List Event) (entry : Entry) → IsLastEntry table events entry
      → ShowsRun table (Some events) (run_text events (line_of table entry))

-- the greatest response, or that there is none; that one is longer than a period; or the greatest one
-- so far, if there is one
abbrev pub head_text : Worst → List ℕ
head_text (Greatest None states) = codes "no response\n"
head_text (Greatest (Some slowest) states) =
    codes "worst " ++ decimal slowest.response ++ codes "\n"
head_text (Overrun schedule period) = codes "worst over " ++ decimal period ++ codes "\n"
head_text (Full None depth) = []
head_text (Full (Some slowest) depth) =
    codes "worst at least " ++ decimal slowest.response ++ codes "\n"
head_text (Beyond None limit) = []
head_text (Beyond (Some slowest) limit) =
    codes "worst at least " ++ decimal slowest.response ++ codes "\n"

-- no schedule of at most this many events has a greater response, or any if none was found
abbrev pub bound_text : Option Slowest → ℕ → List ℕ
bound_text None depth = within_text depth
bound_text (Some slowest) depth = codes "none greater within " ++ decimal depth ++ codes "\n"

-- the number of states, and how far the search has come if it is open
abbrev pub tail_text : ℕ → Worst → List ℕ
tail_text room (Greatest found states) = states_text states
tail_text room (Overrun schedule period) = []
tail_text room (Full found depth) = bound_text found depth ++ states_text room
tail_text room (Beyond found limit) = bound_text found limit

-- the end of such a search
abbrev pub worst_end : ℕ → Worst → SearchEnd
worst_end room (Greatest None states) = never
worst_end room (Greatest (Some slowest) states) = finds
worst_end room (Overrun schedule period) = finds
worst_end room (Full found depth) = is_full room
worst_end room (Beyond found limit) = is_beyond limit

-- the text that a search for the greatest response of process p, with room for this many states, may
-- answer, and its end
pub record SaysWorst (system : Searched) (p room : ℕ) (text : List ℕ) (end : SearchEnd) : Type 0
  where
    pub worst : Worst
    pub is : IsWorst system p room worst
    pub run : List ℕ
    pub shows : ShowsRun system.table (schedule_in worst) run
    pub text_is : text ≡ head_text worst ++ run ++ tail_text room worst
    pub end_is : end ≡ worst_end room worst

-- the schedule, if there is one, and the line of the last entry of its kernel
abbrev pub run_part : {S : Type 0} → Option (List Event) → Option (KernelState S) → List ℕ
run_part None kernel = []
run_part (Some events) None = []
run_part (Some events) (Some kernel) =
    run_text events (line_in kernel.table (last_or None kernel.machine.history))

-- the text of an answer
abbrev pub worst_text : ℕ → WorstAnswer → List ℕ
worst_text room answer =
    head_text answer.worst ++ run_part (schedule_in answer.worst) answer.kernel
    ++ tail_text room answer.worst

-- the answer is one of a search for process p, with room for this many states
abbrev pub IsWorstAnswer : Searched → ℕ → ℕ → WorstAnswer → Type 0
IsWorstAnswer system p room answer =
    SaysWorst system p room (worst_text room answer) (worst_end room answer.worst)

-- the kernel is that of the table of this text, and has made these events from before any event on
pub record HasRun {S : Type 0} (text : List ℕ) (events : List Event) (kernel : KernelState S)
    : Type 0 where
  pub table : table_of text ≡ Ok kernel.table
  pub machine : kernel.machine ≡ run kernel.table (opening kernel.table) events

-- the text is one of a table whose cores make these events, and whose history has room for their
-- entries
pub record CanRun (text : List ℕ) (events : List Event) : Type 0 where
  pub table : Table
  pub read : table_of text ≡ Ok table
  pub own : All (IsWithin table.cores) events
  pub fits : length events ≤ table.limit
