-- The verdict on the history of a text, or the first fault.
use Rattle.std.specs.Prelude.{◌≡◌, ◌≢◌, ℕ, ◌+◌, ◌<◌, ◌≤◌, List, [], ◌∷◌, ◌++◌, length, codes, decimal, Option, None, Some, Ok, Err}
use Rattle.apex_types.specs.declared.limits.TheConstants.{MOST_LINE}
use Rattle.apex_check.specs.Terms.{Entry, Event}
use Rattle.apex_machine.specs.table.Table.{Table}
use Rattle.apex_machine.specs.Machine.{Machine, opening, run}
use Rattle.apex_calls.specs.Lines.{line_of}
use Rattle.apex_table.specs.Reading.{table_of}
use Rattle.apex_words.specs.declared.TableFault.{TableFault}
use Rattle.apex_words.specs.declared.TableFault.TheVariants as table_fault
use Rattle.apex_history.specs.declared.LineFault.TheVariants as line_fault
use Rattle.apex_check.specs.declared.verdicts.Verdict.{Verdict}
use Rattle.apex_check.specs.declared.verdicts.Verdict.TheVariants.{Legal, DepartsAt}
use Rattle.apex_check.specs.declared.verdicts.CheckFault.{CheckFault}
use Rattle.apex_check.specs.declared.verdicts.CheckFault.TheVariants.{Table as BadTable, NoSeparator, BadLine, TooLong}
use Rattle.apex_check.specs.Texts.{IsParted, HasNoSeparator, BeginsWithTable}
use Rattle.apex_incoming.specs.Lines.{IsOneLine, ended}
use Rattle.apex_check.specs.Histories.{Follows, IsNext, event_named}

-- the text of the machine's line in a verdict, with its line feed
abbrev pub expected_text : Table → Option Entry → List ℕ
expected_text table (Some entry) = line_of table entry
expected_text table None = codes "nothing\n"

-- the text of a verdict
abbrev pub verdict_text : Table → Verdict → List ℕ
verdict_text table (Legal n) = codes "legal " ++ decimal n ++ codes "\n"
verdict_text table (DepartsAt n expected) =
    codes "departs at " ++ decimal n ++ codes "\nexpected: " ++ expected_text table expected

-- The verdict on the lines of a history, and the events that were made for it: those of the lines
-- before the one that decides, which are the lines of *run* for them, and that of a line which
-- departs from its entry.
pub data JudgesLines (table : Table) (text : List ℕ) : Verdict → List Event → Type 0 where
  -- all lines are
  legal : {events : List Event} → Follows table text events []
      → JudgesLines table text (Legal (length events)) events
  -- the next line names an event, and is not the line of the machine's entry
  departs : {events : List Event} (behind line : List ℕ) (event : Event) (entry : Entry)
      → Follows table text events (ended line ++ behind) → IsOneLine line
      → event_named table.cores line ≡ Ok event → IsNext table events event entry
      → ended line ≢ line_of table entry
      → JudgesLines table text (DepartsAt (length events + 1) (Some entry)) (events ++ event ∷ [])
  -- the next line names an event, and the history is full
  beyond : {events : List Event} (behind line : List ℕ) (event : Event)
      → Follows table text events (ended line ++ behind) → IsOneLine line
      → event_named table.cores line ≡ Ok event → length events ≡ table.limit
      → JudgesLines table text (DepartsAt (length events + 1) None) events

-- the verdict on a text that begins with this table, and the events that were made for it
abbrev pub JudgesBy : List ℕ → Table → Verdict → List Event → Type 0
JudgesBy text table verdict events =
    (behind : List ℕ) × BeginsWithTable text table behind
    × JudgesLines table behind verdict events

-- the verdict on a text that begins with this table
abbrev pub Judges : List ℕ → Table → Verdict → Type 0
Judges text table verdict = (events : List Event) × JudgesBy text table verdict events

-- the verdict on a text that begins with this table, and the machine after the events that were
-- made for it
pub record HasFollowed (text : List ℕ) (table : Table) (verdict : Verdict) (machine : Machine)
    : Type 0 where
  pub events : List Event
  pub judges : JudgesBy text table verdict events
  pub ran : machine ≡ run table (opening table) events

-- The first line at fault. The lines before it are those of *run* for the events that they name.
pub data LineIsAtFault (table : Table) (text : List ℕ) : CheckFault → Type 0 where
  -- the next line names no event, or one of a core that the table lacks
  bad : {events : List Event} (behind line : List ℕ)
      → Follows table text events (ended line ++ behind) → IsOneLine line
      → event_named table.cores line ≡ Err line_fault.BadLine
      → LineIsAtFault table text (BadLine (length events + 1))
  -- the rest, of 1 to 4,096 bytes, has no line feed
  unended : {events : List Event} (rest : List ℕ)
      → Follows table text events rest → IsOneLine rest → 0 < length rest → length rest ≤ MOST_LINE
      → LineIsAtFault table text (BadLine (length events + 1))
  -- more than 4,096 bytes come next before any line feed
  too_long : {events : List Event} (behind line : List ℕ)
      → Follows table text events (line ++ behind) → IsOneLine line → MOST_LINE < length line
      → LineIsAtFault table text (TooLong (length events + 1))

-- The first fault of a text.
pub data IsAtFault (text : List ℕ) : CheckFault → Type 0 where
  no_separator : HasNoSeparator text → IsAtFault text NoSeparator
  no_table : (front behind : List ℕ) → {fault : TableFault} → IsParted text front behind
      → table_of front ≡ Err fault → fault ≢ table_fault.Memory → IsAtFault text (BadTable fault)
  at_line : (table : Table) (behind : List ℕ) → {fault : CheckFault}
      → BeginsWithTable text table behind
      → LineIsAtFault table behind fault → IsAtFault text fault
