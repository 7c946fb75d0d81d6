-- The ways in which a run by threads ends.
use Rattle.std.specs.Prelude.{◌≡◌, ℕ, Bool, true, false, ◌++◌, ◌⊎◌, Result, List, Option, MatchOption, None, Some, Ok, Err, IsOk, nat_le, if◌then◌else◌}
use Rattle.std.specs.Io.KnownBytes.{Appends, Keeps}
use Rattle.apex_types.specs.declared.entries.Entry.{Entry}
use Rattle.apex_calls.specs.Lines.{lines_of}
use Rattle.apex_machine.specs.table.Table as tables
use Rattle.apex_table.specs.Reading.{table_of}
use Rattle.apex_words.specs.declared.TableFault.{TableFault}
use Rattle.apex_history.specs.Counted.{AppendsBeginning}
use Rattle.apex_history.specs.Ports.{Ports, NoneFails, AReadFails, AWriteFails, IsLeft}
use Rattle.apex_board.specs.Fronts.{Front, IsFrontAfter}
use Rattle.apex_cores.specs.declared.RunFault.{RunFault}
use Rattle.apex_cores.specs.declared.RunFault.TheVariants as run
use Rattle.apex_cores.specs.Plans.{IsRunByThreads, Plan, planned}
use Rattle.apex_cli.specs.FrontLines.{front_text}
use Rattle.apex_console.specs.declared.CliFault.{CliFault}
use Rattle.apex_console.specs.declared.CliFault.TheVariants.{HistoryFull, Memory, NoThread, Read, Table, Write}

-- the plan of these turns of each core of the table, and of these ticks
abbrev pub plan_for : tables.Table → ℕ → ℕ → Plan
plan_for table turns ticks = record { cores = table.cores; turns = turns; ticks = ticks }

-- the front that is written after this history: that of its last state, or none if none is asked for
abbrev pub FrontAsked : tables.Table → List Entry → Bool → Option Front → Type 0
FrontAsked table history with_front front =
    MatchOption front (with_front ≡ false)
    (λ shown. (with_front ≡ true) × IsFrontAfter table history shown)

-- what is written of a run: the lines of its history, and the line of the front behind them, if there is one
abbrev pub text_of : tables.Table → List Entry → Option Front → List ℕ
text_of table history front = lines_of table history ++ front_text front

-- threads may make this history of the table of these bytes, and this is the front that is asked for
pub record IsRunOf (bytes : List ℕ) (turns ticks : ℕ) (with_front : Bool) (table : tables.Table)
    (history : List Entry) (front : Option Front) : Type 0 where
  pub read : table_of bytes ≡ Ok table
  pub ran : IsRunByThreads table (plan_for table turns ticks) history
  pub asked : FrontAsked table history with_front front

-- the history is full if more entries are planned than its limit
abbrev pub fault_of_plan : tables.Table → Plan → Option CliFault
fault_of_plan table plan =
    if nat_le (planned plan) table.limit then None else Some (HistoryFull table.limit)

-- a fault of the threads
abbrev pub fault_of_run : RunFault → CliFault
fault_of_run run.Memory = Memory
fault_of_run run.NoThread = NoThread

-- the fault with which the table's text is refused, if it is
abbrev pub refusal_of : Result tables.Table TableFault → Option CliFault
refusal_of (Ok table) = None
refusal_of (Err fault) = Some (Table fault)

-- memory was refused; or a thread was, to a table that is read; or the table's text is refused, with this fault
abbrev pub RefusesRun : CliFault → Result tables.Table TableFault → Type 0
RefusesRun fault read =
    (fault ≡ Memory) ⊎ (((fault ≡ NoThread) × IsOk read) ⊎ (refusal_of read ≡ Some fault))

-- The ways in which a run by threads ends: by how many turns of each core and how many ticks are asked
-- for, whether the front is, the reader and the writer before, the fault, and the reader and the writer
-- afterwards.
pub data Runs (turns ticks : ℕ) (with_front : Bool) (before : Ports) : Option CliFault → Ports
    → Type 0 where
  -- memory was refused: nothing was written
  no_room : {after : Ports} → Keeps before.held after.held → NoneFails before after
      → Runs turns ticks with_front before (Some Memory) after
  -- a read failed: nothing was written
  unread : {after : Ports} → Keeps before.held after.held → AReadFails before after
      → Runs turns ticks with_front before (Some Read) after
  -- the bytes are no table: nothing was written
  refused : (bytes : List ℕ) → {fault : CliFault} {after : Ports} → IsLeft bytes before
      → refusal_of (table_of bytes) ≡ Some fault → Keeps before.held after.held
      → NoneFails before after
      → Runs turns ticks with_front before (Some fault) after
  -- the bytes are a table, and a thread was refused: nothing was written
  no_thread : (bytes : List ℕ) → {after : Ports} → IsLeft bytes before → IsOk (table_of bytes)
      → Keeps before.held after.held → NoneFails before after
      → Runs turns ticks with_front before (Some NoThread) after
  -- the lines of a history that threads made were written, and the front after it, if it is asked for
  written : (bytes : List ℕ) (table : tables.Table) (history : List Entry) (front : Option Front)
      → {fault : Option CliFault} {after : Ports} → IsLeft bytes before
      → IsRunOf bytes turns ticks with_front table history front
      → fault ≡ fault_of_plan table (plan_for table turns ticks)
      → Appends before.held after.held (text_of table history front) → NoneFails before after
      → Runs turns ticks with_front before fault after
  -- a write failed: a prefix of such a text was written
  unwritten : (bytes : List ℕ) (table : tables.Table) (history : List Entry) (front : Option Front)
      → {after : Ports} → IsLeft bytes before
      → IsRunOf bytes turns ticks with_front table history front
      → AppendsBeginning before.held after.held (text_of table history front)
      → AWriteFails before after
      → Runs turns ticks with_front before (Some Write) after
