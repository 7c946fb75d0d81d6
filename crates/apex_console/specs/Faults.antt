-- The faults of a program, and its exit status.
use Rattle.std.specs.Prelude.{◌≡◌, ◌⊎◌, codes, decimal, ℕ, List, [], ◌∷◌, ◌++◌, Option, Some, None, Result, Ok, Err}
use Rattle.apex_history.specs.declared.ReadFault.{ReadFault}
use Rattle.apex_history.specs.declared.ReadFault.TheVariants as read
use Rattle.apex_words.specs.declared.TableFault.{TableFault}
use Rattle.apex_words.specs.Fault as tables
use Rattle.apex_words.specs.declared.TableFault.TheVariants as table
use Rattle.apex_console.specs.declared.faults.CliFault.{CliFault}
use Rattle.apex_console.specs.declared.faults.CliFault.TheVariants.{Usage, Table, NoSeparator, BadLine, TooLong, HistoryFull, Memory, NoThread, Read, Write}
use Rattle.apex_check.specs.declared.CheckFault.{CheckFault}
use Rattle.apex_check.specs.declared.CheckFault.TheVariants as checking

-- a fault that may come before anything is read
abbrev pub IsUsageOrMemory : CliFault → Type 0
IsUsageOrMemory fault = (fault ≡ Usage) ⊎ (fault ≡ Memory)

-- a fault of the reading of bytes
abbrev pub fault_of_read : ReadFault → CliFault
fault_of_read read.Memory = Memory
fault_of_read read.Read = Read

-- a fault of the table's text
abbrev pub fault_of_table : TableFault → CliFault
fault_of_table table.Memory = Memory
fault_of_table fault = Table fault

-- a fault of a check
abbrev pub fault_of_checking : CheckFault → CliFault
fault_of_checking checking.Memory = Memory
fault_of_checking (checking.Table fault) = Table fault
fault_of_checking checking.NoSeparator = NoSeparator
fault_of_checking (checking.BadLine line) = BadLine line
fault_of_checking (checking.TooLong line) = TooLong line
fault_of_checking checking.Read = Read
fault_of_checking checking.Write = Write

-- the exit status of a fault: 2 usage, 3 the table or the history's text is refused, 4 the history
-- is full, 5 memory or a thread was refused, 6 a read or a write failed
abbrev pub status_of_fault : CliFault → ℕ
status_of_fault Usage = 2
status_of_fault (Table fault) = 3
status_of_fault NoSeparator = 3
status_of_fault (BadLine line) = 3
status_of_fault (TooLong line) = 3
status_of_fault (HistoryFull entries) = 4
status_of_fault Memory = 5
status_of_fault NoThread = 5
status_of_fault Read = 6
status_of_fault Write = 6

-- the fault with which a call ended
abbrev pub fault_in : {T : Type 0} → Result T CliFault → Option CliFault
fault_in (Ok value) = None
fault_in (Err fault) = Some fault

-- the text of a fault
abbrev pub fault_text : CliFault → List ℕ
fault_text Usage =
    codes "apex: usage: apex replay|status --schedule S, apex run --turns N --ticks K, apex check"
fault_text (Table fault) = codes "apex: table refused: " ++ tables.fault_text fault
fault_text NoSeparator = codes "apex: no separator"
fault_text (BadLine line) = codes "apex: history refused: BadLine at line " ++ decimal line
fault_text (TooLong line) = codes "apex: history refused: TooLong at line " ++ decimal line
fault_text (HistoryFull entries) =
    codes "apex: history full after " ++ decimal entries ++ codes " entries"
fault_text Memory = codes "apex: out of memory"
fault_text NoThread = codes "apex: no thread"
fault_text Read = codes "apex: read failed"
fault_text Write = codes "apex: write failed"

-- the line that reports the fault at the end, with its line feed; nothing if all was done
abbrev pub fault_line : Option CliFault → List ℕ
fault_line None = []
fault_line (Some fault) = fault_text fault ++ (10 ∷ [])
