-- The answer of the machine to a line.
use Rattle.std.specs.Prelude.{◌≡◌, ◌≢◌, ◌+◌, ◌≤◌, ℕ, List, [], ◌∷◌, ◌++◌, length, Option, None, Some, Result, Ok, Err}
use Rattle.std.specs.List.{last_or}
use Rattle.apex_check.specs.Terms.{Entry, Event}
use Rattle.apex_machine.specs.table.Table.{Table}
use Rattle.apex_machine.specs.Machine.{Machine, accept, event_of, events_of}
use Rattle.apex_calls.specs.Lines.{line_of, IsPrintable}
use Rattle.apex_check.specs.declared.following.Answer.{Answer}
use Rattle.apex_check.specs.declared.following.Answer.TheVariants.{Same, Differs, Beyond}
use Rattle.apex_check.specs.declared.verdicts.Verdict.{Verdict}
use Rattle.apex_check.specs.declared.verdicts.Verdict.TheVariants.{Legal, DepartsAt}
use Rattle.apex_check.specs.declared.verdicts.CheckFault.{CheckFault}
use Rattle.apex_check.specs.declared.verdicts.CheckFault.TheVariants.{Read, BadLine, TooLong}
use Rattle.apex_incoming.specs.Ahead.{IsAhead}
use Rattle.apex_history.specs.declared.LineFault.{LineFault}
use Rattle.apex_history.specs.declared.LineFault.TheVariants as line_fault
use Rattle.apex_incoming.specs.Lines.{ended}
use Rattle.apex_check.specs.Histories.{AreLines}
use Rattle.apex_check.specs.Verdicts.{JudgesLines, LineIsAtFault}

-- the event adds this entry to the history
abbrev pub Adds : Table → Machine → Event → Entry → Type 0
Adds table machine event entry =
    ((accept table machine event).history ≡ machine.history ++ entry ∷ [])
    × (event_of entry ≡ event)

-- the comparison of the line of the entry that the event adds with this one
abbrev pub Answers : Table → Machine → Event → List ℕ → Answer → Type 0
Answers table machine event line Same =
    (entry : Entry) × Adds table machine event entry × (line ≡ line_of table entry)
Answers table machine event line Differs =
    (entry : Entry) × Adds table machine event entry × (line ≢ line_of table entry)
Answers table machine event line Beyond = table.limit ≤ length machine.history

-- the verdict on a history whose latest line is the first that is not the machine's
abbrev pub departure : List Entry → Verdict
departure history = DepartsAt (length history) (last_or None history)

-- the judgement on a line behind bytes that are the text's first lines, by the history with its
-- entry: it is one more of them, or there is a verdict or a fault, whatever follows
abbrev pub Judged : Table → List ℕ → List ℕ → List Entry → Result Answer CheckFault → Type 0
Judged table bytes line history (Ok Same) = AreLines table (bytes ++ ended line) (events_of history)
Judged table bytes line history (Ok Differs) =
    (behind : List ℕ)
    → JudgesLines table (bytes ++ (ended line ++ behind)) (departure history) (events_of history)
Judged table bytes line history (Ok Beyond) =
    (behind : List ℕ)
    → JudgesLines table (bytes ++ (ended line ++ behind)) (DepartsAt (length history + 1) None)
    (events_of history)
Judged table bytes line history (Err fault) =
    (behind : List ℕ) → LineIsAtFault table (bytes ++ (ended line ++ behind)) fault

-- the entry that the verdict shows, if there is one, can be printed
abbrev pub IsTellable : Table → Verdict → Type 0
IsTellable table (Legal n) = Unit {0}
IsTellable table (DepartsAt n (Some entry)) = IsPrintable table entry
IsTellable table (DepartsAt n None) = Unit {0}

-- the part that is still to come has this line at fault, or a read failed
abbrev pub IsLineFaultOf : Table → Option (List ℕ) → CheckFault → Type 0
IsLineFaultOf table known Read = Unit {0}
IsLineFaultOf table known fault =
    (text : List ℕ) × IsAhead text known × LineIsAtFault table text fault

-- the fault of a line
abbrev pub fault_at : ℕ → LineFault → CheckFault
fault_at line line_fault.BadLine = BadLine line
fault_at line line_fault.TooLong = TooLong line

-- a fault that a line may have
abbrev pub IsOfLine : CheckFault → Type 0
IsOfLine (BadLine line) = Unit {0}
IsOfLine (TooLong line) = Unit {0}
IsOfLine fault = ⊥
