-- The verdict on a text in which comments may be left out, and its explanation.
use Rattle.std.specs.Prelude.{◌≡◌, ℕ, ◌-◌, Bool, is_some, if◌then◌else◌, List, ◌++◌, Option, None, Some}
use Rattle.apex_json.specs.declared.Form.{Form}
use Rattle.apex_machine.specs.table.Table.{Table}
use Rattle.apex_machine.specs.Machine.{Machine, events_of}
use Rattle.apex_history.specs.declared.reading.ReadFault.{ReadFault}
use Rattle.apex_history.specs.declared.reading.ReadFault.TheVariants as read_fault
use Rattle.apex_check.specs.declared.verdicts.Verdict.{Verdict}
use Rattle.apex_check.specs.declared.verdicts.Verdict.TheVariants.{Legal, DepartsAt}
use Rattle.apex_check.specs.declared.verdicts.CheckFault.{CheckFault}
use Rattle.apex_check.specs.declared.verdicts.CheckFault.TheVariants.{Memory, BadLine, TooLong, Read}
use Rattle.apex_check.specs.Verdicts.{HasFollowed, IsAtFault}
use Rattle.apex_departures.specs.Terms.{Event}
use Rattle.apex_departures.specs.Lines.{followed_text, given_parts, number_given, part_given}
use Rattle.apex_departures.specs.Pages.{departure_in, legal_in, reason_in}
use Rattle.apex_departures.specs.Why.{HasEvent, IsReasonAt}

-- a verdict by the number of the line as it was given
abbrev pub verdict_given : Bool → List (List ℕ) → Verdict → Verdict
verdict_given comments given (Legal n) = Legal n
verdict_given comments given (DepartsAt n expected) =
    DepartsAt (number_given comments given n) expected

-- a fault by the number of the line as it was given
abbrev pub fault_given : Bool → List (List ℕ) → CheckFault → CheckFault
fault_given comments given (BadLine n) = BadLine (number_given comments given n)
fault_given comments given (TooLong n) = TooLong (number_given comments given n)
fault_given comments given fault = fault

-- bytes in memory of which there are more than can be read are as good as no memory
abbrev pub fault_in_memory : CheckFault → CheckFault
fault_in_memory Read = Memory
fault_in_memory fault = fault

-- the fault of a reader
abbrev pub fault_of_reading : ReadFault → CheckFault
fault_of_reading read_fault.Memory = Memory
fault_of_reading read_fault.Read = Read

-- the explanation of a verdict without the reason of the machine's entry, by the parts of the
-- history as it was given
abbrev pub lines_in : Form → Bool → List (List ℕ) → Table → Verdict → List ℕ
lines_in form comments given table (Legal n) = legal_in form n
lines_in form comments given table (DepartsAt n expected) =
    departure_in form table (number_given comments given n) (part_given comments given (n - 1))
    expected

-- these bytes, and then the reason of the event of this number
abbrev pub AppendsReason : Form → Table → List Event → ℕ → List ℕ → List ℕ → Type 0
AppendsReason form table events number front page =
    (reason : List ℕ) × IsReasonAt table events number reason
    × (page ≡ front ++ reason_in form reason)

-- the number of the machine's entry that a verdict shows, if it shows one
abbrev pub shown_number : Verdict → Option ℕ
shown_number (Legal n) = None
shown_number (DepartsAt n expected) = if is_some expected then Some n else None

-- these bytes, and then the reason of the event of this number, if there is one
abbrev pub EndsPage : Form → Table → List Event → Option ℕ → List ℕ → List ℕ → Type 0
EndsPage form table events None front page = page ≡ front
EndsPage form table events (Some n) front page = AppendsReason form table events n front page

-- the explanation of a verdict by a machine after these events; if the verdict shows an entry, the
-- reason of that entry stands last
abbrev pub IsPage : Form → Bool → List (List ℕ) → Table → List Event → Verdict → List ℕ → Type 0
IsPage form comments given table events verdict page =
    EndsPage form table events (shown_number verdict) (lines_in form comments given table verdict)
    page

-- an event has the number, if there is one
abbrev pub HasEventIfAny : List Event → Option ℕ → Type 0
HasEventIfAny events None = Unit {0}
HasEventIfAny events (Some n) = HasEvent events n

-- the entry that the verdict shows, if it shows one, is among those of the machine
abbrev pub ShowsEvent : List Event → Verdict → Type 0
ShowsEvent events verdict = HasEventIfAny events (shown_number verdict)

-- The verdict on a text, and its explanation: that on the text without comments, by the number of
-- the line as it was given. The machine is that after the events that were made for the verdict.
pub record IsExplained (form : Form) (comments : Bool) (text : List ℕ) (verdict : Verdict)
    (page : List ℕ) : Type 0 where
  pub table : Table
  pub machine : Machine
  pub found : Verdict
  pub followed : HasFollowed (followed_text comments text) table found machine
  pub given : verdict ≡ verdict_given comments (given_parts text) found
  pub explains :
      IsPage form comments (given_parts text) table (events_of machine.history) found page

-- The fault of a text is that of the text without comments, by the number of the line as it was
-- given; or memory was refused.
abbrev pub IsRefused : Bool → List ℕ → CheckFault → Type 0
IsRefused comments text Memory = Unit {0}
IsRefused comments text fault =
    (found : CheckFault) × IsAtFault (followed_text comments text) found
    × (fault ≡ fault_given comments (given_parts text) found)
