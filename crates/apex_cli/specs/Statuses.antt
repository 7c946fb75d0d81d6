-- The exit status of the program.
use Rattle.std.specs.Prelude.{ℕ, Option, Some, None, Result, Ok, Err}
use Rattle.apex_console.specs.Faults.{fault_of_checking, status_of_fault}
use Rattle.apex_console.specs.declared.CliFault.{CliFault}
use Rattle.apex_check.specs.declared.CheckFault.{CheckFault}
use Rattle.apex_check.specs.declared.Verdict.{Verdict}
use Rattle.apex_check.specs.declared.Verdict.TheVariants.{Legal, DepartsAt}
use Rattle.apex_cli.specs.declared.program.Ending.{Ending}
use Rattle.apex_cli.specs.declared.program.Ending.TheVariants.{Done, Departed}

-- 0 if all was done, else the status of the fault
abbrev pub status_of : Option CliFault → ℕ
status_of None = 0
status_of (Some fault) = status_of_fault fault

-- 0 if all was done or the history is legal, 1 if it departs
abbrev pub status_of_ending : Ending → ℕ
status_of_ending Done = 0
status_of_ending Departed = 1

-- the exit status of an outcome
abbrev pub status_in : Result Ending CliFault → ℕ
status_in (Ok ending) = status_of_ending ending
status_in (Err fault) = status_of_fault fault

-- 0 if the history is legal, 1 if it departs
abbrev pub status_of_verdict : Verdict → ℕ
status_of_verdict (Legal count) = 0
status_of_verdict (DepartsAt line expected) = 1

-- the exit status of a check's answer
abbrev pub status_of_check : Result Verdict CheckFault → ℕ
status_of_check (Ok verdict) = status_of_verdict verdict
status_of_check (Err fault) = status_of_fault (fault_of_checking fault)

-- the fault of a check's answer; a verdict is no fault
abbrev pub fault_of_check : Result Verdict CheckFault → Option CliFault
fault_of_check (Ok verdict) = None
fault_of_check (Err fault) = Some (fault_of_checking fault)
