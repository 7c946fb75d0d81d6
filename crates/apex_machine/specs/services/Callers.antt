-- The callers of services: processes, the init list, or none.
use Rattle.std.specs.Prelude.{ℕ, ◌<◌, Bool, true, false, ◌==◌, length}
use Rattle.apex_machine.specs.Terms.{Caller}
use Rattle.apex_types.specs.declared.entries.Caller.TheVariants.{Process, Init, Nobody}
use Rattle.apex_machine.specs.processes.Roster.{Roster}
use Rattle.apex_machine.specs.processes.Running.{IsEligible}

-- process p asked for the call
abbrev pub is_by_process : ℕ → Caller → Bool
is_by_process p (Process q) = p == q
is_by_process p Init = false
is_by_process p Nobody = false

-- the init list asked for the call
abbrev pub is_by_init : Caller → Bool
is_by_init (Process q) = false
is_by_init Init = true
is_by_init Nobody = false

-- process p is one of the roster's, and is eligible
pub record IsReady (roster : Roster) (p : ℕ) : Type 0 where
  pub known : p < length roster.records
  pub eligible : IsEligible roster p

-- a process that calls is an eligible one
abbrev pub IsReadyCaller : Roster → Caller → Type 0
IsReadyCaller roster (Process p) = IsReady roster p
IsReadyCaller roster Init = Unit {0}
IsReadyCaller roster Nobody = Unit {0}
