-- Which process each core runs (ARINC 653 Part 1, process management; here core by core).
use Rattle.std.specs.Prelude.{◌≡◌, ℕ, Bool, true, false, Option, None, Some, is_none, ◌==◌, nat_lt, int_lt, ◌&&◌, ◌||◌, not, if◌then◌else◌}
use Rattle.apex_machine.specs.Terms.{Mode, Record, State}
use Rattle.apex_types.specs.declared.modes.State.TheVariants.{Dormant, Ready, Running, Waiting}
use Rattle.apex_machine.specs.processes.Held.{raised}
use Rattle.apex_types.specs.Modes.{is_normal}
use Rattle.apex_machine.specs.processes.Roster.{Roster, record_at}
use Rattle.apex_machine.specs.processes.Choice.{place_of_least}

-- eligible: the mode is NORMAL, and the process is started, not suspended, and waits for nothing
abbrev pub is_eligible : Mode → Record → Bool
is_eligible mode r = is_normal mode && r.started && is_none r.suspended && is_none r.wait

-- process p is eligible
abbrev pub IsEligible : Roster → ℕ → Type 0
IsEligible roster p = is_eligible roster.mode (record_at roster p) ≡ true

-- process p is not eligible
abbrev pub IsIneligible : Roster → ℕ → Type 0
IsIneligible roster p = is_eligible roster.mode (record_at roster p) ≡ false

-- the current priority: the greatest of the base priority and of the ceilings of all mutexes that the
-- process owns; a greater one is more urgent
abbrev pub current_priority : Record → ℕ
current_priority r = raised r.base r.owned

-- longer in its queue: the smaller stamp
abbrev pub is_older : Record → Record → Bool
is_older r s = int_lt r.since s.since

-- before: of a greater current priority, or of an equal one and longer ready
abbrev pub is_before : Record → Record → Bool
is_before r s =
    nat_lt (current_priority s) (current_priority r)
    || (current_priority r == current_priority s && is_older r s)

-- eligible and bound to the core
unfoldable pub runs_on : Mode → ℕ → Record → Bool
runs_on mode core r = is_eligible mode r && r.core == core

-- the chosen process of a core: the eligible one bound to it that is before every other such one
abbrev pub chosen : Roster → ℕ → Option ℕ
chosen roster core = place_of_least (runs_on roster.mode core) is_before roster.records

-- process p is this one
abbrev pub is_process : ℕ → Option ℕ → Bool
is_process p None = false
is_process p (Some q) = p == q

-- the state of process p: dormant if not started, running if chosen of its core, ready if otherwise
-- eligible, else waiting
abbrev pub process_state : Roster → ℕ → State
process_state roster p =
    if not (record_at roster p).started then Dormant
    else if not (is_eligible roster.mode (record_at roster p)) then Waiting
    else if is_process p (chosen roster (record_at roster p).core) then Running
    else Ready
