-- The releases of a process, and how those of a periodic one follow each other (this profile).
use Rattle.std.specs.Prelude.{◌≡◌, ℕ, ◌+◌, ◌-◌, ◌*◌, ◌/◌, ◌≤◌, Bool, true, false, Option, None, Some, is_some, nat_le, nat_lt, option_map}
use Rattle.apex_machine.specs.Terms.{Record, Wait}
use Rattle.apex_machine.specs.declared.records.Wait.TheVariants.{Normal, Start, Period}
use Rattle.apex_machine.specs.processes.Dues.{IsFrom}
use Rattle.apex_machine.specs.processes.Roster.{Roster, record_at}

-- the process is periodic
abbrev pub is_periodic : Record → Bool
is_periodic r = is_some r.attributes.period

-- the first instant above now that is one or more whole periods after the release
abbrev pub next_release : ℕ → ℕ → ℕ → ℕ
next_release now release period = release + ((now - release) / period + 1) * period

-- the next release of the process, if it is periodic
abbrev pub release_after : ℕ → Record → Option ℕ
release_after now r = option_map (next_release now r.release) r.attributes.period

-- the deadline that begins to run at this instant, if the capacity is finite
abbrev pub deadline_from : ℕ → Record → Option ℕ
deadline_from t r = option_map (λ capacity. t + capacity) r.attributes.capacity

-- the process is periodic, and the instant is above the end of its period
abbrev pub is_beyond : ℕ → Option ℕ → ℕ → Bool
is_beyond release None t = false
is_beyond release (Some period) t = nat_lt (release + period) t

-- there is a period, and the delay is not below it
abbrev pub is_period_long : Option ℕ → ℕ → Bool
is_period_long None delay = false
is_period_long (Some period) delay = nat_le period delay

-- the second instant is whole periods after the first one; without a period it is the same
abbrev pub IsWholePeriodsAfter : Option ℕ → ℕ → ℕ → Type 0
IsWholePeriodsAfter None first second = second ≡ first
IsWholePeriodsAfter (Some period) first second = (k : ℕ) × (second ≡ first + k * period)

-- the process waits for its first release since its start
abbrev pub awaits_first : Option Wait → Bool
awaits_first (Some (Normal delay)) = true
awaits_first (Some Start) = true
awaits_first _ = false

-- the process has been released since its start, and wasn't stopped
abbrev pub IsReleased : Record → Type 0
IsReleased r = (r.started ≡ true) × (awaits_first r.wait ≡ false)

-- no process was released later than now
abbrev pub HasNoFutureRelease : Roster → Type 0
HasNoFutureRelease roster = (p : ℕ) → (record_at roster p).release ≤ roster.now

-- the due and the deadline, if there are any, are not below this instant, the release is not above
-- it, and a wait for the next release ends whole periods after the last one
pub record IsInTime (now : ℕ) (r : Record) : Type 0 where
  pub due : IsFrom now r.due
  pub deadline : IsFrom now r.deadline
  pub release : r.release ≤ now
  pub period : r.wait ≡ Some Period → (t : ℕ) → r.due ≡ Some t
      → IsWholePeriodsAfter r.attributes.period r.release t

-- every process is in time now
abbrev pub AreInTime : Roster → Type 0
AreInTime roster = (p : ℕ) → IsInTime roster.now (record_at roster p)
