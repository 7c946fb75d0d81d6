-- The canonical form of a situation: stamps by ranks among rivals, instants from the oldest release
-- that matters on, and nothing that does not matter.
use Rattle.std.specs.Prelude.{◌≡◌, ℕ, ◌+◌, ◌-◌, ◌*◌, ◌%◌, ◌≤◌, ◌==◌, ◌&&◌, Bool, true, false, not, nat_lt, max, count_by, length, List, [], ◌∷◌, Option, None, Some, option_map, pos, if◌then◌else◌}
use Rattle.apex_types.specs.declared.limits.TheConstants.{MOST_SPAN}
use Rattle.apex_laws.specs.Terms.{Mode, Queue, Record}
use Rattle.apex_machine.specs.processes.Dues.{HasNoPastDeadline, HasNoPastDue}
use Rattle.apex_machine.specs.processes.Periods.{awaits_first}
use Rattle.apex_machine.specs.processes.Queues.{is_queue}
use Rattle.apex_machine.specs.processes.Roster.{Roster, record_at}
use Rattle.apex_machine.specs.processes.Running.{is_eligible, is_older}
use Rattle.apex_machine.specs.processes.Waiters.{queue_in}
use Rattle.apex_machine.specs.processes.Distinct.{IsStamped}
use Rattle.apex_types.specs.Places.{map_places}
use Rattle.apex_alike.specs.Alike.{awaits_normal}
use Rattle.apex_machine.specs.Situations.{Situation}

-- both are in one queue
abbrev pub shares : Option Queue → Option Queue → Bool
shares None other = false
shares (Some queue) other = is_queue queue other

-- the two vie for one core or in one queue
abbrev pub vies : Mode → Record → Record → Bool
vies mode r s =
    if is_eligible mode r then is_eligible mode s && s.core == r.core
    else not (is_eligible mode s) && shares (queue_in r) (queue_in s)

-- the number of rivals with older stamps
abbrev pub rank : Roster → Record → ℕ
rank roster r = count_by (λ s. vies roster.mode r s && is_older s r) roster.records

-- the ticks since the last release of a process, as far as they matter: after more than a period
-- only the part of a period matters
abbrev pub recent : ℕ → Option ℕ → ℕ
recent ticks None = 0
recent ticks (Some period) =
    if nat_lt period ticks then period + 1 + (ticks - (period + 1)) % period else ticks

-- the age of the process's release: that of one that does not matter is 0
abbrev pub age : ℕ → Record → ℕ
age now r =
    if r.started && not (awaits_first r.wait) then recent (now - r.release) r.attributes.period
    else 0

-- the greatest age of these
abbrev pub oldest_age : ℕ → List Record → ℕ
oldest_age now [] = 0
oldest_age now (r ∷ rs) = max (age now r) (oldest_age now rs)

-- an instant, this many ticks earlier
abbrev pub earlier : ℕ → Option ℕ → Option ℕ
earlier d instant = option_map (λ t. t - d) instant

-- the canonical record of process p, at this time
abbrev pub canonical_record : Roster → ℕ → ℕ → Record → Record
canonical_record roster now p r = record r {
  since = pos (1 + (rank roster r * length roster.records + p));
  due = earlier (roster.now - now) r.due;
  deadline = earlier (roster.now - now) r.deadline;
  release = now - age roster.now r;
  inbox = None;
}

-- the canonical roster: now is the greatest age, so that no release is before 0
abbrev pub canonical_roster : Roster → Roster
canonical_roster roster =
    let now = oldest_age roster.now roster.records in
    record roster {
      now = now;
      records = map_places (canonical_record roster now) 0 roster.records;
      young = pos (1 + (length roster.records + 1) * length roster.records);
      old = pos 0;
    }

-- the canonical form of a situation
abbrev pub canonical : Situation → Situation
canonical s = record s { roster = canonical_roster s.roster }

-- the facts on which the canonical form rests
pub record IsFit (roster : Roster) : Type 0 where
  pub stamped : IsStamped roster
  pub dues : HasNoPastDue roster
  pub deadlines : HasNoPastDeadline roster
  pub undue : (p : ℕ) → awaits_normal (record_at roster p).wait ≡ true
      → (record_at roster p).due ≡ None
  pub before : (p : ℕ) → (record_at roster p).release ≤ roster.now
  pub spans : (p period : ℕ) → (record_at roster p).attributes.period ≡ Some period
      → 1 ≤ period

-- the period, if any, is one of a table: at least 1, and at most the longest span
pub record HasUsualPeriod (r : Record) : Type 0 where
  pub some : (n : ℕ) → r.attributes.period ≡ Some n → 1 ≤ n
  pub few : (n : ℕ) → r.attributes.period ≡ Some n → n ≤ MOST_SPAN
