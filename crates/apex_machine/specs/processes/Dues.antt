-- The dues of the processes, at which waits end by themselves, their deadlines, and the next
-- instant among these (this profile).
use Rattle.std.specs.Prelude.{ℕ, ◌≤◌, ◌+◌, Bool, false, List, [], ◌∷◌, Option, None, Some, ◌==◌, min, ◌≡◌, ◌⊎◌, position}
use Rattle.apex_types.specs.Limits.{latest}
use Rattle.apex_machine.specs.Terms.{Record, Timeout}
use Rattle.apex_types.specs.declared.calls.Timeout.TheVariants.{Poll, Ticks, Infinite}
use Rattle.apex_machine.specs.processes.Roster.{Roster, record_at}

-- the sooner of two instants
abbrev pub sooner : Option ℕ → Option ℕ → Option ℕ
sooner None later = later
sooner (Some t) None = Some t
sooner (Some t) (Some u) = Some (min t u)

-- the least due or deadline of these records
abbrev pub earliest : List Record → Option ℕ
earliest [] = None
earliest (r ∷ rs) = sooner r.due (sooner r.deadline (earliest rs))

-- next instant: the least due or deadline over all records, or none
abbrev pub next_instant : Roster → Option ℕ
next_instant roster = earliest roster.records

-- the instant is this one
abbrev pub is_instant : ℕ → Option ℕ → Bool
is_instant t None = false
is_instant t (Some u) = t == u

-- a wait of the process ends at this instant, or its deadline passes then
abbrev pub IsAwaited : Record → ℕ → Type 0
IsAwaited r t = (r.due ≡ Some t) ⊎ (r.deadline ≡ Some t)

-- the process's due is this instant
unfoldable pub is_due_at : ℕ → Record → Bool
is_due_at t r = is_instant t r.due

-- the process of the lowest number whose due is now
abbrev pub first_due : Roster → Option ℕ
first_due roster = position (is_due_at roster.now) roster.records

-- the process's deadline is this instant
unfoldable pub is_missed_at : ℕ → Record → Bool
is_missed_at t r = is_instant t r.deadline

-- the process of the lowest number whose deadline is now
abbrev pub first_missed : Roster → Option ℕ
first_missed roster = position (is_missed_at roster.now) roster.records

-- the instant at which a wait that begins now ends by itself, if it does
abbrev pub due_after : Roster → Timeout → Option ℕ
due_after roster Poll = None
due_after roster (Ticks n) = Some (roster.now + n)
due_after roster Infinite = None

-- the time is 2^36 ticks at the most, so that no sum of times overflows
abbrev pub HasTime : Roster → Type 0
HasTime roster = roster.now ≤ latest

-- the instant, if there is one, is not below this one
abbrev pub IsFrom : ℕ → Option ℕ → Type 0
IsFrom t instant = (u : ℕ) → instant ≡ Some u → t ≤ u

-- no due is below this instant
abbrev pub HasNoDueBelow : Roster → ℕ → Type 0
HasNoDueBelow roster t = (p : ℕ) → IsFrom t (record_at roster p).due

-- no due is below now
abbrev pub HasNoPastDue : Roster → Type 0
HasNoPastDue roster = HasNoDueBelow roster roster.now

-- no deadline is below this instant
abbrev pub HasNoDeadlineBelow : Roster → ℕ → Type 0
HasNoDeadlineBelow roster t = (p : ℕ) → IsFrom t (record_at roster p).deadline

-- no deadline is below now
abbrev pub HasNoPastDeadline : Roster → Type 0
HasNoPastDeadline roster = HasNoDeadlineBelow roster roster.now
