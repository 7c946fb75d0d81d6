-- The owners of mutexes, and the calls that an owner may not make (this profile).
use Rattle.std.specs.Prelude.{◌≡◌, ℕ, ◌≤◌, Bool, true, false, List, [], ◌∷◌, length, Option, None, Some, not, ◌&&◌, nat_le, position, slice_index_or}
use Rattle.apex_types.specs.declared.limits.TheConstants.{MOST_DEPTH}
use Rattle.apex_machine.specs.Terms.{Caller, Holding, Record, Timeout}
use Rattle.apex_types.specs.declared.calls.Timeout.TheVariants.{Poll, Ticks, Infinite}
use Rattle.apex_types.specs.declared.entries.Caller.TheVariants.{Process, Init, Nobody}
use Rattle.apex_machine.specs.declared.records.Wait.TheVariants.{Mutex}
use Rattle.apex_machine.specs.processes.Held.{holding_of, holds, holds_none}
use Rattle.apex_machine.specs.processes.Roster.{Roster, nobody, record_at}

-- the process owns mutex m
abbrev pub owns : ℕ → Record → Bool
owns m r = holds m r.owned

-- the process owns a mutex
abbrev pub owns_some : Record → Bool
owns_some r = not (holds_none r.owned)

-- the depth at which the process owns a mutex; 0 if it owns none
abbrev pub depth_of : Option Holding → ℕ
depth_of None = 0
depth_of (Some holding) = holding.depth

-- the process owns mutex m, and may not go deeper
abbrev pub is_deepest : ℕ → Record → Bool
is_deepest m r = nat_le MOST_DEPTH (depth_of (holding_of m r.owned))

-- a timeout of 0 asks not to wait
abbrev pub is_poll : Timeout → Bool
is_poll Poll = true
is_poll (Ticks n) = false
is_poll Infinite = false

-- the process owns a mutex, but not mutex m, and the timeout is not 0
abbrev pub may_not_wait : ℕ → Timeout → Record → Bool
may_not_wait m timeout r = not (owns m r) && owns_some r && not (is_poll timeout)

-- the process owns as many mutexes as it may, and not mutex m
abbrev pub owns_most : Roster → ℕ → Record → Bool
owns_most roster m r = not (owns m r) && nat_le roster.rules.most_owned (length r.owned)

-- the ceiling of mutex m
abbrev pub ceiling_of : Roster → ℕ → ℕ
ceiling_of roster m = slice_index_or roster.rules.ceilings m 0

-- the owner of mutex m, or none
abbrev pub owner : Roster → ℕ → Option ℕ
owner roster m = position (owns m) roster.records

-- the record of the caller; an init step has no process, and gets `nobody`
abbrev pub record_of : Roster → Caller → Record
record_of roster (Process p) = record_at roster p
record_of roster Init = nobody
record_of roster Nobody = nobody

-- the caller owns a mutex
abbrev pub is_owner : Roster → Caller → Bool
is_owner roster caller = owns_some (record_of roster caller)

-- the caller owns a mutex, and the timeout is not 0
abbrev pub is_waiting_owner : Roster → Caller → Timeout → Bool
is_waiting_owner roster caller timeout = is_owner roster caller && not (is_poll timeout)

-- a mutex is held at its ceiling, at a depth of 1 to 32
pub record IsLawfulHolding (roster : Roster) (holding : Holding) : Type 0 where
  pub ceiling : holding.ceiling ≡ ceiling_of roster holding.mutex
  pub depth : (1 ≤ holding.depth) × (holding.depth ≤ MOST_DEPTH)

-- each of these mutexes is held lawfully, and once
abbrev pub AreLawful : Roster → List Holding → Type 0
AreLawful roster [] = Unit {0}
AreLawful roster (holding ∷ others) =
    IsLawfulHolding roster holding × (holds holding.mutex others ≡ false) × AreLawful roster others

-- these mutexes are held lawfully, and no more than a process may own
pub record AreLawfullyOwned (roster : Roster) (owned : List Holding) : Type 0 where
  pub lawful : AreLawful roster owned
  pub few : length owned ≤ roster.rules.most_owned

-- process p, which waits for mutex m, owns none, and another owns that one
pub record WaitsForOwner (roster : Roster) (p m : ℕ) : Type 0 where
  pub without : (record_at roster p).owned ≡ []
  pub owner : ℕ
  pub owning : owns m (record_at roster owner) ≡ true

-- mutexes are owned in order: each at its ceiling, by one process at the most, and at most as many
-- by a process as it may own; a process that waits for one owns none, and another process owns that
-- one
pub record HasOrderlyOwners (roster : Roster) : Type 0 where
  pub most : 1 ≤ roster.rules.most_owned
  pub owned : (p : ℕ) → AreLawfullyOwned roster (record_at roster p).owned
  pub one : (m p q : ℕ) → owns m (record_at roster p) ≡ true → owns m (record_at roster q) ≡ true
      → p ≡ q
  pub waiters : (p m : ℕ) → (record_at roster p).wait ≡ Some (Mutex m) → WaitsForOwner roster p m
