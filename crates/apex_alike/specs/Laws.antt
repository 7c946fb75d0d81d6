-- The laws of rosters and situations that are alike. Those of machines are in the files of their
-- subjects, and hold of each lawful table.
use Rattle.std.specs.Prelude.{◌≡◌, ◌-◌, ◌≤◌, ℕ, length}
use Rattle.apex_types.specs.declared.limits.TheConstants.{MOST_PROCESSES}
use Rattle.apex_laws.specs.Terms.{Queue}
use Rattle.apex_machine.specs.Situations.{Situation}
use Rattle.apex_machine.specs.processes.Dues.{HasTime, first_due, first_missed, next_instant}
use Rattle.apex_machine.specs.processes.Owners.{owner}
use Rattle.apex_machine.specs.processes.Roster.{Roster, record_at}
use Rattle.apex_machine.specs.processes.Running.{chosen}
use Rattle.apex_machine.specs.processes.Stamps.{HasManyStamps}
use Rattle.apex_machine.specs.processes.Waiters.{first_waiter, waiter_count}
use Rattle.apex_alike.specs.Alike.{AreAlike, later}
use Rattle.apex_alike.specs.AlikeSteps.{AreAlikeSituations}
use Rattle.apex_alike.specs.Canonical.{HasUsualPeriod, IsFit, canonical, canonical_roster}

-- each core, queue and mutex, each due and deadline is of the same process in both, and the next
-- instant of the second is d later
pub record ChooseAlike (d : ℕ) (first second : Roster) : Type 0 where
  pub chosen : (core : ℕ) → chosen second core ≡ chosen first core
  pub waiter : (queue : Queue) → first_waiter second queue ≡ first_waiter first queue
  pub count : (queue : Queue) → waiter_count second queue ≡ waiter_count first queue
  pub owner : (m : ℕ) → owner second m ≡ owner first m
  pub due : first_due second ≡ first_due first
  pub missed : first_missed second ≡ first_missed first
  pub next : next_instant second ≡ later d (next_instant first)

-- rosters that are alike choose alike
abbrev pub AlikeChooseAlike : Type 0
AlikeChooseAlike =
    (d : ℕ) (first second : Roster) → AreAlike d first second → ChooseAlike d first second

-- the canonical form of a situation is alike to it, and not later
abbrev pub CanonicalFormsAreAlike : Type 0
CanonicalFormsAreAlike = (s : Situation) → IsFit s.roster →
    AreAlikeSituations (s.roster.now - (canonical s).roster.now) (canonical s) s

-- rosters that are alike have one canonical form
abbrev pub AlikeRostersHaveOneForm : Type 0
AlikeRostersHaveOneForm = (d : ℕ) (first second : Roster) → AreAlike d first second
    → canonical_roster second ≡ canonical_roster first

-- a canonical roster has time and stamps left for an event, if its periods are usual
abbrev pub CanonicalRostersCanBeServed : Type 0
CanonicalRostersCanBeServed = (roster : Roster)
    → ((p : ℕ) → HasUsualPeriod (record_at roster p)) → length roster.records ≤ MOST_PROCESSES
    → HasTime (canonical_roster roster) × HasManyStamps (canonical_roster roster)
