-- Lists of situations that are closed under events, as a search leaves them.
use Rattle.std.specs.Prelude.{◌≡◌, ℕ, ◌≤◌, List, All, Some, slice_get}
use Rattle.apex_types.specs.declared.entries.Event.TheVariants.{Turn, Tick}
use Rattle.apex_machine.specs.Machine.{Machine, opening, run, situation_of}
use Rattle.apex_machine.specs.Situations.{Situation, step}
use Rattle.apex_machine.specs.table.Table.{Table}
use Rattle.apex_alike.specs.AlikeSteps.{AreAlikeSituations}
use Rattle.apex_alike.specs.Canonical.{canonical}
use Rattle.apex_alike.specs.StandIns.{Represents}
use Rattle.apex_laws.specs.Terms.{Event}

-- one of these situations stands for the machine
pub record IsSeen (table : Table) (seen : List Situation) (machine : Machine) : Type 0 where
  pub place : ℕ
  pub situation : Situation
  pub later : ℕ
  pub here : slice_get seen place ≡ Some situation
  pub stands : Represents table later situation machine

-- one of these situations is alike to this one, and not later
pub record HasAlike (seen : List Situation) (s : Situation) : Type 0 where
  pub place : ℕ
  pub situation : Situation
  pub later : ℕ
  pub here : slice_get seen place ≡ Some situation
  pub alike : AreAlikeSituations later situation s

-- the situations are closed under events: the opening is seen, and so is each step of each
pub record IsClosed (table : Table) (asked : List Event) (seen : List Situation) : Type 0 where
  pub opens : IsSeen table seen (opening table)
  pub steps : (k : ℕ) (s : Situation) → slice_get seen k ≡ Some s
      → (i : ℕ) (event : Event) → slice_get asked i ≡ Some event
      → HasAlike seen (step table s event)

-- the event is one of these
pub record IsAmong (asked : List Event) (event : Event) : Type 0 where
  pub place : ℕ
  pub here : slice_get asked place ≡ Some event

-- a closed list of situations has one that stands for the machine after every run of such events
abbrev pub ClosedSeesAll : Table → Type 0
ClosedSeesAll table =
    (asked : List Event) (seen : List Situation) → IsClosed table asked seen
    → (events : List Event) → All (IsAmong asked) events
    → IsSeen table seen (run table (opening table) events)

-- the two situations are the same
pub record IsSameSituation (s t : Situation) : Type 0 where
  pub roster : s.roster ≡ t.roster
  pub objects : s.objects ≡ t.objects
  pub works : (core : ℕ) → s.works core ≡ t.works core
  pub made : s.made ≡ t.made

-- this situation is one of these
pub record Holds (seen : List Situation) (s : Situation) : Type 0 where
  pub place : ℕ
  pub situation : Situation
  pub here : slice_get seen place ≡ Some situation
  pub same : IsSameSituation situation s

-- a search has closed: it holds the canonical form of the opening, and that of each step of each
-- situation that it holds
pub record HasClosed (table : Table) (asked : List Event) (seen : List Situation) : Type 0 where
  pub opens : Holds seen (canonical (situation_of table (opening table)))
  pub steps : (k : ℕ) (s : Situation) → slice_get seen k ≡ Some s
      → (i : ℕ) (event : Event) → slice_get asked i ≡ Some event
      → Holds seen (canonical (step table s event))

-- a search that has closed holds a situation that stands for the machine after every run of such
-- events
abbrev pub ClosedSearchSeesAll : Table → Type 0
ClosedSearchSeesAll table =
    (asked : List Event) (seen : List Situation) → HasClosed table asked seen
    → (events : List Event) → All (IsAmong asked) events
    → IsSeen table seen (run table (opening table) events)

-- a turn that the search asks for, or a tick of any length
abbrev pub IsTimely : List Event → Event → Type 0
IsTimely asked (Turn core) = IsAmong asked (Turn core)
IsTimely asked (Tick n) = 1 ≤ n

-- a search that has closed over ticks of 1 holds a situation that stands for the machine after
-- every run with ticks of any length
abbrev pub SingleTicksSeeAll : Table → Type 0
SingleTicksSeeAll table =
    (asked : List Event) (seen : List Situation) → HasClosed table asked seen
    → IsAmong asked (Tick 1)
    → (events : List Event) → All (IsTimely asked) events
    → IsSeen table seen (run table (opening table) events)
