-- A situation over a store, with what a pace counts of each core.
use Rattle.std.specs.Prelude.{◌≡◌, ℕ, ◌<◌, List, slice_index_or}
use Rattle.apex_types.specs.declared.limits.TheConstants.{MOST_CORES}
use Rattle.apex_dispatch.specs.Situations.{StoredSituation, situation_in}
use Rattle.apex_machine.specs.processes.Roster.{Roster}
use Rattle.apex_alike.specs.Closed.{IsSameSituation}
use Rattle.apex_pace.specs.Pace.{Paced}

-- of each core, its turns since the last tick, and the ticks since it began its open work
pub record CountsOfCores : Type 0 where
  pub turns : List ℕ
  pub worked : List ℕ

-- the count of a core, in a list of one count a core
abbrev pub count_at : List ℕ → ℕ → ℕ
count_at counts core = slice_index_or counts core 0

-- a situation whose store is its roster, with the counts
pub record StoredPaced : Type 0 where
  pub situation : StoredSituation Roster
  pub counts : CountsOfCores

-- the paced situation that is stored
abbrev pub paced_in : StoredPaced → Paced
paced_in stored = record {
  situation = situation_in stored.situation;
  turns = count_at stored.counts.turns;
  worked = count_at stored.counts.worked;
}

-- the two are the same, core by core
pub record IsSamePaced (one other : Paced) : Type 0 where
  pub situation : IsSameSituation one.situation other.situation
  pub turns : (core : ℕ) → one.turns core ≡ other.turns core
  pub worked : (core : ℕ) → one.worked core ≡ other.worked core

-- the two are the same, but for the ticks that are counted past the cores of any table
pub record IsSameOnCores (one other : Paced) : Type 0 where
  pub situation : IsSameSituation one.situation other.situation
  pub turns : (core : ℕ) → one.turns core ≡ other.turns core
  pub worked : (core : ℕ) → core < MOST_CORES → one.worked core ≡ other.worked core
