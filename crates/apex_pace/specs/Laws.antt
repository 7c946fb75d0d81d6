-- What holds of every pace.
use Rattle.std.specs.Prelude.{◌≡◌, ℕ, ◌+◌, ◌*◌, ◌<◌, ◌≤◌, true, false, List, [], ◌∷◌, ◌++◌, length, ◌⊎◌, is_some}
use Rattle.apex_pace.specs.First.{first_schedule}
use Rattle.apex_pace.specs.Pace.{IsAtRest, KeepsPace, Paced, all_cores, is_allowed, is_settled, is_starting, may_turn, next_tick, paced_opening, paced_run, paced_step}
use Rattle.apex_pace.specs.Terms.{Event, Pace}
use Rattle.apex_types.specs.declared.entries.Event.TheVariants.{Turn, Tick}
use Rattle.apex_machine.specs.Situations.{deed}
use Rattle.apex_machine.specs.processes.Dues.{IsFrom, next_instant}
use Rattle.apex_machine.specs.table.Table.{Table}

-- work takes no more than all of its ticks
abbrev pub IsPace : Pace → Type 0
IsPace pace = pace.percent ≤ 100

-- no due and no deadline is left up to the present time
abbrev pub IsServed : Paced → Type 0
IsServed s = IsFrom (s.situation.roster.now + 1) (next_instant s.situation.roster)

-- the events keep the pace, but for their last tick: the pace has a longer one there, and this one
-- goes from the time before it to `until`; that is then the time, if nothing was left to be served
pub record IsCutShort (pace : Pace) (table : Table) (until : ℕ) (s : Paced) (events : List Event) :
    Type 0 where
  pub earlier : List Event
  pub ticks : ℕ
  pub whole : ℕ
  pub cut : events ≡ earlier ++ Tick ticks ∷ []
  pub some : 1 ≤ ticks
  pub sooner : ticks ≤ whole
  pub stops : (paced_run table s earlier).situation.roster.now + ticks ≡ until
  pub time : IsServed (paced_run table s earlier)
      → (paced_run table s events).situation.roster.now ≡ until
  pub keeps : KeepsPace pace table s (earlier ++ Tick whole ∷ [])

-- the first schedule keeps the pace; its last tick may be cut short, to the time that was asked for
abbrev pub FirstKeepsPace : Pace → Table → ℕ → Type 0
FirstKeepsPace pace table until =
    KeepsPace pace table (paced_opening table) (first_schedule pace table until)
    ⊎ IsCutShort pace table until (paced_opening table) (first_schedule pace table until)

-- after these events no more are to come: it is `until`, the pace is at rest, or they are at least as
-- many as there is room for
abbrev pub IsOver : Pace → Table → ℕ → ℕ → Paced → List Event → Type 0
IsOver pace table until room s events =
    let after = paced_run table s events in
    (until ≤ after.situation.roster.now) ⊎ (IsAtRest pace table after ⊎ (room ≤ length events))

-- the first schedule goes on until no more is to come, or up to a last tick that is cut short
abbrev pub FirstGoesOn : Pace → Table → ℕ → Type 0
FirstGoesOn pace table until =
    let events = first_schedule pace table until in
    IsOver pace table until table.limit (paced_opening table) events
    ⊎ IsCutShort pace table until (paced_opening table) events

-- each event is a turn, after COLD_START, of a core that is not settled
abbrev pub AreEager : Pace → Table → Paced → List Event → Type 0
AreEager pace table s [] = Unit {0}
AreEager pace table s (Turn core ∷ events) =
    (is_starting s ≡ false) × (core < table.cores) × (is_settled pace s core ≡ false)
    × AreEager pace table (paced_step table s (Turn core)) events
AreEager pace table s (Tick n ∷ events) = ⊥

-- time never stands still: a core that is not settled may take a turn; no more such turns come in a
-- row than each core has turns; and once all cores are settled a tick may come, or all is at rest
pub record TimeGoesOn (pace : Pace) (table : Table) (s : Paced) : Type 0 where
  pub turns : (core : ℕ) → is_starting s ≡ false → is_settled pace s core ≡ false
      → may_turn pace table s core ≡ true
  pub few : (events : List Event) → AreEager pace table s events
      → length events ≤ pace.turns * table.cores
  pub ticks : is_starting s ≡ false → all_cores (is_settled pace s) table.cores ≡ true
      → (is_some (next_tick pace table s) ≡ true) ⊎ IsAtRest pace table s

-- no turn that is allowed is idle
abbrev pub NoTurnIsIdle : Pace → Table → Paced → Type 0
NoTurnIsIdle pace table s = (core : ℕ) → is_allowed pace table s (Turn core) ≡ true
    → is_some (deed table s.situation (Turn core)).call ≡ true

-- at this pace the cores have at least as many turns, and work takes at least as long
pub record IsTighter (pace other : Pace) : Type 0 where
  pub turns : pace.turns ≤ other.turns
  pub percent : pace.percent ≤ other.percent

-- a tick that may come, and is not longer
pub record MayTickWithin (pace : Pace) (table : Table) (s : Paced) (most : ℕ) : Type 0 where
  pub ticks : ℕ
  pub allowed : is_allowed pace table s (Tick ticks) ≡ true
  pub within : ticks ≤ most

-- a tighter pace allows no more: each turn that it allows is allowed, and if it allows a tick, one
-- that is not longer is allowed
pub record AllowsNoMore (pace other : Pace) (table : Table) (s : Paced) : Type 0 where
  pub turns : (core : ℕ) → is_allowed other table s (Turn core) ≡ true
      → is_allowed pace table s (Turn core) ≡ true
  pub ticks : (n : ℕ) → is_allowed other table s (Tick n) ≡ true → MayTickWithin pace table s n

-- with more turns a tick, and work that takes as long, no schedule more keeps the pace
abbrev pub MoreTurnsKeepNoMore : Pace → Pace → Table → Paced → Type 0
MoreTurnsKeepNoMore pace other table s = pace.percent ≡ other.percent → (events : List Event)
    → KeepsPace other table s events → KeepsPace pace table s events
