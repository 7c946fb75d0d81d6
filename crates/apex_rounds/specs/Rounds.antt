-- A kernel with what a pace counts of each of its cores, and its runs without a schedule.
use Rattle.std.specs.Prelude.{◌≡◌, ℕ, ◌+◌, ◌-◌, ◌≤◌, ◌↔◌, Bool, true, false, List, [], ◌∷◌, length, slice_index_or, Result, IsOk, OnOk}
use Rattle.apex_types.specs.declared.entries.Full.{Full}
use Rattle.apex_machine.specs.Machine.{opening, run, situation_of}
use Rattle.apex_machine.specs.Situations.{Situation}
use Rattle.apex_dispatch.specs.Kernel.{KernelState, kernel_in}
use Rattle.apex_pace.specs.First.{Part, closing, part, round, rounds}
use Rattle.apex_pace.specs.Pace.{Paced, next_tick, paced_opening, paced_run}
use Rattle.apex_pace.specs.declared.paces.Pace.{Pace}
use Rattle.apex_laws.specs.Terms.{Event}

-- of each core, its turns since the last tick, and the instant of its last turn
pub record CountsOfCores : Type 0 where
  pub turns : List ℕ
  pub since : List ℕ

-- the count of a core, in a list of one count a core
abbrev pub count_at : List ℕ → ℕ → ℕ
count_at counts core = slice_index_or counts core 0

-- the situation with these counts
abbrev pub paced_with : Situation → CountsOfCores → Paced
paced_with situation counts = record {
  situation = situation;
  turns = count_at counts.turns;
  worked = λ core. situation.roster.now - count_at counts.since core;
}

-- a kernel, its pace, and what the pace counts
pub record RoundsState (S : Type 0) : Type 0 where
  pub kernel : KernelState S
  pub pace : Pace
  pub counts : CountsOfCores

-- the situation of the kernel, with what the pace counts
abbrev pub paced_in : {S : Type 0} → RoundsState S → Paced
paced_in r = paced_with (situation_of r.kernel.table r.kernel.machine) r.counts

-- no core has had more turns than these, and none had its last turn after this time
pub record AreWithin (counts : CountsOfCores) (most now : ℕ) : Type 0 where
  pub turns : (core : ℕ) → count_at counts.turns core ≤ most
  pub since : (core : ℕ) → count_at counts.since core ≤ now

-- no event has happened yet
pub record IsAtOpening {S : Type 0} (r : RoundsState S) : Type 0 where
  pub machine : r.kernel.machine ≡ opening r.kernel.table
  pub paced : paced_in r ≡ paced_opening r.kernel.table

-- the turns of the round that comes
abbrev pub turns_from : {S : Type 0} → RoundsState S → List Event
turns_from r = round r.pace r.kernel.table (paced_in r) r.kernel.table.cores

-- the tick that may come, as far as this time
abbrev pub tick_from : {S : Type 0} → RoundsState S → ℕ → Part
tick_from r until = closing until (paced_in r) (next_tick r.pace r.kernel.table (paced_in r))

-- the turns of the round that comes, or else the tick that may come
abbrev pub part_from : {S : Type 0} → RoundsState S → ℕ → Part
part_from r until = part r.pace r.kernel.table until (paced_in r)

-- the first schedule from here up to a time, with more events than the history has room for if the
-- schedule does not end before
abbrev pub schedule_from : {S : Type 0} → RoundsState S → ℕ → List Event
schedule_from r until = rounds r.pace r.kernel.table until (r.kernel.table.limit + 1) (paced_in r)

-- there is an event
abbrev pub is_any : List Event → Bool
is_any [] = false
is_any (event ∷ events) = true

-- these events were made, as far as the history had room for them; Ok if it had room for all
pub record Makes {S X : Type 0} (result : Result X Full) (old new : RoundsState S)
    (events : List Event) : Type 0 where
  pub kernel : new.kernel
      ≡ kernel_in old.kernel.table (run old.kernel.table old.kernel.machine events)
      new.kernel.store
  pub accepted : IsOk result
      ↔ (length old.kernel.machine.history + length events ≤ old.kernel.table.limit)
  pub paced : OnOk result (paced_in new ≡ paced_run old.kernel.table (paced_in old) events)
  pub pace : new.pace ≡ old.pace
