-- The plan of a run of all cores, and the history that is due by it.
use Rattle.std.specs.Prelude.{◌≡◌, ℕ, ◌+◌, ◌*◌, ◌<◌, ◌≤◌, List, All, length}
use Rattle.apex_types.specs.declared.entries.Entry.{Entry}
use Rattle.apex_types.specs.declared.entries.Who.TheVariants.{Core, Ticker}
use Rattle.apex_machine.specs.table.Table.{Table}
use Rattle.apex_partition.specs.Headline.{PartitionState}
use Rattle.apex_receipts.specs.Receipts.{count_who, own_entries}
use Rattle.apex_partition.specs.Seats.{IsOneOf, IsRun}
use Rattle.apex_cores.specs.Runs.{IsTickOfOne}
use Rattle.apex_cores.specs.declared.plans.RunPlan.{RunPlan}

-- the number of cores, the turns of each of them, and the ticks of the ticker
pub record Plan : Type 0 where
  pub cores : ℕ
  pub turns : ℕ
  pub ticks : ℕ

-- the number of entries for which the plan asks
abbrev pub planned : Plan → ℕ
planned plan = plan.cores * plan.turns + plan.ticks

-- each core has as many entries in the history as turns were planned for it, and the ticker as many
-- as ticks
pub record IsDone (plan : Plan) (history : List Entry) : Type 0 where
  pub turns : (core : ℕ) → core < plan.cores → count_who (Core core) history ≡ plan.turns
  pub ticks : count_who Ticker history ≡ plan.ticks

-- none of them has more
pub record IsWithinPlan (plan : Plan) (history : List Entry) : Type 0 where
  pub turns : (core : ℕ) → core < plan.cores → count_who (Core core) history ≤ plan.turns
  pub ticks : count_who Ticker history ≤ plan.ticks

-- the plan of a run of n cores
abbrev pub plan_of : ℕ → RunPlan → Plan
plan_of cores run = record { cores = cores; turns = run.turns; ticks = run.ticks }

-- each entry is of a core below this number, or the ticker's
abbrev pub HasNoOthers : ℕ → List Entry → Type 0
HasNoOthers cores history = All (λ (e : Entry). IsOneOf cores e.who) history

-- each tick of the history is of 1
abbrev pub HasTicksOfOne : List Entry → Type 0
HasTicksOfOne history = All IsTickOfOne (own_entries Ticker history)

-- the history is one that threads make of the table for this plan
pub record IsRunByThreads (table : Table) (plan : Plan) (history : List Entry) : Type 0 where
  -- it is a run of the table for some events
  pub run : IsRun table history
  -- each tick is of 1
  pub ticks : HasTicksOfOne history
  -- each entry is of a core of the table, or the ticker's
  pub others : HasNoOthers table.cores history
  -- if there is room for all that is planned, each core made its turns and the ticker its ticks
  pub done : planned plan ≤ table.limit → IsDone plan history
  -- else the history is full
  pub full : table.limit < planned plan → length history ≡ table.limit
  -- and none made more than that
  pub few : IsWithinPlan plan history

-- the closed partition of a run by threads: it has the table, and such a history
pub record HasRunByThreads (table : Table) (plan : RunPlan) (partition : PartitionState) : Type 0 where
  pub of_table : partition.table ≡ table
  pub history : IsRunByThreads table (plan_of table.cores plan) partition.machine.history
