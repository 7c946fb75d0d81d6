-- A row of threads: the task of each, and its work.
use Rattle.std.specs.Prelude.{◌≡◌, ℕ, ◌+◌, ◌<◌, ◌^◌, Bool, List, [], ◌∷◌, length, ⊤}
use Rattle.apex_types.specs.declared.entries.Who.TheVariants.{Core, Ticker}
use Rattle.apex_receipts.specs.Receipts.{Spoken, unspoken, unspoken_cores}
use Rattle.apex_cores.specs.Runs.{HasRun, HasTicked}
use Rattle.apex_cores.specs.declared.plans.RunPlan.{RunPlan}
use Rattle.apex_cores.specs.declared.pool.WillRun.{WillRun}

-- each of the list, the first of which has this number and each further one the next number
abbrev pub EachFrom : {A : Type 0} → (ℕ → A → Type 0) → ℕ → List A → Type 0
EachFrom R number [] = ⊤
EachFrom R number (x ∷ xs) = R number x × EachFrom R (number + 1) xs

-- the seats of n cores, in the order of their numbers, and the ticker are new, and the threads can be
-- numbered
abbrev pub AreNew : ℕ → List Spoken → Spoken → Type 0
AreNew n seats ticker = (seats ≡ unspoken_cores n) × (ticker ≡ unspoken Ticker) × (n < 2 ^ 32)

-- the task of a thread is to make these turns of the core
abbrev pub IsTaskOf : ℕ → ℕ → WillRun → Type 0
IsTaskOf turns core task = (task.core ≡ core) × (task.turns ≡ turns)

-- from a new seat on, the worker made `turns` turns, or fewer if it knows that the history is full
pub record HasWorked (turns : ℕ) (core : ℕ) (seat : Spoken) : Type 0 where
  pub made : ℕ
  pub full : Bool
  pub ran : HasRun (unspoken (Core core)) turns seat made full

-- and the worker of the ticker made `ticks` ticks, each of 1, or fewer if it knows that the history
-- is full
pub record HasTickedSo (ticks : ℕ) (ticker : Spoken) : Type 0 where
  pub made : ℕ
  pub full : Bool
  pub ran : HasTicked (unspoken Ticker) ticks ticker made full

-- all workers have worked: a seat of each core, in the order of their numbers, and the ticker
pub record HaveWorked (plan : RunPlan) (many : ℕ) (seats : List Spoken)
    (last : Spoken) : Type 0 where
  pub each : length seats ≡ many
  pub cores : EachFrom (HasWorked plan.turns) 0 seats
  pub ticker : HasTickedSo plan.ticks last
