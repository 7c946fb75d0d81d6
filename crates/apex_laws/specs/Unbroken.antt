-- The end of work: it is done exactly if its process kept the core from the entry that began it on,
-- and lost exactly if it did not.
use Rattle.std.specs.Prelude.{◌≡◌, ◌↔◌, ℕ, ◌<◌, ◌≤◌, true, false, List, ◌∷◌, ◌++◌, Some, All, length, take}
use Rattle.apex_laws.specs.Terms.{Entry, Event, Work}
use Rattle.apex_types.specs.declared.entries.Reply.TheVariants.{Done, Lost}
use Rattle.apex_machine.specs.Machine.{Machine, deed_of, events_of, opening, run}
use Rattle.apex_machine.specs.processes.Running.{chosen}
use Rattle.apex_machine.specs.table.Table.{Table}
use Rattle.apex_machine.specs.Works.{is_turn_of, work_begun}

-- the core's last entry began this work
pub record HasBegun (history : List Entry) (core : ℕ) (work : Work) : Type 0 where
  pub earlier : List Entry
  pub entry : Entry
  pub later : List Entry
  pub parts : history ≡ earlier ++ entry ∷ later
  pub own : is_turn_of core entry.who ≡ true
  pub last : All (λ (e : Entry). is_turn_of core e.who ≡ false) later
  pub begun : work_begun entry.process entry.call entry.reply ≡ Some work

-- process p was the core's chosen one after each entry but the first n
abbrev pub KeptTheCore : Table → Machine → ℕ → ℕ → ℕ → Type 0
KeptTheCore table machine core n p = (k : ℕ) → n < k → k ≤ length machine.history
    → chosen (run table (opening table) (take k (events_of machine.history))).roster core ≡ Some p

-- the core's next turn answers DONE exactly if the process kept the core, and LOST exactly if it
-- did not
pub record EndsAsItWasKept (table : Table) (machine : Machine) (core : ℕ) (work : Work)
    (begun : HasBegun machine.history core work) : Type 0 where
  pub done : ((deed_of table machine core).outcome.reply ≡ Done)
      ↔ KeptTheCore table machine core (length begun.earlier) work.process
  pub lost : ((deed_of table machine core).outcome.reply ≡ Lost)
      ↔ (KeptTheCore table machine core (length begun.earlier) work.process → ⊥)

-- in every run all work that a core has begun ends as its process kept the core
abbrev pub WorkEndsAsItWasKept : Table → Type 0
WorkEndsAsItWasKept table = (events : List Event) (core : ℕ) (work : Work) →
    let machine = run table (opening table) events in
    (begun : HasBegun machine.history core work) → EndsAsItWasKept table machine core work begun
