-- The works that the worker of a core hands to its gate.
use Rattle.std.specs.Prelude.{◌≡◌, ℕ, List, [], ◌∷◌, Option, MatchOption}
use Rattle.std.specs.List.{filter_map}
use Rattle.apex_types.specs.declared.entries.Entry.{Entry}
use Rattle.apex_types.specs.declared.entries.Who.TheVariants.{Core}
use Rattle.apex_machine.specs.declared.works.Work.{Work}
use Rattle.apex_machine.specs.Works.{work_begun}
use Rattle.apex_receipts.specs.Receipts.{Spoken}
use Rattle.apex_cores.specs.Runs.{HasMade}

-- the work that this entry has begun, if it has
abbrev pub begun_in : Entry → Option Work
begun_in e = work_begun e.process e.call e.reply

-- the works that these entries have begun, in their order
abbrev pub works_begun : List Entry → List Work
works_begun entries = filter_map begun_in entries

-- the gate did this work of the core, if there is one: the worker's token before, and afterwards
abbrev pub DidWork : {T : Type 0} → (T → ℕ → ℕ → ℕ → T → Type 0) → ℕ → Option Work → T → T → Type 0
DidWork does core begun before after =
    MatchOption begun (before ≡ after) (λ work. does before core work.process work.amount after)

-- the gate did these works of the core, each of them once, in their order, and no others
abbrev pub AreDone : {T : Type 0} → (T → ℕ → ℕ → ℕ → T → Type 0) → ℕ → List Work → T → T → Type 0
AreDone does core [] before after = before ≡ after
AreDone {T} does core (work ∷ works) before after =
    (next : T) × does before core work.process work.amount next
    × AreDone does core works next after

-- the entries that were made with this core's seat have begun these works, and the gate did them
pub record HaveBeenDone {T : Type 0} (does : T → ℕ → ℕ → ℕ → T → Type 0) (before after : Spoken)
    (first last : T) : Type 0 where
  pub core : ℕ
  pub of_core : before.who ≡ Core core
  pub entries : List Entry
  pub made : HasMade before entries after
  pub works : AreDone does core (works_begun entries) first last

-- the worker of this seat entered the gate by its core, and the gate did the works of the entries that
-- were made with the seat, from the token that the entry gave
pub record HasServed {T : Type 0} (enters : ℕ → T → Type 0) (does : T → ℕ → ℕ → ℕ → T → Type 0)
    (before after : Spoken) : Type 0 where
  pub first : T
  pub last : T
  pub done : HaveBeenDone does before after first last
  pub entered : enters done.core first
