-- Situations that stand for machines.
use Rattle.std.specs.Prelude.{◌≡◌, ℕ, ◌<◌, List, length}
use Rattle.apex_machine.specs.Machine.{Machine, after_deed, happen, opening, run, situation_of}
use Rattle.apex_machine.specs.Situations.{Situation, deed, maker, step}
use Rattle.apex_machine.specs.table.Table.{Table}
use Rattle.apex_alike.specs.AlikeSteps.{AreAlikeDeeds, AreAlikeSituations}
use Rattle.apex_laws.specs.Terms.{Event}

-- the situation is alike to that of the machine, which is d later
abbrev pub Represents : Table → ℕ → Situation → Machine → Type 0
Represents table d s machine = AreAlikeSituations d s (situation_of table machine)

-- an event of a machine, and of a situation that stands for it
pub record StepsAlike (table : Table) (d : ℕ) (s : Situation) (machine : Machine)
    (event : Event) : Type 0 where
  pub deeds : AreAlikeDeeds d (deed table s event) (deed table (situation_of table machine) event)
  pub happens : happen table machine event
      ≡ after_deed machine (maker event) (deed table (situation_of table machine) event)
  pub stands : Represents table d (step table s event) (happen table machine event)

-- in every run, a situation that stands for the machine steps as the machine does
abbrev pub SituationsStepAlike : Table → Type 0
SituationsStepAlike table = (events : List Event) (d : ℕ) (s : Situation) →
    let machine = run table (opening table) events in
    length machine.history < table.limit → Represents table d s machine
    → (event : Event) → StepsAlike table d s machine event
