-- A situation over a store.
use Rattle.std.specs.Prelude.{ℕ, List, Option}
use Rattle.apex_laws.specs.Terms.{OpenWork}
use Rattle.apex_machine.specs.Deeds.{Objects}
use Rattle.apex_machine.specs.Situations.{Situation}
use Rattle.apex_machine.specs.processes.Roster.{Roster}
use Rattle.apex_dispatch.specs.Works.{work_at}

-- the parts of a situation, and its store, with all that a contract sees of that
pub record StoredSituation (S : Type 0) : Type 0 where
  pub roster : Roster
  pub objects : Objects
  pub works : List (Option OpenWork)
  pub made : ℕ
  pub store : S

-- the situation of this roster and these parts
abbrev pub situation_with : Roster → Objects → List (Option OpenWork) → ℕ → Situation
situation_with roster objects works made =
    record { roster = roster; objects = objects; works = work_at works; made = made }

-- the situation that is stored
abbrev pub situation_in : {S : Type 0} → StoredSituation S → Situation
situation_in stored = situation_with stored.roster stored.objects stored.works stored.made
