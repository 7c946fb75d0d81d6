-- What a service of a store needs before it can be carried out.
use Rattle.std.specs.Prelude.{◌≤◌, List, length}
use Rattle.apex_types.specs.declared.limits.TheConstants.{MOST_PROCESSES}
use Rattle.apex_machine.specs.Terms.{Notice}
use Rattle.apex_machine.specs.processes.Roster.{Roster}
use Rattle.apex_machine.specs.processes.Dues.{HasTime}
use Rattle.apex_machine.specs.processes.Stamps.{HasManyStamps}

-- a service can be carried out: there are stamps left for all that it may stamp, and time for every
-- timeout; and the notices have room for one of each process
pub record CanServe (roster : Roster) (notices : List Notice) : Type 0 where
  pub stamps : HasManyStamps roster
  pub time : HasTime roster
  pub room : length notices ≤ MOST_PROCESSES
