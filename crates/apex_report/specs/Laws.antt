-- The figures that are read off a history, in the terms of the machine that made it.
use Rattle.std.specs.Prelude.{◌≡◌, ℕ, List, Option, Some, is_some, option_map}
use Rattle.apex_machine.specs.Machine.{open_work, opening, run}
use Rattle.apex_machine.specs.declared.records.Queue.TheVariants.{Mutex}
use Rattle.apex_machine.specs.processes.Held.{holding_of}
use Rattle.apex_machine.specs.processes.Owners.{depth_of, owner}
use Rattle.apex_machine.specs.processes.Roster.{Roster, record_at}
use Rattle.apex_machine.specs.table.Table.{Table}
use Rattle.apex_report.specs.Cores.{is_working}
use Rattle.apex_report.specs.Ownerships.{owner_in}
use Rattle.apex_report.specs.Terms.{Event, Owner}

-- in every run a core is busy exactly while work is open on it
abbrev pub WorkingIsOpenWork : Table → Type 0
WorkingIsOpenWork table = (events : List Event) (core : ℕ) →
    let machine = run table (opening table) events in
    is_working core machine.history ≡ is_some (open_work machine core)

-- the one that is found is the process of the roster that owns mutex m, at the same depth; if none
-- is found, no process owns it
pub record IsTheOwner (roster : Roster) (m : ℕ) (found : Option Owner) : Type 0 where
  pub process : option_map (λ (one : Owner). one.process) found ≡ owner roster m
  pub depth : (one : Owner) → found ≡ Some one
      → one.depth ≡ depth_of (holding_of m (record_at roster one.process).owned)

-- in every run the owner of a mutex that is read off the history is the one that the roster has
abbrev pub OwnersAreTheRosters : Table → Type 0
OwnersAreTheRosters table = (events : List Event) (m : ℕ) →
    let machine = run table (opening table) events in
    IsTheOwner machine.roster m (owner_in (Mutex m) machine.history)
