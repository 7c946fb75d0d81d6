-- The results of a deed that was carried out.
use Rattle.std.specs.Prelude.{◌≡◌, List, length, Option}
use Rattle.apex_laws.specs.Terms.{Call, Caller, Notice, Reply}
use Rattle.apex_machine.specs.Deeds.{Deed, Objects, served}
use Rattle.apex_machine.specs.processes.Periods.{HasNoFutureRelease}
use Rattle.apex_machine.specs.processes.Roster.{Roster}
use Rattle.apex_machine.specs.processes.Stamps.{HasOrderlyStarts}
use Rattle.apex_machine.specs.services.Callers.{IsReadyCaller}
use Rattle.apex_machine.specs.services.Premises.{CanServe}
use Rattle.apex_machine.specs.services.Rows.{Leaves}
use Rattle.apex_machine.specs.table.Table.{Table, IsKnown}

-- the deed was done: its caller, its call, and its outcome
pub record Does (deed : Deed) (who : Caller) (asked : Option Call) (answer : Reply) (left : Roster)
    (objects : Objects) (before after : List Notice) : Type 0 where
  pub caller : who ≡ deed.caller
  pub call : asked ≡ deed.call
  pub outcome : Leaves deed.outcome left objects answer before after

-- the deed is the service of this call, which can be carried out, for the roster that is left
pub record Asks (table : Table) (deed : Objects → Deed) (before : Roster) (who : Caller) (call : Call)
    (left : Roster) : Type 0 where
  pub is : (objects : Objects) → deed objects ≡ served left objects who call
  pub known : IsKnown table call
  pub caller : IsReadyCaller left who
  pub many : length left.records ≡ length before.records
  pub starts : HasOrderlyStarts left
  pub can : (notices : List Notice) → CanServe before notices → CanServe left notices
  pub releases : HasNoFutureRelease left
