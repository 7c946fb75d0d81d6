-- A process moves on before it carries out its step.
use Rattle.std.proofs.Common.{◌≡◌, ℕ, false, Some, refl}
use Rattle.apex_dispatch.specs.Deeds.{Asks}
use Rattle.apex_laws.specs.Terms.{Call}
use Rattle.apex_types.specs.declared.entries.Caller.TheVariants.{Process}
use Rattle.apex_machine.specs.Deeds.{chosen_deed, move_on, next_place, step_of}
use Rattle.apex_machine.specs.processes.Periods.{HasNoFutureRelease}
use Rattle.apex_machine.specs.processes.Roster.{Roster, record_at}
use Rattle.apex_machine.specs.processes.Stamps.{HasOrderlyStarts}
use Rattle.apex_machine.specs.services.Calls.{is_work}
use Rattle.apex_machine.specs.services.Callers.{IsReady}
use Rattle.apex_machine.specs.table.Table.{Table, IsKnown, process_config}
use Rattle.apex_machine.proofs.Reaches.{reaches_set_step}
use Rattle.apex_machine.proofs.Replaces.{each_stays, replaces_record}
use Rattle.apex_machine.proofs.Starts.{ready_step}

-- the service of a step other than work, for which its process moves on
pub asks_step : (table : Table) (roster : Roster) (p : ℕ) (call : Call) → IsReady roster p
    → HasOrderlyStarts roster → HasNoFutureRelease roster → IsKnown table call
    → step_of table roster p ≡ Some call → is_work call ≡ false
    → Asks table (λ objects. chosen_deed table roster objects (Some p)) roster (Process p) call
    (move_on table roster p)
asks_step table roster p call ready starts releases known step other =
    let next = next_place (process_config table p) (record_at roster p).step in
    let reaches = reaches_set_step roster p ready.known next in
    record {
      is = λ objects. rw (step, other) refl;
      known = known;
      caller = ready_step roster p next ready;
      many = reaches.moves.many;
      starts = reaches.moves.starts starts;
      can = λ notices can. record {
        stamps = record { young = can.stamps.young; old = can.stamps.old };
        time = can.time;
        room = can.room;
      };
      releases = λ q. rw (each_stays (replaces_record roster p ready.known (record (record_at roster p) { step = next }) refl 0)
          (λ s t. t.release ≡ s.release) (λ _. refl) refl q) (releases q);
    }
