-- The fault of a run, by whether the events of the items fit.
use Rattle.std.proofs.Common.{◌<◌, ◌∙◌, ap, sym, refl, length, Some, arith}
use Rattle.apex_console.specs.declared.faults.CliFault.TheVariants.{HistoryFull}
use Rattle.apex_schedules.specs.Schedule.{events_of_items}
use Rattle.apex_console.proofs.ItemRuns.{fault_fits, fault_full, no_room_for}
use Rattle.apex_console.proofs.kernels.ran.Goals as goal

pub returns-in-Ok-clause-fault : goal.returns-in-Ok-clause-fault
returns-in-Ok-clause-fault g c =
    let table = c.args.kernel.now.table in
    let events = events_of_items c.args.items.now in
    let fits = rw c.requires.opened at (c.in-Ok.ensures.accepted.0 refl) in
    sym (fault_fits table events (omega (arith, fits)))

pub returns-in-Err-clause-fault : goal.returns-in-Err-clause-fault
returns-in-Err-clause-fault g c =
    let table = c.args.kernel.now.table in
    let events = events_of_items c.args.items.now in
    let many : table.limit < length events =
    no_room_for _ _ (λ fits. c.in-Err.ensures.accepted.1 (rw c.requires.opened (omega (arith, fits)))) in
    ap (λ n. Some (HistoryFull n)) c.in-Err.ensures.full ∙ sym (fault_full table events many)
