-- The fault, by whether the events fit.
use Rattle.std.proofs.Common.{◌<◌, ◌∙◌, ap, sym, refl, length, Some, arith}
use Rattle.apex_console.proofs.ItemRuns.{fault_fits, fault_full, no_room_for}
use Rattle.apex_console.specs.declared.CliFault.TheVariants.{HistoryFull}
use Rattle.apex_views.specs.Paced.{rounds_until}
use Rattle.apex_views.proofs.runs.paced.Goals as goal

pub returns-in-Ok-clause-fault : goal.returns-in-Ok-clause-fault
returns-in-Ok-clause-fault g c =
    let old = c.args.rounds.now in
    let events = rounds_until old.pace c.args.until old.kernel.table in
    let fits = rw c.requires.paced at (c.in-Ok.ensures.makes.accepted.0 refl) in
    sym (fault_fits old.kernel.table events (omega (arith, fits)))

pub returns-in-Err-clause-fault : goal.returns-in-Err-clause-fault
returns-in-Err-clause-fault g c =
    let old = c.args.rounds.now in
    let table = old.kernel.table in
    let events = rounds_until old.pace c.args.until table in
    let many : table.limit < length events =
    no_room_for _ _ (λ fits. c.in-Err.ensures.makes.accepted.1 (rw (c.requires.paced, c.requires.machine) (omega (arith, fits)))) in
    ap (λ n. Some (HistoryFull n)) c.in-Err.ensures.full ∙ sym (fault_full table events many)
