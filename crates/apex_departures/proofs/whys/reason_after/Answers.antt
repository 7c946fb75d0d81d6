-- The kernel's table is the one that was given.
use Rattle.std.proofs.Common.{◌≡◌, ◌∙◌, ap, sym}
use Rattle.apex_machine.specs.Machine.{opening}
use Rattle.apex_dispatch.specs.Kernel.{KernelState}
use Rattle.apex_departures.proofs.Numbered.{event_same, reason_same, within_same}
use Rattle.apex_departures.proofs.whys.reason_after.Goals as goal

pub reason_behind-requires-clause-opening : goal.reason_behind-requires-clause-opening
reason_behind-requires-clause-opening c =
    ap (λ (k : KernelState _). k.machine) c.in-Ok.ensures ∙ ap opening (sym (ap (λ (k : KernelState _). k.table) c.in-Ok.ensures))

pub reason_behind-requires-clause-before : goal.reason_behind-requires-clause-before
reason_behind-requires-clause-before c =
    within_same c.args.table c.in-Ok.kernel.table c.args.before.now (ap (λ (k : KernelState _). k.table) c.in-Ok.ensures) c.requires.before

pub reason_behind-requires-clause-event : goal.reason_behind-requires-clause-event
reason_behind-requires-clause-event c =
    event_same c.args.table c.in-Ok.kernel.table c.args.event (ap (λ (k : KernelState _). k.table) c.in-Ok.ensures) c.requires.event

pub returns-in-Ok : goal.returns-in-Ok
returns-in-Ok c =
    reason_same c.args.table c.in-Ok.kernel.table c.args.before.now c.args.event c.reason_behind.result.items
    (ap (λ (k : KernelState _). k.table) c.in-Ok.ensures) c.reason_behind.ensures
