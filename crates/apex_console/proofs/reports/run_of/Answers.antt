-- The answer is the machine of the kernel that made the events.
use Rattle.std.proofs.Common.{refl}
use Rattle.apex_console.proofs.ItemRuns.{answer_is}
use Rattle.apex_console.proofs.reports.run_of.Goals as goal

pub returns-clause-ok : goal.returns-clause-ok
returns-clause-ok c =
    let kernel = c.in_ok-kernel.kernel in
    let done = rw c.in_ok-kernel.ensures.opened at c.ran-fault.ensures.done in
    rw done (answer_is c.args.items.now c.args.text.now kernel.table _ c.ran-fault.result c.in_ok-kernel.ensures.table
    c.in_ok-kernel.ensures.below refl c.ran-fault.ensures.fault)
