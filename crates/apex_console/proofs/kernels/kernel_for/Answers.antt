use Rattle.std.proofs.Common.{◌≡◌, ◌∙◌, ap, sym}
use Rattle.apex_machine.specs.Machine.{opening}
use Rattle.apex_machine.specs.table.Table.{Table}
use Rattle.apex_dispatch.specs.Kernel.{KernelState, kernel_in}
use Rattle.apex_console.proofs.kernels.kernel_for.Goals as goal

pub returns-clause-table : goal.returns-clause-table
returns-clause-table c = rw (ap (λ (k : KernelState _). k.table) c.in_ok-kernel.ensures) c.in_ok-table.ensures.table

pub returns-clause-below : goal.returns-clause-below
returns-clause-below c = rw (ap (λ (k : KernelState _). k.table) c.in_ok-kernel.ensures) c.in_ok-table.ensures.below

pub returns-clause-opened : goal.returns-clause-opened
returns-clause-opened c =
    let kernel = c.in_ok-kernel.kernel in
    let same : kernel.table ≡ c.in_ok-table.table = ap (λ (k : KernelState _). k.table) c.in_ok-kernel.ensures in
    c.in_ok-kernel.ensures ∙ ap (λ (table : Table). kernel_in table (opening table) kernel.store) (sym same)
