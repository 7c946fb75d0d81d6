-- The kernel's table is the one that was given.
use Rattle.std.proofs.Common.{◌∙◌, ap, refl, sym}
use Rattle.apex_dispatch.specs.Kernel.{KernelState}
use Rattle.apex_machine.specs.Machine.{opening}
use Rattle.apex_views.proofs.departures.kernel_before.Goals as goal

pub make-requires-clause-opened : goal.make-requires-clause-opened
make-requires-clause-opened c =
    ap (λ (k : KernelState _). k.machine) c.in_ok-before.ensures ∙ ap opening (sym (ap (λ (k : KernelState _). k.table) c.in_ok-before.ensures))

pub make-requires-clause-within : goal.make-requires-clause-within
make-requires-clause-within c =
    rw (c.as_slice.ensures.value, c.in_ok-before.ensures, c.into_table.ensures) c.in_ok-events.ensures.within

pub returns-clause-table : goal.returns-clause-table
returns-clause-table c = c.make.ensures.table ∙ ap (λ (k : KernelState _). k.table) c.in_ok-before.ensures ∙ c.into_table.ensures

pub returns-clause-machine : goal.returns-clause-machine
returns-clause-machine c =
    rw (c.make.ensures.machine, c.as_slice.ensures.value, c.in_ok-before.ensures, c.into_table.ensures, c.in_ok-events.ensures.items) refl
