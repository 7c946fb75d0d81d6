-- The events of a schedule, made by a kernel.
use Rattle.std.specs.Prelude.{ℕ, ◌+◌, ◌≤◌, List, length}
use Rattle.apex_machine.specs.Machine.{run}
use Rattle.apex_types.specs.declared.entries.Event.{Event}
use Rattle.apex_dispatch.specs.Kernel.{KernelState, kernel_in}

-- the kernel after these events, up to the first for which its history has no room, with this store
abbrev pub after_events : {S : Type 0} → KernelState S → List Event → S → KernelState S
after_events kernel events store =
    kernel_in kernel.table (run kernel.table kernel.machine events) store

-- the history has room for n entries more
abbrev pub HasRoomFor : {S : Type 0} → ℕ → KernelState S → Type 0
HasRoomFor n kernel = length kernel.machine.history + n ≤ kernel.table.limit
