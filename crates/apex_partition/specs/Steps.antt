-- A partition before and after one event.
use Rattle.std.specs.Prelude.{◌≡◌, ℕ, length}
use Rattle.apex_machine.specs.Machine.{opening, tick, turn}
use Rattle.apex_machine.specs.table.Table.{Table}
use Rattle.apex_dispatch.specs.Kernel.{kernel_in}
use Rattle.apex_process.specs.Queued.{Queued}
use Rattle.apex_partition.specs.Headline.{PartitionState}

-- before any event, with this store
abbrev pub opened : Table → Queued → PartitionState
opened table store = kernel_in table (opening table) store

-- after a turn of this core, with this store
abbrev pub after_turn : PartitionState → ℕ → Queued → PartitionState
after_turn partition core store =
    kernel_in partition.table (turn partition.table partition.machine core) store

-- after a tick of n, with this store
abbrev pub after_tick : PartitionState → ℕ → Queued → PartitionState
after_tick partition n store =
    kernel_in partition.table (tick partition.table partition.machine n) store

-- the history has this number of entries, and that is its limit
abbrev pub IsFullAt : PartitionState → ℕ → Type 0
IsFullAt partition entries =
    (entries ≡ length partition.machine.history) × (entries ≡ partition.table.limit)
