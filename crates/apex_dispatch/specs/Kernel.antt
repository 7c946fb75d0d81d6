-- A kernel as every contract sees it, and the facts that each kernel keeps.
use Rattle.std.specs.Prelude.{◌≡◌, ℕ, ◌-◌, List, All, length}
use Rattle.apex_laws.specs.Terms.{Entry}
use Rattle.apex_machine.specs.table.Table.{Table, IsLawful}
use Rattle.apex_machine.specs.Deeds.{Objects}
use Rattle.apex_machine.specs.Machine.{Machine, objects_after, events_of, machine_with, replay, situation_of}
use Rattle.apex_machine.specs.Situations.{Situation}
use Rattle.apex_machine.specs.Events.{IsWithin}
use Rattle.apex_laws.specs.GoesOn.{CanGoOn}

-- a kernel: its table, the machine's state, the running values of its objects, and its store, with
-- all that a contract sees of that
pub record KernelState (S : Type 0) : Type 0 where
  pub table : Table
  pub machine : Machine
  pub objects : Objects
  pub store : S

-- the kernel in this state, over this store: its running values are those that the history gives
abbrev pub kernel_in : {S : Type 0} → Table → Machine → S → KernelState S
kernel_in table machine store = record {
  table = table;
  machine = machine;
  objects = objects_after table machine.history;
  store = store;
}

-- the kernel with this situation and this history, over this store
abbrev pub kernel_with : {S : Type 0} → Table → Situation → List Entry → S → KernelState S
kernel_with table situation history store = record {
  table = table;
  machine = machine_with table situation.roster history;
  objects = situation.objects;
  store = store;
}

-- the number of entries for which the history has room
abbrev pub room_of : Table → List Entry → ℕ
room_of table history = table.limit - length history

-- the facts that each kernel keeps: its table is lawful; its log's limit is the table's; its
-- situation is the machine's, and can go on for as many events as the history has room for; and the
-- events that its history records are in range and, run anew, give the machine's very state
pub record IsKept {S : Type 0} (kernel : KernelState S) (held : Situation) (log_limit : ℕ) :
    Type 0 where
  pub lawful : IsLawful kernel.table
  pub limit : log_limit ≡ kernel.table.limit
  pub situation : held ≡ situation_of kernel.table kernel.machine
  pub goes_on : CanGoOn kernel.table (room_of kernel.table kernel.machine.history) held
  pub events : All (IsWithin kernel.table.cores) (events_of kernel.machine.history)
  pub replays : replay kernel.table kernel.machine.history ≡ kernel.machine
