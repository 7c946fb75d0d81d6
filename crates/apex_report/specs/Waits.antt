-- The queue in which a process waits, and the processes that an entry wakes, read off the history.
use Rattle.std.specs.Prelude.{ℕ, Bool, false, List, Option, None, Some, count_by, filter_map, fold, ◌==◌, ◌||◌, if◌then◌else◌}
use Rattle.std.specs.List.{list_any, range_with_len}
use Rattle.apex_types.specs.declared.entries.Notice.TheVariants.{Woken}
use Rattle.apex_types.specs.declared.entries.Reply.TheVariants.{Blocked}
use Rattle.apex_machine.specs.processes.Queues.{is_queue}
use Rattle.apex_machine.specs.services.Callers.{is_by_process}
use Rattle.apex_machine.specs.services.Calls.{queue_named}
use Rattle.apex_machine.specs.services.Satisfied.{latest_call}
use Rattle.apex_report.specs.Jobs.{stops}
use Rattle.apex_report.specs.Terms.{Call, Entry, Notice, Queue, Reply, Waking}

-- the notice wakes process p
abbrev pub is_woken_by : ℕ → Notice → Bool
is_woken_by p (Woken q code) = p == q
is_woken_by p _ = false

-- the entry wakes process p
abbrev pub is_woken : ℕ → Entry → Bool
is_woken p e = list_any (is_woken_by p) e.notices

-- the queue that the caller joins if it is blocked: that of the object which its call names
abbrev pub queue_joined : Option Call → Reply → Option Queue
queue_joined (Some call) Blocked = queue_named call
queue_joined _ _ = None

-- the queue in which process p waits after an entry, by the one before: a notice that wakes it, or a
-- stop, ends its wait, and its own call may begin one
abbrev pub queue_after : ℕ → Option Queue → Entry → Option Queue
queue_after p before e =
    if is_woken p e || stops p e then None
    else if is_by_process p e.process then queue_joined e.call e.reply
    else before

-- the queue in which process p waits, if it waits for an object
abbrev pub queue_in : ℕ → List Entry → Option Queue
queue_in p history = fold (queue_after p) None history

-- the number of the first n processes that wait in the queue
abbrev pub waiting : ℕ → Queue → List Entry → ℕ
waiting n queue history = count_by (λ p. is_queue queue (queue_in p history)) (range_with_len 0 n)

-- a process that a notice wakes, with the code, and the call that made it wait, its latest one
abbrev pub waking_by : List Entry → Notice → Option Waking
waking_by history (Woken p code) =
    Some (record { process = p; code = code; call = latest_call p history })
waking_by history _ = None

-- the processes that the entry wakes, in order
abbrev pub wakings : List Entry → Entry → List Waking
wakings history e = filter_map (waking_by history) e.notices
