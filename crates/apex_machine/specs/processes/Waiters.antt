-- The waiters of a queue, and their order (ARINC 653 Part 1, intrapartition communication).
use Rattle.std.specs.Prelude.{ℕ, Bool, true, false, Option, None, Some, ◌&&◌, count_by, slice_index_or}
use Rattle.std.specs.Option.{option_and_then}
use Rattle.apex_machine.specs.Terms.{Discipline, Queue, Record}
use Rattle.apex_types.specs.declared.modes.Discipline.TheVariants.{Fifo, Priority}
use Rattle.apex_machine.specs.declared.records.Queue.TheVariants as queues
use Rattle.apex_machine.specs.processes.Queues.{queue_of, is_queue}
use Rattle.apex_machine.specs.processes.Roster.{Roster, record_at}
use Rattle.apex_machine.specs.processes.Choice.{place_of_least}
use Rattle.apex_machine.specs.processes.Running.{is_older, is_before}

-- the queue in which the process waits, if there is one
abbrev pub queue_in : Record → Option Queue
queue_in r = option_and_then queue_of r.wait

-- the process waits in this queue
unfoldable pub waits_in : Queue → Record → Bool
waits_in queue r = is_queue queue (queue_in r)

-- the discipline is PRIORITY
abbrev pub is_by_priority : Discipline → Bool
is_by_priority Fifo = false
is_by_priority Priority = true

-- the discipline of a queue: a semaphore's, a buffer's and a mutex's is the table's; all others are
-- first in, first out
abbrev pub discipline_of : Roster → Queue → Discipline
discipline_of roster (queues.Semaphore s) = slice_index_or roster.disciplines.semaphores s Fifo
discipline_of roster (queues.Buffer b) = slice_index_or roster.disciplines.buffers b Fifo
discipline_of roster (queues.Mutex m) = slice_index_or roster.disciplines.mutexes m Fifo
discipline_of roster _ = Fifo

-- whether r comes before s in a queue of this discipline: the longer waiter comes first, or the
-- more urgent one and among equals the longer waiter
abbrev pub waits_before : Discipline → Record → Record → Bool
waits_before Fifo = is_older
waits_before Priority = is_before

-- the process waits in this queue, behind that one
unfoldable pub waits_behind : Discipline → Queue → Record → Record → Bool
waits_behind discipline queue ahead r = waits_in queue r && waits_before discipline ahead r

-- the first waiter of a queue
abbrev pub first_waiter : Roster → Queue → Option ℕ
first_waiter roster queue =
    place_of_least (waits_in queue) (waits_before (discipline_of roster queue)) roster.records

-- the first waiter behind process p
abbrev pub next_waiter : Roster → Queue → ℕ → Option ℕ
next_waiter roster queue p =
    let discipline = discipline_of roster queue in
    place_of_least (waits_behind discipline queue (record_at roster p))
    (waits_before discipline) roster.records

-- the number of waiters of the queue
abbrev pub waiter_count : Roster → Queue → ℕ
waiter_count roster queue = count_by (waits_in queue) roster.records

-- there is a queue, and the more urgent comes first in it
abbrev pub goes_by_priority : Roster → Option Queue → Bool
goes_by_priority roster None = false
goes_by_priority roster (Some queue) = is_by_priority (discipline_of roster queue)
