-- The queues in which processes wait, and the queue of each wait (ARINC 653 Part 1, intrapartition
-- communication).
use Rattle.std.specs.Prelude.{Bool, true, false, Option, None, Some, ◌==◌}
use Rattle.apex_machine.specs.Terms.{Queue, Wait}
use Rattle.apex_machine.specs.declared.records.Queue.TheVariants as queues
use Rattle.apex_machine.specs.declared.records.Wait.TheVariants.{Normal, Start, Time, Period, Semaphore, Receive, Send, Blackboard, EventFlag, Mutex}

-- the queue of a wait: a wait for an instant has none, and receivers and senders have the one queue
-- of their buffer
abbrev pub queue_of : Wait → Option Queue
queue_of (Normal delay) = Some queues.Normal
queue_of Start = None
queue_of Time = None
queue_of Period = None
queue_of (Semaphore s) = Some (queues.Semaphore s)
queue_of (Receive b) = Some (queues.Buffer b)
queue_of (Send b message) = Some (queues.Buffer b)
queue_of (Blackboard b) = Some (queues.Blackboard b)
queue_of (EventFlag e) = Some (queues.EventFlag e)
queue_of (Mutex m) = Some (queues.Mutex m)

-- the two queues are the same
abbrev pub is_same_queue : Queue → Queue → Bool
is_same_queue queues.Normal queues.Normal = true
is_same_queue (queues.Semaphore s) (queues.Semaphore t) = s == t
is_same_queue (queues.Buffer b) (queues.Buffer c) = b == c
is_same_queue (queues.Blackboard b) (queues.Blackboard c) = b == c
is_same_queue (queues.EventFlag e) (queues.EventFlag f) = e == f
is_same_queue (queues.Mutex m) (queues.Mutex n) = m == n
is_same_queue _ _ = false

-- there is a queue, and it is this one
abbrev pub is_queue : Queue → Option Queue → Bool
is_queue queue None = false
is_queue queue (Some other) = is_same_queue queue other
