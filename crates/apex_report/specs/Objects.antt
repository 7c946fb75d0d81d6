-- The figures of an object, each read off the history. An object is named by its queue.
use Rattle.std.specs.Prelude.{ℕ, Bool, false, List, [], ◌∷◌, ◌++◌, Option, None, Some, count_by, length, map, nat_lt, is_some, ◌&&◌}
use Rattle.std.specs.List.{range_with_len, sum}
use Rattle.apex_machine.specs.declared.records.Queue.TheVariants as queues
use Rattle.apex_machine.specs.services.Calls.{is_receive, is_signal, is_wait, names, sent_message}
use Rattle.apex_machine.specs.services.Satisfied.{buffer_content, calls_where, semaphore_value}
use Rattle.apex_machine.specs.table.Table.{Table, semaphore_config}
use Rattle.apex_report.specs.declared.objects.Kind.{Kind}
use Rattle.apex_report.specs.declared.objects.Kind.TheVariants.{Semaphore, Buffer, Blackboard, EventFlag, Mutex}
use Rattle.apex_report.specs.Along.{along}
use Rattle.apex_report.specs.Ownerships.{longest_ownership, owner_in}
use Rattle.apex_report.specs.Processes.{is_timed_out}
use Rattle.apex_report.specs.Terms.{Call, Entry, Level, ObjectFigures, Queue, Waking}
use Rattle.apex_report.specs.Unbeaten.{first_unbeaten}
use Rattle.apex_report.specs.Waits.{waiting, wakings}

-- the queue of the object of this kind at a place
abbrev pub queue_at : Kind → ℕ → Queue
queue_at Semaphore s = queues.Semaphore s
queue_at Buffer b = queues.Buffer b
queue_at Blackboard b = queues.Blackboard b
queue_at EventFlag e = queues.EventFlag e
queue_at Mutex m = queues.Mutex m

-- the first n objects of a kind, by their queues
abbrev pub queues_of : Kind → ℕ → List Queue
queues_of kind n = map (queue_at kind) (range_with_len 0 n)

-- the objects of the table, by their queues
abbrev pub objects_of : Table → List Queue
objects_of table =
    queues_of Semaphore (length table.semaphores) ++ queues_of Buffer (length table.buffers)
    ++ queues_of Blackboard (length table.blackboards)
    ++ queues_of EventFlag (length table.event_flags) ++ queues_of Mutex (length table.mutexes)

-- the content of an object: the value of a semaphore, or the number of messages in a buffer; other
-- objects have none
abbrev pub content : Table → Queue → List Entry → ℕ
content table (queues.Semaphore s) history =
    semaphore_value (semaphore_config table s).initial s history
content table (queues.Buffer b) history = length (buffer_content b history)
content table _ history = 0

-- a count after the last entry of a history, with the number of that entry
abbrev pub level_by : (List Entry → ℕ) → List Entry → Entry → List Level
level_by count before e =
    record { count = count (before ++ e ∷ []); number = e.number } ∷ []

-- the first level is the higher one
abbrev pub is_higher : Level → Level → Bool
is_higher first second = nat_lt second.count first.count

-- the greatest of the counts after each entry, with the first entry that has it
abbrev pub highest : (List Entry → ℕ) → List Entry → Option Level
highest count history = first_unbeaten is_higher (along (level_by count) [] history)

-- the call puts something into the object of this queue: a signal, or a message
abbrev pub is_given : Queue → Call → Bool
is_given (queues.Semaphore s) call = is_signal call
is_given (queues.Buffer b) call = is_some (sent_message call)
is_given _ call = false

-- the call takes something out of the object of this queue
abbrev pub is_taken : Queue → Call → Bool
is_taken (queues.Semaphore s) call = is_wait call
is_taken (queues.Buffer b) call = is_receive call
is_taken _ call = false

-- what an object holds before any entry
abbrev pub initial : Table → Queue → ℕ
initial table (queues.Semaphore s) = (semaphore_config table s).initial
initial table _ = 0

-- what was put into an object: a satisfied call for each
abbrev pub given : Queue → List Entry → ℕ
given queue history = count_by (is_given queue) (calls_where (names queue) history)

-- what was taken out of an object: a satisfied call for each
abbrev pub taken : Queue → List Entry → ℕ
taken queue history = count_by (is_taken queue) (calls_where (names queue) history)

-- there is a call, and it names the object of this queue
abbrev pub is_about : Queue → Option Call → Bool
is_about queue None = false
is_about queue (Some call) = names queue call

-- the process waited for the object, and was woken with TIMED_OUT
abbrev pub is_late : Queue → Waking → Bool
is_late queue waking = is_timed_out waking.code && is_about queue waking.call

-- the waits for an object that time out with one entry more
abbrev pub late_by : Queue → List Entry → Entry → List ℕ
late_by queue before e = count_by (is_late queue) (wakings before e) ∷ []

-- the waits for an object that timed out
abbrev pub timeouts : Queue → List Entry → ℕ
timeouts queue history = sum (along (late_by queue) [] history)

-- the figures of the object of this queue; its waiters are among the processes of the table
abbrev pub object_figures : Table → List Entry → Queue → ObjectFigures
object_figures table history queue = record {
  object = queue;
  initial = initial table queue;
  given = given queue history;
  taken = taken queue history;
  greatest = highest (content table queue) history;
  longest_queue = highest (waiting (length table.processes) queue) history;
  timeouts = timeouts queue history;
  owner = owner_in queue history;
  longest_ownership = longest_ownership queue history;
}
