-- The objects of a table, kind by kind.
use Rattle.std.specs.Prelude.{ℕ, Bool, length, not}
use Rattle.apex_warnings.specs.Acts.{does}
use Rattle.apex_warnings.specs.Calls.{any_step}
use Rattle.apex_warnings.specs.Terms.{Group, Queue, Section}
use Rattle.apex_warnings.specs.declared.acts.Act.TheVariants as act
use Rattle.apex_warnings.specs.declared.objects.Group.TheVariants.{Semaphores, Buffers, Blackboards, EventFlags, Mutexes}
use Rattle.apex_machine.specs.declared.records.Queue.TheVariants as queues
use Rattle.apex_machine.specs.table.Table.{Table}
use Rattle.apex_words.specs.declared.fault.Section.TheVariants as section

-- the number of objects of a kind
abbrev pub group_count : Table → Group → ℕ
group_count table Semaphores = length table.semaphores
group_count table Buffers = length table.buffers
group_count table Blackboards = length table.blackboards
group_count table EventFlags = length table.event_flags
group_count table Mutexes = length table.mutexes

-- the queue of the object at a place
abbrev pub group_queue : Group → ℕ → Queue
group_queue Semaphores i = queues.Semaphore i
group_queue Buffers i = queues.Buffer i
group_queue Blackboards i = queues.Blackboard i
group_queue EventFlags i = queues.EventFlag i
group_queue Mutexes i = queues.Mutex i

-- the section of the objects of a kind
abbrev pub group_section : Group → Section
group_section Semaphores = section.Semaphore
group_section Buffers = section.Buffer
group_section Blackboards = section.Blackboard
group_section EventFlags = section.EventFlag
group_section Mutexes = section.Mutex

-- no step names the object of this kind at a place, apart from its creation
abbrev pub object_is_unused : Table → Group → ℕ → Bool
object_is_unused table group i = not (any_step (does (act.Use (group_queue group i))) table)
