-- The wait queues: a list for each queue, and its length.
use Rattle.std.specs.Prelude.{◌≡◌, ℕ, ◌+◌, ◌*◌, ◌<◌, nat_lt, Bool, List, [], ◌∷◌, ◌++◌, length, slice_index_or, ⊤}
use Rattle.apex_types.specs.declared.modes.Discipline.{Discipline}
use Rattle.apex_machine.specs.declared.records.Queue.{Queue}
use Rattle.apex_types.specs.declared.modes.Discipline.TheVariants.{Fifo, Priority}
use Rattle.apex_machine.specs.declared.records.Queue.TheVariants as queues
use Rattle.apex_links.specs.declared.numbers.TheConstants.{ID_PLACES, QUEUE_LISTS, READY_LISTS}
use Rattle.apex_links.specs.Links.{Links, list_at, with_list}
use Rattle.apex_links.specs.Placing.{placed}

-- the place of a queue among all
abbrev pub queue_place : Queue → ℕ
queue_place queues.Normal = 0
queue_place (queues.Semaphore s) = ID_PLACES + s
queue_place (queues.Buffer b) = 2 * ID_PLACES + b
queue_place (queues.Blackboard b) = 3 * ID_PLACES + b
queue_place (queues.EventFlag e) = 4 * ID_PLACES + e
queue_place (queues.Mutex m) = 5 * ID_PLACES + m

-- the number of the queue's object is below that of the places of a kind
abbrev pub IsNumbered : Queue → Type 0
IsNumbered queues.Normal = ⊤
IsNumbered (queues.Semaphore s) = s < ID_PLACES
IsNumbered (queues.Buffer b) = b < ID_PLACES
IsNumbered (queues.Blackboard b) = b < ID_PLACES
IsNumbered (queues.EventFlag e) = e < ID_PLACES
IsNumbered (queues.Mutex m) = m < ID_PLACES

-- the list of a queue
abbrev pub wait_list : Queue → ℕ
wait_list queue = READY_LISTS + queue_place queue

-- the queues as a contract sees them: the number of waiters of each, and the priority with which
-- each process joined its queue last
pub record Waits : Type 0 where
  pub counts : List ℕ
  pub priorities : List ℕ

-- the priority of process p
abbrev pub priority_of : List ℕ → ℕ → ℕ
priority_of priorities p = slice_index_or priorities p 0

-- process x has a lower priority than this one
abbrev pub is_lower : List ℕ → ℕ → ℕ → Bool
is_lower priorities priority x = nat_lt (priority_of priorities x) priority

-- process p behind these, or by its priority among them
abbrev pub queued : Discipline → List ℕ → ℕ → ℕ → List ℕ → List ℕ
queued Fifo priorities p priority xs = xs ++ p ∷ []
queued Priority priorities p priority xs = placed (is_lower priorities priority) p xs

-- process p, of this priority, is in list l from now on
abbrev pub queued_in : List ℕ → Links → ℕ → Discipline → ℕ → ℕ → Links
queued_in priorities links l discipline p priority =
    with_list links l (queued discipline priorities p priority (list_at links l))

-- process p, of this priority, waits in the queue from now on
abbrev pub joined : List ℕ → Links → Queue → Discipline → ℕ → ℕ → Links
joined priorities links queue discipline p priority =
    queued_in priorities links (wait_list queue) discipline p priority

-- the counts are those of the lists
abbrev pub AreCounted : List ℕ → Links → Type 0
AreCounted counts links =
    (n : ℕ) → n < QUEUE_LISTS → slice_index_or counts n 0 ≡ length (list_at links (READY_LISTS + n))
