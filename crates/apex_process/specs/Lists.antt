-- The list of each process, and its place there: the ready lists, and the lists of the wait queues.
use Rattle.std.specs.Prelude.{◌≡◌, ℕ, ◌<◌, Bool, true, false, ◌==◌, if◌then◌else◌, List, slice_set, Option, None, Some}
use Rattle.apex_types.specs.declared.limits.TheConstants.{MOST_CORES}
use Rattle.apex_types.specs.declared.modes.Discipline.{Discipline}
use Rattle.apex_types.specs.declared.modes.Mode.{Mode}
use Rattle.apex_machine.specs.declared.records.Queue.{Queue}
use Rattle.apex_machine.specs.declared.records.Record.{Record}
use Rattle.apex_types.specs.declared.modes.Discipline.TheVariants.{Fifo}
use Rattle.apex_machine.specs.processes.Roster.{Roster, record_at}
use Rattle.apex_machine.specs.processes.Running.{current_priority, is_eligible}
use Rattle.apex_machine.specs.processes.Waiters.{discipline_of, queue_in, waits_before}
use Rattle.apex_links.specs.declared.numbers.TheConstants.{PRIORITIES}
use Rattle.apex_links.specs.Neighbours.{stands_in}
use Rattle.apex_links.specs.Links.{Links, list_at, pushed_back, pushed_front}
use Rattle.apex_ready.specs.ReadyOrders.{ready_list}
use Rattle.apex_waitq.specs.WaitQueues.{joined, wait_list, IsNumbered}
use Rattle.apex_links.specs.Sorted.{IsSorted}

-- the list of a queue, if there is one
abbrev pub queue_list : Option Queue → Option ℕ
queue_list None = None
queue_list (Some queue) = Some (wait_list queue)

-- the list of a process with this record: the ready list of its core and current priority if it is
-- eligible, else that of the queue in which it waits; none if it waits in no queue
abbrev pub list_for : Mode → Record → Option ℕ
list_for mode r =
    if is_eligible mode r then Some (ready_list r.core (current_priority r))
    else queue_list (queue_in r)

-- the list of process p
abbrev pub list_of : Roster → ℕ → Option ℕ
list_of roster p = list_for roster.mode (record_at roster p)

-- list l is this one
abbrev pub is_list : ℕ → Option ℕ → Bool
is_list l None = false
is_list l (Some m) = l == m

-- the discipline of the list of a process: that of the queue in which it waits, and first in, first
-- out if it waits in none
abbrev pub discipline_in : Roster → Option Queue → Discipline
discipline_in roster None = Fifo
discipline_in roster (Some queue) = discipline_of roster queue

-- process p goes before process q, by the discipline of the list of p
abbrev pub goes_before : Roster → ℕ → ℕ → Bool
goes_before roster p q =
    waits_before (discipline_in roster (queue_in (record_at roster p))) (record_at roster p)
    (record_at roster q)

-- each process is in its place's list alone, and each list is in this order
pub record AreLists (place : ℕ → Option ℕ) (before : ℕ → ℕ → Bool) (links : Links) : Type 0 where
  pub members : (p l : ℕ) → stands_in p (list_at links l) ≡ is_list l (place p)
  pub sorted : (l : ℕ) → IsSorted before (list_at links l)

-- there is a list for the record: one for its core and current priority if it is eligible, else one
-- for the queue in which it waits
pub record HasPlace (mode : Mode) (r : Record) : Type 0 where
  pub core : is_eligible mode r ≡ true → r.core < MOST_CORES
  pub priority : is_eligible mode r ≡ true → current_priority r < PRIORITIES
  pub queue : is_eligible mode r ≡ false → (queue : Queue) → queue_in r ≡ Some queue
      → IsNumbered queue

-- there is a list for each process
abbrev pub HavePlaces : Roster → Type 0
HavePlaces roster = (p : ℕ) → HasPlace roster.mode (record_at roster p)

-- process p waits in the queue from now on, if there is one
abbrev pub waits_then : Roster → List ℕ → Links → ℕ → Record → Option Queue → Links
waits_then roster priorities links p r None = links
waits_then roster priorities links p r (Some queue) =
    joined priorities links queue (discipline_of roster queue) p (current_priority r)

-- process p, which is in no list and has this record, goes to its list, as the newest there
abbrev pub placed_newest : Roster → List ℕ → Links → ℕ → Record → Links
placed_newest roster priorities links p r =
    if is_eligible roster.mode r then pushed_back links (ready_list r.core (current_priority r)) p
    else waits_then roster priorities links p r (queue_in r)

-- process p has this priority in its queue, if it waits in one
abbrev pub noted : List ℕ → ℕ → ℕ → Option Queue → List ℕ
noted priorities p priority None = priorities
noted priorities p priority (Some queue) = slice_set priorities p priority

-- process p, which has this record, notes its priority if it waits in a queue
abbrev pub noted_newest : Roster → List ℕ → ℕ → Record → List ℕ
noted_newest roster priorities p r =
    if is_eligible roster.mode r then priorities
    else noted priorities p (current_priority r) (queue_in r)

-- process p, which is eligible and has this record, goes to its ready list, as the oldest there
abbrev pub placed_oldest : Links → ℕ → Record → Links
placed_oldest links p r = pushed_front links (ready_list r.core (current_priority r)) p
