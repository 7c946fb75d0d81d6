-- The lists of a state: the processes of each list that a store keeps, their order, and the counts
-- of them.
use Rattle.std.specs.Prelude.{◌≡◌, ℕ, ◌<◌, Bool, true, ◌==◌, ◌&&◌, None}
use Rattle.apex_types.specs.declared.limits.TheConstants.{MOST_CORES}
use Rattle.apex_machine.specs.declared.records.Queue.{Queue}
use Rattle.apex_machine.specs.processes.Roster.{Roster, record_at}
use Rattle.apex_machine.specs.processes.Running.{current_priority, is_eligible, is_older, IsIneligible}
use Rattle.apex_machine.specs.processes.Waiters.{discipline_of, queue_in, waits_before, waits_in}
use Rattle.apex_links.specs.declared.numbers.TheConstants.{PRIORITIES}
use Rattle.apex_links.specs.Neighbours.{stands_in}
use Rattle.apex_links.specs.Links.{Links, list_at, IsFree}
use Rattle.apex_ready.specs.ReadyOrders.{ready_list, AreMarked}
use Rattle.apex_timeouts.specs.Timeline.{IsTimed}
use Rattle.apex_waitq.specs.WaitQueues.{wait_list, AreCounted, IsNumbered}
use Rattle.apex_process.specs.Lists.{HavePlaces}
use Rattle.apex_process.specs.Owners.{AreOwners}
use Rattle.apex_process.specs.Queued.{Queued}
use Rattle.apex_links.specs.Sorted.{IsSorted}
use Rattle.apex_process.specs.Timed.{AreTimers}

-- process p is eligible, bound to the core, and of this current priority
abbrev pub is_ready_at : Roster → ℕ → ℕ → ℕ → Bool
is_ready_at roster core priority p =
    is_eligible roster.mode (record_at roster p)
    && ((record_at roster p).core == core && current_priority (record_at roster p) == priority)

-- the ready list of each core and priority: its eligible processes, the longest ready first
pub record AreReadyLists (roster : Roster) (links : Links) : Type 0 where
  pub members : (core priority p : ℕ) → core < MOST_CORES → priority < PRIORITIES
      → stands_in p (list_at links (ready_list core priority)) ≡ is_ready_at roster core priority p
  pub sorted : (core priority : ℕ) → core < MOST_CORES → priority < PRIORITIES
      → IsSorted (λ p q. is_older (record_at roster p) (record_at roster q))
      (list_at links (ready_list core priority))

-- the list of each queue: its waiters, in the order of the queue's discipline
pub record AreWaitLists (roster : Roster) (links : Links) : Type 0 where
  pub members : (queue : Queue) (p : ℕ) → IsNumbered queue
      → stands_in p (list_at links (wait_list queue)) ≡ waits_in queue (record_at roster p)
  pub sorted : (queue : Queue) → IsNumbered queue
      → IsSorted
      (λ p q. waits_before (discipline_of roster queue) (record_at roster p) (record_at roster q))
      (list_at links (wait_list queue))

-- the lists that a store keeps are those of its state
pub record AreListsOfState (store : Queued) : Type 0 where
  -- there is a list for each eligible process, and for each one that waits in a queue
  pub places : HavePlaces store.roster
  -- the ready lists, and those of the queues
  pub ready : AreReadyLists store.roster store.standings.links
  pub waiting : AreWaitLists store.roster store.standings.links
  -- a process that is neither eligible nor waits in a queue is in no list, and no process is in two
  pub outside : (p : ℕ) → IsIneligible store.roster p → queue_in (record_at store.roster p) ≡ None
      → IsFree store.standings.links p
  pub apart : (p l m : ℕ) → stands_in p (list_at store.standings.links l) ≡ true
      → stands_in p (list_at store.standings.links m) ≡ true → l ≡ m
  -- a ready list is marked exactly if it is not empty, and each queue's count is the length of its
  -- list
  pub marks : AreMarked store.standings.marks store.standings.links
  pub counts : AreCounted store.standings.counts store.standings.links
  -- the lines have the dues and the deadlines, each by instant and then process
  pub timers : AreTimers store.roster store.dues store.deadlines
  pub dues : IsTimed store.dues
  pub deadlines : IsTimed store.deadlines
  -- the words have the owner of each mutex
  pub owners : AreOwners store.roster store.owners
