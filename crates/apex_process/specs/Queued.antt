-- A store over linked lists as a contract sees it: the processes, and all that it keeps of them
-- besides.
use Rattle.std.specs.Prelude.{◌≡◌, ℕ, ◌<◌, ◌≤◌, Bool, true, false, List, [], length}
use Rattle.apex_types.specs.declared.limits.TheConstants.{MOST_PROCESSES}
use Rattle.apex_machine.specs.processes.Distinct.{IsStamped}
use Rattle.apex_machine.specs.processes.Roster.{Roster, record_at}
use Rattle.apex_machine.specs.processes.Running.{current_priority}
use Rattle.apex_machine.specs.processes.Waiters.{goes_by_priority, queue_in}
use Rattle.apex_links.specs.declared.numbers.TheConstants.{ALL_LISTS, READY_LISTS}
use Rattle.apex_links.specs.Neighbours.{stands_in}
use Rattle.apex_links.specs.Links.{Links, list_at}
use Rattle.apex_ready.specs.ReadyOrders.{AreMarked}
use Rattle.apex_timeouts.specs.Timeline.{Times}
use Rattle.apex_waitq.specs.WaitQueues.{priority_of, AreCounted}
use Rattle.apex_process.specs.Lists.{goes_before, list_of, AreLists, HavePlaces}

-- the processes of each list: the lists themselves, the marks of the ready lists that are not
-- empty, the length of each queue's list, and the priority with which each process waits
pub record Standings : Type 0 where
  pub links : Links
  pub marks : List ℕ
  pub counts : List ℕ
  pub priorities : List ℕ

-- marks and counts are those of the lists
pub record AreKept (standings : Standings) : Type 0 where
  pub marked : AreMarked standings.marks standings.links
  pub counted : AreCounted standings.counts standings.links
  pub room : length standings.links.lists ≡ ALL_LISTS
  pub noted : length standings.priorities ≡ standings.links.processes
  pub few : standings.links.processes ≤ MOST_PROCESSES

-- the processes, their lists, the line of dues and that of deadlines, and the owner of each mutex
pub record Queued : Type 0 where
  pub roster : Roster
  pub standings : Standings
  pub dues : Times
  pub deadlines : Times
  pub owners : List ℕ

-- a process that waits in a queue in which the more urgent comes first waits there with its current
-- priority
abbrev pub AreNoted : Roster → List ℕ → Type 0
AreNoted roster priorities =
    (p : ℕ) → goes_by_priority roster (queue_in (record_at roster p)) ≡ true
    → priority_of priorities p ≡ current_priority (record_at roster p)

-- each process, whose stamp is no other one's, is at its place in its list
pub record IsQueued (roster : Roster) (standings : Standings) : Type 0 where
  pub lists : AreLists (list_of roster) (goes_before roster) standings.links
  pub places : HavePlaces roster
  pub noted : AreNoted roster standings.priorities
  pub stamped : IsStamped roster
  pub known : standings.links.processes ≡ length roster.records
  pub room : length standings.links.lists ≡ ALL_LISTS
  pub rows : length standings.priorities ≡ length roster.records
  pub few : length roster.records ≤ MOST_PROCESSES

-- process p is in no ready list from now on; no process comes into one, and the lists of the queues
-- stay
pub record IsUnreadied (old new : Links) (p : ℕ) : Type 0 where
  pub gone : (l : ℕ) → l < READY_LISTS → stands_in p (list_at new l) ≡ false
  pub stood : (q l : ℕ) → stands_in q (list_at new l) ≡ true → stands_in q (list_at old l) ≡ true
  pub queues : (l : ℕ) → READY_LISTS ≤ l → list_at new l ≡ list_at old l
  pub processes : new.processes ≡ old.processes
  pub many : length new.lists ≡ length old.lists

-- the ready lists are empty from now on, and the lists of the queues stay
pub record AreEmptied (old new : Links) : Type 0 where
  pub ready : (l : ℕ) → l < READY_LISTS → list_at new l ≡ []
  pub queues : (l : ℕ) → READY_LISTS ≤ l → list_at new l ≡ list_at old l
  pub processes : new.processes ≡ old.processes
  pub many : length new.lists ≡ length old.lists

-- whether process p is in a ready list: if so it is in no queue's list, and else in no ready list
pub record IsListedReady (links : Links) (p : ℕ) (is : Bool) : Type 0 where
  pub ready : is ≡ true → (l : ℕ) → READY_LISTS ≤ l → stands_in p (list_at links l) ≡ false
  pub other : is ≡ false → (l : ℕ) → l < READY_LISTS → stands_in p (list_at links l) ≡ false
