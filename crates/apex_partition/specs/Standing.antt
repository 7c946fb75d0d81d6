-- The running process of each core, and the lists of each process, by the lists that a partition
-- stores.
use Rattle.std.specs.Prelude.{◌≡◌, ℕ, ◌<◌, true, false, Option}
use Rattle.std.specs.Option.{MatchOption}
use Rattle.apex_types.specs.declared.limits.TheConstants.{MOST_CORES}
use Rattle.apex_machine.specs.declared.records.Queue.{Queue}
use Rattle.apex_machine.specs.declared.records.Record.{Record}
use Rattle.apex_types.specs.declared.modes.State.{State}
use Rattle.apex_types.specs.declared.modes.State.TheVariants.{Dormant, Ready, Running, Waiting}
use Rattle.apex_machine.specs.processes.Running.{current_priority}
use Rattle.apex_machine.specs.processes.Waiters.{waits_in}
use Rattle.apex_links.specs.Neighbours.{stands_in}
use Rattle.apex_links.specs.Links.{Links, list_at, IsFree}
use Rattle.apex_ready.specs.ReadyOrders.{ready_list, IsIdle, IsTop}
use Rattle.apex_waitq.specs.WaitQueues.{wait_list}

-- the core runs this process by the lists: the first of its highest ready list that is not empty;
-- and it runs none if all of them are empty
abbrev pub RunsByLists : Links → ℕ → Option ℕ → Type 0
RunsByLists links core running = MatchOption running (IsIdle links core) (λ p. IsTop links core p)

-- process p is in the ready list of its core and current priority
abbrev pub IsInItsReadyList : Links → ℕ → Record → Type 0
IsInItsReadyList links p r =
    stands_in p (list_at links (ready_list r.core (current_priority r))) ≡ true

-- process p is in no ready list
abbrev pub IsInNoReadyList : Links → ℕ → Type 0
IsInNoReadyList links p = (core priority : ℕ) → core < MOST_CORES → priority < 256
    → stands_in p (list_at links (ready_list core priority)) ≡ false

-- process p, which has this record, is in the lists of this state: dormant in no list, ready and
-- running in the ready list of its core and current priority, and waiting in no ready list
abbrev pub IsQueuedAs : Links → ℕ → Record → State → Type 0
IsQueuedAs links p r Dormant = IsFree links p
IsQueuedAs links p r Ready = IsInItsReadyList links p r
IsQueuedAs links p r Running = IsInItsReadyList links p r
IsQueuedAs links p r Waiting = IsInNoReadyList links p

-- process p, which has this record, is in one list at the most, and if it waits in a queue, in that
-- one's
pub record IsInOneQueue (links : Links) (p : ℕ) (r : Record) : Type 0 where
  pub one : (l m : ℕ) → stands_in p (list_at links l) ≡ true → stands_in p (list_at links m) ≡ true
      → l ≡ m
  pub waits : (queue : Queue) → waits_in queue r ≡ true
      → stands_in p (list_at links (wait_list queue)) ≡ true
