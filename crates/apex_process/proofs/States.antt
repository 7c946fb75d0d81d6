-- The lists that a store keeps are the lists of its state.
use Rattle.std.proofs.Common.{◌≡◌, ℕ, ◌<◌, true, ◌&&◌, None, Some, refl, sym, ◌∙◌}
use Rattle.std.specs.Prelude.{◌==◌}
use Rattle.std.proofs.lemmas.Bool.{and_parts}
use Rattle.std.proofs.lemmas.Option.{same_Some}
use Rattle.apex_types.specs.declared.limits.TheConstants.{MOST_CORES}
use Rattle.apex_machine.specs.declared.records.Queue.{Queue}
use Rattle.apex_machine.specs.processes.Roster.{Roster, record_at}
use Rattle.apex_machine.specs.processes.Running.{current_priority, is_eligible, is_older, IsEligible, IsIneligible}
use Rattle.apex_machine.specs.processes.Waiters.{discipline_of, queue_in, waits_before, waits_in}
use Rattle.apex_machine.proofs.Starts.{stands_in as queue_is}
use Rattle.apex_links.specs.declared.numbers.TheConstants.{PRIORITIES}
use Rattle.apex_links.specs.Neighbours.{stands_in}
use Rattle.apex_links.specs.Links.{list_at, IsFree}
use Rattle.apex_links.proofs.Sorted.{sorted_same}
use Rattle.apex_ready.specs.ReadyOrders.{ready_list}
use Rattle.apex_timeouts.specs.Timeline.{IsTimed}
use Rattle.apex_waitq.specs.WaitQueues.{wait_list, IsNumbered}
use Rattle.apex_process.specs.Lists.{goes_before, list_of}
use Rattle.apex_process.specs.Owners.{AreOwners}
use Rattle.apex_process.specs.Queued.{AreKept, IsQueued, Queued, Standings}
use Rattle.apex_process.specs.State.{AreListsOfState, AreReadyLists, AreWaitLists}
use Rattle.apex_process.specs.Timed.{AreTimers}
use Rattle.apex_process.proofs.Places.{in_ready_list, in_wait_list, listed_waiting, no_queue}
use Rattle.apex_process.proofs.Standing.{place_of}

module _ (roster : Roster) (s : Standings) (is : IsQueued roster s) where
  ready_members : (core priority p : ℕ) → core < MOST_CORES → priority < PRIORITIES
      → stands_in p (list_at s.links (ready_list core priority)) ≡ (is_eligible roster.mode (record_at roster p) && ((record_at roster p).core == core && current_priority (record_at roster p) == priority))
  ready_members core priority p c k = is.lists.members p (ready_list core priority) ∙ in_ready_list roster.mode (record_at roster p) core priority (is.places p) c k

  ready_before : (p q : ℕ) → IsEligible roster p → is_older (record_at roster p) (record_at roster q) ≡ goes_before roster p q
  ready_before p q e = rw (no_queue roster.mode (record_at roster p) e) refl

  pub ready_lists_are : AreReadyLists roster s.links
  ready_lists_are = record {
    members = ready_members;
    sorted = λ core priority c k. sorted_same (goes_before roster) (λ p q. is_older (record_at roster p) (record_at roster q)) (list_at s.links (ready_list core priority))
        (λ p q stands _. ready_before p q (and_parts _ _ (sym (ready_members core priority p c k) ∙ stands)).0)
        (is.lists.sorted (ready_list core priority));
  }

  pub wait_members : (queue : Queue) (p : ℕ) → IsNumbered queue → stands_in p (list_at s.links (wait_list queue)) ≡ waits_in queue (record_at roster p)
  wait_members queue p i = is.lists.members p (wait_list queue) ∙ in_wait_list roster.mode (record_at roster p) queue (is.places p) i

  wait_before : (queue : Queue) (p q : ℕ) → queue_in (record_at roster p) ≡ Some queue → waits_before (discipline_of roster queue) (record_at roster p) (record_at roster q) ≡ goes_before roster p q
  wait_before queue p q e = rw e refl

  pub wait_lists_are : AreWaitLists roster s.links
  wait_lists_are = record {
    members = wait_members;
    sorted = λ queue i. sorted_same (goes_before roster) (λ p q. waits_before (discipline_of roster queue) (record_at roster p) (record_at roster q)) (list_at s.links (wait_list queue))
        (λ p q stands _. wait_before queue p q (queue_is queue (record_at roster p) (sym (wait_members queue p i) ∙ stands)))
        (is.lists.sorted (wait_list queue));
  }

  pub outside_is : (p : ℕ) → IsIneligible roster p → queue_in (record_at roster p) ≡ None → IsFree s.links p
  outside_is p out none l = is.lists.members p l ∙ rw (listed_waiting roster.mode (record_at roster p) out, none) refl

  pub apart_is : (p l m : ℕ) → stands_in p (list_at s.links l) ≡ true → stands_in p (list_at s.links m) ≡ true → l ≡ m
  apart_is p l m here there =
      same_Some l m (sym (place_of l (list_of roster p) (sym (is.lists.members p l) ∙ here)) ∙ place_of m (list_of roster p) (sym (is.lists.members p m) ∙ there))

pub lists_of_state : (store : Queued) → IsQueued store.roster store.standings → AreTimers store.roster store.dues store.deadlines → AreOwners store.roster store.owners
    → AreKept store.standings → IsTimed store.dues → IsTimed store.deadlines → AreListsOfState store
lists_of_state store is timers owners kept dues deadlines = record {
  places = is.places;
  ready = ready_lists_are store.roster store.standings is;
  waiting = wait_lists_are store.roster store.standings is;
  outside = outside_is store.roster store.standings is;
  apart = apart_is store.roster store.standings is;
  marks = kept.marked;
  counts = kept.counted;
  timers = timers;
  dues = dues;
  deadlines = deadlines;
  owners = owners;
}
