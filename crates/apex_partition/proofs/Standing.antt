-- The running process of each core, and the lists of each process, by lists that are those of the
-- state.
use Rattle.std.proofs.Common.{◌≡◌, ℕ, zero, suc, ◌<◌, ◌≤◌, Bool, true, false, Option, Some, None, inl, inr, refl, sym, subst, ◌∙◌, arith}
use Rattle.std.proofs.lemmas.Bool.{and_parts, and_from, both_ways, cases_Bool, cases_eq, eq-eqb}
use Rattle.std.proofs.lemmas.Option.{none-some}
use Rattle.apex_types.specs.declared.limits.TheConstants.{MOST_CORES}
use Rattle.apex_machine.specs.processes.Distinct.{HasDistinctStamps}
use Rattle.apex_machine.specs.processes.Roster.{Roster, record_at}
use Rattle.apex_machine.specs.processes.Running.{chosen, current_priority, is_eligible, is_process, process_state}
use Rattle.apex_machine.specs.processes.Waiters.{queue_in, waits_in}
use Rattle.apex_machine.specs.declared.records.Queue.{Queue}
use Rattle.apex_machine.proofs.Orders.{before_strict}
use Rattle.apex_machine.proofs.Starts.{stands_in as queue_is}
use Rattle.apex_links.specs.Neighbours.{first_of, stands_in}
use Rattle.apex_links.specs.Links.{Links, list_at}
use Rattle.apex_ready.specs.ReadyOrders.{ready_list}
use Rattle.apex_waitq.specs.WaitQueues.{IsNumbered}
use Rattle.apex_store.specs.Laws.{RunsMostUrgent}
use Rattle.apex_machine.proofs.States.{state_by, eligible_started}
use Rattle.apex_store.proofs.TheLeast.{the_least, before_on}
use Rattle.apex_store.proofs.Urgency.{most_urgent}
use Rattle.apex_process.specs.Lists.{HavePlaces}
use Rattle.apex_process.specs.Queued.{Queued}
use Rattle.apex_process.specs.State.{AreListsOfState, AreReadyLists}
use Rattle.apex_process.proofs.Places.{no_queue}
use Rattle.apex_process.proofs.Top.{found_chosen}
use Rattle.apex_partition.specs.Standing.{IsInItsReadyList, IsInNoReadyList, IsInOneQueue, RunsByLists, IsQueuedAs}

-- each core's running process is the most urgent
pub urgent_runs : (roster : Roster) (core : ℕ) → HasDistinctStamps roster → RunsMostUrgent roster core
urgent_runs roster core distinct = most_urgent _ _ (the_least _ _ before_strict _ (before_on roster distinct))

-- a process, or none, runs by the lists; looked for from this priority down
run_at : (links : Links) (core n : ℕ) (first : Option ℕ) → first_of (list_at links (ready_list core n)) ≡ first → n < 256
    → ((q : ℕ) → n < q → q < 256 → first_of (list_at links (ready_list core q)) ≡ None)
    → (((q : ℕ) → n ≤ q → q < 256 → first_of (list_at links (ready_list core q)) ≡ None) → (running : Option ℕ) × RunsByLists links core running)
    → (running : Option ℕ) × RunsByLists links core running
run_at links core n (Some p) is few empty below = (Some p, record { priority = n; known = few; front = is; highest = empty })
run_at links core n None is few empty below = below (λ q upto within. elim (cases_eq n q) [
  | inl e ↦ subst (λ (k : ℕ). first_of (list_at links (ready_list core k)) ≡ None) e is
  | inr apart ↦ empty q (omega (arith, upto, apart)) within
])

find_run : (links : Links) (core n : ℕ) → n ≤ 256 → ((q : ℕ) → n ≤ q → q < 256 → first_of (list_at links (ready_list core q)) ≡ None)
    → (running : Option ℕ) × RunsByLists links core running
find_run links core zero few empty = (None, λ q within. empty q (omega arith) within)
find_run links core (suc n) few empty =
    run_at links core n _ refl (omega (arith, few)) (λ q above within. empty q (omega (arith, above)) within)
    (λ from. find_run links core n (omega (arith, few)) from)

module _ (roster : Roster) (links : Links) (are : AreReadyLists roster links) (places : HavePlaces roster) where
  -- the chosen process runs by the lists
  pub chosen_runs : (core : ℕ) → core < MOST_CORES → RunsByLists links core (chosen roster core)
  chosen_runs core inside =
      let run = find_run links core 256 (omega arith) (λ q above within. absurd (omega (arith, above, within))) in
      subst (λ (o : Option ℕ). RunsByLists links core o) (found_chosen roster links core are places inside run.0 run.1) run.1

  -- an eligible process is in the ready list of its core and current priority
  in_its_list : (p : ℕ) → is_eligible roster.mode (record_at roster p) ≡ true → IsInItsReadyList links p (record_at roster p)
  in_its_list p eligible =
      let r = record_at roster p in
      are.members r.core (current_priority r) p ((places p).core eligible) ((places p).priority eligible)
      ∙ and_from _ _ eligible (and_from _ _ (eq-eqb r.core r.core refl) (eq-eqb (current_priority r) (current_priority r) refl))

  -- one that is not eligible is in none
  in_no_list : (p : ℕ) → is_eligible roster.mode (record_at roster p) ≡ false → IsInNoReadyList links p
  in_no_list p out = λ core priority c k.
      elim (cases_Bool (stands_in p (list_at links (ready_list core priority)))) [
        | inl e ↦ absurd (both_ways _ out (and_parts _ _ (sym (are.members core priority p c k) ∙ e)).0)
        | inr e ↦ e
      ]

module _ (store : Queued) (are : AreListsOfState store) where
  queued_by : (p : ℕ) → ((record_at store.roster p).started ≡ false → queue_in (record_at store.roster p) ≡ None)
      → (started eligible runs : Bool) → (record_at store.roster p).started ≡ started
      → is_eligible store.roster.mode (record_at store.roster p) ≡ eligible
      → IsQueuedAs store.standings.links p (record_at store.roster p) (state_by started eligible runs)
  queued_by p dormant false false runs s e = are.outside p e (dormant s)
  queued_by p dormant false true runs s e = absurd (both_ways _ s (eligible_started store.roster.mode (record_at store.roster p) e))
  queued_by p dormant true false runs s e = in_no_list store.roster store.standings.links are.ready are.places p e
  queued_by p dormant true true true s e = in_its_list store.roster store.standings.links are.ready are.places p e
  queued_by p dormant true true false s e = in_its_list store.roster store.standings.links are.ready are.places p e

  -- each process, which waits in no queue if it is dormant, is in the lists of its state
  pub queued_as : (p : ℕ) → ((record_at store.roster p).started ≡ false → queue_in (record_at store.roster p) ≡ None)
      → IsQueuedAs store.standings.links p (record_at store.roster p) (process_state store.roster p)
  queued_as p dormant = queued_by p dormant _ _ (is_process p (chosen store.roster (record_at store.roster p).core)) refl refl

  -- and in one queue at the most
  pub in_one_queue : (p : ℕ) → IsInOneQueue store.standings.links p (record_at store.roster p)
  in_one_queue p = record {
    one = are.apart p;
    waits = λ queue e. are.waiting.members queue p (numbered queue e) ∙ e;
  } where
    -- there is a list for the queue in which it waits
    numbered : (queue : Queue) → waits_in queue (record_at store.roster p) ≡ true → IsNumbered queue
    numbered queue e =
        let r = record_at store.roster p in
        let is = queue_is queue r e in
        elim (cases_Bool (is_eligible store.roster.mode r)) [
          | inl eligible ↦ absurd (none-some queue (sym (no_queue store.roster.mode r eligible) ∙ is))
          | inr out ↦ (are.places p).queue out queue is
        ]
