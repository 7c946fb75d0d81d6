-- Each list is that of one core and priority, or of one queue.
use Rattle.std.proofs.Common.{◌≡◌, ◌≢◌, ℕ, ◌+◌, ◌*◌, ◌<◌, ◌≤◌, true, false, ◌&&◌, length, Option, None, Some, inl, inr, refl, ap, sym, ◌∙◌, arith}
use Rattle.std.specs.Prelude.{◌==◌}
use Rattle.std.specs.Option.{option_and_then}
use Rattle.std.proofs.lemmas.Bool.{cases_eq, cases_Bool, cases_lt, and_parts, false≢true}
use Rattle.std.proofs.lemmas.List.{get_or_past}
use Rattle.std.proofs.lemmas.Option.{none-some, same_Some}
use Rattle.apex_types.specs.declared.limits.TheConstants.{MOST_CORES}
use Rattle.apex_types.specs.declared.modes.Mode.{Mode}
use Rattle.apex_machine.specs.declared.records.Queue.{Queue}
use Rattle.apex_machine.specs.declared.records.Record.{Record}
use Rattle.apex_machine.specs.declared.records.Wait.{Wait}
use Rattle.apex_machine.specs.declared.records.Queue.TheVariants as queues
use Rattle.apex_machine.specs.processes.Queues.{queue_of, is_queue, is_same_queue}
use Rattle.apex_types.specs.Modes.{is_normal}
use Rattle.apex_machine.specs.processes.Roster.{Roster, nobody}
use Rattle.apex_machine.specs.processes.Running.{current_priority, is_eligible, IsEligible}
use Rattle.apex_machine.specs.processes.Waiters.{queue_in, waits_in}
use Rattle.apex_machine.proofs.Starts.{runnable, same_queue}
use Rattle.apex_links.specs.declared.numbers.TheConstants.{ID_PLACES, PRIORITIES, QUEUE_LISTS, READY_LISTS}
use Rattle.apex_ready.specs.ReadyOrders.{ready_list}
use Rattle.apex_waitq.specs.WaitQueues.{queue_place, wait_list, IsNumbered}
use Rattle.apex_process.specs.Lists.{discipline_in, is_list, list_for, list_of, queue_list, HasPlace}

differ : (x y : ℕ) → x ≢ y → (x == y) ≡ false
differ x y apart = grind (arith, apart)

shifted : (k s t : ℕ) → (k + s == k + t) ≡ (s == t)
shifted k s t = elim (cases_eq s t) as (λ _. (k + s == k + t) ≡ (s == t)) [
  | inl e ↦ rw e (grind arith)
  | inr apart ↦ differ (k + s) (k + t) (λ e. apart (omega (arith, e))) ∙ sym (differ s t apart)
]

-- two queues have one list exactly if they are the same
pub same_wait_list : (a b : Queue) → IsNumbered a → IsNumbered b → (wait_list a == wait_list b) ≡ is_same_queue a b
same_wait_list queues.Normal queues.Normal i j = refl
same_wait_list (queues.Semaphore s) (queues.Semaphore t) i j = shifted READY_LISTS (ID_PLACES + s) (ID_PLACES + t) ∙ shifted ID_PLACES s t
same_wait_list (queues.Buffer s) (queues.Buffer t) i j = shifted READY_LISTS (2 * ID_PLACES + s) (2 * ID_PLACES + t) ∙ shifted (2 * ID_PLACES) s t
same_wait_list (queues.Blackboard s) (queues.Blackboard t) i j = shifted READY_LISTS (3 * ID_PLACES + s) (3 * ID_PLACES + t) ∙ shifted (3 * ID_PLACES) s t
same_wait_list (queues.EventFlag s) (queues.EventFlag t) i j = shifted READY_LISTS (4 * ID_PLACES + s) (4 * ID_PLACES + t) ∙ shifted (4 * ID_PLACES) s t
same_wait_list (queues.Mutex s) (queues.Mutex t) i j = shifted READY_LISTS (5 * ID_PLACES + s) (5 * ID_PLACES + t) ∙ shifted (5 * ID_PLACES) s t
same_wait_list _ _ i j = differ _ _ (λ e. omega (arith, e, i, j))

pub place_below : (q : Queue) → IsNumbered q → queue_place q < QUEUE_LISTS
place_below queues.Normal i = omega arith
place_below _ i = omega (arith, i)

-- an eligible process waits in no queue
pub none_waits : (mode : Mode) (r : Record) → is_eligible mode r ≡ true → r.wait ≡ None
none_waits mode r e = (runnable mode r e).free

pub no_queue : (mode : Mode) (r : Record) → is_eligible mode r ≡ true → queue_in r ≡ None
no_queue mode r e = ap (λ (w : Option Wait). option_and_then queue_of w) (none_waits mode r e)

pub listed_ready : (mode : Mode) (r : Record) → is_eligible mode r ≡ true → list_for mode r ≡ Some (ready_list r.core (current_priority r))
listed_ready mode r e = rw e refl

pub listed_waiting : (mode : Mode) (r : Record) → is_eligible mode r ≡ false → list_for mode r ≡ queue_list (queue_in r)
listed_waiting mode r e = rw e refl

nobody_waits : (mode : Mode) → is_eligible mode nobody ≡ true → false ≡ true
nobody_waits mode e = (and_parts (is_normal mode) false (and_parts (is_normal mode && false) true (and_parts ((is_normal mode && false) && true) true e).0).0).1

-- an eligible process is one of the roster, and so is a process in a list
pub eligible_known : (roster : Roster) (p : ℕ) → IsEligible roster p → p < length roster.records
eligible_known roster p e = elim (cases_lt p (length roster.records)) [
  | inl within ↦ within
  | inr past ↦ absurd (false≢true (nobody_waits roster.mode (rw (get_or_past roster.records p nobody past) at e)))
]

nobody_listed : (mode : Mode) → list_for mode nobody ≡ None
nobody_listed mode = elim (cases_Bool (is_eligible mode nobody)) [
  | inl e ↦ absurd (false≢true (nobody_waits mode e))
  | inr e ↦ listed_waiting mode nobody e
]

pub listed_known : (roster : Roster) (p l : ℕ) → list_of roster p ≡ Some l → p < length roster.records
listed_known roster p l e = elim (cases_lt p (length roster.records)) [
  | inl within ↦ within
  | inr past ↦ absurd (none-some l (sym (nobody_listed roster.mode) ∙ rw (get_or_past roster.records p nobody past) at e))
]

-- a list of a queue is no ready list
above_ready : (o : Option Queue) (l : ℕ) → queue_list o ≡ Some l → READY_LISTS ≤ l
above_ready None l e = absurd (none-some l e)
above_ready (Some q) l e = let is = same_Some (wait_list q) l e in omega (arith, is)

pub waiting_above : (mode : Mode) (r : Record) (l : ℕ) → is_eligible mode r ≡ false → list_for mode r ≡ Some l → READY_LISTS ≤ l
waiting_above mode r l out e = above_ready (queue_in r) l (sym (listed_waiting mode r out) ∙ e)

pub ready_below : (mode : Mode) (r : Record) (l : ℕ) → HasPlace mode r → is_eligible mode r ≡ true → list_for mode r ≡ Some l → l < READY_LISTS
ready_below mode r l place e is =
    let same = same_Some _ _ (sym (listed_ready mode r e) ∙ is) in
    omega (arith, same, place.core e, place.priority e)

same_queues : (a b : Option Queue) (l : ℕ) → ((q : Queue) → a ≡ Some q → IsNumbered q) → ((q : Queue) → b ≡ Some q → IsNumbered q)
    → queue_list a ≡ Some l → queue_list b ≡ Some l → a ≡ b
same_queues None b l i j e f = absurd (none-some l e)
same_queues (Some q) None l i j e f = absurd (none-some l f)
same_queues (Some q) (Some r) l i j e f =
    let here = same_Some (wait_list q) l e in
    let there = same_Some (wait_list r) l f in
    let one : (wait_list q == wait_list r) ≡ true = grind (arith, here, there) in
    ap Some (same_queue q r (sym (same_wait_list q r (i q refl) (j r refl)) ∙ one))

-- two processes of one list wait in one queue, or in none
pub one_queue : (mode : Mode) (r s : Record) (l : ℕ) → HasPlace mode r → HasPlace mode s → list_for mode r ≡ Some l → list_for mode s ≡ Some l → queue_in r ≡ queue_in s
one_queue mode r s l place place' e f = elim (cases_Bool (is_eligible mode r)) [
  | inl ready ↦ elim (cases_Bool (is_eligible mode s)) [
    | inl ready' ↦ no_queue mode r ready ∙ sym (no_queue mode s ready')
    | inr out ↦ absurd (omega (arith, ready_below mode r l place ready e, waiting_above mode s l out f))
  ]
  | inr out ↦ elim (cases_Bool (is_eligible mode s)) [
    | inl ready' ↦ absurd (omega (arith, ready_below mode s l place' ready' f, waiting_above mode r l out e))
    | inr out' ↦ same_queues (queue_in r) (queue_in s) l (place.queue out) (place'.queue out') (sym (listed_waiting mode r out) ∙ e) (sym (listed_waiting mode s out') ∙ f)
  ]
]

-- the processes of the ready list of a core and a priority
two_numbers : (core priority c k : ℕ) → priority < PRIORITIES → k < PRIORITIES → (ready_list core priority == ready_list c k) ≡ (c == core && k == priority)
two_numbers core priority c k low low' = elim (cases_eq c core) as (λ _. (ready_list core priority == ready_list c k) ≡ (c == core && k == priority)) [
  | inl e ↦ elim (cases_eq k priority) as (λ _. (ready_list core priority == ready_list c k) ≡ (c == core && k == priority)) [
    | inl f ↦ rw (e, f) (grind arith)
    | inr other ↦ differ _ _ (λ g. other (omega (arith, g, e))) ∙ sym (rw e (grind (arith, other)))
  ]
  | inr other ↦ differ _ _ (λ g. other (omega (arith, g, low, low'))) ∙ sym (rw (differ c core other) refl)
]

pub in_no_ready : (o : Option Queue) (l : ℕ) → l < READY_LISTS → is_list l (queue_list o) ≡ false
in_no_ready None l low = refl
in_no_ready (Some q) l low = differ l (wait_list q) (λ e. omega (arith, e, low))

pub in_ready_list : (mode : Mode) (r : Record) (core priority : ℕ) → HasPlace mode r → core < MOST_CORES → priority < PRIORITIES
    → is_list (ready_list core priority) (list_for mode r) ≡ (is_eligible mode r && (r.core == core && current_priority r == priority))
in_ready_list mode r core priority place c k = elim (cases_Bool (is_eligible mode r)) as (λ _. is_list (ready_list core priority) (list_for mode r) ≡ (is_eligible mode r && (r.core == core && current_priority r == priority))) [
  | inl e ↦ rw e (two_numbers core priority r.core (current_priority r) k (place.priority e))
  | inr e ↦ rw e (in_no_ready (queue_in r) (ready_list core priority) (omega (arith, c, k)))
]

-- the processes of the list of a queue
in_queue : (o : Option Queue) (queue : Queue) → ((q : Queue) → o ≡ Some q → IsNumbered q) → IsNumbered queue → is_list (wait_list queue) (queue_list o) ≡ is_queue queue o
in_queue None queue i j = refl
in_queue (Some q) queue i j = same_wait_list queue q j (i q refl)

waits_is : (queue : Queue) (r : Record) → waits_in queue r ≡ is_queue queue (queue_in r)
unfolding waits_in
waits_is queue r = refl

pub in_wait_list : (mode : Mode) (r : Record) (queue : Queue) → HasPlace mode r → IsNumbered queue → is_list (wait_list queue) (list_for mode r) ≡ waits_in queue r
in_wait_list mode r queue place i = elim (cases_Bool (is_eligible mode r)) [
  | inl e ↦ ap (is_list (wait_list queue)) (listed_ready mode r e) ∙ differ (wait_list queue) (ready_list r.core (current_priority r)) (λ g. omega (arith, g, place.core e, place.priority e))
      ∙ sym (waits_is queue r ∙ ap (is_queue queue) (no_queue mode r e))
  | inr e ↦ ap (is_list (wait_list queue)) (listed_waiting mode r e) ∙ in_queue (queue_in r) queue (place.queue e) i ∙ sym (waits_is queue r)
]

-- the discipline of a queue is the table's
pub discipline_same : (old new : Roster) → new.disciplines ≡ old.disciplines → (o : Option Queue) → discipline_in new o ≡ discipline_in old o
discipline_same old new e (Some (queues.Semaphore s)) = rw e refl
discipline_same old new e (Some (queues.Buffer b)) = rw e refl
discipline_same old new e (Some (queues.Mutex m)) = rw e refl
discipline_same old new e _ = refl
