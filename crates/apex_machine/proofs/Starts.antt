-- The order of starts: changes of single processes keep it.
use Rattle.std.proofs.Common.{◌≡◌, ℕ, ◌<◌, ◌&&◌, Bool, true, false, Option, None, Some, is_none, length, refl, sym, ◌∙◌, ap}
use Rattle.std.proofs.lemmas.Bool.{and_parts, both_ways, eqb-true, eq-eqb}
use Rattle.std.proofs.lemmas.Option.{none-some, same_Some}
use Rattle.apex_machine.specs.Terms.{Mode, Queue, Record, Wait}
use Rattle.apex_machine.specs.declared.records.Queue.TheVariants as queues
use Rattle.apex_machine.specs.declared.records.Wait.TheVariants.{Normal}
use Rattle.apex_types.specs.Modes.{is_normal}
use Rattle.apex_machine.specs.processes.Roster.{Roster, nobody, record_at}
use Rattle.apex_machine.specs.processes.Running.{is_eligible, chosen, runs_on, is_before}
use Rattle.apex_machine.specs.processes.Periods.{awaits_first}
use Rattle.apex_machine.specs.processes.Stamps.{HasOrderlyStarts, is_free, may_wait, set_step}
use Rattle.apex_machine.specs.services.Callers.{IsReady}
use Rattle.apex_machine.proofs.Rosters.{at_record}
use Rattle.std.proofs.lemmas.List.{length-set}
use Rattle.apex_machine.specs.processes.Queues.{is_queue, is_same_queue}
use Rattle.apex_machine.specs.processes.Waiters.{queue_in, waits_in, waits_before, discipline_of, first_waiter}
use Rattle.apex_machine.proofs.Choice.{place_passes, place_within}

-- the order of starts, of one record
pub record IsOrderlyIn (mode : Mode) (r : Record) : Type 0 where
  pub dormant : r.started ≡ false → r.wait ≡ None
  pub early : is_normal mode ≡ false → r.started ≡ true → queue_in r ≡ Some queues.Normal
  pub undue : is_normal mode ≡ false → r.due ≡ None

pub orderly_at : (roster : Roster) → HasOrderlyStarts roster → (p : ℕ) → IsOrderlyIn roster.mode (record_at roster p)
orderly_at roster orderly p = record {
  dormant = orderly.dormant p;
  early = λ e. orderly.early e p;
  undue = λ e. orderly.undue e p;
}

pub orderly_all : (roster : Roster) → ((p : ℕ) → IsOrderlyIn roster.mode (record_at roster p)) → HasOrderlyStarts roster
orderly_all roster all = record {
  dormant = λ p. (all p).dormant;
  early = λ e p. (all p).early e;
  undue = λ e p. (all p).undue e;
}

-- a process that is eligible is started, and waits for nothing, in NORMAL
pub record IsRunnable (mode : Mode) (r : Record) : Type 0 where
  pub normal : is_normal mode ≡ true
  pub started : r.started ≡ true
  pub free : r.wait ≡ None

is_none_none : (wait : Option Wait) → is_none wait ≡ true → wait ≡ None
is_none_none None e = refl
is_none_none (Some w) e = cc

pub runnable : (mode : Mode) (r : Record) → is_eligible mode r ≡ true → IsRunnable mode r
runnable mode r e =
    let free = and_parts (is_normal mode && r.started && is_none r.suspended) (is_none r.wait) e in
    let active = and_parts (is_normal mode && r.started) (is_none r.suspended) free.0 in
    let begun = and_parts (is_normal mode) r.started active.0 in
    record { normal = begun.0; started = begun.1; free = is_none_none r.wait free.1 }

-- it may begin to wait
pub eligible_may_wait : (mode : Mode) (r : Record) → is_eligible mode r ≡ true → may_wait r ≡ true
eligible_may_wait mode r e = let is = runnable mode r e in rw (is.started, is.free)

-- no process is eligible before NORMAL
pub early_ineligible : (mode : Mode) (r : Record) → is_normal mode ≡ false → is_eligible mode r ≡ false
early_ineligible mode r e = rw e

-- a process that is ready stays so at its next step
pub ready_step : (roster : Roster) (p step : ℕ) → IsReady roster p → IsReady (set_step roster p step) p
ready_step roster p step ready =
    let r : Record = record (record_at roster p) { step = step } in
    record { known = rw (length-set roster.records p r) ready.known; eligible = rw (at_record roster p ready.known r) ready.eligible }

-- the chosen process of a core is ready
pub chosen_ready : (roster : Roster) (core p : ℕ) → chosen roster core ≡ Some p → IsReady roster p
unfolding runs_on
chosen_ready roster core p e = record {
  known = place_within (runs_on roster.mode core) is_before roster.records p e;
  eligible = (and_parts _ _ (place_passes (runs_on roster.mode core) is_before roster.records p nobody e)).0;
}

-- and bound to it
pub chosen_core : (roster : Roster) (core p : ℕ) → chosen roster core ≡ Some p → (record_at roster p).core ≡ core
unfolding runs_on
chosen_core roster core p e =
    eqb-true _ _ (and_parts _ _ (place_passes (runs_on roster.mode core) is_before roster.records p nobody e)).1

-- a process that waits for nothing is in no queue
pub waitless_queue : (r : Record) (q : Queue) → r.wait ≡ None → queue_in r ≡ Some q → ⊥
waitless_queue r q free is = none-some q (rw free at is)

-- two queues that are the same are equal
pub same_queue : (q r : Queue) → is_same_queue q r ≡ true → q ≡ r
same_queue queues.Normal queues.Normal e = refl
same_queue (queues.Semaphore s) (queues.Semaphore t) e = ap queues.Semaphore (eqb-true s t e)
same_queue (queues.Buffer b) (queues.Buffer c) e = ap queues.Buffer (eqb-true b c e)
same_queue (queues.Blackboard b) (queues.Blackboard c) e = ap queues.Blackboard (eqb-true b c e)
same_queue (queues.EventFlag s) (queues.EventFlag t) e = ap queues.EventFlag (eqb-true s t e)
same_queue (queues.Mutex m) (queues.Mutex n) e = ap queues.Mutex (eqb-true m n e)
same_queue _ _ e = cc

pub queue_itself : (q : Queue) → is_same_queue q q ≡ true
queue_itself queues.Normal = refl
queue_itself (queues.Semaphore s) = eq-eqb s s refl
queue_itself (queues.Buffer b) = eq-eqb b b refl
queue_itself (queues.Blackboard b) = eq-eqb b b refl
queue_itself (queues.EventFlag e) = eq-eqb e e refl
queue_itself (queues.Mutex m) = eq-eqb m m refl

is_queue_some : (q : Queue) (found : Option Queue) → is_queue q found ≡ true → found ≡ Some q
is_queue_some q None e = cc
is_queue_some q (Some r) e = ap Some (sym (same_queue q r e))

pub stands_in : (q : Queue) (r : Record) → waits_in q r ≡ true → queue_in r ≡ Some q
unfolding waits_in
stands_in q r e = is_queue_some q (queue_in r) e

pub waits_there : (q : Queue) (r : Record) → queue_in r ≡ Some q → waits_in q r ≡ true
unfolding waits_in
waits_there q r e = rw e (queue_itself q)

-- the first waiter of a queue waits in it
pub first_waits : (roster : Roster) (q : Queue) (p : ℕ) → first_waiter roster q ≡ Some p → waits_in q (record_at roster p) ≡ true
first_waits roster q p e = place_passes (waits_in q) (waits_before (discipline_of roster q)) roster.records p nobody e

pub first_stands : (roster : Roster) (q : Queue) (p : ℕ) → first_waiter roster q ≡ Some p → queue_in (record_at roster p) ≡ Some q
first_stands roster q p e =
    stands_in q (record_at roster p) (first_waits roster q p e)

pub first_within : (roster : Roster) (q : Queue) (p : ℕ) → first_waiter roster q ≡ Some p → p < length roster.records
first_within roster q p e = place_within (waits_in q) (waits_before (discipline_of roster q)) roster.records p e

-- a process in a queue is started
waiter_started : (r : Record) (started : Bool) → r.started ≡ started → (r.started ≡ false → r.wait ≡ None) → (q : Queue) → queue_in r ≡ Some q → started ≡ true
waiter_started r true is dormant q e = refl
waiter_started r false is dormant q e = absurd (none-some q (rw (dormant is) at e))

pub queued_started : (roster : Roster) → HasOrderlyStarts roster → (p : ℕ) (q : Queue) → queue_in (record_at roster p) ≡ Some q → (record_at roster p).started ≡ true
queued_started roster orderly p q e = waiter_started (record_at roster p) (record_at roster p).started refl (orderly.dormant p) q e

-- a process in the queue of those that wait for NORMAL may begin another wait
pub normal_free : (wait : Option Wait) → queue_in (record nobody { wait = wait }) ≡ Some queues.Normal → is_free wait ≡ true
normal_free (Some (Normal delay)) e = refl
normal_free _ e = cc

pub first_may_wait : (roster : Roster) → HasOrderlyStarts roster → (p : ℕ) → first_waiter roster queues.Normal ≡ Some p → may_wait (record_at roster p) ≡ true
first_may_wait roster orderly p e =
    let stands = first_stands roster queues.Normal p e in
    rw (queued_started roster orderly p queues.Normal stands, normal_free _ stands)

-- before NORMAL no process is in another queue
pub queued_normal : (roster : Roster) → HasOrderlyStarts roster → (p : ℕ) (q : Queue) → queue_in (record_at roster p) ≡ Some q
    → is_same_queue queues.Normal q ≡ false → is_normal roster.mode ≡ false → ⊥
queued_normal roster orderly p q e apart early =
    let started = queued_started roster orderly p q e in
    let normal = same_Some queues.Normal q (sym (orderly.early early p started) ∙ e) in
    both_ways _ apart (ap (is_same_queue queues.Normal) (sym normal))

-- a process in that queue awaits its first release
normal_first : (wait : Option Wait) → queue_in (record nobody { wait = wait }) ≡ Some queues.Normal → awaits_first wait ≡ true
normal_first (Some (Normal delay)) e = refl
normal_first _ e = cc

pub first_awaits : (roster : Roster) (p : ℕ) → first_waiter roster queues.Normal ≡ Some p → awaits_first (record_at roster p).wait ≡ true
first_awaits roster p e = normal_first (record_at roster p).wait (first_stands roster queues.Normal p e)
