-- Semaphores: the facts that their services keep, and the effect of an entry on their values.
use Rattle.std.proofs.Common.{◌≡◌, ℕ, ◌+◌, ◌-◌, ◌<◌, ◌≤◌, true, cond, if◌then◌else◌, not, nat_lt, List, [], ◌∷◌, ◌++◌, Option, None, Some, count_by, refl, ◌∙◌, ap, arith, inl}
use Rattle.std.proofs.lemmas.Bool.{cond_both, eq-eqb, ltb-false, ltb-true, not-false}
use Rattle.std.proofs.lemmas.List.Elements.{All-nil, All-cons}
use Rattle.std.proofs.lemmas.List.Sums.{sum_by-append}
use Rattle.apex_laws.specs.Terms.{Call, Entry, Queue, SemaphoreService, Timeout, Wait as ForWhat}
use Rattle.apex_types.specs.declared.calls.Call.TheVariants as call
use Rattle.apex_types.specs.declared.entries.Caller.TheVariants.{Process}
use Rattle.apex_types.specs.declared.calls.Named.TheVariants.{Known}
use Rattle.apex_types.specs.declared.calls.ObjectCall.TheVariants.{Create, KindService}
use Rattle.apex_machine.specs.declared.records.Queue.TheVariants as queues
use Rattle.apex_types.specs.declared.entries.Reply.TheVariants.{Code}
use Rattle.apex_types.specs.declared.entries.ReturnCode.TheVariants.{NoError}
use Rattle.apex_types.specs.declared.calls.SemaphoreService.TheVariants.{Wait, Signal}
use Rattle.apex_machine.specs.declared.records.Wait.TheVariants.{Semaphore}
use Rattle.apex_types.specs.Calls.{object_of}
use Rattle.apex_machine.specs.services.Calls.{created_semaphore, names, is_wait, is_signal}
use Rattle.apex_machine.specs.processes.Queues.{queue_of}
use Rattle.apex_machine.specs.services.Callers.{IsReady}
use Rattle.apex_machine.specs.processes.Owners.{is_waiting_owner}
use Rattle.apex_machine.specs.processes.Roster.{Roster}
use Rattle.apex_machine.specs.services.Rows.{Outcome, accepted, accepted_with}
use Rattle.apex_machine.specs.services.SemaphoreServices.{SemaphoreObject, semaphore_kind, semaphore_service, signal_to}
use Rattle.apex_machine.specs.table.Table.{SemaphoreConfig, no_semaphore}
use Rattle.apex_machine.specs.processes.Waiters.{first_waiter}
use Rattle.apex_machine.specs.services.Waiting.{wait_for}
use Rattle.apex_machine.specs.services.Waking.{granted}
use Rattle.apex_machine.proofs.Rows.{by_caller}
use Rattle.apex_machine.proofs.Waking.{none_waits, reach_granted}
use Rattle.apex_laws.specs.AskedWaits.{Accounts, AreHeldBack, begins}
use Rattle.apex_laws.proofs.AskedWaits.{asks_freed, awaits_at, first_awaits, frees_granted, held_nobody, held_still, still_freed}
use Rattle.apex_laws.proofs.Satisfied.{begins_wait, filter_all, handed_one, names_begun, woken_alone}
use Rattle.apex_laws.proofs.Serving.{few, serves_same}
use Rattle.apex_laws.proofs.ObjectsServe.{LawsOf, then_some}
use Rattle.apex_laws.proofs.Truths.{or_false, other}
use Rattle.apex_laws.proofs.WaitedServe.{Before, KeepsWaited, Served, Waited, after_calls, calls_before, guard, object_before, served_alone, served_refused, served_waiting, waited_laws}

-- the wait in the queue of semaphore s
semaphore_wait : (s : ℕ) (w : ForWhat) → queue_of w ≡ Some (queues.Semaphore s) → w ≡ Semaphore s
semaphore_wait s (Semaphore t) is = let same : t ≡ s = cc in ap Semaphore same
semaphore_wait s _ is = cc

-- a value that accounts for calls, after some more of them
pub accounts_more : (initial v after : ℕ) (calls more : List Call) → Accounts initial calls v
    → after + count_by is_wait more ≡ v + count_by is_signal more
    → Accounts initial (calls ++ more) after
accounts_more initial v after calls more accounts balance =
    let waits = sum_by-append (λ (c : Call). if is_wait c then 1 else 0) calls more in
    let signals = sum_by-append (λ (c : Call). if is_signal c then 1 else 0) calls more in
    omega (arith, waits, signals, accounts, balance)

-- the value of a semaphore accounts for all its satisfied calls, and is at most its maximum
pub record HoldsSemaphore (entry : SemaphoreConfig) (calls : List Call) (v : ℕ) : Type 0 where
  pub enough : Accounts entry.initial calls v
  pub bounded : v ≤ entry.maximum

pub accounted : (entry : SemaphoreConfig) (calls : List Call) (v : ℕ) → HoldsSemaphore entry calls v
    → entry.initial + count_by is_signal calls - count_by is_wait calls ≡ v
accounted entry calls v holds = omega (arith, holds.enough)

-- a process that waits for a semaphore waits while its value is 0
abbrev pub waited_semaphore : Waited semaphore_kind
waited_semaphore = record {
  V = ℕ;
  to = call.Semaphore;
  creation = created_semaphore;
  nothing = no_semaphore;
  queue = queues.Semaphore;
  value = λ entry calls. entry.initial + count_by is_signal calls - count_by is_wait calls;
  Holds = HoldsSemaphore;
  Lacks = λ entry v w. v ≡ 0;
  object = λ entry created v. record { maximum = entry.maximum; created = created; value = v };
  reads = accounted;
  after = λ history s entry. refl;
  made = λ entry created v. refl;
  created = λ call. refl;
  named = λ call. then_some queues.Semaphore (object_of call);
  differs = other;
  unlike = λ s m. refl;
  apart = λ s. refl;
  new = λ s entry calls v holds. record {
    enough = accounts_more entry.initial v v calls (call.Semaphore (Create (Known s)) ∷ []) holds.enough refl;
    bounded = holds.bounded;
  };
  status = λ roster x s. refl;
}

abbrev pub KeepsSemaphore : Roster → List Entry → ℕ → SemaphoreConfig → Type 0
KeepsSemaphore = KeepsWaited waited_semaphore

module _ (here : Before waited_semaphore) where
  abbrev roster : Roster
  roster = here.roster

  abbrev s : ℕ
  s = here.i

  abbrev queue : Queue
  queue = queues.Semaphore s

  abbrev semaphore : SemaphoreObject
  semaphore = object_before waited_semaphore here

  abbrev asks_for : SemaphoreService → Call
  asks_for service = call.Semaphore (KindService s service)

  -- no process of this roster waits for the semaphore although it could take it at this value
  abbrev HoldsBack : ℕ → Roster → Type 0
  HoldsBack v = AreHeldBack (waited_semaphore.Lacks here.c v) queue

  abbrev Serves : SemaphoreService → Outcome SemaphoreObject → Type 0
  Serves service o = Served waited_semaphore here service o

  -- an accepted call that wakes no process
  served_accepted : (service : SemaphoreService) (v : ℕ)
      → v + count_by is_wait (asks_for service ∷ []) ≡ semaphore.value + count_by is_signal (asks_for service ∷ [])
      → v ≤ here.c.maximum → HoldsBack v roster → Serves service (accepted roster (record semaphore { value = v }) [])
  served_accepted service v balance below held =
      served_alone waited_semaphore here service roster (Code NoError) v refl (serves_same roster here.caller _ _)
      (record {
        enough = accounts_more here.c.initial semaphore.value v (calls_before waited_semaphore here) (asks_for service ∷ []) here.keeps.holds.enough balance;
        bounded = below;
      })
      held

  -- a wait, by its process
  served_wait : (p : ℕ) → here.caller ≡ Process p → IsReady roster p → (timeout : Timeout)
      → Serves (Wait timeout) (cond (nat_lt 0 semaphore.value) (accepted roster (record semaphore { value = semaphore.value - 1 }) [])
      (wait_for roster semaphore p (Semaphore s) timeout))
  served_wait p by ready timeout =
      cond_both {A = Outcome SemaphoreObject} (nat_lt 0 semaphore.value) _ _ (Serves (Wait timeout))
      (λ positive.
      let more : 0 < semaphore.value = ltb-true 0 _ positive in
      served_accepted (Wait timeout) (semaphore.value - 1)
      (omega (arith, more)) (omega (arith, here.keeps.holds.bounded))
      (λ q w waits is. let none : semaphore.value ≡ 0 = here.keeps.held q w waits is in omega (arith, more, none)))
      (λ used_up.
      let least : semaphore.value ≤ 0 = ltb-false 0 _ used_up in
      served_waiting waited_semaphore here p by ready (Wait timeout) (Semaphore s) refl refl (λ m is. cc) (omega (arith, least)) timeout)

  -- a signal that is handed to the first waiter satisfies itself and then that wait
  served_woken : (p : ℕ) → first_waiter roster queue ≡ Some p → Serves Signal (accepted_with semaphore (granted None roster p))
  served_woken p is =
      let signal = asks_for Signal in
      let at = Some queue in
      let first = first_awaits roster queue p refl is in
      let w = first.0 in
      let same : w ≡ Semaphore s = semaphore_wait s w first.1.queued in
      let found = handed_one roster here.history p w here.asked first.1.asked in
      let begun : begins found.0 ≡ Some (Semaphore s) = found.2 ∙ ap Some same in
      let waits = begins_wait found.0 s begun in
      let named_so : names queue found.0 ≡ true = names_begun queue at found.0 (w, found.2, first.1.queued) ∙ eq-eqb s s refl in
      let more = signal ∷ found.0 ∷ [] in
      let after = (granted None roster p).roster in
      let frees = frees_granted None roster p in
      record {
        serves = record {
          arrives = few (reach_granted None roster p queue refl here.scene.starts is);
          asks = asks_freed here.caller (Some signal) roster after frees;
          woken = λ q woken. rw (woken_alone q p woken) (inl (awaits_at first.1));
        };
        read = λ number now who. after_calls waited_semaphore here.history _ s here.c after more semaphore.value semaphore.created
            (rw found.1 (filter_all (names queue) true more
            (All-cons (λ c. names queue c ≡ true) signal (found.0 ∷ []) (eq-eqb s s refl)
            (All-cons (λ c. names queue c ≡ true) found.0 [] named_so (All-nil _)))))
            (or_false semaphore.created)
            (record {
              enough = accounts_more here.c.initial semaphore.value semaphore.value (calls_before waited_semaphore here) more
                  here.keeps.holds.enough (rw (waits.0, waits.1) refl);
              bounded = here.keeps.holds.bounded;
            })
            (held_still (waited_semaphore.Lacks here.c semaphore.value) queue roster after here.keeps.held (still_freed queue roster after frees));
      }

  served_signal : (first : Option ℕ) → first_waiter roster queue ≡ first → Serves Signal (signal_to roster semaphore first)
  served_signal None is =
      guard waited_semaphore here Signal (not (nat_lt semaphore.value here.c.maximum)) _ _ refl (λ less.
      served_accepted Signal (semaphore.value + 1) (omega arith) (omega (arith, ltb-true _ _ (not-false _ less)))
      (held_nobody (waited_semaphore.Lacks here.c (semaphore.value + 1)) queue roster (none_waits roster queue is)))
  served_signal (Some p) is = served_woken p is

  pub served_kind_service : (service : SemaphoreService) → Serves service (semaphore_service roster semaphore s here.caller service)
  served_kind_service (Wait timeout) =
      guard waited_semaphore here (Wait timeout) (not semaphore.created) _ _ refl (λ _.
      guard waited_semaphore here (Wait timeout) (is_waiting_owner roster here.caller timeout) _ _ refl (λ _.
      by_caller roster semaphore (Serves (Wait timeout)) (served_refused waited_semaphore here (Wait timeout)) here.caller _
      (λ p by. served_wait p by (rw by at here.scene.ready) timeout)))
  served_kind_service Signal =
      guard waited_semaphore here Signal (not semaphore.created) _ _ refl (λ _. served_signal (first_waiter roster queue) refl)

-- semaphores are objects of a kind
abbrev pub semaphore_laws : LawsOf semaphore_kind
semaphore_laws = waited_laws waited_semaphore served_kind_service
