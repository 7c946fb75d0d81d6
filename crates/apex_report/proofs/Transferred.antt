-- What each service does to the depths at which processes own a mutex.
use Rattle.std.proofs.Common.{◌≡◌, ℕ, ◌+◌, ◌-◌, ◌≤◌, ◌==◌, ◌&&◌, ◌||◌, Bool, true, false, not, nat_le, nat_lt, List, [], ◌∷◌, ◌++◌, length, map, get_or, zero, suc, Option, None, Some, cond, is_none, is_some, if◌then◌else◌, refl, sym, ◌∙◌, ap, arith, inl, inr}
use Rattle.std.proofs.lemmas.Bool.{both_ways, cases_eq, cond_both, eq-eqb, eqb-true, ltb-false, ne_eqb, or_from}
use Rattle.std.proofs.lemmas.List.Folds.{list_any-append}
use Rattle.std.proofs.lemmas.Option.{none-some}
use Rattle.apex_types.specs.declared.calls.BlackboardService.TheVariants.{Display, Read, Clear}
use Rattle.apex_types.specs.declared.calls.BufferService.TheVariants.{Send, Receive}
use Rattle.apex_types.specs.declared.calls.Call.TheVariants as call
use Rattle.apex_types.specs.declared.calls.CallerCall.TheVariants.{StopSelf, SuspendSelf, GetMyId, GetMyProcessorCoreId}
use Rattle.apex_types.specs.declared.calls.EventFlagService.TheVariants as event_flag
use Rattle.apex_types.specs.declared.calls.MutexService.TheVariants.{Acquire, Release}
use Rattle.apex_types.specs.declared.calls.Named.TheVariants.{Known, Unknown}
use Rattle.apex_types.specs.declared.calls.ObjectCall.TheVariants.{Create, GetId, GetStatus, KindService}
use Rattle.apex_types.specs.declared.calls.PartitionCall.TheVariants.{SetPartitionMode, GetPartitionStatus}
use Rattle.apex_types.specs.declared.calls.ProcessService.TheVariants.{InitializeCoreAffinity, SetPriority, Start, DelayedStart, Stop, Suspend, Resume}
use Rattle.apex_types.specs.declared.calls.RequestedMode.TheVariants as requested
use Rattle.apex_types.specs.declared.calls.SemaphoreService.TheVariants as semaphore
use Rattle.apex_types.specs.declared.calls.TimeCall.TheVariants.{TimedWait, PeriodicWait, Replenish, GetTime}
use Rattle.apex_types.specs.declared.calls.Timeout.TheVariants.{Poll, Ticks, Infinite}
use Rattle.apex_types.specs.declared.entries.Caller.TheVariants.{Process}
use Rattle.apex_types.specs.declared.entries.Notice.TheVariants.{Woken, Released}
use Rattle.apex_types.specs.declared.entries.Reply.TheVariants.{Code, Gone}
use Rattle.apex_types.specs.declared.entries.ReturnCode.TheVariants.{NoError, NotAvailable}
use Rattle.apex_types.specs.declared.limits.TheConstants.{MOST_PRIORITY}
use Rattle.apex_types.specs.declared.modes.Mode.TheVariants.{Normal}
use Rattle.apex_machine.specs.declared.records.Suspender.TheVariants.{Other}
use Rattle.apex_types.specs.Messages.{is_unfit}
use Rattle.apex_types.specs.Modes.{is_normal}
use Rattle.apex_machine.specs.declared.records.Queue.TheVariants as queues
use Rattle.apex_machine.specs.declared.records.Wait.TheVariants as wait
use Rattle.apex_machine.specs.Ticks.{begin_notices}
use Rattle.apex_machine.specs.processes.Dues.{due_after}
use Rattle.apex_machine.specs.processes.Held.{holding_of, with_depth, without}
use Rattle.apex_machine.specs.processes.Owners.{HasOrderlyOwners, ceiling_of, depth_of, is_deepest, is_owner, is_waiting_owner, may_not_wait, owner, owns, owns_most, owns_some, record_of}
use Rattle.apex_machine.specs.processes.Periods.{is_beyond, is_periodic, release_after}
use Rattle.apex_machine.specs.processes.Queues.{is_same_queue}
use Rattle.apex_machine.specs.processes.Roster.{Roster, nobody, record_at, with_record}
use Rattle.apex_machine.specs.processes.Running.{is_eligible}
use Rattle.apex_machine.specs.processes.Stamps as stamps
use Rattle.apex_machine.specs.processes.Waiters.{first_waiter, goes_by_priority, queue_in}
use Rattle.apex_machine.specs.services.Callers.{IsReady, IsReadyCaller, is_by_process}
use Rattle.apex_machine.specs.services.Calls.{names}
use Rattle.apex_machine.specs.services.Handovers.{halted, hand_over}
use Rattle.apex_machine.specs.services.Rows.{Outcome, accepted, accepted_with, answered_with, by_process, refused}
use Rattle.apex_machine.specs.services.Satisfied.{is_accepted, is_no_error}
use Rattle.apex_machine.specs.Deeds.{Objects, service}
use Rattle.apex_machine.specs.services.BlackboardServices.{BlackboardObject, blackboard_kind, blackboard_service, read_shown}
use Rattle.apex_machine.specs.services.BufferServices.{BufferObject, buffer_kind, buffer_service, held_back, is_receiver, receive_first, received, send_last, send_past, take_in}
use Rattle.apex_machine.specs.services.CallerServices as callers
use Rattle.apex_machine.specs.services.EventFlagServices.{EventFlagObject, event_flag_kind, event_flag_service}
use Rattle.apex_machine.specs.services.MutexServices.{MutexObject, acquire_by, acquire_from, mutex_kind, mutex_service, owner_status, release_by}
use Rattle.apex_machine.specs.services.Objects.{ObjectKind, object_deed}
use Rattle.apex_machine.specs.services.PartitionServices as partitions
use Rattle.apex_machine.specs.services.ProcessServices as processes
use Rattle.apex_machine.specs.services.ProcessServices.{process_kind}
use Rattle.apex_machine.specs.services.SemaphoreServices.{SemaphoreObject, semaphore_kind, semaphore_service, signal_to}
use Rattle.apex_machine.specs.services.TimeServices as times
use Rattle.apex_machine.specs.services.Waiting.{wait_for}
use Rattle.apex_machine.specs.services.Waking.{first_in, grant_all, granted}
use Rattle.apex_machine.proofs.Held.{is_held}
use Rattle.apex_machine.proofs.InTurn.{holds_in_turn}
use Rattle.apex_machine.proofs.Replaces.{Replaces, each_stays, replaces_levelled}
use Rattle.apex_machine.proofs.Rows.{by_caller, by_guard}
use Rattle.apex_machine.proofs.Starts.{runnable}
use Rattle.apex_laws.specs.Terms.{BlackboardService, BufferService, Call, Caller, CallerCall, EventFlagService, Holding, Message, MutexService, ObjectCall, PartitionCall, ProcessService, Record, Reply, ReturnCode, SemaphoreService, TimeCall, Timeout, Wait, Who}
use Rattle.apex_laws.proofs.AskedWaits.{all_granted, awaits_at, first_awaits}
use Rattle.apex_laws.proofs.ObjectsServe.{entry_with}
use Rattle.apex_laws.proofs.Satisfied.{AwaitsAt, is_waking, wakes, woken_alone}
use Rattle.apex_laws.proofs.Truths.{and_false, or_true}
use Rattle.apex_report.specs.Jobs.{is_hard_miss_of, is_stop_of}
use Rattle.apex_report.specs.Ownerships.{is_acquire, is_acquired, is_gone, is_release, is_released, is_stopped}
use Rattle.apex_report.specs.Terms.{Entry, Notice, Queue}
use Rattle.apex_report.proofs.Depths.{depth_here, depth_other, gone_here, gone_other, more_here, more_other}
use Rattle.apex_report.proofs.Heirs.{Transfers, for_it}
use Rattle.apex_report.proofs.Holders.{IsUnowned, depth_at, depth_in, is_for_it, misses, none_halted, none_to, owned_readied, passes_halted, passes_hand_over, record_then, waits_at}

-- a call neither stops a process nor acquires or releases a mutex
record IsPlain (c : Call) : Type 0 where
  stop : (s : ℕ) (reply : Reply) → is_stop_of s (Some c) reply ≡ false
  acquire : is_acquire c ≡ false
  release : is_release c ≡ false

-- a call that is not accepted stops no process
abbrev Spares : Call → Type 0
Spares c = (s : ℕ) (reply : Reply) → is_accepted reply ≡ false → is_stop_of s (Some c) reply ≡ false

spares_plain : {c : Call} → IsPlain c → Spares c
spares_plain plain s reply bad = plain.stop s reply

-- a reply is neither NO_ERROR nor the end of its caller
abbrev IsAnswer : Reply → Type 0
IsAnswer reply = (is_accepted reply ≡ false) × (is_gone reply ≡ false)

pub alive_by : (a b c d : Bool) → b ≡ false → c ≡ false → d ≡ false → ((a && b) || (c || d)) ≡ false
alive_by a b c d e f g = rw (e, f, g, and_false a) refl

gone_so : (b : Bool) → ((b && true) || (false || false)) ≡ (b || false)
gone_so true = refl
gone_so false = refl

same_if : (b : Bool) (x : ℕ) → (if b then x else x) ≡ x
same_if true x = refl
same_if false x = refl

not_both : (a b : Bool) → (a ≡ true → b ≡ false) → (a && b) ≡ false
not_both true b h = h refl
not_both false b h = refl

-- the call creates its object
abbrev IsCreation : {W : Type 0} → ObjectCall ℕ W → Type 0
IsCreation (Create named) = Unit {0}
IsCreation _ = ⊥

module _ (m : ℕ) where
  abbrev queue : Queue
  queue = queues.Mutex m

  -- each process owns the mutex as before, none that is woken waited for it, and no deadline is missed
  pub record IsStill (old new : Roster) (told : List Notice) : Type 0 where
    pub depth : (s : ℕ) → depth_at m new s ≡ depth_at m old s
    pub woken : (s : ℕ) → wakes s told ≡ true → waits_at m old s ≡ false
    pub kept : (s : ℕ) → misses m s told ≡ false

  pub transfers_still : (old new : Roster) (e : Entry) → IsStill old new e.notices → ((s : ℕ) → is_stopped s e ≡ false)
      → is_acquired queue e ≡ false → is_released queue e ≡ false → Transfers m old new e
  transfers_still old new e is alive apart unreleased = record {
    depth = λ s.
        is.depth s
        ∙ sym (rw (alive s, not_both (wakes s e.notices) (waits_at m old s) (is.woken s), apart, unreleased)
        (same_if (is_by_process s e.process) (depth_at m old s)));
    taken = λ h. absurd (both_ways _ apart h);
    given = λ h. absurd (both_ways _ unreleased h);
    alive = λ h. absurd (both_ways _ apart h);
  }

  -- changes of single records
  pub still_new : (old new : Roster) → ((s : ℕ) → depth_at m new s ≡ depth_at m old s) → IsStill old new []
  still_new old new depth = record { depth = depth; woken = λ s h. absurd (both_ways false refl h); kept = λ s. refl }

  pub still_none : (roster : Roster) → IsStill roster roster []
  still_none roster = still_new roster roster (λ s. refl)

  abbrev KeepsDepths : Roster → Roster → Type 0
  KeepsDepths old new = (s : ℕ) → depth_at m new s ≡ depth_at m old s

  in_record : (old : Roster) (p : ℕ) (r : Record) → r.owned ≡ (record_at old p).owned → KeepsDepths old (with_record old p r)
  in_record old p r same =
      record_then (λ x y. depth_in m y ≡ depth_in m x) (λ _. refl) old (with_record old p r) p r refl
      (ap (λ owned. depth_of (holding_of m owned)) same)

  in_newest : (old : Roster) (p : ℕ) (r : Record) → r.owned ≡ (record_at old p).owned → KeepsDepths old (stamps.newest old p r)
  in_newest old p r same =
      record_then (λ x y. depth_in m y ≡ depth_in m x) (λ _. refl) old (stamps.newest old p r) p (record r { since = old.young }) refl
      (ap (λ owned. depth_of (holding_of m owned)) same)

  pub in_step : (old : Roster) (p step : ℕ) → KeepsDepths old (stamps.set_step old p step)
  in_step old p step = let r : Record = record (record_at old p) { step = step } in in_record old p r refl

  pub waits_step : (old : Roster) (p step s : ℕ) → waits_at m (stamps.set_step old p step) s ≡ waits_at m old s
  waits_step old p step s =
      let r : Record = record (record_at old p) { step = step } in
      record_then (λ x y. is_for_it m y.wait ≡ is_for_it m x.wait) (λ _. refl) old (stamps.set_step old p step) p r refl refl s

  in_begin : (old : Roster) (p delay : ℕ) → KeepsDepths old (stamps.begin old p delay)
  in_begin old p delay =
      let r = record_at old p in
      cond_both {A = Roster} (delay == 0) (stamps.release old p) (stamps.block old p wait.Start (Some (old.now + delay))) (KeepsDepths old)
      (λ _. owned_readied m old p (stamps.released_at old.now r) refl)
      (λ _. in_newest old p (stamps.waiting r wait.Start (Some (old.now + delay))) refl)

  in_start : (old : Roster) (p delay : ℕ) → KeepsDepths old (stamps.start old p delay)
  in_start old p delay =
      let fresh = with_record old p (stamps.reset (record_at old p)) in
      let first : KeepsDepths old fresh = in_record old p (stamps.reset (record_at old p)) refl in
      cond_both {A = Roster} (is_normal old.mode) (stamps.begin fresh p delay) (stamps.block fresh p (wait.Normal delay) None) (KeepsDepths old)
      (λ _ s. in_begin fresh p delay s ∙ first s)
      (λ _ s. in_newest fresh p (stamps.waiting (record_at fresh p) (wait.Normal delay) None) refl s ∙ first s)

  -- the notices of a start
  begin_quiet : (p delay s : ℕ) → (wakes s (begin_notices p delay) ≡ false) × (misses m s (begin_notices p delay) ≡ false)
  begin_quiet p delay s =
      cond_both {A = List Notice} (delay == 0) (Released p ∷ []) [] (λ told. (wakes s told ≡ false) × (misses m s told ≡ false))
      (λ _. (refl, refl)) (λ _. (refl, refl))

  -- a process that waits for another object
  elsewhere : (r : Record) (other : Queue) → is_same_queue queue other ≡ false → AwaitsAt (Some other) r → is_for_it m r.wait ≡ false
  elsewhere r other apart waits =
      for_it m r.wait (stamps.is_by_itself r.suspended) waits.0 waits.1 ∙ rw (waits.2, apart) refl

  in_granted : (message : Option Message) (old : Roster) (p : ℕ) → KeepsDepths old (granted message old p).roster
  in_granted None old p = owned_readied m old p (stamps.awake (record_at old p)) refl
  in_granted (Some message) old p =
      let got = stamps.receive old p message in
      let r : Record = record (record_at old p) { inbox = Some message } in
      let first : KeepsDepths old got = in_record old p r refl in
      λ s. owned_readied m got p (stamps.awake (record_at got p)) refl s ∙ first s

  granted_told : (message : Option Message) (old : Roster) (p : ℕ) → (granted message old p).notices ≡ Woken p NoError ∷ []
  granted_told None old p = refl
  granted_told (Some message) old p = refl

  still_granted : (message : Option Message) (old : Roster) (p : ℕ) (other : Queue) → is_same_queue queue other ≡ false
      → is_same_queue queues.Normal other ≡ false → first_waiter old other ≡ Some p
      → IsStill old (granted message old p).roster (granted message old p).notices
  still_granted message old p other apart plain is =
      let told = granted_told message old p in
      let waits = first_awaits old other p plain is in
      record {
        depth = in_granted message old p;
        woken = λ s h.
            let same = woken_alone s p (ap (wakes s) (sym told) ∙ h) in
            ap (waits_at m old) same ∙ elsewhere (record_at old p) other apart (awaits_at waits.1);
        kept = λ s. ap (misses m s) told;
      }

  abbrev GrantsAll : Roster → Roster → List Notice → Type 0
  GrantsAll old new told = KeepsDepths old new × ((s : ℕ) → misses m s told ≡ false)

  grants_all : (other : Queue) (message : Option Message) (old : Roster)
      → GrantsAll old (grant_all other message old).roster (grant_all other message old).notices
  unfolding grant_all
  grants_all other message old =
      holds_in_turn (first_in other) (granted message) (GrantsAll old)
      (λ r told p is holds. (
        λ s. in_granted message r p s ∙ holds.0 s,
        λ s.
            list_any-append (is_hard_miss_of s) told (granted message r p).notices
            ∙ or_from _ _ (holds.1 s) (ap (misses m s) (granted_told message r p)),
      ))
      (length old.records) old [] ((λ s. refl), (λ s. refl))

  still_all : (other : Queue) (message : Option Message) (old : Roster) → is_same_queue queue other ≡ false → is_same_queue queues.Normal other ≡ false
      → IsStill old (grant_all other message old).roster (grant_all other message old).notices
  still_all other message old apart plain =
      let all = grants_all other message old in
      record {
        depth = all.0;
        woken = λ s h. elsewhere (record_at old s) other apart ((all_granted other message plain old).waited s h);
        kept = all.1;
      }

  module _ (old : Roster) (caller : Caller) (number now : ℕ) (who : Who) where
    -- the outcome of the caller's call transfers the mutex so
    abbrev pub TransfersBy : {X : Type 0} → Call → Outcome X → Type 0
    TransfersBy c o = Transfers m old o.roster (entry_with number now who caller c o.reply o.notices)

    by_plain : (c : Call) → IsPlain c → {new : Roster} {reply : Reply} {told : List Notice} → IsStill old new told → is_gone reply ≡ false
        → Transfers m old new (entry_with number now who caller c reply told)
    by_plain c plain {new} {reply} {told} is stays =
        transfers_still old new (entry_with number now who caller c reply told) is
        (λ s. alive_by (is_by_process s caller) (is_gone reply) (is_stop_of s (Some c) reply) (misses m s told) stays (plain.stop s reply) (is.kept s))
        (rw (plain.acquire, and_false (names queue c)) refl)
        (rw (plain.release, and_false (names queue c)) refl)

    by_answer : (c : Call) → Spares c → {new : Roster} {reply : Reply} {told : List Notice} → IsStill old new told → IsAnswer reply
        → Transfers m old new (entry_with number now who caller c reply told)
    by_answer c spares {new} {reply} {told} is answer =
        transfers_still old new (entry_with number now who caller c reply told) is
        (λ s. alive_by (is_by_process s caller) (is_gone reply) (is_stop_of s (Some c) reply) (misses m s told) answer.1
        (spares s reply answer.0) (is.kept s))
        (rw (answer.0, and_false (names queue c && is_acquire c)) refl)
        (rw (answer.0, and_false (names queue c && is_release c)) refl)

    by_refusal : {X : Type 0} (c : Call) → Spares c → (x : X) (code : ReturnCode) → is_no_error code ≡ false → TransfersBy c (refused old x code)
    by_refusal c spares x code bad = by_answer c spares (still_none old) (bad, refl)

    guard : {X : Type 0} (c : Call) → Spares c → (x : X) (holds : Bool) (code : ReturnCode) (rest : Outcome X) → is_no_error code ≡ false
        → (holds ≡ false → TransfersBy c rest) → TransfersBy c (cond holds (refused old x code) rest)
    guard c spares x = by_guard old x (TransfersBy c) (by_refusal c spares x)

    of_caller : {X : Type 0} (c : Call) → Spares c → (x : X) (effect : ℕ → Outcome X) → ((p : ℕ) → caller ≡ Process p → TransfersBy c (effect p))
        → TransfersBy c (by_process old x caller effect)
    of_caller c spares x effect serves = by_caller old x (TransfersBy c) (by_refusal c spares x) caller effect serves

    -- a process begins to wait for another thing
    by_waiting : {X : Type 0} (c : Call) → Spares c → (x : X) (p : ℕ) (w : Wait) (timeout : Timeout) → TransfersBy c (wait_for old x p w timeout)
    by_waiting c spares x p w Poll = by_refusal c spares x NotAvailable refl
    by_waiting c spares x p w (Ticks n) =
        by_answer c spares (still_new old _ (in_newest old p (stamps.waiting (record_at old p) w (due_after old (Ticks n))) refl)) (refl, refl)
    by_waiting c spares x p w Infinite =
        by_answer c spares (still_new old _ (in_newest old p (stamps.waiting (record_at old p) w (due_after old Infinite)) refl)) (refl, refl)

    -- a call on the object of a kind
    by_object : {C X W : Type 0} (kind : ObjectKind C X W) (to : ObjectCall ℕ W → Call) → ((c : ObjectCall ℕ W) → Spares (to c))
        → ((c : ObjectCall ℕ W) → (x : X) → IsCreation c → IsPlain (to c))
        → ((x : X) (i : ℕ) → IsAnswer (kind.status old x i))
        → ((x : X) (i : ℕ) (one : W) → TransfersBy (to (KindService i one)) (kind.service old x i caller one))
        → (objects : List X) (c : ObjectCall ℕ W) → TransfersBy (to c) (object_deed kind old objects caller c)
    by_object kind to spares plain status serves objects (Create (Known i)) =
        let x = get_or objects i kind.absent in
        let c = to (Create (Known i)) in
        guard c (spares (Create (Known i))) x (is_normal old.mode) _ _ refl (λ _.
        guard c (spares (Create (Known i))) x (kind.created x) _ _ refl (λ _.
        by_plain c (plain (Create (Known i)) x tt) (still_none old) refl))
    by_object kind to spares plain status serves objects (Create (Unknown origin)) =
        let c = to (Create (Unknown origin)) in
        guard c (spares (Create (Unknown origin))) objects (is_normal old.mode) _ _ refl (λ _.
        by_refusal c (spares (Create (Unknown origin))) objects _ refl)
    by_object kind to spares plain status serves objects (GetId (Known i)) =
        let x = get_or objects i kind.absent in
        let c = to (GetId (Known i)) in
        guard c (spares (GetId (Known i))) x (not (kind.created x)) _ _ refl (λ _.
        by_answer c (spares (GetId (Known i))) (still_none old) (refl, refl))
    by_object kind to spares plain status serves objects (GetId (Unknown origin)) =
        by_refusal (to (GetId (Unknown origin))) (spares (GetId (Unknown origin))) objects _ refl
    by_object kind to spares plain status serves objects (GetStatus i) =
        let x = get_or objects i kind.absent in
        let c = to (GetStatus i) in
        guard c (spares (GetStatus i)) x (not (kind.created x)) _ _ refl (λ _.
        by_answer c (spares (GetStatus i)) (still_none old) (status x i))
    by_object kind to spares plain status serves objects (KindService i one) =
        serves (get_or objects i kind.absent) i one

    abbrev semaphore_call : ObjectCall ℕ SemaphoreService → Call
    semaphore_call c = call.Semaphore c

    by_semaphore : (x : SemaphoreObject) (i : ℕ) (one : SemaphoreService)
        → TransfersBy (call.Semaphore (KindService i one)) (semaphore_service old x i caller one)
    by_semaphore x i (semaphore.Wait timeout) =
        let c = call.Semaphore (KindService i (semaphore.Wait timeout)) in
        guard c (λ s reply bad. refl) x (not x.created) _ _ refl (λ _.
        guard c (λ s reply bad. refl) x (is_waiting_owner old caller timeout) _ _ refl (λ _.
        of_caller c (λ s reply bad. refl) x _ (λ p by.
        cond_both {A = Outcome SemaphoreObject} (nat_lt 0 x.value) _ _ (TransfersBy c)
        (λ _. by_plain c (record { stop = λ s reply. refl; acquire = refl; release = refl }) (still_none old) refl)
        (λ _. by_waiting c (λ s reply bad. refl) x p (wait.Semaphore i) timeout))))
    by_semaphore x i semaphore.Signal =
        let c = call.Semaphore (KindService i semaphore.Signal) in
        guard c (λ s reply bad. refl) x (not x.created) _ _ refl (λ _. signalled (first_waiter old (queues.Semaphore i)) refl) where
          signalled : (found : Option ℕ) → first_waiter old (queues.Semaphore i) ≡ found
              → TransfersBy (call.Semaphore (KindService i semaphore.Signal)) (signal_to old x found)
          signalled None is =
              let c = call.Semaphore (KindService i semaphore.Signal) in
              guard c (λ s reply bad. refl) x (not (nat_lt x.value x.maximum)) _ _ refl (λ _.
              by_plain c (record { stop = λ s reply. refl; acquire = refl; release = refl }) (still_none old) refl)
          signalled (Some p) is =
              by_plain _ (record { stop = λ s reply. refl; acquire = refl; release = refl })
              (still_granted None old p (queues.Semaphore i) refl refl is) refl

    by_event_flag : (x : EventFlagObject) (i : ℕ) (one : EventFlagService)
        → TransfersBy (call.EventFlag (KindService i one)) (event_flag_service old x i caller one)
    by_event_flag x i event_flag.Set =
        let c = call.EventFlag (KindService i event_flag.Set) in
        guard c (λ s reply bad. refl) x (not x.created) _ _ refl (λ _.
        by_plain c (record { stop = λ s reply. refl; acquire = refl; release = refl }) (still_all (queues.EventFlag i) None old refl refl) refl)
    by_event_flag x i event_flag.Reset =
        let c = call.EventFlag (KindService i event_flag.Reset) in
        guard c (λ s reply bad. refl) x (not x.created) _ _ refl (λ _.
        by_plain c (record { stop = λ s reply. refl; acquire = refl; release = refl }) (still_none old) refl)
    by_event_flag x i (event_flag.Wait timeout) =
        let c = call.EventFlag (KindService i (event_flag.Wait timeout)) in
        guard c (λ s reply bad. refl) x (not x.created) _ _ refl (λ _.
        guard c (λ s reply bad. refl) x (is_waiting_owner old caller timeout) _ _ refl (λ _.
        of_caller c (λ s reply bad. refl) x _ (λ p by.
        cond_both {A = Outcome EventFlagObject} x.up _ _ (TransfersBy c)
        (λ _. by_plain c (record { stop = λ s reply. refl; acquire = refl; release = refl }) (still_none old) refl)
        (λ _. by_waiting c (λ s reply bad. refl) x p (wait.EventFlag i) timeout))))

    by_blackboard : (x : BlackboardObject) (i : ℕ) (one : BlackboardService)
        → TransfersBy (call.Blackboard (KindService i one)) (blackboard_service old x i caller one)
    by_blackboard x i (Display message) =
        let c = call.Blackboard (KindService i (Display message)) in
        guard c (λ s reply bad. refl) x (not x.created) _ _ refl (λ _.
        guard c (λ s reply bad. refl) x (is_unfit x.longest message) _ _ refl (λ _.
        by_plain c (record { stop = λ s reply. refl; acquire = refl; release = refl })
        (still_all (queues.Blackboard i) (Some message) old refl refl) refl))
    by_blackboard x i (Read timeout) =
        let c = call.Blackboard (KindService i (Read timeout)) in
        guard c (λ s reply bad. refl) x (not x.created) _ _ refl (λ _.
        guard c (λ s reply bad. refl) x (is_waiting_owner old caller timeout) _ _ refl (λ _.
        of_caller c (λ s reply bad. refl) x _ (λ p by. shown p x.message))) where
          shown : (p : ℕ) (found : Option Message) → TransfersBy (call.Blackboard (KindService i (Read timeout))) (read_shown old x i p timeout found)
          shown p None = by_waiting (call.Blackboard (KindService i (Read timeout))) (λ s reply bad. refl) x p (wait.Blackboard i) timeout
          shown p (Some message) =
              let r : Record = record (record_at old p) { inbox = Some message } in
              by_answer (call.Blackboard (KindService i (Read timeout))) (λ s reply bad. refl) (still_new old _ (in_record old p r refl)) (refl, refl)
    by_blackboard x i Clear =
        let c = call.Blackboard (KindService i Clear) in
        guard c (λ s reply bad. refl) x (not x.created) _ _ refl (λ _.
        by_plain c (record { stop = λ s reply. refl; acquire = refl; release = refl }) (still_none old) refl)

    by_buffer : (x : BufferObject) (i : ℕ) (one : BufferService) → TransfersBy (call.Buffer (KindService i one)) (buffer_service old x i caller one)
    by_buffer x i (Send message timeout) =
        let c = call.Buffer (KindService i (Send message timeout)) in
        guard c (λ s reply bad. refl) x (not x.created) _ _ refl (λ _.
        guard c (λ s reply bad. refl) x (is_unfit x.longest message) _ _ refl (λ _.
        guard c (λ s reply bad. refl) x (is_waiting_owner old caller timeout) _ _ refl (λ _.
        of_caller c (λ s reply bad. refl) x _ (λ p by. past p (first_waiter old (queues.Buffer i)) refl)))) where
          last : (p : ℕ) → TransfersBy (call.Buffer (KindService i (Send message timeout))) (send_last old x i p message timeout)
          last p =
              let c = call.Buffer (KindService i (Send message timeout)) in
              cond_both {A = Outcome BufferObject} (nat_lt (length x.messages) x.capacity) _ _ (TransfersBy c)
              (λ _. by_plain c (record { stop = λ s reply. refl; acquire = refl; release = refl }) (still_none old) refl)
              (λ _. by_waiting c (λ s reply bad. refl) x p (wait.Send i message) timeout)

          past : (p : ℕ) (found : Option ℕ) → first_waiter old (queues.Buffer i) ≡ found
              → TransfersBy (call.Buffer (KindService i (Send message timeout))) (send_past old x i p message timeout found)
          past p None is = last p
          past p (Some q) is =
              let c = call.Buffer (KindService i (Send message timeout)) in
              cond_both {A = Outcome BufferObject} (is_receiver (record_at old q).wait) _ _ (TransfersBy c)
              (λ _. by_plain c (record { stop = λ s reply. refl; acquire = refl; release = refl })
              (still_granted (Some message) old q (queues.Buffer i) refl refl is) refl)
              (λ _. last p)
    by_buffer x i (Receive timeout) =
        let c = call.Buffer (KindService i (Receive timeout)) in
        guard c (λ s reply bad. refl) x (not x.created) _ _ refl (λ _.
        guard c (λ s reply bad. refl) x (is_waiting_owner old caller timeout) _ _ refl (λ _.
        of_caller c (λ s reply bad. refl) x _ (λ p by. first p x.messages))) where
          got_waits : (p : ℕ) (message : Message) (s : ℕ) → waits_at m (stamps.receive old p message) s ≡ waits_at m old s
          got_waits p message s =
              let r : Record = record (record_at old p) { inbox = Some message } in
              record_then (λ a b. is_for_it m b.wait ≡ is_for_it m a.wait) (λ _. refl) old (stamps.receive old p message) p r refl refl s

          got_depth : (p : ℕ) (message : Message) → KeepsDepths old (stamps.receive old p message)
          got_depth p message = let r : Record = record (record_at old p) { inbox = Some message } in in_record old p r refl

          taken_in : (p : ℕ) (message : Message) (left : BufferObject) (q : ℕ)
              → first_waiter (stamps.receive old p message) (queues.Buffer i) ≡ Some q → (sent : Option Message)
              → TransfersBy (call.Buffer (KindService i (Receive timeout))) (take_in (stamps.receive old p message) left message q sent)
          taken_in p message left q is None =
              by_answer (call.Buffer (KindService i (Receive timeout))) (λ s reply bad. refl) (still_new old _ (got_depth p message)) (refl, refl)
          taken_in p message left q is (Some sent) =
              let after = stamps.receive old p message in
              let granted_so = still_granted None after q (queues.Buffer i) refl refl is in
              by_answer (call.Buffer (KindService i (Receive timeout))) (λ s reply bad. refl)
              (record {
                depth = λ s. granted_so.depth s ∙ got_depth p message s;
                woken = λ s h. sym (got_waits p message s) ∙ granted_so.woken s h;
                kept = granted_so.kept;
              })
              (refl, refl)

          from : (p : ℕ) (message : Message) (left : BufferObject) (found : Option ℕ)
              → first_waiter (stamps.receive old p message) (queues.Buffer i) ≡ found
              → TransfersBy (call.Buffer (KindService i (Receive timeout))) (received (stamps.receive old p message) left message found)
          from p message left None is =
              by_answer (call.Buffer (KindService i (Receive timeout))) (λ s reply bad. refl) (still_new old _ (got_depth p message)) (refl, refl)
          from p message left (Some q) is = taken_in p message left q is (held_back (record_at (stamps.receive old p message) q).wait)

          first : (p : ℕ) (messages : List Message)
              → TransfersBy (call.Buffer (KindService i (Receive timeout))) (receive_first old x i p timeout messages)
          first p [] = by_waiting (call.Buffer (KindService i (Receive timeout))) (λ s reply bad. refl) x p (wait.Receive i) timeout
          first p (message ∷ later) =
              from p message (record x { messages = later }) (first_waiter (stamps.receive old p message) (queues.Buffer i)) refl

    -- a stop of process p, which the call makes
    module _ (free : IsUnowned old) where
      by_stop : {X : Type 0} (c : Call) (x : X) (p : ℕ) (reply : Reply) → is_acquire c ≡ false → is_release c ≡ false
          → ((s : ℕ) → ((is_by_process s caller && is_gone reply) || (is_stop_of s (Some c) reply || false)) ≡ (s == p || false))
          → TransfersBy c (answered_with reply x (halted old p))
      by_stop c x p reply taking giving stops =
          let passes = passes_halted m old p free in
          let told = (halted old p).notices in
          let e = entry_with number now who caller c reply told in
          let apart : is_acquired queue e ≡ false = rw (taking, and_false (names queue c)) refl in
          let unreleased : is_released queue e ≡ false = rw (giving, and_false (names queue c)) refl in
          record {
            depth = λ s.
                passes.depth s
                ∙ sym (rw (none_halted m old p s, stops s, apart, unreleased, same_if (is_by_process s caller) (depth_at m old s)) refl);
            taken = λ h. absurd (both_ways _ apart h);
            given = λ h. absurd (both_ways _ unreleased h);
            alive = λ h. absurd (both_ways _ apart h);
          }

      module _ (ready : IsReadyCaller old caller) (one : stamps.WaitsForOne old) where
        plain_call : (c : Call) → ((s : ℕ) (reply : Reply) → is_stop_of s (Some c) reply ≡ false) → is_acquire c ≡ false → is_release c ≡ false → IsPlain c
        plain_call c stop acquire release = record { stop = stop; acquire = acquire; release = release }

        by_time : {X : Type 0} (x : X) (asked : TimeCall) → TransfersBy (call.Time asked) (times.time_service old x caller asked)
        by_time x (TimedWait timeout) =
            let c = call.Time (TimedWait timeout) in
            guard c (λ s reply bad. refl) x (is_owner old caller) _ _ refl (λ _.
            of_caller c (λ s reply bad. refl) x _ (λ p by. timed p timeout)) where
              timed : (p : ℕ) (t : Timeout) → TransfersBy (call.Time (TimedWait timeout)) (times.timed_wait old x t p)
              timed p Poll =
                  by_plain (call.Time (TimedWait timeout)) (record { stop = λ s reply. refl; acquire = refl; release = refl })
                  (still_new old _ (in_newest old p (record_at old p) refl)) refl
              timed p (Ticks n) = by_waiting (call.Time (TimedWait timeout)) (λ s reply bad. refl) x p wait.Time (Ticks n)
              timed p Infinite = by_refusal (call.Time (TimedWait timeout)) (λ s reply bad. refl) x _ refl
        by_time x PeriodicWait =
            let c = call.Time PeriodicWait in
            of_caller c (λ s reply bad. refl) x _ (λ p by.
            guard c (λ s reply bad. refl) x (not (is_periodic (record_at old p))) _ _ refl (λ _.
            guard c (λ s reply bad. refl) x (owns_some (record_at old p)) _ _ refl (λ _.
            let cleared = stamps.set_deadline old p None in
            let r : Record = record (record_at old p) { deadline = None } in
            let first : KeepsDepths old cleared = in_record old p r refl in
            by_answer c (λ s reply bad. refl)
            (still_new old _ (λ s. in_newest cleared p (stamps.waiting (record_at cleared p) wait.Period (release_after old.now (record_at old p))) refl s ∙ first s)) (refl, refl))))
        by_time x (Replenish budget) =
            let c = call.Time (Replenish budget) in
            of_caller c (λ s reply bad. refl) x _ (λ p by.
            let r = record_at old p in
            let changed : Record = record r { deadline = Some (old.now + budget) } in
            guard c (λ s reply bad. refl) x (is_none r.attributes.capacity) _ _ refl (λ _.
            guard c (λ s reply bad. refl) x (is_beyond r.release r.attributes.period (old.now + budget)) _ _ refl (λ _.
            by_plain c (record { stop = λ s reply. refl; acquire = refl; release = refl }) (still_new old _ (in_record old p changed refl)) refl)))
        by_time x GetTime = by_answer (call.Time GetTime) (λ s reply bad. refl) (still_none old) (refl, refl)

        by_itself : {X : Type 0} (x : X) (asked : CallerCall) → TransfersBy (call.Caller asked) (callers.caller_service old x caller asked)
        by_itself x asked = of_caller (call.Caller asked) (λ s reply bad. refl) x _ (λ p by. itself p by asked) where
          suspending : (p : ℕ) (timeout t : Timeout) → TransfersBy (call.Caller (SuspendSelf timeout)) (callers.suspended_for old x p t)
          suspending p timeout t =
              by_answer (call.Caller (SuspendSelf timeout)) (λ s reply bad. refl)
              (still_new old _ (in_newest old p (stamps.self_suspended (record_at old p) (due_after old t)) refl)) (refl, refl)

          suspension : (p : ℕ) (timeout t : Timeout) → TransfersBy (call.Caller (SuspendSelf timeout)) (callers.self_suspension old x p t)
          suspension p timeout Poll =
              by_plain (call.Caller (SuspendSelf timeout)) (record { stop = λ s reply. refl; acquire = refl; release = refl }) (still_none old) refl
          suspension p timeout (Ticks n) = suspending p timeout (Ticks n)
          suspension p timeout Infinite = suspending p timeout Infinite

          itself : (p : ℕ) → caller ≡ Process p → (asked : CallerCall) → TransfersBy (call.Caller asked) (callers.service_by old x asked p)
          itself p by StopSelf =
              by_stop (call.Caller StopSelf) x p Gone refl refl (λ s. rw by (gone_so (s == p)))
          itself p by (SuspendSelf timeout) =
              let c = call.Caller (SuspendSelf timeout) in
              guard c (λ s reply bad. refl) x (is_periodic (record_at old p)) _ _ refl (λ _.
              guard c (λ s reply bad. refl) x (owns_some (record_at old p)) _ _ refl (λ _.
              suspension p timeout timeout))
          itself p by GetMyId = by_answer (call.Caller GetMyId) (λ s reply bad. refl) (still_none old) (refl, refl)
          itself p by GetMyProcessorCoreId = by_answer (call.Caller GetMyProcessorCoreId) (λ s reply bad. refl) (still_none old) (refl, refl)

        -- IDLE stops all
        none_left : (rs : List Record) (s : ℕ) → depth_in m (get_or (map stamps.stopped rs) s nobody) ≡ 0
        none_left [] s = refl
        none_left (r ∷ rs) zero = refl
        none_left (r ∷ rs) (suc s) = none_left rs s

        abbrev StartsAll : Roster → List Notice → Type 0
        StartsAll new told = KeepsDepths old new × ((s : ℕ) → wakes s told ≡ false) × ((s : ℕ) → misses m s told ≡ false)

        starts_all : StartsAll (partitions.enter_normal old).roster (partitions.enter_normal old).notices
        unfolding partitions.enter_normal
        starts_all =
            holds_in_turn partitions.first_to_start partitions.begin_waiter StartsAll
            (λ r told p is holds.
            let delay = partitions.delay_of (record_at r p).wait in (
              λ s. in_begin r p delay s ∙ holds.0 s,
              λ s. list_any-append (is_waking s) told (begin_notices p delay) ∙ or_from _ _ (holds.1 s) (begin_quiet p delay s).0,
              λ s. list_any-append (is_hard_miss_of s) told (begin_notices p delay) ∙ or_from _ _ (holds.2 s) (begin_quiet p delay s).1,
            ))
            (length old.records) (stamps.set_mode old Normal) [] ((λ s. refl), (λ s. refl), (λ s. refl))

        by_partition : {X : Type 0} (x : X) (asked : PartitionCall) → TransfersBy (call.Partition asked) (partitions.partition_service old x asked)
        by_partition x (SetPartitionMode requested.Idle) = record {
          depth = λ s. none_left old.records s ∙ sym (rw (or_true (is_by_process s caller && true)) refl);
          taken = λ h. absurd (both_ways false refl h);
          given = λ h. absurd (both_ways false refl h);
          alive = λ h. absurd (both_ways false refl h);
        }
        by_partition x (SetPartitionMode requested.Normal) =
            let c = call.Partition (SetPartitionMode requested.Normal) in
            guard c (λ s reply bad. refl) x (is_normal old.mode) _ _ refl (λ _.
            by_plain c (record { stop = λ s reply. refl; acquire = refl; release = refl })
            (record { depth = starts_all.0; woken = λ s h. absurd (both_ways _ (starts_all.1 s) h); kept = starts_all.2 }) refl)
        by_partition x GetPartitionStatus = by_answer (call.Partition GetPartitionStatus) (λ s reply bad. refl) (still_none old) (refl, refl)

        spares_process : (c : ObjectCall ℕ ProcessService) → Spares (call.Process c)
        spares_process (KindService p Stop) s reply bad = rw bad (and_false (s == p))
        spares_process _ s reply bad = refl

        start_quiet : (p delay s : ℕ) → (wakes s (processes.start_notices old p delay) ≡ false) × (misses m s (processes.start_notices old p delay) ≡ false)
        start_quiet p delay s =
            cond_both {A = List Notice} (is_normal old.mode) (begin_notices p delay) [] (λ told. (wakes s told ≡ false) × (misses m s told ≡ false))
            (λ _. begin_quiet p delay s) (λ _. (refl, refl))

        starting : (x : processes.ProcessObject) (p : ℕ) (asked : ProcessService) (delay : Timeout) → ((s : ℕ) (reply : Reply) → is_stop_of s (Some (call.Process (KindService p asked))) reply ≡ false)
            → TransfersBy (call.Process (KindService p asked)) (processes.start_process old x p delay)
        starting x p asked delay stop =
            let c = call.Process (KindService p asked) in
            let ticks = processes.delay_ticks delay in
            guard c (λ s reply bad. stop s reply) x (not x.created) _ _ refl (λ _.
            guard c (λ s reply bad. stop s reply) x (record_at old p).started _ _ refl (λ _.
            guard c (λ s reply bad. stop s reply) x (processes.is_unfit_delay (record_at old p) delay) _ _ refl (λ _.
            by_plain c (record { stop = stop; acquire = refl; release = refl })
            (record {
              depth = in_start old p ticks;
              woken = λ s h. absurd (both_ways _ (start_quiet p ticks s).0 h);
              kept = λ s. (start_quiet p ticks s).1;
            })
            refl)))

        by_process_call : (x : processes.ProcessObject) (p : ℕ) (asked : ProcessService)
            → TransfersBy (call.Process (KindService p asked)) (processes.process_service old x p caller asked)
        by_process_call x p (InitializeCoreAffinity core) =
            let c = call.Process (KindService p (InitializeCoreAffinity core)) in
            let r : Record = record (record_at old p) { core = core } in
            guard c (λ s reply bad. refl) x (is_normal old.mode) _ _ refl (λ _.
            guard c (λ s reply bad. refl) x (not x.created) _ _ refl (λ _.
            guard c (λ s reply bad. refl) x (not (nat_lt core old.cores)) _ _ refl (λ _.
            by_plain c (record { stop = λ s reply. refl; acquire = refl; release = refl }) (still_new old _ (in_record old p r refl)) refl)))
        by_process_call x p (SetPriority priority) =
            let c = call.Process (KindService p (SetPriority priority)) in
            let r = record_at old p in
            let changed : Record = record r { base = priority } in
            let stays = owns_some r && stamps.is_level changed r in
            guard c (λ s reply bad. refl) x (not x.created) _ _ refl (λ _.
            guard c (λ s reply bad. refl) x (not (nat_le 1 priority && nat_le priority MOST_PRIORITY)) _ _ refl (λ _.
            guard c (λ s reply bad. refl) x (not r.started) _ _ refl (λ _.
            by_plain c (record { stop = λ s reply. refl; acquire = refl; release = refl })
            (still_new old _
            (cond_both {A = Roster} ((is_eligible old.mode r && not stays) || goes_by_priority old (queue_in r)) (stamps.newest old p changed)
            (with_record old p changed) (KeepsDepths old) (λ _. in_newest old p changed refl) (λ _. in_record old p changed refl)))
            refl)))
        by_process_call x p Start = starting x p Start Poll (λ s reply. refl)
        by_process_call x p (DelayedStart delay) = starting x p (DelayedStart delay) delay (λ s reply. refl)
        by_process_call x p Stop =
            let c = call.Process (KindService p Stop) in
            guard c (spares_process (KindService p Stop)) x (is_by_process p caller) _ _ refl (λ _.
            guard c (spares_process (KindService p Stop)) x (not x.created) _ _ refl (λ _.
            guard c (spares_process (KindService p Stop)) x (not (record_at old p).started) _ _ refl (λ _.
            by_stop c x p (Code NoError) refl refl (λ s. stop_so (is_by_process s caller) (s == p))))) where
              stop_so : (a b : Bool) → ((a && false) || ((b && true) || false)) ≡ (b || false)
              stop_so true true = refl
              stop_so true false = refl
              stop_so false true = refl
              stop_so false false = refl
        by_process_call x p Suspend =
            let c = call.Process (KindService p Suspend) in
            let r : Record = record (record_at old p) { suspended = Some Other } in
            guard c (λ s reply bad. refl) x (is_by_process p caller) _ _ refl (λ _.
            guard c (λ s reply bad. refl) x (not x.created) _ _ refl (λ _.
            guard c (λ s reply bad. refl) x (processes.is_unsuspendable (record_at old p)) _ _ refl (λ _.
            guard c (λ s reply bad. refl) x (is_some (record_at old p).suspended) _ _ refl (λ _.
            guard c (λ s reply bad. refl) x (owns_some (record_at old p)) _ _ refl (λ _.
            by_plain c (record { stop = λ s reply. refl; acquire = refl; release = refl }) (still_new old _ (in_record old p r refl)) refl)))))
        by_process_call x p Resume =
            let c = call.Process (KindService p Resume) in
            guard c (λ s reply bad. refl) x (is_by_process p caller) _ _ refl (λ _.
            guard c (λ s reply bad. refl) x (not x.created) _ _ refl (λ _.
            guard c (λ s reply bad. refl) x (processes.is_unsuspendable (record_at old p)) _ _ refl (λ _.
            guard c (λ s reply bad. refl) x (is_none (record_at old p).suspended) _ _ refl (λ _.
            by_plain c (record { stop = λ s reply. refl; acquire = refl; release = refl }) resumed refl)))) where
              resumed : IsStill old (stamps.resume old p) (processes.resume_notices old p)
              resumed = by (stamps.is_by_itself (record_at old p).suspended) refl where
                by : (b : Bool) → stamps.is_by_itself (record_at old p).suspended ≡ b
                    → IsStill old (if b then stamps.unblock old p else stamps.readied old p (stamps.unsuspended (record_at old p)))
                    (if b then Woken p NoError ∷ [] else [])
                by true is = record {
                  depth = owned_readied m old p (stamps.awake (record_at old p)) refl;
                  woken = λ s h. ap (waits_at m old) (woken_alone s p h) ∙ ap (is_for_it m) (one p is);
                  kept = λ s. refl;
                }
                by false is = still_new old _ (owned_readied m old p (stamps.unsuspended (record_at old p)) refl)

        -- the mutexes: an acquisition, a release, and a release by which the mutex goes on
        module _ (i : ℕ) (p : ℕ) (by : caller ≡ Process p) where
          is_ready : IsReady old p
          is_ready = rw by at ready

          waits_not : (record_at old p).wait ≡ None
          waits_not = (runnable old.mode (record_at old p) is_ready.eligible).free

          abbrev mine : List Holding
          mine = (record_at old p).owned

          after_own : (owned : List Holding) → Replaces 1 old (stamps.own old p owned) p (record (record_at old p) { owned = owned })
          after_own owned = replaces_levelled old p is_ready.known (record (record_at old p) { owned = owned }) refl

          own_waits : (owned : List Holding) (s : ℕ) → waits_at m (stamps.own old p owned) s ≡ waits_at m old s
          own_waits owned = each_stays (after_own owned) (λ x y. is_for_it m y.wait ≡ is_for_it m x.wait) (λ _. refl) refl

          -- process p owns these from now on
          abbrev OwnsDepth : List Holding → ℕ → Type 0
          OwnsDepth owned d = depth_of (holding_of m owned) ≡ d

          own_depth : (owned : List Holding) (d : ℕ) → OwnsDepth owned d → (s : ℕ)
              → depth_at m (stamps.own old p owned) s ≡ (if s == p then d else depth_at m old s)
          own_depth owned d is s = elim (cases_eq s p) [
            | inl e ↦
                rw (eq-eqb s p e) (ap (depth_at m (stamps.own old p owned)) e ∙ ap (depth_in m) (after_own owned).here ∙ is)
            | inr apart ↦ rw (ne_eqb s p apart) (ap (depth_in m) ((after_own owned).others s apart))
          ]

          by_acquiring : {X : Type 0} (x : X) (timeout : Timeout) (owned : List Holding)
              → OwnsDepth owned (if m == i then depth_at m old p + 1 else depth_at m old p)
              → TransfersBy (call.Mutex (KindService i (Acquire timeout))) (accepted (stamps.own old p owned) x [])
          by_acquiring x timeout owned is = record {
            depth = λ s. own_depth owned _ is s ∙ sym (rw by (acquired_so (m == i) (s == p) (depth_at m old p) (depth_at m old s) (same_depth s)));
            taken = λ h. (p, by);
            given = λ h. absurd (both_ways _ (rw (and_false (m == i)) refl) h);
            alive = λ h s. rw by (alive_so (s == p));
          } where
            same_depth : (s : ℕ) → (s == p) ≡ true → depth_at m old s ≡ depth_at m old p
            same_depth s h = ap (depth_at m old) (eqb-true s p h)

            alive_so : (a : Bool) → ((a && false) || (false || false)) ≡ false
            alive_so true = refl
            alive_so false = refl

            acquired_so : (a b : Bool) (d e : ℕ) → (b ≡ true → e ≡ d)
                → (if (b && false) || (false || false) then 0 else if b then (if (a && true) && true then e + 1 else if (a && false) && true then e - 1 else e) else e)
                ≡ (if b then (if a then d + 1 else d) else e)
            acquired_so true true d e same = ap (λ (k : ℕ). k + 1) (same refl)
            acquired_so false true d e same = same refl
            acquired_so true false d e same = refl
            acquired_so false false d e same = refl

          by_releasing : {X : Type 0} (x : X) (owned : List Holding) → (m ≡ i → 1 ≤ depth_at m old p)
              → OwnsDepth owned (if m == i then depth_at m old p - 1 else depth_at m old p)
              → TransfersBy (call.Mutex (KindService i Release)) (accepted (stamps.own old p owned) x [])
          by_releasing x owned deep is = record {
            depth = λ s. own_depth owned _ is s ∙ sym (rw by (released_so (m == i) (s == p) (depth_at m old p) (depth_at m old s) (same_depth s)));
            taken = λ h. (p, by);
            given = λ h. (p, by, deep (eqb-true m i (two_true (m == i) h)));
            alive = λ h s. rw by (alive_so (s == p));
          } where
            same_depth : (s : ℕ) → (s == p) ≡ true → depth_at m old s ≡ depth_at m old p
            same_depth s h = ap (depth_at m old) (eqb-true s p h)

            two_true : (a : Bool) → ((a && true) && true) ≡ true → a ≡ true
            two_true true h = refl
            two_true false h = h

            alive_so : (a : Bool) → ((a && false) || (false || false)) ≡ false
            alive_so true = refl
            alive_so false = refl

            released_so : (a b : Bool) (d e : ℕ) → (b ≡ true → e ≡ d)
                → (if (b && false) || (false || false) then 0 else if b then (if (a && false) && true then e + 1 else if (a && true) && true then e - 1 else e) else e)
                ≡ (if b then (if a then d - 1 else d) else e)
            released_so true true d e same = ap (λ (k : ℕ). k - 1) (same refl)
            released_so false true d e same = same refl
            released_so true false d e same = refl
            released_so false false d e same = refl

          -- RELEASE_MUTEX by which its owner gives it up
          module _ (orderly : HasOrderlyOwners old) (holding : Holding) (held : holding_of i mine ≡ Some holding) where
            deep_so : 1 ≤ holding.depth
            deep_so = ((is_held i holding mine held).lawful old (orderly.owned p).lawful).depth.0

            owned_so : m ≡ i → depth_at m old p ≡ holding.depth
            owned_so e = ap (λ (k : ℕ). depth_of (holding_of k mine)) e ∙ ap depth_of held

            its_depth : (d : ℕ) → OwnsDepth (with_depth i d mine) (if m == i then d else depth_at m old p)
            its_depth d = elim (cases_eq m i) [
              | inl e ↦
                  rw (eq-eqb m i e) (ap (λ (k : ℕ). depth_of (holding_of m (with_depth k d mine))) (sym e)
                  ∙ depth_here m d mine holding (ap (λ (k : ℕ). holding_of k mine) e ∙ held))
              | inr apart ↦ rw (ne_eqb m i apart) (depth_other m i d (λ e. apart (sym e)) mine)
            ]

            left_depth : OwnsDepth (without i mine) (if m == i then 0 else depth_at m old p)
            left_depth = elim (cases_eq m i) [
              | inl e ↦
                  rw (eq-eqb m i e) (ap (λ (k : ℕ). depth_of (holding_of m (without k mine))) (sym e) ∙ gone_here m mine)
              | inr apart ↦ rw (ne_eqb m i apart) (gone_other m i (λ e. apart (sym e)) mine)
            ]

            left_free : IsUnowned (stamps.own old p (without i mine))
            left_free q n waits = elim (cases_eq q p) [
              | inl e ↦
                  let none : None ≡ Some (wait.Mutex n) =
                  sym waits_not ∙ sym (ap (λ (x : Record). x.wait) (after_own (without i mine)).here)
                  ∙ sym (ap (λ (k : ℕ). (record_at (stamps.own old p (without i mine)) k).wait) e) ∙ waits in
                  absurd (none-some (wait.Mutex n) none)
              | inr apart ↦
                  let has = after_own (without i mine) in
                  ap (λ (x : Record). x.owned) (has.others q apart) ∙ free q n (sym (ap (λ (x : Record). x.wait) (has.others q apart)) ∙ waits)
            ]

            given_so : (a b w : Bool) (d e : ℕ) → (b ≡ true → e ≡ d) → (a ≡ true → d ≡ 1)
                → (if w then 1 else if b then (if a then 0 else d) else e)
                ≡ (if (b && false) || (false || false) then 0 else if w then 1 else
                if b then (if (a && false) && true then e + 1 else if (a && true) && true then e - 1 else e) else e)
            given_so a true true d e same one = refl
            given_so a false true d e same one = refl
            given_so true true false d e same one = let is : e ≡ 1 = same refl ∙ one refl in omega (arith, is)
            given_so false true false d e same one = sym (same refl)
            given_so a false false d e same one = refl

            by_giving_up : {X : Type 0} (x : X) → holding.depth ≤ 1
                → TransfersBy (call.Mutex (KindService i Release)) (accepted_with x (hand_over (stamps.own old p (without i mine)) holding))
            by_giving_up x shallow =
                let after = stamps.own old p (without i mine) in
                let passes = passes_hand_over m after holding left_free in
                let told = (hand_over after holding).notices in
                let once : m ≡ i → depth_at m old p ≡ 1 = λ e. let is = owned_so e in omega (arith, is, shallow, deep_so) in
                record {
                  depth = λ s.
                      passes.depth s
                      ∙ rw (
                        ap (is_by_process s) by,
                        none_to m after holding (first_waiter after (queues.Mutex holding.mutex)) s,
                        own_waits (without i mine) s,
                        own_depth (without i mine) _ left_depth s,
                      )
                      (given_so (m == i) (s == p) (wakes s told && waits_at m old s) (depth_at m old p) (depth_at m old s)
                      (λ h. ap (depth_at m old) (eqb-true s p h)) (λ h. once (eqb-true m i h)));
                  taken = λ h. (p, by);
                  given = λ h. (p, by, let is = once (eqb-true m i (two_true (m == i) h)) in omega (arith, is));
                  alive = λ h. absurd (both_ways _ (rw (and_false (m == i)) refl) h);
                } where
                  two_true : (a : Bool) → ((a && true) && true) ≡ true → a ≡ true
                  two_true true h = refl
                  two_true false h = h

            by_release : (x : MutexObject) → TransfersBy (call.Mutex (KindService i Release)) (release_by old x i p (Some holding))
            by_release x =
                let c = call.Mutex (KindService i Release) in
                cond_both {A = Outcome MutexObject} (nat_lt 1 holding.depth) _ _ (TransfersBy c)
                (λ _. by_releasing x (with_depth i (holding.depth - 1) mine) (λ e. let is = owned_so e in omega (arith, is, deep_so)) (effect (holding.depth - 1) refl))
                (λ shallow. let few = ltb-false 1 holding.depth shallow in by_giving_up x few) where
                  effect : (d : ℕ) → d ≡ holding.depth - 1 → OwnsDepth (with_depth i d mine) (if m == i then depth_at m old p - 1 else depth_at m old p)
                  effect d is = elim (cases_eq m i) [
                    | inl e ↦ its_depth d ∙ rw (eq-eqb m i e, owned_so e) is
                    | inr apart ↦ its_depth d ∙ rw (ne_eqb m i apart) refl
                  ]

            by_deeper : (x : MutexObject) (timeout : Timeout)
                → TransfersBy (call.Mutex (KindService i (Acquire timeout))) (acquire_by old x i p timeout (Some holding))
            by_deeper x timeout = by_acquiring x timeout (with_depth i (holding.depth + 1) mine) effect where
              effect : OwnsDepth (with_depth i (holding.depth + 1) mine) (if m == i then depth_at m old p + 1 else depth_at m old p)
              effect = elim (cases_eq m i) [
                | inl e ↦ its_depth (holding.depth + 1) ∙ rw (eq-eqb m i e, owned_so e) refl
                | inr apart ↦ its_depth (holding.depth + 1) ∙ rw (ne_eqb m i apart) refl
              ]

          by_free : (x : MutexObject) (timeout : Timeout) → holding_of i mine ≡ None → (found : Option ℕ)
              → TransfersBy (call.Mutex (KindService i (Acquire timeout))) (acquire_from old x i p timeout found)
          by_free x timeout unheld (Some q) = by_waiting (call.Mutex (KindService i (Acquire timeout))) (λ s reply bad. refl) x p (wait.Mutex i) timeout
          by_free x timeout unheld None =
              let fresh : Holding = record { mutex = i; ceiling = ceiling_of old i; depth = 1 } in
              by_acquiring x timeout (mine ++ fresh ∷ []) (elim (cases_eq m i) [
                | inl e ↦
                    let none : holding_of m mine ≡ None = ap (λ (k : ℕ). holding_of k mine) e ∙ unheld in
                    let zero_so : depth_at m old p ≡ 0 = ap depth_of none in
                    rw (eq-eqb m i e, zero_so) (more_here m fresh (eq-eqb i m (sym e)) mine none)
                | inr apart ↦ rw (ne_eqb m i apart) (more_other m fresh (ne_eqb i m (λ e. apart (sym e))) mine)
              ])

        -- the services of mutexes
        module _ (orderly : HasOrderlyOwners old) where
          by_mutex : (x : MutexObject) (i : ℕ) (asked : MutexService) → TransfersBy (call.Mutex (KindService i asked)) (mutex_service old x i caller asked)
          by_mutex x i (Acquire timeout) =
              let c = call.Mutex (KindService i (Acquire timeout)) in
              guard c (λ s reply bad. refl) x (not x.created) _ _ refl (λ _.
              guard c (λ s reply bad. refl) x (may_not_wait i timeout (record_of old caller)) _ _ refl (λ _.
              guard c (λ s reply bad. refl) x (owns_most old i (record_of old caller)) _ _ refl (λ _.
              guard c (λ s reply bad. refl) x (nat_lt (ceiling_of old i) (record_of old caller).base) _ _ refl (λ _.
              guard c (λ s reply bad. refl) x (is_deepest i (record_of old caller)) _ _ refl (λ _.
              of_caller c (λ s reply bad. refl) x _ (λ p by. acquired p by (holding_of i (record_at old p).owned) refl)))))) where
                acquired : (p : ℕ) → caller ≡ Process p → (found : Option Holding) → holding_of i (record_at old p).owned ≡ found
                    → TransfersBy (call.Mutex (KindService i (Acquire timeout))) (acquire_by old x i p timeout found)
                acquired p by None held = by_free i p by x timeout held (owner old i)
                acquired p by (Some holding) held = by_deeper i p by orderly holding held x timeout
          by_mutex x i Release =
              let c = call.Mutex (KindService i Release) in
              guard c (λ s reply bad. refl) x (not x.created) _ _ refl (λ _.
              guard c (λ s reply bad. refl) x (not (owns i (record_of old caller))) _ _ refl (λ _.
              of_caller c (λ s reply bad. refl) x _ (λ p by. released p by (holding_of i (record_at old p).owned) refl))) where
                released : (p : ℕ) → caller ≡ Process p → (found : Option Holding) → holding_of i (record_at old p).owned ≡ found
                    → TransfersBy (call.Mutex (KindService i Release)) (release_by old x i p found)
                released p by None held = by_refusal (call.Mutex (KindService i Release)) (λ s reply bad. refl) x _ refl
                released p by (Some holding) held = by_release i p by orderly holding held x

          owner_answer : (i : ℕ) (found : Option ℕ) → IsAnswer (owner_status old i found)
          owner_answer i None = (refl, refl)
          owner_answer i (Some p) = (refl, refl)

          creates_plainly : (c : ObjectCall ℕ MutexService) → (x : MutexObject) → IsCreation c → IsPlain (call.Mutex c)
          creates_plainly (Create named) x h = record { stop = λ s reply. refl; acquire = refl; release = refl }
          creates_plainly _ x h = absurd h

          process_plainly : (c : ObjectCall ℕ ProcessService) → (x : processes.ProcessObject) → IsCreation c → IsPlain (call.Process c)
          process_plainly (Create named) x h = record { stop = λ s reply. refl; acquire = refl; release = refl }
          process_plainly _ x h = absurd h

          pub by_service : (objects : Objects) (c : Call) → TransfersBy c (service old objects caller c)
          by_service objects (call.Partition asked) = by_partition objects asked
          by_service objects (call.Process asked) =
              by_object process_kind call.Process spares_process process_plainly (λ x i. (refl, refl)) by_process_call objects.processes asked
          by_service objects (call.Caller asked) = by_itself objects asked
          by_service objects (call.Time asked) = by_time objects asked
          by_service objects (call.Semaphore asked) =
              by_object semaphore_kind call.Semaphore (λ c s reply bad. refl) (λ c x h. record { stop = λ s reply. refl; acquire = refl; release = refl })
              (λ x i. (refl, refl)) by_semaphore objects.semaphores asked
          by_service objects (call.Buffer asked) =
              by_object buffer_kind call.Buffer (λ c s reply bad. refl) (λ c x h. record { stop = λ s reply. refl; acquire = refl; release = refl })
              (λ x i. (refl, refl)) by_buffer objects.buffers asked
          by_service objects (call.Blackboard asked) =
              by_object blackboard_kind call.Blackboard (λ c s reply bad. refl) (λ c x h. record { stop = λ s reply. refl; acquire = refl; release = refl })
              (λ x i. (refl, refl)) by_blackboard objects.blackboards asked
          by_service objects (call.EventFlag asked) =
              by_object event_flag_kind call.EventFlag (λ c s reply bad. refl) (λ c x h. record { stop = λ s reply. refl; acquire = refl; release = refl })
              (λ x i. (refl, refl)) by_event_flag objects.event_flags asked
          by_service objects (call.Mutex asked) =
              by_object mutex_kind call.Mutex (λ c s reply bad. refl) creates_plainly (λ x i. owner_answer i (owner old i)) by_mutex objects.mutexes asked
          by_service objects (call.Work amount) = by_answer (call.Work amount) (λ s reply bad. refl) (still_none old) (refl, refl)
