-- Every service keeps records and objects in bounds.
use Rattle.std.proofs.Common.{◌≡◌, ℕ, suc, ◌+◌, ◌-◌, ◌<◌, ◌≤◌, ◌^◌, ◌&&◌, Bool, true, false, cond, not, nat_le, nat_lt, is_none, is_some, List, [], ◌∷◌, ◌++◌, length, get_or, slice_set, Option, None, Some, refl, sym, ◌∙◌, ap, subst, inl, inr, arith, length-append, ltb-true}
use Rattle.std.proofs.lemmas.Bool.{and_parts, both_ways, cases_Bool, cond_both, leb-false, leb-true}
use Rattle.std.proofs.lemmas.Option.{none-some, same_Some}
use Rattle.apex_types.specs.declared.calls.BlackboardService.TheVariants as blackboard
use Rattle.apex_types.specs.declared.calls.BufferService.TheVariants as buffer
use Rattle.apex_types.specs.declared.calls.BlackboardService.{BlackboardService}
use Rattle.apex_types.specs.declared.calls.BufferService.{BufferService}
use Rattle.apex_types.specs.declared.calls.CallerCall.{CallerCall}
use Rattle.apex_types.specs.declared.calls.CallerCall.TheVariants.{StopSelf, SuspendSelf, GetMyId, GetMyProcessorCoreId}
use Rattle.apex_types.specs.declared.calls.EventFlagService.{EventFlagService}
use Rattle.apex_types.specs.declared.calls.EventFlagService.TheVariants as event_flag
use Rattle.apex_types.specs.declared.calls.MutexService.{MutexService}
use Rattle.apex_types.specs.declared.calls.MutexService.TheVariants as mutex
use Rattle.apex_types.specs.declared.calls.Named.TheVariants.{Known, Unknown}
use Rattle.apex_types.specs.declared.calls.ObjectCall.{ObjectCall}
use Rattle.apex_types.specs.declared.calls.ObjectCall.TheVariants.{Create, GetId, GetStatus, KindService}
use Rattle.apex_types.specs.declared.calls.PartitionCall.{PartitionCall}
use Rattle.apex_types.specs.declared.calls.PartitionCall.TheVariants.{SetPartitionMode, GetPartitionStatus}
use Rattle.apex_types.specs.declared.calls.ProcessService.{ProcessService}
use Rattle.apex_types.specs.declared.calls.ProcessService.TheVariants as process
use Rattle.apex_types.specs.declared.calls.RequestedMode.TheVariants as requested
use Rattle.apex_types.specs.declared.calls.SemaphoreService.{SemaphoreService}
use Rattle.apex_types.specs.declared.calls.SemaphoreService.TheVariants as semaphore
use Rattle.apex_types.specs.declared.calls.TimeCall.{TimeCall}
use Rattle.apex_types.specs.declared.calls.TimeCall.TheVariants.{TimedWait, PeriodicWait, Replenish, GetTime}
use Rattle.apex_types.specs.declared.calls.Timeout.{Timeout}
use Rattle.apex_types.specs.declared.calls.Timeout.TheVariants.{Poll, Ticks, Infinite}
use Rattle.apex_types.specs.declared.entries.Caller.TheVariants.{Process, Init, Nobody}
use Rattle.apex_types.specs.declared.entries.ReturnCode.TheVariants as codes
use Rattle.apex_types.specs.declared.limits.TheConstants.{MOST_CORES, MOST_DEPTH, MOST_OWNED, MOST_PRIORITY}
use Rattle.apex_types.specs.Messages.{is_unfit}
use Rattle.apex_types.specs.Modes.{is_normal}
use Rattle.apex_machine.specs.declared.records.Queue.TheVariants as queues
use Rattle.apex_machine.specs.declared.records.Wait.TheVariants as wait
use Rattle.apex_machine.specs.processes.Dues.{due_after}
use Rattle.apex_machine.specs.processes.Held.{holding_of, holds, is_of, with_depth, without}
use Rattle.apex_machine.specs.processes.Owners.{ceiling_of, depth_of, is_deepest, is_owner, is_waiting_owner, may_not_wait, owner, owns, owns_most, owns_some, record_of}
use Rattle.apex_machine.specs.processes.Roster.{Roster, record_at}
use Rattle.apex_machine.specs.processes.Stamps as stamps
use Rattle.apex_machine.specs.processes.Waiters.{first_waiter}
use Rattle.apex_machine.specs.services.BlackboardServices.{BlackboardObject, blackboard_service, read_shown}
use Rattle.apex_machine.specs.services.BufferServices.{BufferObject, buffer_service, held_back, is_receiver, receive_first, received, send_last, send_past, take_in, with_last}
use Rattle.apex_machine.specs.services.CallerServices.{caller_service, self_suspension, service_by}
use Rattle.apex_machine.specs.services.EventFlagServices.{EventFlagObject, event_flag_service}
use Rattle.apex_machine.specs.services.Handovers.{hand_over}
use Rattle.apex_machine.specs.services.MutexServices.{MutexObject, acquire_by, acquire_from, mutex_service, release_by}
use Rattle.apex_machine.specs.services.Objects.{ObjectKind, object_deed, object_service}
use Rattle.apex_machine.specs.services.PartitionServices.{partition_service}
use Rattle.apex_machine.specs.services.ProcessServices.{ProcessObject, delay_ticks, is_unfit_delay, is_unsuspendable, process_service}
use Rattle.apex_machine.specs.processes.Periods.{is_beyond, is_periodic}
use Rattle.apex_machine.specs.services.Callers.{is_by_process}
use Rattle.apex_machine.specs.services.Rows.{Guard, Outcome, accepted, answered_with, by_process, guarded, refused, replied, within}
use Rattle.apex_machine.specs.services.SemaphoreServices.{SemaphoreObject, semaphore_service, signal_to}
use Rattle.apex_machine.specs.services.TimeServices.{time_service, timed_wait}
use Rattle.apex_machine.specs.services.Waiting.{wait_for}
use Rattle.apex_machine.specs.services.Waking.{granted}
use Rattle.apex_machine.specs.table.Table.{Table}
use Rattle.apex_machine.proofs.Held.{none_held}
use Rattle.apex_recall.specs.Reached.{BlackboardFits, BufferFits, FitsHolding, FitsMessage, HeldFit, MessagesFit, RosterFits, SemaphoreFits, WaitFits}
use Rattle.apex_recall.specs.Terms.{Caller, Holding, Message, Reply, ReturnCode, Wait}
use Rattle.apex_recall.proofs.RecordsFit.{await_release_fits, block_fits, grant_all_fits, granted_fits, halted_fits, hand_over_fits, idle_fits, normal_fits, own_fits, place_newest_fits, receive_fits, resume_fits, set_core_fits, set_deadline_fits, set_each, set_priority_fits, start_fits, suspend_fits, suspend_self_fits, unblock_fits}

-- an outcome leaves records that fit, and an object that is as P says
pub record OutcomeFits (table : Table) {X : Type 0} (P : X → Type 0) (o : Outcome X) : Type 0 where
  pub left : RosterFits table o.roster
  pub kept : P o.object

module _ {table : Table} {X : Type 0} (P : X → Type 0) (roster : Roster) (is : RosterFits table roster) (object : X) (fits : P object) where
  pub replied_fits : (reply : Reply) → OutcomeFits table P (replied roster object reply)
  replied_fits reply = record { left = is; kept = fits }

  -- a row, with guards of which nothing is needed
  pub guarded_fits : (guards : List Guard) (effect : Outcome X) → OutcomeFits table P effect → OutcomeFits table P (guarded roster object guards effect)
  guarded_fits [] effect ok = ok
  guarded_fits (g ∷ gs) effect ok =
      cond_both {A = Outcome X} g.holds (refused roster object g.code) (guarded roster object gs effect) (OutcomeFits table P)
      (λ _. record { left = is; kept = fits }) (λ _. guarded_fits gs effect ok)

  -- one guard that does not hold
  pub guard_fits : (holds : Bool) (code : ReturnCode) (rest : Outcome X) → (holds ≡ false → OutcomeFits table P rest)
      → OutcomeFits table P (cond holds (refused roster object code) rest)
  guard_fits holds code rest ok =
      cond_both {A = Outcome X} holds (refused roster object code) rest (OutcomeFits table P) (λ _. record { left = is; kept = fits }) ok

  pub by_fits : (caller : Caller) (effect : ℕ → Outcome X) → ((p : ℕ) → caller ≡ Process p → OutcomeFits table P (effect p))
      → OutcomeFits table P (by_process roster object caller effect)
  by_fits (Process p) effect ok = ok p refl
  by_fits Init effect ok = record { left = is; kept = fits }
  by_fits Nobody effect ok = record { left = is; kept = fits }

  pub wait_fits : (p : ℕ) (w : Wait) → WaitFits (Some w) → (timeout : Timeout) → OutcomeFits table P (wait_for roster object p w timeout)
  wait_fits p w ok Poll = record { left = is; kept = fits }
  wait_fits p w ok (Ticks n) = record { left = block_fits roster is p w (due_after roster (Ticks n)) ok; kept = fits }
  wait_fits p w ok Infinite = record { left = block_fits roster is p w (due_after roster Infinite) ok; kept = fits }

-- a call on the objects of a kind
module _ {table : Table} {C X W : Type 0} (kind : ObjectKind C X W) (P : ℕ → X → Type 0) (makes : (k : ℕ) (x : X) → P k x → P k (kind.made x))
    (roster : Roster) (is : RosterFits table roster) (objects : List X) (each : (k : ℕ) → P k (get_or objects k kind.absent)) (caller : Caller) where
  abbrev AllOf : List X → Type 0
  AllOf xs = (k : ℕ) → P k (get_or xs k kind.absent)

  within_fits : (i : ℕ) (o : Outcome X) → OutcomeFits table (P i) o → OutcomeFits table AllOf (within (slice_set objects i) o)
  within_fits i o ok = record { left = ok.left; kept = set_each P kind.absent objects i o.object each ok.kept }

  all_same : (reply : Reply) → OutcomeFits table AllOf (replied roster objects reply)
  all_same reply = record { left = is; kept = each }

  pub deed_fits : (call : ObjectCall ℕ W)
      → ((i : ℕ) (service : W) → call ≡ KindService i service → OutcomeFits table (P i) (kind.service roster (get_or objects i kind.absent) i caller service))
      → OutcomeFits table AllOf (object_deed kind roster objects caller call)
  deed_fits (Create (Known i)) serves =
      let x = get_or objects i kind.absent in
      within_fits i (object_service kind roster x i caller (Create (Known i))) (guard_fits (P i) roster is x (each i) (is_normal roster.mode) _ _ (λ _. guard_fits (P i) roster is x (each i) (kind.created x) _ _ (λ _.
      record { left = is; kept = makes i x (each i) })))
  deed_fits (Create (Unknown origin)) serves = guard_fits AllOf roster is objects each (is_normal roster.mode) _ _ (λ _. all_same _)
  deed_fits (GetId (Known i)) serves =
      let x = get_or objects i kind.absent in
      within_fits i (object_service kind roster x i caller (GetId (Known i))) (guard_fits (P i) roster is x (each i) (not (kind.created x)) _ _ (λ _. record { left = is; kept = each i }))
  deed_fits (GetId (Unknown origin)) serves = all_same _
  deed_fits (GetStatus i) serves =
      let x = get_or objects i kind.absent in
      within_fits i (object_service kind roster x i caller (GetStatus i)) (guard_fits (P i) roster is x (each i) (not (kind.created x)) _ _ (λ _. record { left = is; kept = each i }))
  deed_fits (KindService i service) serves = within_fits i (kind.service roster (get_or objects i kind.absent) i caller service) (serves i service refl)

-- the other kinds have no values that need room
abbrev pub Anything : {X : Type 0} → ℕ → X → Type 0
Anything k x = Unit {0}

not_from : (b : Bool) → not b ≡ false → b ≡ true
not_from true e = refl
not_from false e = absurd (both_ways _ e refl)

-- lists of messages and of mutexes
push_fit : (ms : List Message) → MessagesFit ms → (m : Message) → FitsMessage m → MessagesFit (ms ++ m ∷ [])
push_fit [] fit m is = (is, tt)
push_fit (n ∷ ms) fit m is = (fit.0, push_fit ms fit.1 m is)

push_held : (hs : List Holding) → HeldFit hs → (h : Holding) → FitsHolding h → HeldFit (hs ++ h ∷ [])
push_held [] fit h is = (is, tt)
push_held (other ∷ hs) fit h is = (fit.0, push_held hs fit.1 h is)

depth_fits : (m depth : ℕ) → depth < 256 → (hs : List Holding) → HeldFit hs → HeldFit (with_depth m depth hs)
depth_fits m depth few [] fit = tt
depth_fits m depth few (h ∷ hs) fit = (
  cond_both {A = Holding} (is_of m h) (record h { depth = depth }) h FitsHolding
      (λ _. record { mutex = fit.0.mutex; ceiling = fit.0.ceiling; depth = few }) (λ _. fit.0),
  depth_fits m depth few hs fit.1,
)

many_depth : (m depth : ℕ) (hs : List Holding) → length (with_depth m depth hs) ≡ length hs
many_depth m depth [] = refl
many_depth m depth (h ∷ hs) = ap suc (many_depth m depth hs)

-- the list without a mutex
record LeftFit (most : ℕ) (hs : List Holding) : Type 0 where
  fit : HeldFit hs
  few : length hs ≤ most

without_fits : (m : ℕ) (hs : List Holding) → HeldFit hs → LeftFit (length hs) (without m hs)
without_fits m [] fit = record { fit = tt; few = omega arith }
without_fits m (h ∷ hs) fit =
    let rest = without_fits m hs fit.1 in
    cond_both {A = List Holding} (not (is_of m h)) (h ∷ without m hs) (without m hs) (LeftFit (suc (length hs)))
    (λ _. record { fit = (fit.0, rest.fit); few = omega (arith, rest.few) }) (λ _. record { fit = rest.fit; few = omega (arith, rest.few) })

held_fits : (m : ℕ) (hs : List Holding) → HeldFit hs → (holding : Holding) → holding_of m hs ≡ Some holding → FitsHolding holding
held_fits m [] fit holding found = absurd (none-some holding found)
held_fits m (h ∷ hs) fit holding found = elim (cases_Bool (is_of m h)) [
  | inl here ↦
      subst FitsHolding (same_Some h holding (sym (ap (λ (b : Bool). cond b (Some h) (holding_of m hs)) here) ∙ found)) fit.0
  | inr apart ↦ held_fits m hs fit.1 holding (sym (ap (λ (b : Bool). cond b (Some h) (holding_of m hs)) apart) ∙ found)
]

-- the message with which a process waits
back_fits : (w : Option Wait) → WaitFits w → (message : Message) → held_back w ≡ Some message → FitsMessage message
back_fits (Some (wait.Send b m)) fits message is = subst FitsMessage (same_Some m message is) fits.1
back_fits (Some (wait.Semaphore s)) fits message is = absurd (none-some message is)
back_fits (Some (wait.Receive s)) fits message is = absurd (none-some message is)
back_fits (Some (wait.Blackboard s)) fits message is = absurd (none-some message is)
back_fits (Some (wait.EventFlag s)) fits message is = absurd (none-some message is)
back_fits (Some (wait.Mutex s)) fits message is = absurd (none-some message is)
back_fits (Some (wait.Normal s)) fits message is = absurd (none-some message is)
back_fits (Some wait.Start) fits message is = absurd (none-some message is)
back_fits (Some wait.Time) fits message is = absurd (none-some message is)
back_fits (Some wait.Period) fits message is = absurd (none-some message is)
back_fits None fits message is = absurd (none-some message is)

with_last_fits : (table : Table) (b : ℕ) (x : BufferObject) → BufferFits table b x → length x.messages < x.capacity → (message : Message) → FitsMessage message
    → BufferFits table b (with_last x message)
with_last_fits table b x fits room message is = record {
  capacity = fits.capacity;
  longest = fits.longest;
  few = omega (arith, length-append x.messages (message ∷ []), room);
  messages = push_fit x.messages fits.messages message is;
}

module _ {table : Table} (roster : Roster) (is : RosterFits table roster) where
  -- a message is received from a buffer that has room again
  taken_fits : (b : ℕ) (x : BufferObject) → BufferFits table b x → length x.messages < x.capacity → (message : Message) (q : ℕ) (w : Option Wait) → WaitFits w
      → (sent : Option Message) → held_back w ≡ sent → OutcomeFits table (BufferFits table b) (take_in roster x message q sent)
  taken_fits b x fits room message q w waits None from = record { left = is; kept = fits }
  taken_fits b x fits room message q w waits (Some sent) from =
      record { left = unblock_fits roster is q; kept = with_last_fits table b x fits room sent (back_fits w waits sent from) }

  received_fits : (b : ℕ) (x : BufferObject) → BufferFits table b x → length x.messages < x.capacity → (message : Message) (found : Option ℕ)
      → OutcomeFits table (BufferFits table b) (received roster x message found)
  received_fits b x fits room message None = record { left = is; kept = fits }
  received_fits b x fits room message (Some q) =
      taken_fits b x fits room message q (record_at roster q).wait (is.each q).waits (held_back (record_at roster q).wait) refl

module _ {table : Table} (roster : Roster) (is : RosterFits table roster) (caller : Caller) where
  pub semaphore_fits : (s : ℕ) → s < 256 → (x : SemaphoreObject) → SemaphoreFits table s x → (service : SemaphoreService)
      → OutcomeFits table (SemaphoreFits table s) (semaphore_service roster x s caller service)
  semaphore_fits s small x fits (semaphore.Wait timeout) =
      let P = SemaphoreFits table s in
      guard_fits P roster is x fits (not x.created) _ _ (λ _. guard_fits P roster is x fits (is_waiting_owner roster caller timeout) _ _ (λ _.
      by_fits P roster is x fits caller _ (λ p _.
      cond_both {A = Outcome SemaphoreObject} (nat_lt 0 x.value) (accepted roster (record x { value = x.value - 1 }) []) (wait_for roster x p (wait.Semaphore s) timeout)
      (OutcomeFits table P)
      (λ _. record { left = is; kept = (fits.0, omega (arith, fits.1)) })
      (λ _. wait_fits P roster is x fits p (wait.Semaphore s) small timeout))))
  semaphore_fits s small x fits semaphore.Signal =
      guard_fits (SemaphoreFits table s) roster is x fits (not x.created) _ _ (λ _. signalled (first_waiter roster (queues.Semaphore s))) where
        signalled : (found : Option ℕ) → OutcomeFits table (SemaphoreFits table s) (signal_to roster x found)
        signalled None =
            guard_fits (SemaphoreFits table s) roster is x fits (not (nat_lt x.value x.maximum)) codes.NoAction _
            (λ room. record { left = is; kept = (fits.0, (let less = ltb-true x.value x.maximum (not_from (nat_lt x.value x.maximum) room) in omega (arith, less))) })
        signalled (Some p) = record { left = granted_fits None roster is p; kept = fits }

  module _ (b : ℕ) (small : b < 256) (x : BufferObject) (fits : BufferFits table b x) where
    last_fits : (p : ℕ) (message : Message) (timeout : Timeout) → FitsMessage message → OutcomeFits table (BufferFits table b) (send_last roster x b p message timeout)
    last_fits p message timeout ok =
        cond_both {A = Outcome BufferObject} (nat_lt (length x.messages) x.capacity) (accepted roster (with_last x message) [])
        (wait_for roster x p (wait.Send b message) timeout) (OutcomeFits table (BufferFits table b))
        (λ room. record { left = is; kept = with_last_fits table b x fits (ltb-true (length x.messages) x.capacity room) message ok })
        (λ _. wait_fits (BufferFits table b) roster is x fits p (wait.Send b message) (small, ok) timeout)

    past_fits : (p : ℕ) (message : Message) (timeout : Timeout) → FitsMessage message → (found : Option ℕ)
        → OutcomeFits table (BufferFits table b) (send_past roster x b p message timeout found)
    past_fits p message timeout ok None = last_fits p message timeout ok
    past_fits p message timeout ok (Some q) =
        cond_both {A = Outcome BufferObject} (is_receiver (record_at roster q).wait) (answered_with _ x (granted (Some message) roster q))
        (send_last roster x b p message timeout) (OutcomeFits table (BufferFits table b))
        (λ _. record { left = granted_fits (Some message) roster is q; kept = fits }) (λ _. last_fits p message timeout ok)

    first_fits : (p : ℕ) (timeout : Timeout) (messages : List Message) → length messages ≤ x.capacity → MessagesFit messages
        → OutcomeFits table (BufferFits table b) (receive_first roster x b p timeout messages)
    first_fits p timeout [] few fit = wait_fits (BufferFits table b) roster is x fits p (wait.Receive b) small timeout
    first_fits p timeout (message ∷ later) few fit =
        received_fits (stamps.receive roster p message) (receive_fits roster is p message) b (record x { messages = later })
        (record { capacity = fits.capacity; longest = fits.longest; few = omega (arith, few); messages = fit.1 }) (omega (arith, few)) message
        (first_waiter (stamps.receive roster p message) (queues.Buffer b))

    pub buffer_fits : (service : BufferService) → ((message : Message) (timeout : Timeout) → service ≡ buffer.Send message timeout → FitsMessage message)
        → OutcomeFits table (BufferFits table b) (buffer_service roster x b caller service)
    buffer_fits (buffer.Send message timeout) ok =
        let P = BufferFits table b in
        guard_fits P roster is x fits (not x.created) _ _ (λ _. guard_fits P roster is x fits (is_unfit x.longest message) _ _ (λ _. guard_fits P roster is x fits (is_waiting_owner roster caller timeout) _ _ (λ _.
        by_fits P roster is x fits caller _ (λ p _. past_fits p message timeout (ok message timeout refl) (first_waiter roster (queues.Buffer b))))))
    buffer_fits (buffer.Receive timeout) ok =
        let P = BufferFits table b in
        guard_fits P roster is x fits (not x.created) _ _ (λ _. guard_fits P roster is x fits (is_waiting_owner roster caller timeout) _ _ (λ _.
        by_fits P roster is x fits caller _ (λ p _. first_fits p timeout x.messages fits.few fits.messages)))

  module _ (b : ℕ) (small : b < 256) (x : BlackboardObject) (fits : BlackboardFits table b x) where
    read_fits : (p : ℕ) (timeout : Timeout) (shown : Option Message) → OutcomeFits table (BlackboardFits table b) (read_shown roster x b p timeout shown)
    read_fits p timeout None = wait_fits (BlackboardFits table b) roster is x fits p (wait.Blackboard b) small timeout
    read_fits p timeout (Some message) = record { left = receive_fits roster is p message; kept = fits }

    pub blackboard_fits : (service : BlackboardService) → ((message : Message) → service ≡ blackboard.Display message → FitsMessage message)
        → OutcomeFits table (BlackboardFits table b) (blackboard_service roster x b caller service)
    blackboard_fits (blackboard.Display message) ok =
        let P = BlackboardFits table b in
        guard_fits P roster is x fits (not x.created) _ _ (λ _. guard_fits P roster is x fits (is_unfit x.longest message) _ _ (λ _.
        record { left = grant_all_fits (queues.Blackboard b) (Some message) roster is; kept = (fits.0, ok message refl) }))
    blackboard_fits (blackboard.Read timeout) ok =
        let P = BlackboardFits table b in
        guard_fits P roster is x fits (not x.created) _ _ (λ _. guard_fits P roster is x fits (is_waiting_owner roster caller timeout) _ _ (λ _.
        by_fits P roster is x fits caller _ (λ p _. read_fits p timeout x.message)))
    blackboard_fits blackboard.Clear ok =
        guard_fits (BlackboardFits table b) roster is x fits (not x.created) _ _ (λ _. record { left = is; kept = (fits.0, tt) })

  pub event_flag_fits : (e : ℕ) → e < 256 → (x : EventFlagObject) → (service : EventFlagService)
      → OutcomeFits table (Anything e) (event_flag_service roster x e caller service)
  event_flag_fits e small x event_flag.Set =
      guard_fits (Anything e) roster is x tt (not x.created) _ _ (λ _. record { left = grant_all_fits (queues.EventFlag e) None roster is; kept = tt })
  event_flag_fits e small x event_flag.Reset = guard_fits (Anything e) roster is x tt (not x.created) _ _ (λ _. record { left = is; kept = tt })
  event_flag_fits e small x (event_flag.Wait timeout) =
      guard_fits (Anything e) roster is x tt (not x.created) _ _ (λ _. guard_fits (Anything e) roster is x tt (is_waiting_owner roster caller timeout) _ _ (λ _.
      by_fits (Anything e) roster is x tt caller _ (λ p _.
      cond_both {A = Outcome EventFlagObject} x.up (accepted roster x []) (wait_for roster x p (wait.EventFlag e) timeout) (OutcomeFits table (Anything e))
      (λ _. record { left = is; kept = tt }) (λ _. wait_fits (Anything e) roster is x tt p (wait.EventFlag e) small timeout))))

  -- mutexes: a process that does not own most of them may own one more, and one that is not deepest
  -- may go deeper
  module _ (m : ℕ) (small : m < 256) (ceiling : ceiling_of roster m < 256) (most : roster.rules.most_owned ≤ MOST_OWNED) (x : MutexObject) where
    from_fits : (p : ℕ) (timeout : Timeout) → length (record_at roster p).owned + 1 ≤ MOST_OWNED → (found : Option ℕ)
        → OutcomeFits table (Anything m) (acquire_from roster x m p timeout found)
    from_fits p timeout room None =
        let owned = (record_at roster p).owned in
        let holding : Holding = record { mutex = m; ceiling = ceiling_of roster m; depth = 1 } in
        record {
          left = own_fits roster is p (owned ++ holding ∷ []) (omega (arith, length-append owned (holding ∷ []), room))
              (push_held owned (is.each p).owned holding (record { mutex = small; ceiling = ceiling; depth = omega arith }));
          kept = tt;
        }
    from_fits p timeout room (Some q) = wait_fits (Anything m) roster is x tt p (wait.Mutex m) small timeout

    acquired_fits : (p : ℕ) (timeout : Timeout) → owns_most roster m (record_at roster p) ≡ false → is_deepest m (record_at roster p) ≡ false
        → (found : Option Holding) → holding_of m (record_at roster p).owned ≡ found → OutcomeFits table (Anything m) (acquire_by roster x m p timeout found)
    acquired_fits p timeout few deep None none =
        let absent : owns m (record_at roster p) ≡ false = none_held m (record_at roster p).owned none in
        let less : nat_le roster.rules.most_owned (length (record_at roster p).owned) ≡ false = rw absent at few in
        from_fits p timeout (let below = leb-false roster.rules.most_owned (length (record_at roster p).owned) less in omega (arith, below, most)) (owner roster m)
    acquired_fits p timeout few deep (Some holding) found =
        let own = is.each p in
        let above : nat_le MOST_DEPTH holding.depth ≡ false = sym (ap (λ (h : Option Holding). nat_le MOST_DEPTH (depth_of h)) found) ∙ deep in
        let shallow = leb-false MOST_DEPTH holding.depth above in
        record {
          left = own_fits roster is p (with_depth m (holding.depth + 1) (record_at roster p).owned)
              (omega (arith, many_depth m (holding.depth + 1) (record_at roster p).owned, own.few))
              (depth_fits m (holding.depth + 1) (omega (arith, shallow)) (record_at roster p).owned own.owned);
          kept = tt;
        }

    given_fits : (p : ℕ) (found : Option Holding) → holding_of m (record_at roster p).owned ≡ found → OutcomeFits table (Anything m) (release_by roster x m p found)
    given_fits p None none = record { left = is; kept = tt }
    given_fits p (Some holding) found =
        let own = is.each p in
        let owned = (record_at roster p).owned in
        let fits = held_fits m owned own.owned holding found in
        let rest = without_fits m owned own.owned in
        cond_both {A = Outcome MutexObject} (nat_lt 1 holding.depth)
        (accepted (stamps.own roster p (with_depth m (holding.depth - 1) owned)) x [])
        (answered_with _ x (hand_over (stamps.own roster p (without m owned)) holding)) (OutcomeFits table (Anything m))
        (λ _. record {
          left = own_fits roster is p (with_depth m (holding.depth - 1) owned) (omega (arith, many_depth m (holding.depth - 1) owned, own.few))
              (depth_fits m (holding.depth - 1) (omega (arith, fits.depth)) owned own.owned);
          kept = tt;
        })
        (λ _. record {
          left = hand_over_fits (stamps.own roster p (without m owned)) (own_fits roster is p (without m owned) (omega (arith, rest.few, own.few)) rest.fit) holding fits;
          kept = tt;
        })

    pub mutex_fits : (service : MutexService) → OutcomeFits table (Anything m) (mutex_service roster x m caller service)
    mutex_fits (mutex.Acquire timeout) =
        guard_fits (Anything m) roster is x tt (not x.created) _ _ (λ _. guard_fits (Anything m) roster is x tt (may_not_wait m timeout (record_of roster caller)) _ _ (λ _.
        guard_fits (Anything m) roster is x tt (owns_most roster m (record_of roster caller)) _ _ (λ few. guard_fits (Anything m) roster is x tt (nat_lt (ceiling_of roster m) (record_of roster caller).base) _ _ (λ _.
        guard_fits (Anything m) roster is x tt (is_deepest m (record_of roster caller)) _ _ (λ deep.
        by_fits (Anything m) roster is x tt caller _ (λ p by.
        acquired_fits p timeout (rw by at few) (rw by at deep) (holding_of m (record_at roster p).owned) refl))))))
    mutex_fits mutex.Release =
        guard_fits (Anything m) roster is x tt (not x.created) _ _ (λ _. guard_fits (Anything m) roster is x tt (not (owns m (record_of roster caller))) _ _ (λ _.
        by_fits (Anything m) roster is x tt caller _ (λ p _. given_fits p (holding_of m (record_at roster p).owned) refl)))

  -- processes
  pub process_fits : (p : ℕ) (x : ProcessObject) → roster.cores ≤ MOST_CORES → (service : ProcessService)
      → ((delay : Timeout) → service ≡ process.DelayedStart delay → delay_ticks delay < 2 ^ 32)
      → OutcomeFits table (Anything p) (process_service roster x p caller service)
  process_fits p x cores (process.InitializeCoreAffinity core) short =
      guard_fits (Anything p) roster is x tt (is_normal roster.mode) _ _ (λ _. guard_fits (Anything p) roster is x tt (not x.created) _ _ (λ _.
      guard_fits (Anything p) roster is x tt (not (nat_lt core roster.cores)) _ _ (λ known.
      record { left = set_core_fits roster is p core (let below = ltb-true core roster.cores (not_from (nat_lt core roster.cores) known) in omega (arith, below, cores)); kept = tt })))
  process_fits p x cores (process.SetPriority priority) short =
      guard_fits (Anything p) roster is x tt (not x.created) _ _ (λ _. guard_fits (Anything p) roster is x tt (not (nat_le 1 priority && nat_le priority MOST_PRIORITY)) _ _ (λ known.
      guard_fits (Anything p) roster is x tt (not (record_at roster p).started) _ _ (λ _.
      let both = and_parts (nat_le 1 priority) (nat_le priority MOST_PRIORITY) (not_from _ known) in
      let few = leb-true priority MOST_PRIORITY both.1 in
      record { left = set_priority_fits roster is p priority (omega (arith, few)); kept = tt })))
  process_fits p x cores process.Start short =
      guard_fits (Anything p) roster is x tt (not x.created) _ _ (λ _. guard_fits (Anything p) roster is x tt ((record_at roster p).started) _ _ (λ _.
      guard_fits (Anything p) roster is x tt (is_unfit_delay (record_at roster p) Poll) _ _ (λ _. record { left = start_fits roster is p 0 (omega arith); kept = tt })))
  process_fits p x cores (process.DelayedStart delay) short =
      guard_fits (Anything p) roster is x tt (not x.created) _ _ (λ _. guard_fits (Anything p) roster is x tt ((record_at roster p).started) _ _ (λ _.
      guard_fits (Anything p) roster is x tt (is_unfit_delay (record_at roster p) delay) _ _ (λ _. record { left = start_fits roster is p (delay_ticks delay) (short delay refl); kept = tt })))
  process_fits p x cores process.Stop short =
      guard_fits (Anything p) roster is x tt (is_by_process p caller) _ _ (λ _. guard_fits (Anything p) roster is x tt (not x.created) _ _ (λ _.
      guard_fits (Anything p) roster is x tt (not (record_at roster p).started) _ _ (λ _. record { left = halted_fits roster is p; kept = tt })))
  process_fits p x cores process.Suspend short =
      guard_fits (Anything p) roster is x tt (is_by_process p caller) _ _ (λ _. guard_fits (Anything p) roster is x tt (not x.created) _ _ (λ _.
      guard_fits (Anything p) roster is x tt (is_unsuspendable (record_at roster p)) _ _ (λ _. guard_fits (Anything p) roster is x tt (is_some (record_at roster p).suspended) _ _ (λ _.
      guard_fits (Anything p) roster is x tt (owns_some (record_at roster p)) _ _ (λ _. record { left = suspend_fits roster is p; kept = tt })))))
  process_fits p x cores process.Resume short =
      guard_fits (Anything p) roster is x tt (is_by_process p caller) _ _ (λ _. guard_fits (Anything p) roster is x tt (not x.created) _ _ (λ _.
      guard_fits (Anything p) roster is x tt (is_unsuspendable (record_at roster p)) _ _ (λ _. guard_fits (Anything p) roster is x tt (is_none (record_at roster p).suspended) _ _ (λ _.
      record { left = resume_fits roster is p; kept = tt }))))

  -- services without an object of their own leave the objects as they are
  module _ {X : Type 0} (P : X → Type 0) (objects : X) (fits : P objects) where
    suspension_fits : (p : ℕ) (timeout : Timeout) → OutcomeFits table P (self_suspension roster objects p timeout)
    suspension_fits p Poll = record { left = is; kept = fits }
    suspension_fits p (Ticks n) = record { left = suspend_self_fits roster is p (due_after roster (Ticks n)); kept = fits }
    suspension_fits p Infinite = record { left = suspend_self_fits roster is p (due_after roster Infinite); kept = fits }

    own_service_fits : (call : CallerCall) (p : ℕ) → OutcomeFits table P (service_by roster objects call p)
    own_service_fits StopSelf p = record { left = halted_fits roster is p; kept = fits }
    own_service_fits (SuspendSelf timeout) p =
        guard_fits P roster is objects fits (is_periodic (record_at roster p)) _ _ (λ _. guard_fits P roster is objects fits (owns_some (record_at roster p)) _ _ (λ _. suspension_fits p timeout))
    own_service_fits GetMyId p = record { left = is; kept = fits }
    own_service_fits GetMyProcessorCoreId p = record { left = is; kept = fits }

    pub caller_fits : (call : CallerCall) → OutcomeFits table P (caller_service roster objects caller call)
    caller_fits call = by_fits P roster is objects fits caller _ (λ p _. own_service_fits call p)

    timed_fits : (timeout : Timeout) (p : ℕ) → OutcomeFits table P (timed_wait roster objects timeout p)
    timed_fits Poll p = record { left = place_newest_fits roster is p; kept = fits }
    timed_fits (Ticks n) p = record { left = block_fits roster is p wait.Time (due_after roster (Ticks n)) tt; kept = fits }
    timed_fits Infinite p = record { left = is; kept = fits }

    pub timely_fits : (call : TimeCall) → OutcomeFits table P (time_service roster objects caller call)
    timely_fits (TimedWait timeout) =
        guard_fits P roster is objects fits (is_owner roster caller) _ _ (λ _. by_fits P roster is objects fits caller _ (λ p _. timed_fits timeout p))
    timely_fits PeriodicWait =
        by_fits P roster is objects fits caller _ (λ p _. guard_fits P roster is objects fits (not (is_periodic (record_at roster p))) _ _ (λ _. guard_fits P roster is objects fits (owns_some (record_at roster p)) _ _ (λ _.
        record { left = await_release_fits roster is p; kept = fits })))
    timely_fits (Replenish budget) =
        by_fits P roster is objects fits caller _ (λ p _. guard_fits P roster is objects fits (is_none (record_at roster p).attributes.capacity) _ _ (λ _. guard_fits P roster is objects fits (is_beyond (record_at roster p).release (record_at roster p).attributes.period (roster.now + budget)) _ _ (λ _.
        record { left = set_deadline_fits roster is p (Some (roster.now + budget)); kept = fits })))
    timely_fits GetTime = record { left = is; kept = fits }

    pub partition_fits : (call : PartitionCall) → OutcomeFits table P (partition_service roster objects call)
    partition_fits (SetPartitionMode requested.Idle) = record { left = idle_fits roster is; kept = fits }
    partition_fits (SetPartitionMode requested.Normal) =
        guard_fits P roster is objects fits (is_normal roster.mode) _ _ (λ _. record { left = normal_fits roster is; kept = fits })
    partition_fits GetPartitionStatus = record { left = is; kept = fits }
