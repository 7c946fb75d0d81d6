-- The services of semaphores, buffers, blackboards, event flags and mutexes keep rosters alike.
use Rattle.std.proofs.Common.{◌≡◌, ℕ, ◌+◌, ◌-◌, Bool, true, false, cond, List, [], ◌∷◌, ◌++◌, length, Option, None, Some, refl, sym, ◌∙◌, ap, subst}
use Rattle.std.specs.Prelude.{not, nat_lt, slice_index_or}
use Rattle.apex_laws.specs.Terms.{BlackboardService, BufferService, Caller, EventFlagService, Holding, Message, MutexService, Record, SemaphoreService, Timeout}
use Rattle.apex_types.specs.declared.calls.BlackboardService.TheVariants.{Display, Read, Clear}
use Rattle.apex_types.specs.declared.calls.BufferService.TheVariants.{Send, Receive}
use Rattle.apex_types.specs.declared.entries.Caller.TheVariants.{Process}
use Rattle.apex_types.specs.declared.calls.EventFlagService.TheVariants as flag
use Rattle.apex_types.specs.declared.calls.MutexService.TheVariants.{Acquire, Release}
use Rattle.apex_machine.specs.declared.records.Queue.TheVariants as queues
use Rattle.apex_types.specs.declared.entries.Reply.TheVariants.{Code, Message as Gets}
use Rattle.apex_types.specs.declared.entries.ReturnCode.TheVariants.{NoAction, NoError, InvalidParam, InvalidMode}
use Rattle.apex_types.specs.declared.calls.SemaphoreService.TheVariants as semaphore
use Rattle.apex_machine.specs.declared.records.Wait.TheVariants as wait
use Rattle.apex_machine.specs.processes.Held.{holding_of, with_depth, without}
use Rattle.apex_machine.specs.processes.Owners.{ceiling_of, is_deepest, is_waiting_owner, may_not_wait, owner, owns, owns_most, record_of}
use Rattle.apex_machine.specs.processes.Periods.{awaits_first}
use Rattle.apex_machine.specs.processes.Roster.{MutexRules, Roster, record_at}
use Rattle.apex_machine.specs.processes.Stamps.{receive}
use Rattle.apex_machine.specs.processes.Waiters.{first_waiter}
use Rattle.apex_machine.specs.services.BlackboardServices as blackboards
use Rattle.apex_machine.specs.services.BlackboardServices.{BlackboardObject}
use Rattle.apex_machine.specs.services.BufferServices as buffers
use Rattle.apex_machine.specs.services.BufferServices.{BufferObject}
use Rattle.apex_machine.specs.services.Callers.{IsReady, IsReadyCaller}
use Rattle.apex_machine.specs.services.EventFlagServices as flags
use Rattle.apex_machine.specs.services.EventFlagServices.{EventFlagObject}
use Rattle.apex_machine.specs.services.MutexServices as mutexes
use Rattle.apex_machine.specs.services.MutexServices.{MutexObject}
use Rattle.apex_machine.specs.services.Rows.{Outcome, accepted}
use Rattle.apex_machine.specs.services.SemaphoreServices as semaphores
use Rattle.apex_machine.specs.services.SemaphoreServices.{SemaphoreObject}
use Rattle.apex_types.specs.Messages.{is_unfit}
use Rattle.apex_machine.proofs.Starts.{first_within, runnable}
use Rattle.apex_alike.specs.Alike.{AreAlike, AreAlikeOutcomes}
use Rattle.apex_alike.proofs.Changes.{both_cond}
use Rattle.apex_alike.proofs.Choices.{same_owner, same_waiter}
use Rattle.apex_alike.proofs.Loops.{alike_grant_all, alike_granted, alike_hand_over, alike_woken, first_free}
use Rattle.apex_alike.proofs.Rows.{alike_answered, alike_by, alike_guard, alike_refused, alike_replied, alike_wait_for, caller_later, same_waiting_owner}
use Rattle.apex_alike.proofs.Stamps.{alike_own, alike_receive}

-- a process that is ready has been released
pub ready_free : (roster : Roster) (p : ℕ) → IsReady roster p → awaits_first (record_at roster p).wait ≡ false
ready_free roster p ready = ap awaits_first (runnable roster.mode (record_at roster p) ready.eligible).free

-- the same choice
both_same : {d : ℕ} {X : Type 0} (b : Bool) {x y z w : Outcome X} → AreAlikeOutcomes d x z → AreAlikeOutcomes d y w
    → AreAlikeOutcomes d (cond b x y) (cond b z w)
both_same true one other = one
both_same false one other = other

-- the same object, NO_ERROR, and no notice
pub alike_accepted : {d : ℕ} {X : Type 0} {one other : Roster} {x : X} → AreAlike d one other
    → AreAlikeOutcomes d {X = X} (accepted one x []) (accepted other x [])
alike_accepted alike = record { rosters = alike; object = refl; reply = refl; notices = refl }

module _ {d : ℕ} {first second : Roster} (alike : AreAlike d first second) (caller : Caller) (ready : IsReadyCaller first caller) where
  -- the caller, if it is a process
  pub ready_at : (p : ℕ) → caller ≡ Process p → IsReady first p
  ready_at p by = subst (IsReadyCaller first) by ready

  -- semaphores
  alike_wait : (x : SemaphoreObject) (s : ℕ) (timeout : Timeout)
      → AreAlikeOutcomes d (semaphores.wait_semaphore first x s caller timeout) (semaphores.wait_semaphore second x s caller timeout)
  alike_wait x s timeout =
      alike_guard alike x (not x.created) (not x.created) InvalidParam refl _ _ (λ _.
      alike_guard alike x (is_waiting_owner first caller timeout) (is_waiting_owner second caller timeout) InvalidMode (same_waiting_owner alike caller timeout) _ _ (λ _.
      alike_by alike x caller _ _ (λ p by.
      let is = ready_at p by in
      both_same (nat_lt 0 x.value)
      (record { rosters = alike; object = refl; reply = refl; notices = refl })
      (alike_wait_for alike x p is.known (ready_free first p is) (wait.Semaphore s) timeout refl))))

  alike_signal : (x : SemaphoreObject) (s : ℕ)
      → AreAlikeOutcomes d (semaphores.signal_semaphore first x s) (semaphores.signal_semaphore second x s)
  alike_signal x s =
      alike_guard alike x (not x.created) (not x.created) InvalidParam refl _ _ (λ _.
      rw (same_waiter alike (queues.Semaphore s)) (signals (first_waiter first (queues.Semaphore s)) refl)) where
        signals : (found : Option ℕ) → first_waiter first (queues.Semaphore s) ≡ found
            → AreAlikeOutcomes d (semaphores.signal_to first x found) (semaphores.signal_to second x found)
        signals None is =
            alike_guard alike x (not (nat_lt x.value x.maximum)) (not (nat_lt x.value x.maximum)) NoAction refl _ _ (λ _.
            record { rosters = alike; object = refl; reply = refl; notices = refl })
        signals (Some p) is =
            alike_answered (Code NoError) x
            (alike_granted None alike p (first_within first (queues.Semaphore s) p is) (first_free first (queues.Semaphore s) p refl is))

  pub alike_semaphore : (x : SemaphoreObject) (s : ℕ) (service : SemaphoreService)
      → AreAlikeOutcomes d (semaphores.semaphore_service first x s caller service) (semaphores.semaphore_service second x s caller service)
  alike_semaphore x s (semaphore.Wait timeout) = alike_wait x s timeout
  alike_semaphore x s semaphore.Signal = alike_signal x s

  -- buffers
  module _ (x : BufferObject) (b : ℕ) where
    alike_send_last : (p : ℕ) → caller ≡ Process p → (message : Message) (timeout : Timeout)
        → AreAlikeOutcomes d (buffers.send_last first x b p message timeout) (buffers.send_last second x b p message timeout)
    alike_send_last p by message timeout =
        let is = ready_at p by in
        both_same (nat_lt (length x.messages) x.capacity)
        (record { rosters = alike; object = refl; reply = refl; notices = refl })
        (alike_wait_for alike x p is.known (ready_free first p is) (wait.Send b message) timeout refl)

    alike_send_past : (p : ℕ) → caller ≡ Process p → (message : Message) (timeout : Timeout) (found : Option ℕ)
        → first_waiter first (queues.Buffer b) ≡ found
        → AreAlikeOutcomes d (buffers.send_past first x b p message timeout found) (buffers.send_past second x b p message timeout found)
    alike_send_past p by message timeout None at = alike_send_last p by message timeout
    alike_send_past p by message timeout (Some q) at =
        both_cond {A = Outcome BufferObject} {B = Outcome BufferObject} (AreAlikeOutcomes d)
        (buffers.is_receiver (record_at first q).wait) (buffers.is_receiver (record_at second q).wait)
        (ap (λ (r : Record). buffers.is_receiver r.wait) (alike.each q).is) _ _ _ _
        (λ _. alike_answered (Code NoError) x
        (alike_granted (Some message) alike q (first_within first (queues.Buffer b) q at) (first_free first (queues.Buffer b) q refl at)))
        (λ _. alike_send_last p by message timeout)

    alike_send : (message : Message) (timeout : Timeout)
        → AreAlikeOutcomes d (buffers.send_buffer first x b caller message timeout) (buffers.send_buffer second x b caller message timeout)
    alike_send message timeout =
        alike_guard alike x (not x.created) (not x.created) InvalidParam refl _ _ (λ _.
        alike_guard alike x (is_unfit x.longest message) (is_unfit x.longest message) InvalidParam refl _ _ (λ _.
        alike_guard alike x (is_waiting_owner first caller timeout) (is_waiting_owner second caller timeout) InvalidMode (same_waiting_owner alike caller timeout) _ _ (λ _.
        alike_by alike x caller _ _ (λ p by.
        rw (same_waiter alike (queues.Buffer b)) (alike_send_past p by message timeout (first_waiter first (queues.Buffer b)) refl)))))

    alike_take_in : (left : BufferObject) (message : Message) (q : ℕ) {one other : Roster} → AreAlike d one other
        → first_waiter one (queues.Buffer b) ≡ Some q → (held : Option Message)
        → AreAlikeOutcomes d (buffers.take_in one left message q held) (buffers.take_in other left message q held)
    alike_take_in left message q after at None = alike_replied after left (Gets message)
    alike_take_in left message q {one} {other} after at (Some sent) =
        alike_answered (Gets message) (buffers.with_last left sent)
        (alike_woken after q (first_within one (queues.Buffer b) q at) NoError (first_free one (queues.Buffer b) q refl at))

    alike_received : (left : BufferObject) (message : Message) {one other : Roster} → AreAlike d one other
        → (found : Option ℕ) → first_waiter one (queues.Buffer b) ≡ found
        → AreAlikeOutcomes d (buffers.received one left message found) (buffers.received other left message found)
    alike_received left message after None at = alike_replied after left (Gets message)
    alike_received left message {one} {other} after (Some q) at =
        let same : buffers.held_back (record_at other q).wait ≡ buffers.held_back (record_at one q).wait =
        ap (λ (r : Record). buffers.held_back r.wait) (after.each q).is in
        subst (λ (h : Option Message). AreAlikeOutcomes d (buffers.received one left message (Some q)) (buffers.take_in other left message q h)) (sym same)
        (alike_take_in left message q after at (buffers.held_back (record_at one q).wait))

    alike_receive_first : (p : ℕ) → caller ≡ Process p → (timeout : Timeout) (messages : List Message)
        → AreAlikeOutcomes d (buffers.receive_first first x b p timeout messages) (buffers.receive_first second x b p timeout messages)
    alike_receive_first p by timeout [] =
        let is = ready_at p by in alike_wait_for alike x p is.known (ready_free first p is) (wait.Receive b) timeout refl
    alike_receive_first p by timeout (message ∷ later) =
        let after = alike_receive alike p (ready_at p by).known message in
        let left : BufferObject = record x { messages = later } in
        let same : first_waiter (receive second p message) (queues.Buffer b) ≡ first_waiter (receive first p message) (queues.Buffer b) =
        same_waiter after (queues.Buffer b) in
        subst (λ (h : Option ℕ). AreAlikeOutcomes d (buffers.receive_first first x b p timeout (message ∷ later)) (buffers.received (receive second p message) left message h)) (sym same)
        (alike_received left message after (first_waiter (receive first p message) (queues.Buffer b)) refl)

    pub alike_buffer : (service : BufferService)
        → AreAlikeOutcomes d (buffers.buffer_service first x b caller service) (buffers.buffer_service second x b caller service)
    alike_buffer (Send message timeout) = alike_send message timeout
    alike_buffer (Receive timeout) =
        alike_guard alike x (not x.created) (not x.created) InvalidParam refl _ _ (λ _.
        alike_guard alike x (is_waiting_owner first caller timeout) (is_waiting_owner second caller timeout) InvalidMode (same_waiting_owner alike caller timeout) _ _ (λ _.
        alike_by alike x caller _ _ (λ p by. alike_receive_first p by timeout x.messages)))

  -- blackboards
  module _ (x : BlackboardObject) (b : ℕ) where
    alike_read : (p : ℕ) → caller ≡ Process p → (timeout : Timeout) (shown : Option Message)
        → AreAlikeOutcomes d (blackboards.read_shown first x b p timeout shown) (blackboards.read_shown second x b p timeout shown)
    alike_read p by timeout None =
        let is = ready_at p by in alike_wait_for alike x p is.known (ready_free first p is) (wait.Blackboard b) timeout refl
    alike_read p by timeout (Some message) =
        alike_replied (alike_receive alike p (ready_at p by).known message) x (Gets message)

    pub alike_blackboard : (service : BlackboardService)
        → AreAlikeOutcomes d (blackboards.blackboard_service first x b caller service) (blackboards.blackboard_service second x b caller service)
    alike_blackboard (Display message) =
        alike_guard alike x (not x.created) (not x.created) InvalidParam refl _ _ (λ _.
        alike_guard alike x (is_unfit x.longest message) (is_unfit x.longest message) InvalidParam refl _ _ (λ _.
        alike_answered (Code NoError) _ (alike_grant_all (queues.Blackboard b) (Some message) refl alike)))
    alike_blackboard (Read timeout) =
        alike_guard alike x (not x.created) (not x.created) InvalidParam refl _ _ (λ _.
        alike_guard alike x (is_waiting_owner first caller timeout) (is_waiting_owner second caller timeout) InvalidMode (same_waiting_owner alike caller timeout) _ _ (λ _.
        alike_by alike x caller _ _ (λ p by. alike_read p by timeout x.message)))
    alike_blackboard Clear =
        alike_guard alike x (not x.created) (not x.created) InvalidParam refl _ _ (λ _.
        record { rosters = alike; object = refl; reply = refl; notices = refl })

  -- event flags
  pub alike_event_flag : (x : EventFlagObject) (e : ℕ) (service : EventFlagService)
      → AreAlikeOutcomes d (flags.event_flag_service first x e caller service) (flags.event_flag_service second x e caller service)
  alike_event_flag x e flag.Set =
      alike_guard alike x (not x.created) (not x.created) InvalidParam refl _ _ (λ _.
      alike_answered (Code NoError) _ (alike_grant_all (queues.EventFlag e) None refl alike))
  alike_event_flag x e flag.Reset =
      alike_guard alike x (not x.created) (not x.created) InvalidParam refl _ _ (λ _.
      record { rosters = alike; object = refl; reply = refl; notices = refl })
  alike_event_flag x e (flag.Wait timeout) =
      alike_guard alike x (not x.created) (not x.created) InvalidParam refl _ _ (λ _.
      alike_guard alike x (is_waiting_owner first caller timeout) (is_waiting_owner second caller timeout) InvalidMode (same_waiting_owner alike caller timeout) _ _ (λ _.
      alike_by alike x caller _ _ (λ p by.
      let is = ready_at p by in
      both_same x.up
      (record { rosters = alike; object = refl; reply = refl; notices = refl })
      (alike_wait_for alike x p is.known (ready_free first p is) (wait.EventFlag e) timeout refl))))

  -- mutexes
  module _ (x : MutexObject) (m : ℕ) where
    same_ceiling : ceiling_of second m ≡ ceiling_of first m
    same_ceiling = ap (λ (rules : MutexRules). slice_index_or rules.ceilings m 0) alike.rules

    same_owns_most : owns_most second m (record_of second caller) ≡ owns_most first m (record_of first caller)
    same_owns_most =
        ap (λ (rules : MutexRules). owns_most (record second { rules = rules }) m (record_of second caller)) alike.rules
        ∙ ap (owns_most first m) (caller_later alike caller).is

    alike_acquire_from : (p : ℕ) → caller ≡ Process p → (timeout : Timeout) (found : Option ℕ)
        → AreAlikeOutcomes d (mutexes.acquire_from first x m p timeout found) (mutexes.acquire_from second x m p timeout found)
    alike_acquire_from p by timeout None =
        alike_accepted (alike_own alike p (ready_at p by).known _ _
        (ap (λ (c : ℕ). (record_at second p).owned ++ (record { mutex = m; ceiling = c; depth = 1 }) ∷ []) same_ceiling
        ∙ ap (λ (r : Record). r.owned ++ (record { mutex = m; ceiling = ceiling_of first m; depth = 1 }) ∷ []) (alike.each p).is))
    alike_acquire_from p by timeout (Some q) =
        let is = ready_at p by in alike_wait_for alike x p is.known (ready_free first p is) (wait.Mutex m) timeout refl

    alike_acquire_by : (p : ℕ) → caller ≡ Process p → (timeout : Timeout) (held : Option Holding)
        → AreAlikeOutcomes d (mutexes.acquire_by first x m p timeout held) (mutexes.acquire_by second x m p timeout held)
    alike_acquire_by p by timeout None = rw (same_owner alike m) (alike_acquire_from p by timeout (owner first m))
    alike_acquire_by p by timeout (Some holding) =
        alike_accepted (alike_own alike p (ready_at p by).known _ _
        (ap (λ (r : Record). with_depth m (holding.depth + 1) r.owned) (alike.each p).is))

    alike_release_by : (p : ℕ) → caller ≡ Process p → (held : Option Holding)
        → AreAlikeOutcomes d (mutexes.release_by first x m p held) (mutexes.release_by second x m p held)
    alike_release_by p by None = alike_refused alike x InvalidMode
    alike_release_by p by (Some holding) =
        both_same (nat_lt 1 holding.depth)
        (alike_accepted (alike_own alike p (ready_at p by).known _ _
        (ap (λ (r : Record). with_depth m (holding.depth - 1) r.owned) (alike.each p).is)))
        (alike_answered (Code NoError) x
        (alike_hand_over holding (alike_own alike p (ready_at p by).known _ _ (ap (λ (r : Record). without m r.owned) (alike.each p).is))))

    same_holding : (p : ℕ) → holding_of m (record_at second p).owned ≡ holding_of m (record_at first p).owned
    same_holding p = ap (λ (r : Record). holding_of m r.owned) (alike.each p).is

    pub alike_mutex : (service : MutexService)
        → AreAlikeOutcomes d (mutexes.mutex_service first x m caller service) (mutexes.mutex_service second x m caller service)
    alike_mutex (Acquire timeout) =
        let is = (caller_later alike caller).is in
        alike_guard alike x (not x.created) (not x.created) InvalidParam refl _ _ (λ _.
        alike_guard alike x _ _ InvalidMode (ap (may_not_wait m timeout) is) _ _ (λ _.
        alike_guard alike x _ _ InvalidMode same_owns_most _ _ (λ _.
        alike_guard alike x _ _ InvalidMode
        (ap (λ (c : ℕ). nat_lt c (record_of second caller).base) same_ceiling ∙ ap (λ (r : Record). nat_lt (ceiling_of first m) r.base) is) _ _ (λ _.
        alike_guard alike x _ _ InvalidMode (ap (is_deepest m) is) _ _ (λ _.
        alike_by alike x caller _ _ (λ p by.
        subst (λ (h : Option Holding). AreAlikeOutcomes d
        (mutexes.acquire_by first x m p timeout (holding_of m (record_at first p).owned)) (mutexes.acquire_by second x m p timeout h))
        (sym (same_holding p)) (alike_acquire_by p by timeout (holding_of m (record_at first p).owned))))))))
    alike_mutex Release =
        let is = (caller_later alike caller).is in
        alike_guard alike x (not x.created) (not x.created) InvalidParam refl _ _ (λ _.
        alike_guard alike x _ _ InvalidMode (ap (λ (r : Record). not (owns m r)) is) _ _ (λ _.
        alike_by alike x caller _ _ (λ p by.
        subst (λ (h : Option Holding). AreAlikeOutcomes d
        (mutexes.release_by first x m p (holding_of m (record_at first p).owned)) (mutexes.release_by second x m p h))
        (sym (same_holding p)) (alike_release_by p by (holding_of m (record_at first p).owned)))))
