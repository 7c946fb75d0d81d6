-- A row decides the reply: its first guard that holds, or else the effect of its service.
use Rattle.std.proofs.Common.{◌≡◌, ◌∙◌, ℕ, Bool, true, false, not, cond, is_none, is_some, ◌&&◌, ◌||◌, List, [], ◌∷◌, length, Option, None, Some, get_or, refl, subst, sym, arith}
use Rattle.std.specs.Prelude.{nat_le, nat_lt}
use Rattle.std.proofs.lemmas.Bool.{lt-ltb, true≢false}
use Rattle.apex_types.specs.declared.limits.TheConstants.{MOST_PRIORITY}
use Rattle.apex_types.specs.Calls.{known}
use Rattle.apex_types.specs.declared.calls.Named.{Named}
use Rattle.apex_types.specs.Messages.{is_unfit}
use Rattle.apex_types.specs.Modes.{is_normal}
use Rattle.apex_types.specs.declared.calls.BlackboardService.TheVariants.{Display, Read, Clear}
use Rattle.apex_types.specs.declared.calls.BufferService.TheVariants.{Send, Receive}
use Rattle.apex_types.specs.declared.calls.EventFlagService.TheVariants as events
use Rattle.apex_types.specs.declared.calls.MutexService.TheVariants.{Acquire, Release}
use Rattle.apex_types.specs.declared.calls.ObjectCall.TheVariants.{Create, GetId, GetStatus, KindService}
use Rattle.apex_types.specs.declared.calls.ProcessService.TheVariants.{InitializeCoreAffinity, SetPriority, Start, DelayedStart, Stop, Suspend, Resume}
use Rattle.apex_types.specs.declared.calls.SemaphoreService.TheVariants.{Wait, Signal}
use Rattle.apex_types.specs.declared.calls.Timeout.TheVariants.{Poll, Ticks, Infinite}
use Rattle.apex_types.specs.declared.entries.Caller.TheVariants.{Process, Init, Nobody}
use Rattle.apex_machine.specs.declared.records.Queue.TheVariants as queues
use Rattle.apex_machine.specs.declared.records.Wait.TheVariants as wait
use Rattle.apex_machine.specs.processes.Held.{holding_of}
use Rattle.apex_machine.specs.processes.Owners.{ceiling_of, is_deepest, is_waiting_owner, may_not_wait, owner, owns, owns_most, owns_some, record_of}
use Rattle.apex_machine.specs.processes.Roster.{Roster, record_at}
use Rattle.apex_machine.specs.processes.Waiters.{first_waiter}
use Rattle.apex_machine.specs.services.BlackboardServices.{BlackboardObject, blackboard_kind, read_shown}
use Rattle.apex_machine.specs.services.BufferServices.{BufferObject, buffer_kind, is_receiver, held_back, send_past, send_last, take_in, received, receive_first}
use Rattle.apex_machine.specs.services.EventFlagServices.{EventFlagObject, event_flag_kind}
use Rattle.apex_machine.specs.services.MutexServices.{MutexObject, mutex_kind, acquire_by, acquire_from, release_by, owner_status}
use Rattle.apex_machine.specs.services.Objects.{ObjectKind, deed_at, object_deed}
use Rattle.apex_machine.specs.services.Callers.{is_by_process}
use Rattle.apex_machine.specs.services.ProcessServices.{ProcessObject, process_kind, is_unfit_delay, is_unsuspendable, start_process}
use Rattle.apex_machine.specs.processes.Stamps.{receive}
use Rattle.apex_machine.specs.services.Rows.{Outcome, accepted_with, refused}
use Rattle.apex_machine.specs.services.SemaphoreServices.{SemaphoreObject, semaphore_kind, signal_to}
use Rattle.apex_machine.specs.services.Waiting.{wait_for}
use Rattle.apex_machine.specs.services.Waking.{granted}
use Rattle.apex_machine.proofs.Held.{none_held}
use Rattle.apex_reasons.specs.Terms.{BlackboardService, BufferService, Caller, EventFlagService, Holding, Message, MutexService, ObjectCall, ProcessService, SemaphoreService, Timeout, Wait as AnyWait}
use Rattle.apex_reasons.specs.Decisions.{Explains, is_served, rule_of}
use Rattle.apex_reasons.specs.Effects.{OwnEffect, at_once, holds_message, is_for_receiver, kind_effect, waiting_rule, semaphore_effect, buffer_effect, blackboard_effect, event_flag_effect, mutex_effect}
use Rattle.apex_reasons.specs.Guards.{code_of, first_holding}
use Rattle.apex_reasons.specs.ObjectRows.{OwnRow, kind_row, row_at, process_row, start_row, semaphore_row, buffer_row, blackboard_row, event_flag_row, mutex_row}
use Rattle.apex_reasons.specs.declared.guards.Guard.{Guard}
use Rattle.apex_reasons.specs.declared.guards.Guard.TheVariants as guard
use Rattle.apex_reasons.specs.declared.rules.Rule.{Rule}
use Rattle.apex_reasons.specs.declared.rules.Rule.TheVariants.{Served}
use Rattle.apex_reasons.specs.declared.rules.WaitCause.{WaitCause}
use Rattle.apex_reasons.specs.declared.rules.WaitCause.TheVariants.{SemaphoreIsAtZero, BufferIsFull, BufferIsEmpty, BlackboardIsEmpty, EventFlagIsDown, MutexIsOwned}

-- the first guard of a row, or else the effect, decides the reply of an outcome
abbrev pub Decided : {X : Type 0} → Option Guard → Rule → Outcome X → Type 0
Decided first effect outcome = Explains (rule_of first effect) outcome.reply

-- one guard, and the rest of the row if it does not hold
pub by_guard : {X : Type 0} (roster : Roster) (object : X) (guard : Guard) (holds : Bool) (later : Option Guard) (effect : Rule) (rest : Outcome X)
    → (holds ≡ false → Decided later effect rest)
    → Decided (cond holds (Some guard) later) effect (cond holds (refused roster object (code_of guard)) rest)
by_guard roster object guard true later effect rest passes = refl
by_guard roster object guard false later effect rest passes = passes refl

is_so : (b : Bool) → not b ≡ false → b ≡ true
is_so true e = refl
is_so false e = absurd (true≢false e)

-- the outcome that a test decides, with its rule
either : {X : Type 0} (test : Bool) (first second : Rule) (one other : Outcome X) → Explains first one.reply → Explains second other.reply
    → Explains (cond test first second) (cond test one other).reply
either true first second one other here there = here
either false first second one other here there = there

either_way : {X : Type 0} (test : Bool) (one other : Outcome X) → is_served one.reply ≡ true → is_served other.reply ≡ true
    → is_served (cond test one other).reply ≡ true
either_way true one other here there = here
either_way false one other here there = there

waited : {X : Type 0} (roster : Roster) (object : X) (p : ℕ) (wait : AnyWait) (cause : WaitCause) (timeout : Timeout)
    → Explains (waiting_rule cause timeout) (wait_for roster object p wait timeout).reply
waited roster object p wait cause Poll = refl
waited roster object p wait cause (Ticks n) = refl
waited roster object p wait cause Infinite = refl

-- a service that is carried out if the test holds, else waits
pub tried : {X : Type 0} (roster : Roster) (object : X) (p : ℕ) (wait : AnyWait) (cause : WaitCause) (timeout : Timeout) (can : Bool) (one : Outcome X)
    → is_served one.reply ≡ true → Explains (at_once can cause timeout) (cond can one (wait_for roster object p wait timeout)).reply
tried roster object p wait cause timeout can one served =
    either can Served (waiting_rule cause timeout) one (wait_for roster object p wait timeout) served (waited roster object p wait cause timeout)

-- a kind's services, and its status, are decided by the kind's rows
pub record Rows {C X W : Type 0} (kind : ObjectKind C X W) (own : OwnRow X W) (effect : Roster → Caller → OwnEffect X W) : Type 0 where
  pub status : (roster : Roster) (x : X) (i : ℕ) → is_served (kind.status roster x i) ≡ true
  pub service : (roster : Roster) (x : X) (i : ℕ) (caller : Caller) (service : W)
      → Decided (first_holding (own roster x i caller service)) (effect roster caller x i service) (kind.service roster x i caller service)

module _ {C X W : Type 0} (kind : ObjectKind C X W) (own : OwnRow X W) (effect : Roster → Caller → OwnEffect X W) (rows : Rows kind own effect) (roster : Roster) (caller : Caller)
    (objects : List X) where
  created : (named : Named ℕ) (place : Option ℕ)
      → Decided (first_holding (row_at kind own roster objects caller (Create named) place)) Served
      (deed_at kind roster objects caller (Create named) place)
  created named None = by_guard roster objects guard.ModeIsNormal (is_normal roster.mode) _ Served _ (λ _. refl)
  created named (Some i) =
      let x = get_or objects i kind.absent in
      by_guard roster x guard.ModeIsNormal (is_normal roster.mode) _ Served _
      (λ _. by_guard roster x guard.AlreadyCreated (kind.created x) _ Served _ (λ _. refl))

  identified : (named : Named ℕ) (place : Option ℕ)
      → Decided (first_holding (row_at kind own roster objects caller (GetId named) place)) Served
      (deed_at kind roster objects caller (GetId named) place)
  identified named None = refl
  identified named (Some i) =
      let x = get_or objects i kind.absent in
      by_guard roster x guard.IdNotCreated (not (kind.created x)) _ Served _ (λ _. refl)

  -- a call on the objects of the kind
  pub on_call : (call : ObjectCall ℕ W)
      → Decided (first_holding (kind_row kind own roster objects caller call)) (kind_effect kind (effect roster caller) objects call)
      (object_deed kind roster objects caller call)
  on_call (Create named) = created named (known named)
  on_call (GetId named) = identified named (known named)
  on_call (GetStatus i) =
      let x = get_or objects i kind.absent in
      by_guard roster x guard.NotCreated (not (kind.created x)) _ Served _ (λ _. rows.status roster x i)
  on_call (KindService i service) = rows.service roster (get_or objects i kind.absent) i caller service

module _ (roster : Roster) where
  -- semaphores
  signals : (x : SemaphoreObject) (found : Option ℕ)
      → Decided (cond (is_none found && not (nat_lt x.value x.maximum)) (Some guard.SemaphoreIsFull) None) Served (signal_to roster x found)
  signals x None = by_guard roster x guard.SemaphoreIsFull (not (nat_lt x.value x.maximum)) _ Served _ (λ _. refl)
  signals x (Some p) = refl

  semaphores : (x : SemaphoreObject) (s : ℕ) (caller : Caller) (service : SemaphoreService)
      → Decided (first_holding (semaphore_row roster x s caller service)) (semaphore_effect x service)
      (semaphore_kind.service roster x s caller service)
  semaphores x s caller Signal =
      by_guard roster x guard.NotCreated (not x.created) _ _ _ (λ _. signals x (first_waiter roster (queues.Semaphore s)))
  semaphores x s (Process p) (Wait timeout) =
      by_guard roster x guard.NotCreated (not x.created) _ _ _
      (λ _. by_guard roster x guard.OwnerWithTimeout (is_waiting_owner roster (Process p) timeout) _ _ _
      (λ _. tried roster x p (wait.Semaphore s) SemaphoreIsAtZero timeout (nat_lt 0 x.value) _ refl))
  semaphores x s Init (Wait timeout) = by_guard roster x guard.NotCreated (not x.created) _ _ _ (λ _. refl)
  semaphores x s Nobody (Wait timeout) = by_guard roster x guard.NotCreated (not x.created) _ _ _ (λ _. refl)

  -- buffers
  last_sent : (x : BufferObject) (b p : ℕ) (message : Message) (timeout : Timeout)
      → Explains (at_once (nat_lt (length x.messages) x.capacity) BufferIsFull timeout) (send_last roster x b p message timeout).reply
  last_sent x b p message timeout =
      tried roster x p (wait.Send b message) BufferIsFull timeout (nat_lt (length x.messages) x.capacity) _ refl

  sent_past : (x : BufferObject) (b p q : ℕ) (message : Message) (timeout : Timeout) (receives : Bool)
      → Explains (at_once (receives || nat_lt (length x.messages) x.capacity) BufferIsFull timeout)
      (cond receives (accepted_with x (granted (Some message) roster q)) (send_last roster x b p message timeout)).reply
  sent_past x b p q message timeout true = refl
  sent_past x b p q message timeout false = last_sent x b p message timeout

  sent : (x : BufferObject) (b p : ℕ) (message : Message) (timeout : Timeout) (found : Option ℕ)
      → Explains (at_once (is_for_receiver roster found || nat_lt (length x.messages) x.capacity) BufferIsFull timeout)
      (send_past roster x b p message timeout found).reply
  sent x b p message timeout None = last_sent x b p message timeout
  sent x b p message timeout (Some q) = sent_past x b p q message timeout (is_receiver (record_at roster q).wait)

  taken : (after : Roster) (x : BufferObject) (message : Message) (q : ℕ) (held : Option Message)
      → is_served (take_in after x message q held).reply ≡ true
  taken after x message q None = refl
  taken after x message q (Some other) = refl

  got : (after : Roster) (x : BufferObject) (message : Message) (found : Option ℕ)
      → is_served (received after x message found).reply ≡ true
  got after x message None = refl
  got after x message (Some q) = taken after x message q (held_back (record_at after q).wait)

  got_first : (x : BufferObject) (b p : ℕ) (timeout : Timeout) (messages : List Message)
      → Explains (at_once (holds_message messages) BufferIsEmpty timeout) (receive_first roster x b p timeout messages).reply
  got_first x b p timeout [] = waited roster x p (wait.Receive b) BufferIsEmpty timeout
  got_first x b p timeout (message ∷ later) =
      let after = receive roster p message in
      subst
      (λ (holds : Bool). Explains (at_once holds BufferIsEmpty timeout) (receive_first roster x b p timeout (message ∷ later)).reply)
      (sym (lt-ltb 0 (length (message ∷ later)) (omega arith)))
      (got after (record x { messages = later }) message (first_waiter after (queues.Buffer b)))

  buffers : (x : BufferObject) (b : ℕ) (caller : Caller) (service : BufferService)
      → Decided (first_holding (buffer_row roster x caller service)) (buffer_effect roster x b service)
      (buffer_kind.service roster x b caller service)
  buffers x b (Process p) (Send message timeout) =
      by_guard roster x guard.NotCreated (not x.created) _ _ _
      (λ _. by_guard roster x guard.UnfitMessage (is_unfit x.longest message) _ _ _
      (λ _. by_guard roster x guard.OwnerWithTimeout (is_waiting_owner roster (Process p) timeout) _ _ _
      (λ _. sent x b p message timeout (first_waiter roster (queues.Buffer b)))))
  buffers x b Init (Send message timeout) =
      by_guard roster x guard.NotCreated (not x.created) _ _ _ (λ _. by_guard roster x guard.UnfitMessage (is_unfit x.longest message) _ _ _ (λ _. refl))
  buffers x b Nobody (Send message timeout) =
      by_guard roster x guard.NotCreated (not x.created) _ _ _ (λ _. by_guard roster x guard.UnfitMessage (is_unfit x.longest message) _ _ _ (λ _. refl))
  buffers x b (Process p) (Receive timeout) =
      by_guard roster x guard.NotCreated (not x.created) _ _ _
      (λ _. by_guard roster x guard.OwnerWithTimeout (is_waiting_owner roster (Process p) timeout) _ _ _
      (λ _. got_first x b p timeout x.messages))
  buffers x b Init (Receive timeout) = by_guard roster x guard.NotCreated (not x.created) _ _ _ (λ _. refl)
  buffers x b Nobody (Receive timeout) = by_guard roster x guard.NotCreated (not x.created) _ _ _ (λ _. refl)

  -- blackboards
  read : (x : BlackboardObject) (b p : ℕ) (timeout : Timeout) (shown : Option Message)
      → Explains (at_once (is_some shown) BlackboardIsEmpty timeout) (read_shown roster x b p timeout shown).reply
  read x b p timeout None = waited roster x p (wait.Blackboard b) BlackboardIsEmpty timeout
  read x b p timeout (Some message) = refl

  blackboards : (x : BlackboardObject) (b : ℕ) (caller : Caller) (service : BlackboardService)
      → Decided (first_holding (blackboard_row roster x caller service)) (blackboard_effect x service)
      (blackboard_kind.service roster x b caller service)
  blackboards x b caller (Display message) =
      by_guard roster x guard.NotCreated (not x.created) _ _ _ (λ _. by_guard roster x guard.UnfitMessage (is_unfit x.longest message) _ _ _ (λ _. refl))
  blackboards x b caller Clear = by_guard roster x guard.NotCreated (not x.created) _ _ _ (λ _. refl)
  blackboards x b (Process p) (Read timeout) =
      by_guard roster x guard.NotCreated (not x.created) _ _ _
      (λ _. by_guard roster x guard.OwnerWithTimeout (is_waiting_owner roster (Process p) timeout) _ _ _
      (λ _. read x b p timeout x.message))
  blackboards x b Init (Read timeout) = by_guard roster x guard.NotCreated (not x.created) _ _ _ (λ _. refl)
  blackboards x b Nobody (Read timeout) = by_guard roster x guard.NotCreated (not x.created) _ _ _ (λ _. refl)

  -- event flags
  event_flags : (x : EventFlagObject) (e : ℕ) (caller : Caller) (service : EventFlagService)
      → Decided (first_holding (event_flag_row roster x caller service)) (event_flag_effect x service)
      (event_flag_kind.service roster x e caller service)
  event_flags x e caller events.Set = by_guard roster x guard.NotCreated (not x.created) _ _ _ (λ _. refl)
  event_flags x e caller events.Reset = by_guard roster x guard.NotCreated (not x.created) _ _ _ (λ _. refl)
  event_flags x e (Process p) (events.Wait timeout) =
      by_guard roster x guard.NotCreated (not x.created) _ _ _
      (λ _. by_guard roster x guard.OwnerWithTimeout (is_waiting_owner roster (Process p) timeout) _ _ _
      (λ _. tried roster x p (wait.EventFlag e) EventFlagIsDown timeout x.up _ refl))
  event_flags x e Init (events.Wait timeout) = by_guard roster x guard.NotCreated (not x.created) _ _ _ (λ _. refl)
  event_flags x e Nobody (events.Wait timeout) = by_guard roster x guard.NotCreated (not x.created) _ _ _ (λ _. refl)

  -- mutexes
  acquired_from : (x : MutexObject) (m p : ℕ) (timeout : Timeout) (found : Option ℕ)
      → Explains (at_once (is_none found) MutexIsOwned timeout) (acquire_from roster x m p timeout found).reply
  acquired_from x m p timeout None = refl
  acquired_from x m p timeout (Some q) = waited roster x p (wait.Mutex m) MutexIsOwned timeout

  acquired : (x : MutexObject) (m p : ℕ) (timeout : Timeout) (held : Option Holding)
      → Explains (at_once (is_some held || is_none (owner roster m)) MutexIsOwned timeout) (acquire_by roster x m p timeout held).reply
  acquired x m p timeout None = acquired_from x m p timeout (owner roster m)
  acquired x m p timeout (Some holding) = refl

  gave_up : (x : MutexObject) (m p : ℕ) → owns m (record_at roster p) ≡ true → (held : Option Holding)
      → holding_of m (record_at roster p).owned ≡ held → is_served (release_by roster x m p held).reply ≡ true
  gave_up x m p owned None e = absurd (true≢false (sym owned ∙ none_held m (record_at roster p).owned e))
  gave_up x m p owned (Some holding) e = either_way (nat_lt 1 holding.depth) _ _ refl refl

  asks : (x : MutexObject) (m : ℕ) (timeout : Timeout) (caller : Caller) (later : Option Guard) (effect : Rule) (rest : Outcome MutexObject)
      → Decided later effect rest
      → Decided
      (cond (not x.created) (Some guard.NotCreated)
      (cond (may_not_wait m timeout (record_of roster caller)) (Some guard.OwnerOfAnotherWithTimeout)
      (cond (owns_most roster m (record_of roster caller)) (Some guard.OwnsMost)
      (cond (nat_lt (ceiling_of roster m) (record_of roster caller).base) (Some guard.BaseAboveCeiling)
      (cond (is_deepest m (record_of roster caller)) (Some guard.AtMostDepth) later)))))
      effect
      (cond (not x.created) (refused roster x (code_of guard.NotCreated))
      (cond (may_not_wait m timeout (record_of roster caller)) (refused roster x (code_of guard.OwnerOfAnotherWithTimeout))
      (cond (owns_most roster m (record_of roster caller)) (refused roster x (code_of guard.OwnsMost))
      (cond (nat_lt (ceiling_of roster m) (record_of roster caller).base) (refused roster x (code_of guard.BaseAboveCeiling))
      (cond (is_deepest m (record_of roster caller)) (refused roster x (code_of guard.AtMostDepth)) rest)))))
  asks x m timeout caller later effect rest passes =
      let r = record_of roster caller in
      by_guard roster x guard.NotCreated (not x.created) _ effect _
      (λ _. by_guard roster x guard.OwnerOfAnotherWithTimeout (may_not_wait m timeout r) _ effect _
      (λ _. by_guard roster x guard.OwnsMost (owns_most roster m r) _ effect _
      (λ _. by_guard roster x guard.BaseAboveCeiling (nat_lt (ceiling_of roster m) r.base) _ effect _
      (λ _. by_guard roster x guard.AtMostDepth (is_deepest m r) _ effect _ (λ _. passes)))))

  mutexes : (x : MutexObject) (m : ℕ) (caller : Caller) (service : MutexService)
      → Decided (first_holding (mutex_row roster x m caller service)) (mutex_effect roster caller m service)
      (mutex_kind.service roster x m caller service)
  mutexes x m (Process p) (Acquire timeout) =
      asks x m timeout (Process p) _ _ _ (acquired x m p timeout (holding_of m (record_at roster p).owned))
  mutexes x m Init (Acquire timeout) = asks x m timeout Init _ _ _ refl
  mutexes x m Nobody (Acquire timeout) = asks x m timeout Nobody _ _ _ refl
  mutexes x m (Process p) Release =
      by_guard roster x guard.NotCreated (not x.created) _ _ _
      (λ _. by_guard roster x guard.CallerIsNotOwner (not (owns m (record_at roster p))) _ _ _
      (λ owned. gave_up x m p (is_so (owns m (record_at roster p)) owned) (holding_of m (record_at roster p).owned) refl))
  mutexes x m Init Release = by_guard roster x guard.NotCreated (not x.created) _ _ _ (λ _. refl)
  mutexes x m Nobody Release = by_guard roster x guard.NotCreated (not x.created) _ _ _ (λ _. refl)

  owner_told : (m : ℕ) (found : Option ℕ) → is_served (owner_status roster m found) ≡ true
  owner_told m None = refl
  owner_told m (Some p) = refl

  -- processes
  starts : (x : ProcessObject) (p : ℕ) (delay : Timeout)
      → Decided (first_holding (start_row (record_at roster p) x delay)) Served (start_process roster x p delay)
  starts x p delay =
      by_guard roster x guard.NotCreated (not x.created) _ Served _
      (λ _. by_guard roster x guard.AlreadyStarted (record_at roster p).started _ Served _
      (λ _. by_guard roster x guard.UnfitDelay (is_unfit_delay (record_at roster p) delay) _ Served _ (λ _. refl)))

  processes : (x : ProcessObject) (p : ℕ) (caller : Caller) (service : ProcessService)
      → Decided (first_holding (process_row roster x p caller service)) Served (process_kind.service roster x p caller service)
  processes x p caller (InitializeCoreAffinity core) =
      by_guard roster x guard.ModeIsNormal (is_normal roster.mode) _ Served _
      (λ _. by_guard roster x guard.NotCreated (not x.created) _ Served _
      (λ _. by_guard roster x guard.NoSuchCore (not (nat_lt core roster.cores)) _ Served _ (λ _. refl)))
  processes x p caller (SetPriority priority) =
      by_guard roster x guard.NotCreated (not x.created) _ Served _
      (λ _. by_guard roster x guard.PriorityOutOfRange (not (nat_le 1 priority && nat_le priority MOST_PRIORITY)) _ Served _
      (λ _. by_guard roster x guard.DormantForPriority (not (record_at roster p).started) _ Served _ (λ _. refl)))
  processes x p caller Start = starts x p Poll
  processes x p caller (DelayedStart delay) = starts x p delay
  processes x p caller Stop =
      by_guard roster x guard.NamesCaller (is_by_process p caller) _ Served _
      (λ _. by_guard roster x guard.NotCreated (not x.created) _ Served _
      (λ _. by_guard roster x guard.AlreadyDormant (not (record_at roster p).started) _ Served _ (λ _. refl)))
  processes x p caller Suspend =
      by_guard roster x guard.NamesCaller (is_by_process p caller) _ Served _
      (λ _. by_guard roster x guard.NotCreated (not x.created) _ Served _
      (λ _. by_guard roster x guard.DormantOrPeriodic (is_unsuspendable (record_at roster p)) _ Served _
      (λ _. by_guard roster x guard.AlreadySuspended (is_some (record_at roster p).suspended) _ Served _
      (λ _. by_guard roster x guard.OwnsMutex (owns_some (record_at roster p)) _ Served _ (λ _. refl)))))
  processes x p caller Resume =
      by_guard roster x guard.NamesCaller (is_by_process p caller) _ Served _
      (λ _. by_guard roster x guard.NotCreated (not x.created) _ Served _
      (λ _. by_guard roster x guard.DormantOrPeriodic (is_unsuspendable (record_at roster p)) _ Served _
      (λ _. by_guard roster x guard.NotSuspended (is_none (record_at roster p).suspended) _ Served _ (λ _. refl))))

pub semaphores_decided : Rows semaphore_kind semaphore_row (λ roster caller x s. semaphore_effect x)
semaphores_decided = record { status = λ roster x s. refl; service = semaphores }

pub buffers_decided : Rows buffer_kind (λ roster x b. buffer_row roster x) (λ roster caller. buffer_effect roster)
buffers_decided = record { status = λ roster x b. refl; service = buffers }

pub blackboards_decided : Rows blackboard_kind (λ roster x b. blackboard_row roster x) (λ roster caller x b. blackboard_effect x)
blackboards_decided = record { status = λ roster x b. refl; service = blackboards }

pub event_flags_decided : Rows event_flag_kind (λ roster x e. event_flag_row roster x) (λ roster caller x e. event_flag_effect x)
event_flags_decided = record { status = λ roster x e. refl; service = event_flags }

pub mutexes_decided : Rows mutex_kind mutex_row (λ roster caller x. mutex_effect roster caller)
mutexes_decided = record { status = λ roster x m. owner_told roster m (owner roster m); service = mutexes }

-- no caller of a service of processes waits
abbrev pub all_served : OwnEffect ProcessObject ProcessService
all_served x p service = Served

pub processes_decided : Rows process_kind process_row (λ roster caller. all_served)
processes_decided = record { status = λ roster x p. refl; service = processes }
