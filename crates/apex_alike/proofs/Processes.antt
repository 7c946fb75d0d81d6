-- The services of processes, of time and of the partition keep rosters alike.
use Rattle.std.proofs.Common.{◌≡◌, ℕ, zero, suc, ◌+◌, ◌<◌, ◌⊎◌, ◌==◌, true, false, List, [], ◌∷◌, length, map, get_or, if◌then◌else◌, Option, None, Some, is_none, is_some, inl, inr, refl, sym, ◌∙◌, ap, subst, arith}
use Rattle.std.specs.Prelude.{not, nat_lt, nat_le, ◌&&◌}
use Rattle.std.proofs.lemmas.Bool.{and_parts, both_ways, lt-ltb}
use Rattle.apex_alike.proofs.Chains.{unmoved}
use Rattle.std.proofs.lemmas.Option.{none-some}
use Rattle.std.proofs.lemmas.List.{length-map}
use Rattle.apex_laws.specs.Terms.{Caller, CallerCall, Mode, PartitionCall, ProcessService, Record, State, TimeCall, Timeout}
use Rattle.apex_types.specs.declared.calls.CallerCall.TheVariants.{StopSelf, SuspendSelf, GetMyId, GetMyProcessorCoreId}
use Rattle.apex_types.specs.declared.modes.Mode.TheVariants as mode
use Rattle.apex_types.specs.declared.entries.Notice.TheVariants.{Woken}
use Rattle.apex_types.specs.declared.modes.State.TheVariants.{Dormant, Ready, Running, Waiting}
use Rattle.apex_types.specs.declared.calls.PartitionCall.TheVariants.{SetPartitionMode, GetPartitionStatus}
use Rattle.apex_types.specs.declared.calls.ProcessService.TheVariants.{InitializeCoreAffinity, SetPriority, Start, DelayedStart, Stop, Suspend, Resume}
use Rattle.apex_machine.specs.declared.records.Queue.TheVariants as queues
use Rattle.apex_types.specs.declared.entries.Reply.TheVariants.{Blocked, Code, Gone, Status, Value}
use Rattle.apex_types.specs.declared.calls.RequestedMode.TheVariants as requested
use Rattle.apex_types.specs.declared.entries.ReturnCode.TheVariants.{InvalidConfig, InvalidMode, InvalidParam, NoAction, NoError}
use Rattle.apex_types.specs.declared.calls.TimeCall.TheVariants.{TimedWait, PeriodicWait, Replenish, GetTime}
use Rattle.apex_types.specs.declared.calls.Timeout.TheVariants.{Poll, Ticks, Infinite}
use Rattle.apex_machine.specs.declared.records.Wait.TheVariants as wait
use Rattle.apex_machine.specs.processes.Dues.{due_after}
use Rattle.apex_machine.specs.processes.Owners.{owns_some}
use Rattle.apex_machine.specs.processes.Periods.{is_beyond, is_periodic}
use Rattle.apex_machine.specs.processes.Roster.{Roster, nobody, record_at}
use Rattle.apex_types.specs.Modes.{is_normal}
use Rattle.apex_machine.specs.processes.Running.{chosen, current_priority, is_eligible, is_process, process_state, runs_on}
use Rattle.apex_machine.specs.processes.Stamps as stamps
use Rattle.apex_machine.specs.processes.Stamps.{HasOrderlyStarts, WaitsForOne, is_by_itself, stopped}
use Rattle.apex_machine.specs.services.Callers.{IsReady, IsReadyCaller, is_by_process}
use Rattle.apex_machine.specs.services.CallerServices as callers
use Rattle.apex_machine.specs.services.PartitionServices as partitions
use Rattle.apex_machine.specs.services.ProcessServices as processes
use Rattle.apex_machine.specs.services.ProcessServices.{ProcessObject}
use Rattle.apex_machine.specs.services.TimeServices as times
use Rattle.apex_types.specs.declared.limits.TheConstants.{MOST_PRIORITY}
use Rattle.apex_machine.proofs.Modes.{reaches_enter_idle}
use Rattle.apex_machine.proofs.Starts.{first_within, runnable, stands_in, waitless_queue}
use Rattle.apex_alike.specs.Alike.{AreAlike, AreAlikeChanges, AreAlikeOutcomes, AreRivals, ServesAs, ServesFor, is_get_time}
use Rattle.apex_alike.proofs.Choices.{same_chosen, same_priority, same_waiter}
use Rattle.apex_alike.proofs.Loops.{alike_halted, alike_in_turn}
use Rattle.apex_alike.proofs.Objects.{alike_accepted, ready_at, ready_free}
use Rattle.apex_alike.proofs.Rows.{alike_answered, alike_blocked, alike_by, alike_guard, alike_refused, alike_replied, same_normal, same_owning}
use Rattle.apex_alike.proofs.Stamps.{alike_await_release, alike_due, alike_mode, alike_place_newest, alike_resume, alike_set_core, alike_set_deadline, alike_set_priority, alike_start, alike_suspend, alike_suspend_self, later_from, later_stopped, stopped_idle}
use Rattle.apex_alike.proofs.Ticks.{alike_begun}

-- before NORMAL no process would be eligible in NORMAL
readies_nobody : (roster : Roster) → HasOrderlyStarts roster → is_normal roster.mode ≡ false → (core p : ℕ)
    → runs_on mode.Normal core (record_at roster p) ≡ true → runs_on roster.mode core (record_at roster p) ≡ true
unfolding runs_on
readies_nobody roster starts early core p h =
    let r = record_at roster p in
    let is = runnable mode.Normal r (and_parts (is_eligible mode.Normal r) (r.core == core) h).0 in
    absurd (waitless_queue r queues.Normal is.free (starts.early early p is.started))

-- a stopped process has no rivals
stopped_alone : (m : Mode) (r z : Record) → AreRivals m (stopped r) z → ⊥
unfolding runs_on
stopped_alone m r z (inl both) =
    both_ways _ (stopped_idle m r) (and_parts (is_eligible m (stopped r)) (r.core == both.0) both.1).0
stopped_alone m r z (inr both) = none-some both.0 (stands_in both.0 (stopped r) both.1)

-- the state of a process with this record, if this one is the chosen one of its core
abbrev state_by : ℕ → Mode → Record → Option ℕ → State
state_by p m r found =
    if not r.started then Dormant
    else if not (is_eligible m r) then Waiting
    else if is_process p found then Running
    else Ready

module _ {d : ℕ} {first second : Roster} (alike : AreAlike d first second) where
  pub same_state : (p : ℕ) → process_state second p ≡ process_state first p
  same_state p =
      ap (λ (r : Record). state_by p second.mode r (chosen second r.core)) (alike.each p).is
      ∙ ap (λ (m : Mode). state_by p m (record_at first p) (chosen second (record_at first p).core)) alike.mode
      ∙ ap (state_by p first.mode (record_at first p)) (same_chosen alike (record_at first p).core)

  pub same_status : (x : ProcessObject) (p : ℕ) → processes.process_status second x p ≡ processes.process_status first x p
  same_status x p =
      ap (λ (s : State). Status (processes.state_number s) (current_priority (record_at second p))) (same_state p)
      ∙ ap (Status (processes.state_number (process_state first p))) (same_priority (record_at first p) (record_at second p) (alike.each p))

  -- the entry into NORMAL
  pub alike_enter_normal : HasOrderlyStarts first → is_normal first.mode ≡ false → AreAlikeChanges d (partitions.enter_normal first) (partitions.enter_normal second)
  unfolding partitions.enter_normal
  alike_enter_normal starts early =
      rw alike.many
      (alike_in_turn {d = d} partitions.first_to_start partitions.begin_waiter
      (λ one other a. same_waiter a queues.Normal)
      (λ one other a p is.
      let same : partitions.delay_of (record_at other p).wait ≡ partitions.delay_of (record_at one p).wait =
      ap (λ (r : Record). partitions.delay_of r.wait) (a.each p).is in
      rw same (alike_begun a p (first_within one queues.Normal p is) (partitions.delay_of (record_at one p).wait)))
      (length first.records) (stamps.set_mode first mode.Normal) (stamps.set_mode second mode.Normal) (alike_mode alike mode.Normal (readies_nobody first starts early)))

-- every process is stopped
stopped_at : (rs : List Record) (p : ℕ) → get_or (map stopped rs) p nobody ≡ stopped (get_or rs p nobody)
stopped_at [] p = refl
stopped_at (r ∷ rs) zero = refl
stopped_at (r ∷ rs) (suc p) = stopped_at rs p

pub alike_enter_idle : {d : ℕ} {first second : Roster} (alike : AreAlike d first second)
    → AreAlike d (partitions.enter_idle first) (partitions.enter_idle second)
alike_enter_idle {d} {first} {second} alike =
    let at = stopped_at first.records in
    let at2 = stopped_at second.records in
    let many : length (map stopped first.records) ≡ length first.records = length-map first.records stopped in
    record {
      cores = alike.cores;
      mode = refl;
      time = alike.time;
      many = length-map second.records stopped ∙ alike.many ∙ sym many;
      each = λ p. rw (at p, at2 p) (later_stopped (alike.each p));
      order = λ p q here there rivals. absurd (stopped_alone mode.Idle (record_at first p) (record_at (partitions.enter_idle first) q)
          (subst (λ (x : Record). AreRivals mode.Idle x (record_at (partitions.enter_idle first) q)) (at p) rivals));
      disciplines = alike.disciplines;
      rules = alike.rules;
      stamped = (reaches_enter_idle first).moves.stamped alike.stamped;
      stamped2 = (reaches_enter_idle second).moves.stamped alike.stamped2;
    }

module _ {d : ℕ} {first second : Roster} (alike : AreAlike d first second) {X : Type 0} (object : X) where
  pub alike_partition : HasOrderlyStarts first → (call : PartitionCall)
      → AreAlikeOutcomes d (partitions.partition_service first object call) (partitions.partition_service second object call)
  alike_partition starts (SetPartitionMode requested.Idle) = alike_replied (alike_enter_idle alike) object Gone
  alike_partition starts (SetPartitionMode requested.Normal) =
      alike_guard alike object (is_normal first.mode) (is_normal second.mode) NoAction (same_normal alike) _ _ (λ early.
      alike_answered (Code NoError) object (alike_enter_normal alike starts early))
  alike_partition starts GetPartitionStatus = record {
    rosters = alike;
    object = refl;
    reply = ap (λ (m : Mode). Status (partitions.mode_number m) second.cores) alike.mode ∙ ap (Status (partitions.mode_number first.mode)) alike.cores;
    notices = refl;
  }

  module _ (caller : Caller) (ready : IsReadyCaller first caller) where
    -- the services that a process asks for itself
    module _ (p : ℕ) (is : IsReady first p) where
      alike_suspended_for : (timeout : Timeout)
          → AreAlikeOutcomes d (callers.suspended_for first object p timeout) (callers.suspended_for second object p timeout)
      alike_suspended_for timeout =
          alike_replied
          (alike_suspend_self alike p is.known (due_after first timeout) (due_after second timeout) (alike_due alike timeout) (ready_free first p is))
          object Blocked

      alike_self_suspension : (timeout : Timeout)
          → AreAlikeOutcomes d (callers.self_suspension first object p timeout) (callers.self_suspension second object p timeout)
      alike_self_suspension Poll = alike_accepted alike
      alike_self_suspension (Ticks n) = alike_suspended_for (Ticks n)
      alike_self_suspension Infinite = alike_suspended_for Infinite

      alike_itself : (call : CallerCall)
          → AreAlikeOutcomes d (callers.service_by first object call p) (callers.service_by second object call p)
      alike_itself StopSelf = alike_answered Gone object (alike_halted alike p is.known)
      alike_itself (SuspendSelf timeout) =
          alike_guard alike object _ _ InvalidMode (ap is_periodic (alike.each p).is) _ _ (λ _.
          alike_guard alike object _ _ InvalidMode (ap owns_some (alike.each p).is) _ _ (λ _.
          alike_self_suspension timeout))
      alike_itself GetMyId = alike_replied alike object (Value (p + 1))
      alike_itself GetMyProcessorCoreId = record {
        rosters = alike;
        object = refl;
        reply = ap (λ (r : Record). Value r.core) (alike.each p).is;
        notices = refl;
      }

      -- the services of time
      alike_timed_wait : (timeout : Timeout)
          → AreAlikeOutcomes d (times.timed_wait first object timeout p) (times.timed_wait second object timeout p)
      alike_timed_wait Poll = alike_accepted (alike_place_newest alike p is.known)
      alike_timed_wait (Ticks n) = alike_blocked alike object p is.known (ready_free first p is) wait.Time (Ticks n) refl
      alike_timed_wait Infinite = alike_refused alike object InvalidParam

      alike_periodic_wait : AreAlikeOutcomes d (times.periodic_wait first object p) (times.periodic_wait second object p)
      alike_periodic_wait =
          alike_guard alike object _ _ InvalidMode (ap (λ (r : Record). not (is_periodic r)) (alike.each p).is) _ _ (λ _.
          alike_guard alike object _ _ InvalidMode (ap owns_some (alike.each p).is) _ _ (λ _.
          alike_replied (alike_await_release alike p is.known (runnable first.mode (record_at first p) is.eligible).started (ready_free first p is))
          object Blocked))

      same_beyond : (budget : ℕ)
          → is_beyond (record_at second p).release (record_at second p).attributes.period (second.now + budget)
          ≡ is_beyond (record_at first p).release (record_at first p).attributes.period (first.now + budget)
      same_beyond budget =
          let same = alike.each p in
          ap (λ (r : Record). is_beyond r.release r.attributes.period (second.now + budget)) same.is
          ∙ by_period (record_at first p).attributes.period
          (same.released (runnable first.mode (record_at first p) is.eligible).started (ready_free first p is)) where
            below : (a b t u : ℕ) → b ≡ a + d → u ≡ t + d → nat_lt b u ≡ nat_lt a t
            below a b t u e f = grind (arith, e, f)

            both_beyond : (a b t u : ℕ) → a < t → b < u → nat_lt b u ≡ nat_lt a t
            both_beyond a b t u e f = rw (lt-ltb a t e, lt-ltb b u f) refl

            by_past : (n : ℕ) (serves : ServesAs d first.now n (record_at first p).release (alike.each p).release)
                → (serves.periods ≡ 0) ⊎ ((record_at first p).release + n < first.now)
                → nat_lt ((alike.each p).release + n) (second.now + budget) ≡ nat_lt ((record_at first p).release + n) (first.now + budget)
            by_past n serves (inl none) =
                below ((record_at first p).release + n) ((alike.each p).release + n) (first.now + budget) (second.now + budget)
                (omega (arith, serves.is, unmoved serves.periods n none)) (omega (arith, alike.time))
            by_past n serves (inr past) =
                both_beyond ((record_at first p).release + n) ((alike.each p).release + n) (first.now + budget) (second.now + budget)
                (omega (arith, past)) (omega (arith, past, serves.is, alike.time))

            by_period : (period : Option ℕ) → ServesFor d first.now period (record_at first p).release (alike.each p).release
                → is_beyond (alike.each p).release period (second.now + budget) ≡ is_beyond (record_at first p).release period (first.now + budget)
            by_period None serves = refl
            by_period (Some n) serves = by_past n serves serves.past

      alike_replenish : (budget : ℕ)
          → AreAlikeOutcomes d (times.replenish first object budget p) (times.replenish second object budget p)
      alike_replenish budget =
          alike_guard alike object _ _ NoAction (ap (λ (r : Record). is_none r.attributes.capacity) (alike.each p).is) _ _ (λ _.
          alike_guard alike object _ _ InvalidMode (same_beyond budget) _ _ (λ _.
          alike_accepted (alike_set_deadline alike p is.known (Some (first.now + budget)) (Some (second.now + budget))
          (later_from d first.now second.now budget alike.time))))

    pub alike_caller : (call : CallerCall)
        → AreAlikeOutcomes d (callers.caller_service first object caller call) (callers.caller_service second object caller call)
    alike_caller call =
        alike_by alike object caller _ _ (λ p by. alike_itself p (ready_at alike caller ready p by) call)

    pub alike_timely : (call : TimeCall) → is_get_time call ≡ false
        → AreAlikeOutcomes d (times.time_service first object caller call) (times.time_service second object caller call)
    alike_timely (TimedWait timeout) other =
        alike_guard alike object _ _ InvalidMode (same_owning alike caller) _ _ (λ _.
        alike_by alike object caller _ _ (λ p by. alike_timed_wait p (ready_at alike caller ready p by) timeout))
    alike_timely PeriodicWait other =
        alike_by alike object caller _ _ (λ p by. alike_periodic_wait p (ready_at alike caller ready p by))
    alike_timely (Replenish budget) other =
        alike_by alike object caller _ _ (λ p by. alike_replenish p (ready_at alike caller ready p by) budget)
    alike_timely GetTime other = absurd (both_ways _ other refl)

-- the services for a process that is named
module _ {d : ℕ} {first second : Roster} (alike : AreAlike d first second) (one : WaitsForOne first) (caller : Caller)
    (p : ℕ) (known : p < length first.records) (x : ProcessObject) where
  alike_start_process : (delay : Timeout)
      → AreAlikeOutcomes d (processes.start_process first x p delay) (processes.start_process second x p delay)
  alike_start_process delay =
      let is = (alike.each p).is in
      alike_guard alike x (not x.created) (not x.created) InvalidParam refl _ _ (λ _.
      alike_guard alike x _ _ NoAction (ap (λ (r : Record). r.started) is) _ _ (λ _.
      alike_guard alike x _ _ InvalidParam (ap (λ (r : Record). processes.is_unfit_delay r delay) is) _ _ (λ _.
      record {
        rosters = alike_start alike p known (processes.delay_ticks delay);
        object = refl;
        reply = refl;
        notices = ap (λ (m : Mode). processes.start_notices (record second { mode = m }) p (processes.delay_ticks delay)) alike.mode;
      })))

  pub alike_process : (service : ProcessService)
      → AreAlikeOutcomes d (processes.process_service first x p caller service) (processes.process_service second x p caller service)
  alike_process (InitializeCoreAffinity core) =
      alike_guard alike x _ _ InvalidMode (same_normal alike) _ _ (λ early.
      alike_guard alike x (not x.created) (not x.created) InvalidParam refl _ _ (λ _.
      alike_guard alike x _ _ InvalidConfig (ap (λ (c : ℕ). not (nat_lt core c)) alike.cores) _ _ (λ _.
      alike_accepted (alike_set_core alike p known core early))))
  alike_process (SetPriority priority) =
      alike_guard alike x (not x.created) (not x.created) InvalidParam refl _ _ (λ _.
      let unfit = not (nat_le 1 priority && nat_le priority MOST_PRIORITY) in
      alike_guard alike x unfit unfit InvalidParam refl _ _ (λ _.
      alike_guard alike x _ _ InvalidMode (ap (λ (r : Record). not r.started) (alike.each p).is) _ _ (λ _.
      alike_accepted (alike_set_priority alike p known priority))))
  alike_process Start = alike_start_process Poll
  alike_process (DelayedStart delay) = alike_start_process delay
  alike_process Stop =
      alike_guard alike x (is_by_process p caller) (is_by_process p caller) InvalidParam refl _ _ (λ _.
      alike_guard alike x (not x.created) (not x.created) InvalidParam refl _ _ (λ _.
      alike_guard alike x _ _ NoAction (ap (λ (r : Record). not r.started) (alike.each p).is) _ _ (λ _.
      alike_answered (Code NoError) x (alike_halted alike p known))))
  alike_process Suspend =
      let is = (alike.each p).is in
      alike_guard alike x (is_by_process p caller) (is_by_process p caller) InvalidParam refl _ _ (λ _.
      alike_guard alike x (not x.created) (not x.created) InvalidParam refl _ _ (λ _.
      alike_guard alike x _ _ InvalidMode (ap processes.is_unsuspendable is) _ _ (λ _.
      alike_guard alike x _ _ NoAction (ap (λ (r : Record). is_some r.suspended) is) _ _ (λ _.
      alike_guard alike x _ _ InvalidMode (ap owns_some is) _ _ (λ _.
      alike_accepted (alike_suspend alike p known))))))
  alike_process Resume =
      let is = (alike.each p).is in
      alike_guard alike x (is_by_process p caller) (is_by_process p caller) InvalidParam refl _ _ (λ _.
      alike_guard alike x (not x.created) (not x.created) InvalidParam refl _ _ (λ _.
      alike_guard alike x _ _ InvalidMode (ap processes.is_unsuspendable is) _ _ (λ _.
      alike_guard alike x _ _ NoAction (ap (λ (r : Record). is_none r.suspended) is) _ _ (λ _.
      record {
        rosters = alike_resume alike p known (one p);
        object = refl;
        reply = refl;
        notices = ap (λ (r : Record). if is_by_itself r.suspended then Woken p NoError ∷ [] else []) is;
      }))))
