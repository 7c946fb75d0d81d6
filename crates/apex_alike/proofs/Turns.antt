-- Every event keeps situations alike.
use Rattle.std.proofs.Common.{◌≡◌, ℕ, ◌+◌, ◌-◌, ◌<◌, ◌==◌, ◌&&◌, Bool, true, false, if◌then◌else◌, length, Option, None, Some, is_some, option_map, refl, sym, ◌∙◌, ap, subst, arith}
use Rattle.apex_laws.specs.Terms.{Call, Caller, Event, Mode, OpenWork, Record, Reply, Who, Work}
use Rattle.apex_types.specs.declared.calls.Call.TheVariants.{Partition, Process as ToProcess, Caller as ToCaller, Time, Semaphore, Buffer, Blackboard, EventFlag as ToEventFlag, Mutex, Work as ToWork}
use Rattle.apex_types.specs.declared.entries.Caller.TheVariants.{Process, Init, Nobody}
use Rattle.apex_types.specs.declared.calls.CallerCall.TheVariants.{StopSelf}
use Rattle.apex_types.specs.declared.entries.Event.TheVariants.{Turn, Tick}
use Rattle.apex_machine.specs.declared.records.Queue.TheVariants as queues
use Rattle.apex_types.specs.declared.entries.Reply.TheVariants.{Advanced, Begun, Status, Value}
use Rattle.apex_types.specs.declared.calls.TimeCall.TheVariants.{TimedWait, PeriodicWait, Replenish, GetTime}
use Rattle.apex_machine.specs.Deeds.{Deed, Objects, chosen_deed, ended_deed, move_on, next_place, script_deed, served, service, step_deed, step_of, tick_deed, turn_deed, with_processes, with_semaphores, with_buffers, with_blackboards, with_event_flags, with_mutexes}
use Rattle.apex_machine.specs.Ticks.{tick_goal}
use Rattle.apex_machine.specs.Works.{fresh, is_turn_of, work_begun}
use Rattle.apex_machine.specs.processes.Dues.{HasNoPastDeadline, HasNoPastDue}
use Rattle.apex_machine.specs.processes.Held.{holding_of}
use Rattle.apex_machine.specs.processes.Owners.{depth_of, owner}
use Rattle.apex_machine.specs.processes.Roster.{Roster, record_at}
use Rattle.apex_types.specs.Modes.{is_cold_start}
use Rattle.apex_machine.specs.processes.Running.{chosen, is_process}
use Rattle.apex_machine.specs.processes.Stamps.{HasOrderlyStarts, WaitsForOne, set_step}
use Rattle.apex_machine.specs.services.Callers.{IsReady, IsReadyCaller, is_by_init}
use Rattle.apex_machine.specs.services.Calls.{is_work}
use Rattle.apex_machine.specs.services.BlackboardServices.{blackboard_kind}
use Rattle.apex_machine.specs.services.BufferServices.{buffer_kind}
use Rattle.apex_machine.specs.services.EventFlagServices.{event_flag_kind}
use Rattle.apex_machine.specs.services.MutexServices.{MutexObject, mutex_kind, mutex_status, owner_status}
use Rattle.apex_machine.specs.services.ProcessServices.{process_kind}
use Rattle.apex_machine.specs.services.Rows.{Outcome}
use Rattle.apex_machine.specs.services.SemaphoreServices.{semaphore_kind}
use Rattle.apex_machine.specs.table.Table.{IsKnown, IsLawful, Table, call_in, process_config}
use Rattle.apex_machine.proofs.Reaches.{reaches_set_step}
use Rattle.apex_machine.proofs.Starts.{chosen_ready, ready_step}
use Rattle.apex_alike.specs.Alike.{AreAlike, AreAlikeOutcomes}
use Rattle.apex_alike.specs.AlikeSteps.{AlikeStepsStayAlike, AreAlikeDeeds, AreAlikeSituations, later_reply}
use Rattle.apex_machine.specs.Situations.{Situation, after, deed, due_call, maker}
use Rattle.apex_alike.proofs.Changes.{both_cond}
use Rattle.apex_alike.proofs.Choices.{same_chosen, same_owner, same_waiters}
use Rattle.apex_alike.proofs.Known.{known_due, known_object, known_script_step}
use Rattle.apex_alike.proofs.Objects.{alike_blackboard, alike_buffer, alike_event_flag, alike_mutex, alike_semaphore}
use Rattle.apex_alike.proofs.Processes.{alike_caller, alike_partition, alike_process, alike_timely, same_status}
use Rattle.apex_alike.proofs.Rows.{alike_deed, alike_replied, alike_within}
use Rattle.apex_alike.proofs.Stamps.{alike_set_step}
use Rattle.apex_alike.proofs.Ticks.{alike_goal, alike_time}

-- the same services of situations that are alike
pub record AreServedAlike (d : ℕ) (call : Call) (one other : Outcome Objects) : Type 0 where
  pub rosters : AreAlike d one.roster other.roster
  pub object : other.object ≡ one.object
  pub reply : other.reply ≡ later_reply d (Some call) one.reply
  pub notices : other.notices ≡ one.notices

-- the call of any service but GET_TIME
plain : {d : ℕ} {call : Call} {one other : Outcome Objects} → ((reply : Reply) → later_reply d (Some call) reply ≡ reply)
    → AreAlikeOutcomes d one other → AreServedAlike d call one other
plain {d} {call} {one} same outcomes = record {
  rosters = outcomes.rosters;
  object = outcomes.object;
  reply = outcomes.reply ∙ sym (same one.reply);
  notices = outcomes.notices;
}

module _ {d : ℕ} {first second : Roster} (alike : AreAlike d first second) where
  -- the status of a mutex
  same_owner_status : (m : ℕ) (found : Option ℕ) → owner_status second m found ≡ owner_status first m found
  same_owner_status m None = refl
  same_owner_status m (Some p) = ap (λ (r : Record). Status (p + 1) (depth_of (holding_of m r.owned))) (alike.each p).is

  same_mutex_status : (x : MutexObject) (m : ℕ) → mutex_status second x m ≡ mutex_status first x m
  same_mutex_status x m = ap (owner_status second m) (same_owner alike m) ∙ same_owner_status m (owner first m)

  module _ (objects : Objects) (caller : Caller) (ready : IsReadyCaller first caller) (one : WaitsForOne first) (starts : HasOrderlyStarts first)
      (table : Table) (many : length first.records ≡ length table.processes) where
    pub alike_service : (call : Call) → IsKnown table call
        → AreServedAlike d call (service first objects caller call) (service second objects caller call)
    alike_service (Partition call) known = plain (λ r. refl) (alike_partition alike objects starts call)
    alike_service (ToProcess call) known =
        plain (λ r. refl) (alike_within (with_processes objects)
        (alike_deed alike process_kind caller (same_status alike) objects.processes call
        (λ i at x s. alike_process alike one caller i (rw many (known_object (length table.processes) call known i at)) x s)))
    alike_service (ToCaller call) known = plain (λ r. refl) (alike_caller alike objects caller ready call)
    alike_service (Time (TimedWait timeout)) known = plain (λ r. refl) (alike_timely alike objects caller ready (TimedWait timeout) refl)
    alike_service (Time PeriodicWait) known = plain (λ r. refl) (alike_timely alike objects caller ready PeriodicWait refl)
    alike_service (Time (Replenish budget)) known = plain (λ r. refl) (alike_timely alike objects caller ready (Replenish budget) refl)
    alike_service (Time GetTime) known = record { rosters = alike; object = refl; reply = ap Value alike.time; notices = refl }
    alike_service (Semaphore call) known =
        plain (λ r. refl) (alike_within (with_semaphores objects)
        (alike_deed alike semaphore_kind caller (λ x i. ap (Status x.value) (same_waiters alike (queues.Semaphore i))) objects.semaphores call
        (λ i at x s. alike_semaphore alike caller ready x i s)))
    alike_service (Buffer call) known =
        plain (λ r. refl) (alike_within (with_buffers objects)
        (alike_deed alike buffer_kind caller (λ x i. ap (Status (length x.messages)) (same_waiters alike (queues.Buffer i))) objects.buffers call
        (λ i at x s. alike_buffer alike caller ready x i s)))
    alike_service (Blackboard call) known =
        plain (λ r. refl) (alike_within (with_blackboards objects)
        (alike_deed alike blackboard_kind caller (λ x i. ap (Status (if is_some x.message then 1 else 0)) (same_waiters alike (queues.Blackboard i))) objects.blackboards call
        (λ i at x s. alike_blackboard alike caller ready x i s)))
    alike_service (ToEventFlag call) known =
        plain (λ r. refl) (alike_within (with_event_flags objects)
        (alike_deed alike event_flag_kind caller (λ x i. ap (Status (if x.up then 1 else 0)) (same_waiters alike (queues.EventFlag i))) objects.event_flags call
        (λ i at x s. alike_event_flag alike caller ready x i s)))
    alike_service (Mutex call) known =
        plain (λ r. refl) (alike_within (with_mutexes objects)
        (alike_deed alike mutex_kind caller same_mutex_status objects.mutexes call
        (λ i at x s. alike_mutex alike caller ready x i s)))
    alike_service (ToWork amount) known = plain (λ r. refl) (alike_replied alike objects Begun)

    alike_served : (call : Call) → IsKnown table call
        → AreAlikeDeeds d (served first objects caller call) (served second objects caller call)
    alike_served call known =
        let serves = alike_service call known in
        record { caller = refl; call = refl; rosters = serves.rosters; object = serves.object; reply = serves.reply; notices = serves.notices }

-- deeds of processes that are alike
module _ (table : Table) (lawful : IsLawful table) {d : ℕ} {first second : Roster} (alike : AreAlike d first second)
    (one : WaitsForOne first) (starts : HasOrderlyStarts first) (many : length first.records ≡ length table.processes) (objects : Objects) where
  alike_move_on : (p : ℕ) → p < length first.records → AreAlike d (move_on table first p) (move_on table second p)
  alike_move_on p known =
      let same : next_place (process_config table p) (record_at second p).step ≡ next_place (process_config table p) (record_at first p).step =
      ap (λ (r : Record). next_place (process_config table p) r.step) (alike.each p).is in
      subst (λ (k : ℕ). AreAlike d (move_on table first p) (set_step second p k)) (sym same)
      (alike_set_step alike p known (next_place (process_config table p) (record_at first p).step))

  -- the chosen process carries out its step
  alike_script : (p : ℕ) → IsReady first p → (call : Option Call) → step_of table first p ≡ call
      → AreAlikeDeeds d (script_deed table first objects p call) (script_deed table second objects p call)
  alike_script p ready None is = alike_served alike objects (Process p) ready one starts table many (ToCaller StopSelf) tt
  alike_script p ready (Some call) is =
      let known = known_script_step table p (record_at first p).step call lawful is in
      let next = next_place (process_config table p) (record_at first p).step in
      let moves = (reaches_set_step first p ready.known next).moves in
      both_cond {A = Roster} {B = Roster} (λ x y. AreAlikeDeeds d (served x objects (Process p) call) (served y objects (Process p) call))
      (is_work call) (is_work call) refl first (move_on table first p) second (move_on table second p)
      (λ _. alike_served alike objects (Process p) ready one starts table many call known)
      (λ _. alike_served (alike_move_on p ready.known) objects (Process p) (ready_step first p next ready) (moves.one one) (moves.starts starts) table
      (moves.many ∙ many) call known)

  alike_chosen : (core : ℕ) (found : Option ℕ) → chosen first core ≡ found
      → AreAlikeDeeds d (chosen_deed table first objects found) (chosen_deed table second objects found)
  alike_chosen core None is = record { caller = refl; call = refl; rosters = alike; object = refl; reply = refl; notices = refl }
  alike_chosen core (Some p) is =
      let same : step_of table second p ≡ step_of table first p = ap (λ (r : Record). call_in (process_config table p).script r.step) (alike.each p).is in
      subst (λ (c : Option Call). AreAlikeDeeds d (chosen_deed table first objects (Some p)) (script_deed table second objects p c)) (sym same)
      (alike_script p (chosen_ready first core p is) (step_of table first p) refl)

  alike_step : (core : ℕ) (due : Option Call) → ((call : Call) → due ≡ Some call → IsKnown table call)
      → AreAlikeDeeds d (step_deed table first objects core due) (step_deed table second objects core due)
  alike_step core (Some call) known = alike_served alike objects Init tt one starts table many call (known call refl)
  alike_step core None known =
      subst (λ (found : Option ℕ). AreAlikeDeeds d (chosen_deed table first objects (chosen first core)) (chosen_deed table second objects found))
      (sym (same_chosen alike core)) (alike_chosen core (chosen first core) refl)

  alike_ended : (o : OpenWork) → o.work.process < length first.records
      → AreAlikeDeeds d (ended_deed table first objects o) (ended_deed table second objects o)
  alike_ended o known = by_unbroken o.unbroken where
    by_unbroken : (unbroken : Bool)
        → AreAlikeDeeds d (ended_deed table first objects (record o { unbroken = unbroken })) (ended_deed table second objects (record o { unbroken = unbroken }))
    by_unbroken true = record { caller = refl; call = refl; rosters = alike_move_on o.work.process known; object = refl; reply = refl; notices = refl }
    by_unbroken false = record { caller = refl; call = refl; rosters = alike; object = refl; reply = refl; notices = refl }

  pub alike_turn : (core : ℕ) (begun : Option OpenWork) → ((o : OpenWork) → begun ≡ Some o → o.work.process < length first.records)
      → (due : Option Call) → ((call : Call) → due ≡ Some call → IsKnown table call)
      → AreAlikeDeeds d (turn_deed table first objects core begun due) (turn_deed table second objects core begun due)
  alike_turn core (Some o) workers due known = alike_ended o (workers o refl)
  alike_turn core None workers due known = alike_step core due known

  pub alike_tick : HasNoPastDue first → HasNoPastDeadline first → (n : ℕ) → AreAlikeDeeds d (tick_deed first objects n) (tick_deed second objects n)
  alike_tick dues deadlines n =
      let passed = alike_time alike dues deadlines n in
      let went : tick_goal second n - second.now ≡ tick_goal first n - first.now = omega (arith, alike_goal alike n, alike.time) in
      record { caller = refl; call = refl; rosters = passed.rosters; object = refl; reply = ap (Advanced n) went; notices = passed.notices }

-- the situations after deeds that are alike
later_begun : (d : ℕ) (caller : Caller) (call : Option Call) (reply : Reply)
    → work_begun caller call (later_reply d call reply) ≡ work_begun caller call reply
later_begun d (Process p) (Some (Time GetTime)) (Value t) = refl
later_begun d Init (Some (Time GetTime)) (Value t) = refl
later_begun d Nobody (Some (Time GetTime)) (Value t) = refl
later_begun d caller call reply = refl

-- the work that is open on a core, by the process that is chosen there
abbrev watched_by : Option ℕ → OpenWork → OpenWork
watched_by found o = record { work = o.work; unbroken = o.unbroken && is_process o.work.process found }

abbrev works_by : Bool → Option Work → Option OpenWork → Option OpenWork
works_by own begun before = if own then option_map fresh begun else before

module _ {d : ℕ} {one other : Situation} (situations : AreAlikeSituations d one other) {done done2 : Deed} (deeds : AreAlikeDeeds d done done2) (who : Who) where
  same_begun : work_begun done2.caller done2.call done2.outcome.reply ≡ work_begun done.caller done.call done.outcome.reply
  same_begun =
      ap (λ (c : Caller). work_begun c done2.call done2.outcome.reply) deeds.caller
      ∙ ap (λ (c : Option Call). work_begun done.caller c done2.outcome.reply) deeds.call
      ∙ ap (work_begun done.caller done.call) deeds.reply
      ∙ later_begun d done.caller done.call done.outcome.reply

  same_works : (core : ℕ) → (after other who done2).works core ≡ (after one who done).works core
  same_works core =
      ap (λ found. option_map (watched_by found) (works_by (is_turn_of core who) (work_begun done2.caller done2.call done2.outcome.reply) (other.works core)))
      (same_chosen deeds.rosters core)
      ∙ ap (λ begun. option_map (watched_by (chosen done.outcome.roster core)) (works_by (is_turn_of core who) begun (other.works core))) same_begun
      ∙ ap (λ before. option_map (watched_by (chosen done.outcome.roster core)) (works_by (is_turn_of core who) (work_begun done.caller done.call done.outcome.reply) before))
      (situations.works core)

  pub alike_after : AreAlikeSituations d (after one who done) (after other who done2)
  alike_after = record {
    rosters = deeds.rosters;
    objects = deeds.object;
    works = same_works;
    made = ap (λ (n : ℕ). n + (if is_by_init done2.caller then 1 else 0)) situations.made
        ∙ ap (λ (c : Caller). one.made + (if is_by_init c then 1 else 0)) deeds.caller;
  }

pub alike_steps : (table : Table) → IsLawful table → AlikeStepsStayAlike table
alike_steps table lawful d one other situated situations event =
    let deeds = alike_deeds event in record { deeds = deeds; situations = alike_after situations deeds (maker event) } where
      same_due : (core : ℕ) → due_call table other core ≡ due_call table one core
      same_due core =
          ap (λ (m : Mode). if is_cold_start m && core == 0 then call_in table.init other.made else None) situations.rosters.mode
          ∙ ap (λ (made : ℕ). if is_cold_start one.roster.mode && core == 0 then call_in table.init made else None) situations.made

      alike_deeds : (event : Event) → AreAlikeDeeds d (deed table one event) (deed table other event)
      alike_deeds (Turn core) =
          rw (situations.objects, situations.works core, same_due core)
          (alike_turn table lawful situations.rosters situated.one situated.starts situated.many one.objects core (one.works core) (situated.workers core)
          (due_call table one core) (λ call is. known_due table one.made lawful (is_cold_start one.roster.mode && core == 0) call is))
      alike_deeds (Tick n) = rw situations.objects (alike_tick table lawful situations.rosters situated.one situated.starts situated.many one.objects situated.dues situated.deadlines n)
