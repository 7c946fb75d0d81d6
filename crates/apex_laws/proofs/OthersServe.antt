-- The services of no object: those of the partition, of time, and those that a process asks for
-- itself.
use Rattle.std.proofs.Common.{◌≡◌, ℕ, ◌+◌, false, not, List, [], ◌∷◌, is_none, None, Some, length, map, get_or, zero, suc, lit≤, refl, sym, ◌∙◌}
use Rattle.std.proofs.lemmas.Bool.{both_ways}
use Rattle.std.proofs.lemmas.List.Folds.{list_any-append}
use Rattle.std.proofs.lemmas.Option.{none-some}
use Rattle.apex_laws.specs.Terms.{Call, Caller, CallerCall, Notice, PartitionCall, Record, Reply, ReturnCode, TimeCall, Timeout}
use Rattle.apex_types.specs.declared.calls.Call.TheVariants as call
use Rattle.apex_types.specs.declared.entries.Caller.TheVariants.{Process}
use Rattle.apex_types.specs.declared.calls.CallerCall.TheVariants.{StopSelf, SuspendSelf, GetMyId, GetMyProcessorCoreId}
use Rattle.apex_types.specs.declared.modes.Mode.TheVariants as mode
use Rattle.apex_types.specs.declared.calls.PartitionCall.TheVariants.{SetPartitionMode, GetPartitionStatus}
use Rattle.apex_types.specs.declared.calls.RequestedMode.TheVariants as requested
use Rattle.apex_types.specs.declared.entries.Reply.TheVariants.{Begun, Code}
use Rattle.apex_types.specs.declared.calls.TimeCall.TheVariants.{TimedWait, PeriodicWait, Replenish, GetTime}
use Rattle.apex_types.specs.declared.calls.Timeout.TheVariants.{Poll, Ticks, Infinite}
use Rattle.apex_machine.specs.declared.records.Wait.TheVariants.{Time, Period}
use Rattle.apex_machine.specs.services.Callers.{IsReady}
use Rattle.apex_machine.specs.services.CallerServices as callers
use Rattle.apex_machine.specs.processes.Dues.{due_after}
use Rattle.apex_machine.specs.services.Handovers.{halted}
use Rattle.apex_machine.specs.processes.Owners.{is_owner, owns_some}
use Rattle.apex_machine.specs.services.PartitionServices as partitions
use Rattle.apex_machine.specs.processes.Periods.{is_beyond, is_periodic}
use Rattle.apex_types.specs.Modes.{is_normal}
use Rattle.apex_machine.specs.processes.Roster.{Roster, nobody, record_at}
use Rattle.apex_machine.specs.services.Rows.{Outcome, replied, refused}
use Rattle.apex_machine.specs.services.Satisfied.{is_no_error}
use Rattle.apex_machine.specs.processes.Stamps as stamps
use Rattle.apex_machine.specs.Ticks.{begin_notices}
use Rattle.apex_machine.specs.services.TimeServices as times
use Rattle.apex_machine.proofs.Dues.{due_later, from_now}
use Rattle.apex_machine.proofs.InTurn.{holds_in_turn}
use Rattle.apex_machine.proofs.Periods.{release_later, release_whole}
use Rattle.apex_machine.proofs.Reaches.{arrives_of, reaches_await_release, reaches_set_deadline, reaches_suspend_self, reaches_place_newest}
use Rattle.apex_machine.proofs.Modes.{reaches_enter_idle}
use Rattle.apex_machine.proofs.Rows.{by_guard, by_caller}
use Rattle.apex_laws.specs.AskedWaits.{awaited}
use Rattle.apex_laws.proofs.Begun.{reach_enter_normal}
use Rattle.apex_laws.proofs.AskedWaits.{Frees, asks_freed, frees_then, frees_moved, asks_waiting}
use Rattle.apex_laws.proofs.HandedOver.{halts}
use Rattle.apex_laws.proofs.ProcessesServe.{begin_frees, begin_quiet, blocked_frees}
use Rattle.apex_laws.proofs.Satisfied.{is_waking}
use Rattle.apex_laws.proofs.Serving.{Scene, Serves, ServesBy, AreQuiet, few, ready_started, ready_normal, serves_freed, serves_same, serves_blocked, arrives_by, arrives_halted}

-- the entry into NORMAL wakes no process, and none is afterwards in a wait that it asked for and in
-- which it was not before
record Spares (old new : Roster) (notices : List Notice) : Type 0 where
  frees : Frees old new
  quiet : AreQuiet notices

enter_spares : (roster : Roster) → Spares roster (partitions.enter_normal roster).roster (partitions.enter_normal roster).notices
unfolding partitions.enter_normal
enter_spares roster =
    holds_in_turn partitions.first_to_start partitions.begin_waiter (Spares roster)
    (λ r notices p is holds.
    let delay = partitions.delay_of (record_at r p).wait in
    record {
      frees = frees_then holds.frees (begin_frees r p delay);
      quiet = λ q. list_any-append (is_waking q) notices (begin_notices p delay)
          ∙ rw (holds.quiet q, begin_quiet p delay q) refl;
    })
    (length roster.records) (stamps.set_mode roster mode.Normal) []
    (record { frees = record { still = λ q w h. h }; quiet = λ q. refl })

-- the same of a periodic process that begins to wait for its next release
await_frees : (roster : Roster) (p : ℕ) → Frees roster (stamps.await_release roster p)
await_frees roster p =
    let r : Record = record (record_at roster p) { deadline = None } in
    let cleared = stamps.set_deadline roster p None in
    frees_then (frees_moved roster cleared p r refl (λ w h. h)) (blocked_frees cleared p Period _ refl)

-- in IDLE no process waits
stopped_free : (rs : List Record) (p : ℕ) → awaited (get_or (map stamps.stopped rs) p nobody) ≡ None
stopped_free [] p = refl
stopped_free (r ∷ rs) zero = refl
stopped_free (r ∷ rs) (suc p) = stopped_free rs p

-- the facts that a service of no object keeps: a process that it wakes with NO_ERROR had waited for
-- time or for a mutex, and all objects stay
pub record ServesNone {X : Type 0} (roster : Roster) (objects : X) (caller : Caller) (call : Call) (o : Outcome X) : Type 0 where
  pub serves : ServesBy roster caller call None o
  pub stays : o.object ≡ objects

-- work begins
pub served_work : {X : Type 0} (roster : Roster) (objects : X) (caller : Caller) (amount : ℕ)
    → ServesNone roster objects caller (call.Work amount) (replied roster objects Begun)
served_work roster objects caller amount = record { serves = serves_same roster caller (call.Work amount) None; stays = refl }

module _ {X : Type 0} (roster : Roster) (objects : X) (caller : Caller) (scene : Scene roster caller) where
  abbrev Served : Call → Outcome X → Type 0
  Served = ServesNone roster objects caller

  served : (call : Call) (new : Roster) (reply : Reply) (notices : List Notice) → Serves roster caller call None new notices
      → Served call (record { roster = new; object = objects; reply = reply; notices = notices })
  served call new reply notices serves = record { serves = serves; stays = refl }

  same : (call : Call) (reply : Reply) → Served call (replied roster objects reply)
  same call reply = served call roster reply [] (serves_same roster caller call None)

  served_refused : (call : Call) (code : ReturnCode) → is_no_error code ≡ false → Served call (refused roster objects code)
  served_refused call code bad = same call (Code code)

  pub served_partition : (asked : PartitionCall) → Served (call.Partition asked) (partitions.partition_service roster objects asked)
  served_partition (SetPartitionMode requested.Idle) =
      served _ _ _ _ (serves_freed roster caller (call.Partition (SetPartitionMode requested.Idle)) None (partitions.enter_idle roster) []
      (arrives_by 0 (lit≤ tt) (reaches_enter_idle roster))
      (record { still = λ q w h. absurd (none-some w (sym (stopped_free roster.records q) ∙ h)) }) (λ q. refl))
  served_partition (SetPartitionMode requested.Normal) =
      let asked = call.Partition (SetPartitionMode requested.Normal) in
      let entered = partitions.enter_normal roster in
      let spares = enter_spares roster in
      by_guard roster objects (Served asked) (served_refused asked) (is_normal roster.mode) _ _ refl (λ _.
      served _ _ _ _ (serves_freed roster caller asked None entered.roster entered.notices
      (arrives_of (reach_enter_normal roster scene.starts scene.few)) spares.frees spares.quiet))
  served_partition GetPartitionStatus = same (call.Partition GetPartitionStatus) _

  -- a process that asks
  module _ (p : ℕ) (by : caller ≡ Process p) (ready : IsReady roster p) where
    served_suspended : (timeout : Timeout) → Served (call.Caller (SuspendSelf timeout)) (callers.suspended_for roster objects p timeout)
    served_suspended timeout =
        let due = due_after roster timeout in
        let r : Record = record (stamps.self_suspended (record_at roster p) due) { since = roster.young } in
        served _ _ _ _ (record {
          arrives = few (reaches_suspend_self roster p ready.known due (due_later roster timeout)
              (ready_started roster p ready) (ready_normal roster p ready));
          asks = rw by (asks_waiting p (call.Caller (SuspendSelf timeout)) Time r roster
              (stamps.suspend_self roster p due) refl refl refl);
          woken = λ q woken. absurd (both_ways false refl woken);
        })

    served_suspension : (timeout : Timeout) → Served (call.Caller (SuspendSelf timeout)) (callers.self_suspension roster objects p timeout)
    served_suspension Poll = same (call.Caller (SuspendSelf Poll)) _
    served_suspension (Ticks n) = served_suspended (Ticks n)
    served_suspension Infinite = served_suspended Infinite

    served_itself : (asked : CallerCall) → Served (call.Caller asked) (callers.service_by roster objects asked p)
    served_itself StopSelf =
        let halts_so = halts roster p in
        served _ _ _ _ (record {
          arrives = arrives_halted roster p ready.known scene.starts scene.few;
          asks = asks_freed caller (Some (call.Caller StopSelf)) roster (halted roster p).roster halts_so.frees;
          woken = halts_so.woken;
        })
    served_itself (SuspendSelf timeout) =
        let asked = call.Caller (SuspendSelf timeout) in
        by_guard roster objects (Served asked) (served_refused asked) (is_periodic (record_at roster p)) _ _ refl (λ _.
        by_guard roster objects (Served asked) (served_refused asked) (owns_some (record_at roster p)) _ _ refl (λ _.
        served_suspension timeout))
    served_itself GetMyId = same (call.Caller GetMyId) _
    served_itself GetMyProcessorCoreId = same (call.Caller GetMyProcessorCoreId) _

    served_timed_wait : (timeout : Timeout) → Served (call.Time (TimedWait timeout)) (times.timed_wait roster objects timeout p)
    served_timed_wait Poll =
        let r : Record = record (record_at roster p) { since = roster.young } in
        served _ _ _ _ (serves_freed roster caller (call.Time (TimedWait Poll)) None (stamps.place_newest roster p) []
        (few (reaches_place_newest roster p ready.known))
        (frees_moved roster (stamps.place_newest roster p) p r refl (λ w h. h)) (λ q. refl))
    served_timed_wait (Ticks n) =
        served _ _ _ _ (rw by (serves_blocked roster p ready (call.Time (TimedWait (Ticks n))) None Time (Ticks n) refl refl (λ m is. cc)))
    served_timed_wait Infinite = same (call.Time (TimedWait Infinite)) _

    -- a process that waits for its next release waits for nothing that it asked for
    served_periodic : Served (call.Time PeriodicWait) (times.periodic_wait roster objects p)
    served_periodic =
        let asked = call.Time PeriodicWait in
        by_guard roster objects (Served asked) (served_refused asked) (not (is_periodic (record_at roster p))) _ _ refl (λ _.
        by_guard roster objects (Served asked) (served_refused asked) (owns_some (record_at roster p)) _ _ refl (λ _.
        served _ _ _ _ (serves_freed roster caller asked None (stamps.await_release roster p) []
        (few (reaches_await_release roster p ready.known (release_later roster.now (record_at roster p) (scene.spans p))
        (release_whole roster.now (record_at roster p)) (ready_started roster p ready) (ready_normal roster p ready)))
        (await_frees roster p) (λ q. refl))))

    served_replenish : (budget : ℕ) → Served (call.Time (Replenish budget)) (times.replenish roster objects budget p)
    served_replenish budget =
        let asked = call.Time (Replenish budget) in
        let r = record_at roster p in
        let deadline = Some (roster.now + budget) in
        let changed : Record = record r { deadline = deadline } in
        by_guard roster objects (Served asked) (served_refused asked) (is_none r.attributes.capacity) _ _ refl (λ _.
        by_guard roster objects (Served asked) (served_refused asked) (is_beyond r.release r.attributes.period (roster.now + budget)) _ _ refl (λ _.
        served _ _ _ _ (serves_freed roster caller asked None (stamps.set_deadline roster p deadline) []
        (arrives_by 0 (lit≤ tt) (reaches_set_deadline roster p ready.known deadline (from_now roster.now budget)))
        (frees_moved roster (stamps.set_deadline roster p deadline) p changed refl (λ w h. h)) (λ q. refl))))

  pub served_caller : (asked : CallerCall) → Served (call.Caller asked) (callers.caller_service roster objects caller asked)
  served_caller asked =
      by_caller roster objects (Served (call.Caller asked)) (served_refused (call.Caller asked)) caller _
      (λ p by. served_itself p by (rw by at scene.ready) asked)

  pub served_time : (asked : TimeCall) → Served (call.Time asked) (times.time_service roster objects caller asked)
  served_time (TimedWait timeout) =
      by_guard roster objects (Served (call.Time (TimedWait timeout))) (served_refused (call.Time (TimedWait timeout))) (is_owner roster caller) _ _ refl (λ _.
      by_caller roster objects (Served (call.Time (TimedWait timeout))) (served_refused (call.Time (TimedWait timeout))) caller _
      (λ p by. served_timed_wait p by (rw by at scene.ready) timeout))
  served_time PeriodicWait =
      by_caller roster objects (Served (call.Time PeriodicWait)) (served_refused (call.Time PeriodicWait)) caller _
      (λ p by. served_periodic p by (rw by at scene.ready))
  served_time (Replenish budget) =
      by_caller roster objects (Served (call.Time (Replenish budget))) (served_refused (call.Time (Replenish budget))) caller _
      (λ p by. served_replenish p by (rw by at scene.ready) budget)
  served_time GetTime = same (call.Time GetTime) _
