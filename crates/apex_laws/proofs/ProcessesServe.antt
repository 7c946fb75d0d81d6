-- Processes as objects of a kind: the facts that their services keep.
use Rattle.std.proofs.Common.{◌≡◌, ℕ, ◌+◌, ◌<◌, Bool, true, false, ◌&&◌, ◌||◌, ◌==◌, cond, not, nat_le, nat_lt, is_none, is_some, List, [], ◌∷◌, Option, None, Some, length, lit≤, refl, ap, ◌∙◌, inl}
use Rattle.std.proofs.lemmas.Bool.{both_ways, cond_both, not-false}
use Rattle.std.proofs.lemmas.Option.{none-some}
use Rattle.apex_types.specs.declared.limits.TheConstants.{MOST_PRIORITY}
use Rattle.apex_laws.specs.Premises.{most_given}
use Rattle.apex_laws.specs.Terms.{Call, Caller, Entry, Notice, ProcessService, Record, Reply, ReturnCode, Timeout, Wait}
use Rattle.apex_types.specs.declared.calls.Call.TheVariants as call
use Rattle.apex_types.specs.declared.entries.Notice.TheVariants.{Released, Woken}
use Rattle.apex_types.specs.declared.calls.ObjectCall.TheVariants.{KindService}
use Rattle.apex_types.specs.declared.calls.ProcessService.TheVariants.{InitializeCoreAffinity, SetPriority, Start, DelayedStart, Stop, Suspend, Resume}
use Rattle.apex_machine.specs.declared.records.Queue.TheVariants as queues
use Rattle.apex_types.specs.declared.entries.Reply.TheVariants.{Code}
use Rattle.apex_types.specs.declared.entries.ReturnCode.TheVariants.{NoError}
use Rattle.apex_machine.specs.declared.records.Suspender.TheVariants.{Other}
use Rattle.apex_types.specs.declared.calls.Timeout.TheVariants.{Poll}
use Rattle.apex_machine.specs.declared.records.Wait.TheVariants.{Normal, Start as ForStart, Time}
use Rattle.apex_types.specs.Calls.{object_of}
use Rattle.apex_machine.specs.services.Calls.{created_process}
use Rattle.apex_machine.specs.services.Callers.{is_by_process}
use Rattle.apex_machine.specs.services.Handovers.{halted}
use Rattle.apex_machine.specs.History.{creates, is_created}
use Rattle.apex_machine.specs.services.ProcessServices as services
use Rattle.apex_machine.specs.services.ProcessServices.{ProcessObject, process_after, process_kind}
use Rattle.apex_machine.specs.processes.Owners.{owns_some}
use Rattle.apex_types.specs.Modes.{is_normal}
use Rattle.apex_machine.specs.processes.Roster.{Roster, record_at, with_record}
use Rattle.apex_machine.specs.services.Rows.{Outcome, refused, accepted}
use Rattle.apex_machine.specs.processes.Running.{is_eligible}
use Rattle.apex_machine.specs.services.Satisfied.{is_no_error}
use Rattle.apex_machine.specs.processes.Stamps as stamps
use Rattle.apex_machine.specs.table.Table.{ProcessConfig, no_process}
use Rattle.apex_machine.specs.Ticks.{begin_notices}
use Rattle.apex_machine.specs.processes.Waiters.{queue_in, goes_by_priority}
use Rattle.apex_machine.proofs.Reaches.{Arrives, reaches_set_priority, arrives_more, arrives_set_core, arrives_start, reaches_suspend, reaches_resume}
use Rattle.apex_machine.proofs.Rows.{by_guard}
use Rattle.apex_machine.proofs.Starts.{waitless_queue}
use Rattle.apex_laws.specs.AskedWaits.{asked_of, awaited, or_suspended}
use Rattle.apex_laws.proofs.AskedWaits.{Frees, frees_then, frees_moved, frees_changed, frees_lessened, frees_unblock, asks_freed, awake_free, frees_release}
use Rattle.apex_laws.proofs.HandedOver.{halts}
use Rattle.apex_laws.proofs.Satisfied.{WokenAt, wakes, woken_alone, created-push}
use Rattle.apex_laws.proofs.Serving.{Scene, Serves, AreQuiet, few, serves_same, serves_freed, arrives_by, arrives_halted}
use Rattle.apex_laws.proofs.ObjectsServe.{LawsOf, ServesOne, IsRead, then_none}
use Rattle.apex_laws.proofs.Truths.{neither, or_false, or_true}

-- a history keeps nothing of a process but that it is created
abbrev pub KeepsProcess : Roster → List Entry → ℕ → ProcessConfig → Type 0
KeepsProcess roster history p entry = Unit {0}

pub process_stays : (new : Roster) (history : List Entry) (e : Entry) (p : ℕ) (entry : ProcessConfig) → creates created_process p e ≡ false
    → IsRead process_after KeepsProcess new history e p entry (process_after history p entry)
process_stays new history e p entry none = record {
  is = rw (created-push created_process p history e, none, or_false (is_created created_process p history)) refl;
  kept = tt;
}

-- a start that begins, or waits, puts no process into a wait that it asked for
pub begin_quiet : (p delay : ℕ) → AreQuiet (begin_notices p delay)
begin_quiet p delay =
    cond_both {A = List Notice} (delay == 0) (Released p ∷ []) [] AreQuiet (λ _ q. refl) (λ _ q. refl)

pub blocked_frees : (roster : Roster) (p : ℕ) (wait : Wait) (due : Option ℕ) → asked_of (Some wait) ≡ None
    → Frees roster (stamps.block roster p wait due)
blocked_frees roster p wait due plain =
    let awake = stamps.suspension_awake (record_at roster p).suspended in
    let r : Record = record (stamps.waiting (record_at roster p) wait due) { since = roster.young } in
    frees_changed roster (stamps.block roster p wait due) p r refl
    (ap (λ asked. or_suspended asked (stamps.is_by_itself awake)) plain ∙ awake_free (record_at roster p).suspended)

pub begin_frees : (roster : Roster) (p delay : ℕ) → Frees roster (stamps.begin roster p delay)
begin_frees roster p delay =
    let due = Some (roster.now + delay) in
    cond_both {A = Roster} (delay == 0) (stamps.release roster p) (stamps.block roster p ForStart due) (Frees roster)
    (λ _. frees_release roster p) (λ _. blocked_frees roster p ForStart due refl)

-- a service that is not called in NORMAL is called in COLD_START
in_cold_start : (cold normal : Bool) → (cold ≡ false → normal ≡ true) → normal ≡ false → cold ≡ true
in_cold_start true normal called early = refl
in_cold_start false normal called early = absurd (both_ways _ early (called refl))

-- a process that is no longer suspended, or is so by another, waits for no more than before
suspended_less : (wait : Option Wait) (by_itself : Bool) (w : Wait)
    → or_suspended (asked_of wait) false ≡ Some w → or_suspended (asked_of wait) by_itself ≡ Some w
suspended_less wait by_itself w h = by_asked (asked_of wait) h where
  by_asked : (asked : Option Wait) → or_suspended asked false ≡ Some w → or_suspended asked by_itself ≡ Some w
  by_asked (Some v) h = h
  by_asked None h = absurd (none-some w h)

module _ (roster : Roster) (p : ℕ) where
  abbrev r : Record
  r = record_at roster p

  start_frees : (delay : ℕ) → Frees roster (stamps.start roster p delay)
  start_frees delay =
      let fresh = with_record roster p (stamps.reset r) in
      frees_then (frees_moved roster fresh p (stamps.reset r) refl (suspended_less r.wait (stamps.is_by_itself r.suspended)))
      (cond_both {A = Roster} (is_normal roster.mode) (stamps.begin fresh p delay) (stamps.block fresh p (Normal delay) None) (Frees fresh)
      (λ _. begin_frees fresh p delay) (λ _. blocked_frees fresh p (Normal delay) None refl))

  start_quiet : (delay : ℕ) → AreQuiet (services.start_notices roster p delay)
  start_quiet delay =
      cond_both {A = List Notice} (is_normal roster.mode) (begin_notices p delay) [] AreQuiet
      (λ _. begin_quiet p delay) (λ _ q. refl)

  priority_frees : (priority : ℕ) → Frees roster (stamps.set_priority roster p priority)
  priority_frees priority =
      let changed : Record = record r { base = priority } in
      let stays = owns_some r && stamps.is_level changed r in
      cond_both {A = Roster} ((is_eligible roster.mode r && not stays) || goes_by_priority roster (queue_in r))
      (stamps.newest roster p changed) (with_record roster p changed) (Frees roster)
      (λ _. frees_moved roster (stamps.newest roster p changed) p (record changed { since = roster.young }) refl (λ w h. h))
      (λ _. frees_moved roster (with_record roster p changed) p changed refl (λ w h. h))

  suspend_frees : Frees roster (stamps.suspend roster p)
  suspend_frees =
      frees_moved roster (stamps.suspend roster p) p (record r { suspended = Some Other }) refl
      (suspended_less r.wait (stamps.is_by_itself r.suspended))

  -- RESUME
  module _ (caller : Caller) (call : Call) (scene : Scene roster caller) (known : p < length roster.records) (started : r.started ≡ true) where
    -- before NORMAL no process that is started has suspended itself
    itself_normal : stamps.is_by_itself r.suspended ≡ true → is_normal roster.mode ≡ false → ⊥
    itself_normal by e = waitless_queue r queues.Normal (scene.one p by) (scene.starts.early e p started)

    resume_asks : (by_itself : Bool) → stamps.is_by_itself r.suspended ≡ by_itself
        → Frees roster (cond by_itself (stamps.unblock roster p) (stamps.readied roster p (stamps.unsuspended r)))
    resume_asks true is = frees_unblock roster p
    resume_asks false is = frees_lessened roster p (stamps.unsuspended r) (λ w h. rw is h)

    resume_woken : (by_itself : Bool) → stamps.is_by_itself r.suspended ≡ by_itself → (q : ℕ)
        → wakes q (cond by_itself (Woken p NoError ∷ []) []) ≡ true → WokenAt None (record_at roster q)
    resume_woken true is q woken =
        let free = scene.one p is in
        inl (Time, ap (λ (k : ℕ). awaited (record_at roster k)) (woken_alone q p woken) ∙ rw (free, is) refl, refl)
    resume_woken false is q woken = absurd (both_ways false refl woken)

    serves_resume : Serves roster caller call None (stamps.resume roster p) (services.resume_notices roster p)
    serves_resume = record {
      arrives = few (reaches_resume roster p known itself_normal);
      asks = asks_freed caller (Some call) roster (stamps.resume roster p) (resume_asks (stamps.is_by_itself r.suspended) refl);
      woken = resume_woken (stamps.is_by_itself r.suspended) refl;
    }

module _ (history : List Entry) (roster : Roster) (caller : Caller) (p : ℕ) (entry : ProcessConfig)
    (scene : Scene roster caller) (known : p < length roster.records) where
  abbrev process : ProcessObject
  process = process_after history p entry

  abbrev asks_for : ProcessService → Call
  asks_for service = call.Process (KindService p service)

  abbrev Served : ProcessService → Outcome ProcessObject → Type 0
  Served service o = ServesOne process_after KeepsProcess history roster caller (asks_for service) None p entry o

  -- the process's object stays
  served : (service : ProcessService) (new : Roster) (reply : Reply) (notices : List Notice)
      → Serves roster caller (asks_for service) None new notices
      → Served service (record { roster = new; object = process; reply = reply; notices = notices })
  served service new reply notices serves = record {
    serves = serves;
    read = λ number now who. process_stays new history _ p entry refl;
  }

  -- no process is woken, and none waits that did not wait before
  served_freed : (service : ProcessService) (new : Roster) (notices : List Notice) → Arrives most_given roster new → Frees roster new
      → AreQuiet notices → Served service (accepted new process notices)
  served_freed service new notices arrives frees quiet =
      served service new (Code NoError) notices (serves_freed roster caller (asks_for service) None new notices arrives frees quiet)

  served_refused : (service : ProcessService) (code : ReturnCode) → is_no_error code ≡ false → Served service (refused roster process code)
  served_refused service code bad = served service roster (Code code) [] (serves_same roster caller (asks_for service) None)

  -- one guard of a fields
  guard : (service : ProcessService) (holds : Bool) (code : ReturnCode) (rest : Outcome ProcessObject) → is_no_error code ≡ false
      → (holds ≡ false → Served service rest) → Served service (cond holds (refused roster process code) rest)
  guard service = by_guard roster process (Served service) (served_refused service)

  served_start : (service : ProcessService) (delay : Timeout) → Served service (services.start_process roster process p delay)
  served_start service delay =
      let ticks = services.delay_ticks delay in
      guard service (not process.created) _ _ refl (λ _.
      guard service (record_at roster p).started _ _ refl (λ dormant.
      guard service (services.is_unfit_delay (record_at roster p) delay) _ _ refl (λ _.
      served_freed service (stamps.start roster p ticks) (services.start_notices roster p ticks)
      (arrives_more 1 most_given (lit≤ tt) (arrives_start roster p known ticks dormant)) (start_frees roster p ticks) (start_quiet roster p ticks))))

  pub served_kind_service : (service : ProcessService) → Served service (services.process_service roster process p caller service)
  served_kind_service (InitializeCoreAffinity core) =
      let service = InitializeCoreAffinity core in
      guard service (is_normal roster.mode) _ _ refl (λ early.
      guard service (not process.created) _ _ refl (λ _.
      guard service (not (nat_lt core roster.cores)) _ _ refl (λ _.
      let r : Record = record (record_at roster p) { core = core } in
      served_freed service (stamps.set_core roster p core) []
      (arrives_more 0 most_given (lit≤ tt) (arrives_set_core roster p known core (in_cold_start _ _ scene.called early)))
      (frees_moved roster (stamps.set_core roster p core) p r refl (λ w h. h)) (λ q. refl))))
  served_kind_service (SetPriority priority) =
      let service = SetPriority priority in
      guard service (not process.created) _ _ refl (λ _.
      guard service (not (nat_le 1 priority && nat_le priority MOST_PRIORITY)) _ _ refl (λ _.
      guard service (not (record_at roster p).started) _ _ refl (λ _.
      served_freed service (stamps.set_priority roster p priority) []
      (few (reaches_set_priority roster p known priority)) (priority_frees roster p priority) (λ q. refl))))
  served_kind_service Start = served_start Start Poll
  served_kind_service (DelayedStart delay) = served_start (DelayedStart delay) delay
  served_kind_service Stop =
      guard Stop (is_by_process p caller) _ _ refl (λ _.
      guard Stop (not process.created) _ _ refl (λ _.
      guard Stop (not (record_at roster p).started) _ _ refl (λ _.
      let after = halted roster p in
      let halts_so = halts roster p in
      served Stop after.roster (Code NoError) after.notices (record {
        arrives = arrives_halted roster p known scene.starts scene.few;
        asks = asks_freed caller (Some (asks_for Stop)) roster after.roster halts_so.frees;
        woken = halts_so.woken;
      }))))
  served_kind_service Suspend =
      guard Suspend (is_by_process p caller) _ _ refl (λ _.
      guard Suspend (not process.created) _ _ refl (λ _.
      guard Suspend (services.is_unsuspendable (record_at roster p)) _ _ refl (λ _.
      guard Suspend (is_some (record_at roster p).suspended) _ _ refl (λ _.
      guard Suspend (owns_some (record_at roster p)) _ _ refl (λ _.
      served_freed Suspend (stamps.suspend roster p) []
      (arrives_by 0 (lit≤ tt) (reaches_suspend roster p known)) (suspend_frees roster p) (λ q. refl))))))
  served_kind_service Resume =
      guard Resume (is_by_process p caller) _ _ refl (λ _.
      guard Resume (not process.created) _ _ refl (λ _.
      guard Resume (services.is_unsuspendable (record_at roster p)) _ _ refl (λ able.
      guard Resume (is_none (record_at roster p).suspended) _ _ refl (λ _.
      served Resume (stamps.resume roster p) (Code NoError) (services.resume_notices roster p)
      (serves_resume roster p caller (asks_for Resume) scene known (not-false _ (neither _ _ able).0))))))

-- processes are objects of a kind
abbrev pub process_laws : LawsOf process_kind
process_laws = record {
  to = call.Process;
  creation = created_process;
  nothing = no_process;
  at = λ p. None;
  queue = λ p. None;
  Keeps = KeepsProcess;
  IsThere = λ roster p. p < length roster.records;
  created = λ call. refl;
  named = λ call. then_none (object_of call);
  differs = λ j i apart. (refl, refl);
  itself = λ i own is. absurd (none-some own is);
  unlike = λ j m. refl;
  status = λ roster x i. refl;
  stays = λ old new history e p entry keeps quiet still. process_stays new history e p entry quiet.create;
  makes = λ roster history e p entry keeps alone made. record {
    is = rw (created-push created_process p history e, made, or_true (is_created created_process p history)) refl;
    kept = tt;
  };
  service = λ history roster caller p entry service keeps asked scene stands.
      served_kind_service history roster caller p entry scene stands service;
}
