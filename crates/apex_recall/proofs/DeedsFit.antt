-- Every event keeps records and objects in bounds.
use Rattle.std.proofs.Common.{◌≡◌, ℕ, zero, suc, ◌+◌, ◌<◌, ◌≤◌, ◌^◌, Bool, true, false, cond, nat_lt, List, [], ◌∷◌, length, map, get_or, Option, None, Some, refl, sym, ◌∙◌, ap, subst, inl, inr, arith, ltb-true}
use Rattle.std.proofs.lemmas.Bool.{cases_lt, cond_both}
use Rattle.std.proofs.lemmas.List.{get_or_past}
use Rattle.std.proofs.lemmas.Option.{none-some, same_Some}
use Rattle.apex_types.specs.declared.calls.BlackboardService.TheVariants as blackboard
use Rattle.apex_types.specs.declared.calls.BufferService.TheVariants as buffer
use Rattle.apex_types.specs.declared.calls.Call.{Call}
use Rattle.apex_types.specs.declared.calls.Call.TheVariants.{Partition, Process as ToProcess, Caller as ToCaller, Time, Semaphore, Buffer, Blackboard, EventFlag as ToEventFlag, Mutex, Work as ToWork}
use Rattle.apex_types.specs.declared.calls.CallerCall.TheVariants.{StopSelf}
use Rattle.apex_types.specs.declared.calls.ObjectCall.{ObjectCall}
use Rattle.apex_types.specs.declared.calls.ObjectCall.TheVariants.{KindService}
use Rattle.apex_types.specs.declared.calls.Origin.TheVariants.{Init as ByInit, Script}
use Rattle.apex_types.specs.declared.calls.ProcessService.TheVariants as process
use Rattle.apex_types.specs.declared.calls.Timeout.{Timeout}
use Rattle.apex_types.specs.declared.entries.Caller.TheVariants.{Process, Init}
use Rattle.apex_types.specs.declared.entries.Event.TheVariants.{Turn, Tick}
use Rattle.apex_types.specs.declared.limits.TheConstants.{MOST_CORES, MOST_OWNED, MOST_STEPS}
use Rattle.apex_machine.specs.declared.profiles.Profile.{Profile}
use Rattle.apex_machine.specs.declared.profiles.Profile.TheVariants.{One, Two}
use Rattle.apex_machine.specs.Deeds.{Deed, Objects, chosen_deed, ended_deed, move_on, next_place, script_deed, served, service, step_of, turn_deed}
use Rattle.apex_machine.specs.Situations.{Situation, deed, due_call}
use Rattle.apex_machine.specs.processes.Owners.{ceiling_of}
use Rattle.apex_machine.specs.processes.Roster.{Roster, record_at}
use Rattle.apex_machine.specs.processes.Running.{chosen}
use Rattle.apex_machine.specs.services.BlackboardServices.{blackboard_kind}
use Rattle.apex_machine.specs.services.BufferServices.{buffer_kind}
use Rattle.apex_machine.specs.services.Calls.{is_work, message_in, origin_of}
use Rattle.apex_machine.specs.services.EventFlagServices.{event_flag_kind}
use Rattle.apex_machine.specs.services.MutexServices.{mutex_kind}
use Rattle.apex_machine.specs.services.ProcessServices.{delay_ticks, process_kind}
use Rattle.apex_machine.specs.services.Rows.{within}
use Rattle.apex_machine.specs.services.SemaphoreServices.{semaphore_kind}
use Rattle.apex_machine.specs.table.Profiles.{owned_of, processes_of}
use Rattle.apex_machine.specs.table.Table.{IsKnown, IsKnownObject, IsLawful, IsLawfulStep, IsLiteral, MutexConfig, ProcessConfig, Step, Table, call_in, no_mutex, no_process, process_config, step_at}
use Rattle.apex_laws.proofs.GoesOn.{due_is}
use Rattle.apex_laws.proofs.Known.{known_script_step}
use Rattle.apex_recall.specs.Reached.{BlackboardFits, BufferFits, FitsMessage, FitsOrigin, IsUsual, ObjectsFit, RosterFits, SemaphoreFits}
use Rattle.apex_recall.specs.Terms.{Caller, Event, Message, OpenWork, Origin}
use Rattle.apex_recall.proofs.Calls.{of_call, init_call_is_usual, script_call_is_usual}
use Rattle.apex_recall.proofs.RecordsFit.{set_step_fits, time_fits}
use Rattle.apex_recall.proofs.ServicesFit.{Anything, OutcomeFits, blackboard_fits, buffer_fits, caller_fits, deed_fits, event_flag_fits, mutex_fits, partition_fits, process_fits, semaphore_fits, timely_fits}

-- the messages that a call gives fit
abbrev pub CallFits : Call → Type 0
CallFits call = (message : Message) → message_in call ≡ Some message → FitsMessage message

message_fits : (origin : Origin) → FitsOrigin origin → (literal : List ℕ) (call : Call) → IsLiteral origin literal (origin_of call) (message_in call) → CallFits call
message_fits origin place literal (Buffer (KindService b (buffer.Send m timeout))) is message e =
    subst FitsMessage (same_Some m message e) (subst FitsOrigin (sym is.given) place, omega (arith, is.few))
message_fits origin place literal (Blackboard (KindService b (blackboard.Display m))) is message e =
    subst FitsMessage (same_Some m message e) (subst FitsOrigin (sym is.given) place, omega (arith, is.few))
message_fits origin place literal call is message e = absurd (none-some message e)

step_fits : (table : Table) (origin : ℕ → Origin) (steps : List Step) → ((k : ℕ) → k < length steps → FitsOrigin (origin k))
    → ((k : ℕ) → k < length steps → IsLawfulStep table (origin k) (step_at steps k)) → (k : ℕ) (call : Call) → call_in steps k ≡ Some call → CallFits call
step_fits table origin steps place lawful =
    of_call CallFits steps (λ k below. message_fits (origin k) (place k below) (step_at steps k).literal (step_at steps k).call (lawful k below).literal)

known_index : {W : Type 0} (many : ℕ) (call : ObjectCall ℕ W) → IsKnownObject many call → (i : ℕ) (service : W) → call ≡ KindService i service → i < many
known_index many call known i service at = subst (IsKnownObject many) at known

few_processes : (profile : Profile) → processes_of profile ≤ 64
few_processes One = omega arith
few_processes Two = omega arith

few_owned : (profile : Profile) → owned_of profile ≤ MOST_OWNED
few_owned One = omega arith
few_owned Two = omega arith

ceilings_few : (mutexes : List MutexConfig) → ((m : ℕ) → m < length mutexes → (get_or mutexes m no_mutex).ceiling < 256)
    → (m : ℕ) → get_or (map (λ (entry : MutexConfig). entry.ceiling) mutexes) m 0 < 256
ceilings_few [] few m = omega arith
ceilings_few (entry ∷ mutexes) few zero = few 0 (omega arith)
ceilings_few (entry ∷ mutexes) few (suc m) = ceilings_few mutexes (λ k within. few (suc k) (omega (arith, within))) m

module _ (table : Table) (lawful : IsLawful table) where
  module _ (roster : Roster) (is : RosterFits table roster) (objects : Objects) (fits : ObjectsFit table objects) (caller : Caller) where
    ceiling : (m : ℕ) → ceiling_of roster m < 256
    ceiling m =
        rw is.rules (ceilings_few table.mutexes (λ k below. let few = (lawful.mutexes k below).ceiling in omega (arith, few.1)) m)

    most : roster.rules.most_owned ≤ MOST_OWNED
    most = rw is.rules (few_owned table.profile)

    cores : roster.cores ≤ MOST_CORES
    cores = rw is.cores (lawful.cores.1)

    short : (call : ObjectCall ℕ _) → IsUsual (ToProcess call) → (i : ℕ) (delay : Timeout) → call ≡ KindService i (process.DelayedStart delay) → delay_ticks delay < 2 ^ 32
    short call plain i delay at = subst (λ (c : ObjectCall ℕ _). IsUsual (ToProcess c)) at plain

    pub service_fits : (call : Call) → IsKnown table call → IsUsual call → CallFits call → OutcomeFits table (ObjectsFit table) (service roster objects caller call)
    service_fits (Partition call) known plain ok = partition_fits roster is caller (ObjectsFit table) objects fits call
    service_fits (ToProcess call) known plain ok =
        let done = deed_fits process_kind Anything (λ k x _. tt) roster is objects.processes (λ k. tt) caller call
        (λ i serves at. process_fits roster is caller i (get_or objects.processes i process_kind.absent) cores serves
        (λ delay e. short call plain i delay (at ∙ ap (KindService i) e))) in
        record { left = done.left; kept = record { semaphores = fits.semaphores; buffers = fits.buffers; blackboards = fits.blackboards } }
    service_fits (ToCaller call) known plain ok = caller_fits roster is caller (ObjectsFit table) objects fits call
    service_fits (Time call) known plain ok = timely_fits roster is caller (ObjectsFit table) objects fits call
    service_fits (Semaphore call) known plain ok =
        let done = deed_fits semaphore_kind (SemaphoreFits table) (λ k x f. f) roster is objects.semaphores fits.semaphores caller call
        (λ i serves at. let below = known_index (length table.semaphores) call known i serves at in
        semaphore_fits roster is caller i (omega (arith, below, lawful.semaphore_count)) (get_or objects.semaphores i semaphore_kind.absent) (fits.semaphores i) serves) in
        record { left = done.left; kept = record { semaphores = done.kept; buffers = fits.buffers; blackboards = fits.blackboards } }
    service_fits (Buffer call) known plain ok =
        let done = deed_fits buffer_kind (BufferFits table)
        (λ k x f. record { capacity = f.capacity; longest = f.longest; few = f.few; messages = f.messages }) roster is objects.buffers fits.buffers caller call
        (λ i serves at. let below = known_index (length table.buffers) call known i serves at in
        buffer_fits roster is caller i (omega (arith, below, lawful.buffer_count)) (get_or objects.buffers i buffer_kind.absent) (fits.buffers i) serves
        (λ message timeout e. ok message (ap (λ c. message_in (Buffer c)) (at ∙ ap (KindService i) e)))) in
        record { left = done.left; kept = record { semaphores = fits.semaphores; buffers = done.kept; blackboards = fits.blackboards } }
    service_fits (Blackboard call) known plain ok =
        let done = deed_fits blackboard_kind (BlackboardFits table) (λ k x f. f) roster is objects.blackboards fits.blackboards caller call
        (λ i serves at. let below = known_index (length table.blackboards) call known i serves at in
        blackboard_fits roster is caller i (omega (arith, below, lawful.blackboard_count)) (get_or objects.blackboards i blackboard_kind.absent) (fits.blackboards i) serves
        (λ message e. ok message (ap (λ c. message_in (Blackboard c)) (at ∙ ap (KindService i) e)))) in
        record { left = done.left; kept = record { semaphores = fits.semaphores; buffers = fits.buffers; blackboards = done.kept } }
    service_fits (ToEventFlag call) known plain ok =
        let done = deed_fits event_flag_kind Anything (λ k x _. tt) roster is objects.event_flags (λ k. tt) caller call
        (λ i serves at. let below = known_index (length table.event_flags) call known i serves at in
        event_flag_fits roster is caller i (omega (arith, below, lawful.event_flag_count)) (get_or objects.event_flags i event_flag_kind.absent) serves) in
        record { left = done.left; kept = record { semaphores = fits.semaphores; buffers = fits.buffers; blackboards = fits.blackboards } }
    service_fits (Mutex call) known plain ok =
        let done = deed_fits mutex_kind Anything (λ k x _. tt) roster is objects.mutexes (λ k. tt) caller call
        (λ i serves at. let below = known_index (length table.mutexes) call known i serves at in
        mutex_fits roster is caller i (omega (arith, below, lawful.mutex_count)) (ceiling i) most (get_or objects.mutexes i mutex_kind.absent) serves) in
        record { left = done.left; kept = record { semaphores = fits.semaphores; buffers = fits.buffers; blackboards = fits.blackboards } }
    service_fits (ToWork amount) known plain ok = record { left = is; kept = fits }

  -- the next place of a script
  script_few : (p : ℕ) → length (process_config table p).script ≤ MOST_STEPS
  script_few p = elim (cases_lt p (length table.processes)) [
    | inl within ↦ (lawful.processes p within).steps
    | inr past ↦
        let none : process_config table p ≡ no_process = get_or_past table.processes p no_process past in
        rw none (omega arith)
  ]

  next_few : (p step : ℕ) → next_place (process_config table p) step < 256
  next_few p step =
      let few = script_few p in
      cond_both (nat_lt (step + 1) (length (process_config table p).script)) (step + 1)
      (cond (process_config table p).loops 0 (length (process_config table p).script)) (λ k. k < 256)
      (λ more. let less = ltb-true (step + 1) (length (process_config table p).script) more in omega (arith, less, few))
      (λ _. cond_both (process_config table p).loops 0 (length (process_config table p).script) (λ k. k < 256) (λ _. omega arith) (λ _. omega (arith, few)))

  script_ok : (p k : ℕ) (call : Call) → call_in (process_config table p).script k ≡ Some call → CallFits call
  script_ok p k call is = elim (cases_lt p (length table.processes)) [
    | inl within ↦
        let own = lawful.processes p within in
        let many = lawful.process_count in
        step_fits table (λ i. Script p i) (process_config table p).script
        (λ i below. (omega (arith, within, many.1, few_processes table.profile), omega (arith, below, own.steps))) own.script k call is
    | inr past ↦
        let none : process_config table p ≡ no_process = get_or_past table.processes p no_process past in
        absurd (none-some call (sym (ap (λ (entry : ProcessConfig). call_in entry.script k) none) ∙ is))
  ]

  init_ok : (k : ℕ) (call : Call) → call_in table.init k ≡ Some call → CallFits call
  init_ok k call is = step_fits table ByInit table.init (λ i below. omega (arith, below, lawful.init_count)) lawful.init k call is

  -- a deed
  abbrev pub DeedFits : Deed → Type 0
  DeedFits d = OutcomeFits table (ObjectsFit table) d.outcome

  module _ (roster : Roster) (is : RosterFits table roster) (objects : Objects) (fits : ObjectsFit table objects) where
    moved_fits : (p : ℕ) → RosterFits table (move_on table roster p)
    moved_fits p = set_step_fits roster is p _ (next_few p (record_at roster p).step)

    script_fits : (p : ℕ) (found : Option Call) → step_of table roster p ≡ found → DeedFits (script_deed table roster objects p found)
    script_fits p None here = service_fits roster is objects fits (Process p) (ToCaller StopSelf) tt tt (λ message e. absurd (none-some message e))
    script_fits p (Some call) here =
        let known = known_script_step table p (record_at roster p).step call lawful here in
        let plain = script_call_is_usual table lawful p (record_at roster p).step call here in
        let ok = script_ok p (record_at roster p).step call here in
        cond_both {A = Roster} (is_work call) roster (move_on table roster p) (λ moved. DeedFits (served moved objects (Process p) call))
        (λ _. service_fits roster is objects fits (Process p) call known plain ok)
        (λ _. service_fits (move_on table roster p) (moved_fits p) objects fits (Process p) call known plain ok)

    chosen_fits : (found : Option ℕ) → DeedFits (chosen_deed table roster objects found)
    chosen_fits None = record { left = is; kept = fits }
    chosen_fits (Some p) = script_fits p (step_of table roster p) refl

    ended_fits : (o : OpenWork) → DeedFits (ended_deed table roster objects o)
    ended_fits o = by_case o.unbroken where
      by_case : (unbroken : Bool) → DeedFits (ended_deed table roster objects (record { work = o.work; unbroken = unbroken }))
      by_case true = record { left = moved_fits o.work.process; kept = fits }
      by_case false = record { left = is; kept = fits }

    turn_fits : (core : ℕ) (begun : Option OpenWork) (due : Option Call)
        → ((call : Call) → due ≡ Some call → IsKnown table call × IsUsual call × CallFits call) → DeedFits (turn_deed table roster objects core begun due)
    turn_fits core (Some o) due ok = ended_fits o
    turn_fits core None None ok = chosen_fits (chosen roster core)
    turn_fits core None (Some call) ok =
        let own = ok call refl in
        service_fits roster is objects fits Init call own.0 own.1 own.2

  -- an init step that is due is one of the table
  due_in : (s : Situation) (core : ℕ) (call : Call) → due_call table s core ≡ Some call → call_in table.init s.made ≡ Some call
  due_in s core call is = by_case _ is where
    by_case : (due : Bool) → cond due (call_in table.init s.made) None ≡ Some call → call_in table.init s.made ≡ Some call
    by_case true e = e
    by_case false e = absurd (none-some call e)

  pub event_fits : (s : Situation) → RosterFits table s.roster → ObjectsFit table s.objects → (event : Event) → DeedFits (deed table s event)
  event_fits s is fits (Turn core) =
      turn_fits s.roster is s.objects fits core (s.works core) (due_call table s core)
      (λ call due. let here = due_in s core call due in
      ((due_is table lawful s core call due).known, init_call_is_usual table lawful s.made call here, init_ok s.made call here))
  event_fits s is fits (Tick n) = record { left = time_fits s.roster is n; kept = fits }
