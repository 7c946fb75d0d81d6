-- The duties of a turn: it arrives at the roster that it leaves, and the running objects are those
-- that the history then gives.
use Rattle.std.proofs.Common.{◌≡◌, ℕ, ◌+◌, ◌<◌, ◌≤◌, ◌==◌, Bool, true, false, List, [], length, Option, None, Some, is_none, IfSome, lit≤, refl, sym, ◌∙◌, ap, subst, inl, inr, arith}
use Rattle.std.proofs.lemmas.Option.{none-some, same_Some}
use Rattle.std.proofs.lemmas.Bool.{both_ways, and_parts, cases_lt, cond_both, eq-eqb, eqb-true}
use Rattle.std.proofs.lemmas.List.{get_or_past}
use Rattle.apex_types.specs.declared.limits.TheConstants.{MOST_PROCESSES}
use Rattle.apex_laws.specs.Premises.{most_given}
use Rattle.apex_laws.specs.Terms.{Attributes, Call, Caller, Entry, Mode, OpenWork, Record, Reply, Suspender, Wait, Who, Work}
use Rattle.apex_types.specs.declared.calls.Call.TheVariants.{Caller as ToCaller, Work as ToWork}
use Rattle.apex_types.specs.declared.calls.CallerCall.TheVariants.{StopSelf}
use Rattle.apex_types.specs.declared.entries.Caller.TheVariants.{Process, Init, Nobody}
use Rattle.apex_types.specs.declared.entries.Reply.TheVariants.{Done, Lost}
use Rattle.apex_types.specs.declared.entries.Who.TheVariants.{Core}
use Rattle.apex_machine.specs.services.Callers.{IsReady, IsReadyCaller, is_by_process}
use Rattle.apex_machine.specs.services.Calls.{is_work}
use Rattle.apex_machine.specs.Deeds.{Objects, Deed, service, served, next_place, move_on, script_deed, ended_deed, chosen_deed, turn_deed, step_of}
use Rattle.apex_machine.specs.Machine.{objects_after, entry_of}
use Rattle.apex_machine.specs.processes.Owners.{HasOrderlyOwners}
use Rattle.apex_types.specs.Modes.{is_cold_start, is_normal}
use Rattle.apex_machine.specs.processes.Roster.{Roster, record_at, rules_of}
use Rattle.apex_machine.specs.services.Rows.{Outcome}
use Rattle.apex_machine.specs.processes.Running.{is_eligible, chosen}
use Rattle.apex_machine.specs.processes.Stamps.{WaitsForOne, HasOrderlyStarts, is_by_itself, set_step}
use Rattle.apex_machine.specs.table.Table.{Table, ProcessConfig, no_process, process_config, IsLawful, IsKnown}
use Rattle.apex_machine.specs.Works.{is_turn_of, work_begun}
use Rattle.apex_machine.proofs.BothProfiles.{lawful_count}
use Rattle.apex_machine.proofs.Periods.{HasSomeTicks}
use Rattle.apex_machine.proofs.Reaches.{Arrives, Reaches, arrives_of, arrives_then, reaches_more, reaches_none, reaches_set_step, started_step}
use Rattle.apex_machine.proofs.Modes.{normal_late}
use Rattle.apex_machine.proofs.Starts.{chosen_core, chosen_ready, ready_step, runnable}
use Rattle.apex_laws.specs.AskedWaits.{asked_of, or_suspended, awaited}
use Rattle.apex_laws.proofs.AskedWaits.{Frees, asks_freed, asks_later, frees_moved, frees_none, woken_before}
use Rattle.apex_laws.proofs.CallsServe.{AreKept, IsExact, serves_call, serves_none, exact_uncalled, work_creates, kept_freed}
use Rattle.apex_laws.proofs.Known.{known_script_step}
use Rattle.apex_laws.proofs.Satisfied.{Asks, IsIdle, WokenBy, wakes}
use Rattle.apex_laws.proofs.OthersServe.{ServesNone}
use Rattle.apex_laws.proofs.Serving.{Scene, serves_freed}

-- an eligible process waits for nothing that it asked for
eligible_free : (mode : Mode) (r : Record) → is_eligible mode r ≡ true → awaited r ≡ None
eligible_free mode r e =
    let waits = and_parts _ (is_none r.wait) e in
    let suspended = and_parts _ (is_none r.suspended) waits.0 in
    nothing r.wait r.suspended waits.1 suspended.1 where
      nothing : (wait : Option Wait) (suspended : Option Suspender) → is_none wait ≡ true → is_none suspended ≡ true
          → or_suspended (asked_of wait) (is_by_itself suspended) ≡ None
      nothing None None h i = refl
      nothing None (Some by) h i = cc
      nothing (Some w) suspended h i = cc

-- the same of a caller
ready_idle : (roster : Roster) (caller : Caller) → IsReadyCaller roster caller → IsIdle caller roster
ready_idle roster (Process p) ready q w by h =
    none-some w (sym (eligible_free roster.mode (record_at roster p) ready.eligible) ∙ rw (eqb-true q p by) at h)
ready_idle roster Init ready q w by h = cc
ready_idle roster Nobody ready q w by h = cc

-- the periods of a table are at least 1
config_spans : (table : Table) → IsLawful table → (p : ℕ) → HasSomeTicks (process_config table p).attributes.period
config_spans table lawful p = elim (cases_lt p (length table.processes)) [
  | inl within ↦ λ n is. ((lawful.processes p within).period n is).0
  | inr past ↦ λ n is.
      let none : process_config table p ≡ no_process = get_or_past table.processes p no_process past in
      absurd (none-some n (sym (ap (λ (entry : ProcessConfig). entry.attributes.period) none) ∙ is))
]

-- so are those of the processes that have their attributes
spans_of : (table : Table) → IsLawful table → (roster : Roster)
    → ((p : ℕ) → (record_at roster p).attributes ≡ (process_config table p).attributes)
    → (p : ℕ) → HasSomeTicks (record_at roster p).attributes.period
spans_of table lawful roster same p n is =
    config_spans table lawful p n (sym (ap (λ (attributes : Attributes). attributes.period) (same p)) ∙ is)

-- what a deed may rely on: there is a record for each process of the table, with the attributes that it
-- gives, and the rules of mutexes are the table's; a process that suspended itself waits for nothing else; starts and owners are in order, and all is kept
pub record IsOrderly (table : Table) (history : List Entry) (roster : Roster) : Type 0 where
  pub many : length roster.records ≡ length table.processes
  pub rules : roster.rules ≡ rules_of table
  pub attributes : (p : ℕ) → (record_at roster p).attributes ≡ (process_config table p).attributes
  pub one : WaitsForOne roster
  pub starts : HasOrderlyStarts roster
  pub owners : HasOrderlyOwners roster
  pub kept : AreKept table roster history

-- a process with work open on a core is bound to it, and has asked for nothing since; and
-- COLD_START is over
pub record IsAtWork (roster : Roster) (core p : ℕ) : Type 0 where
  pub known : p < length roster.records
  pub bound : (record_at roster p).core ≡ core
  pub idle : awaited (record_at roster p) ≡ None
  pub late : is_cold_start roster.mode ≡ false

-- the duties of a deed then: it arrives at the roster that it leaves, its call is the table's, each
-- process that waits asked for its wait, each that it wakes waited for what its call names, for time
-- or for a mutex, its caller is of the core, a process that begins work is at work there, and all
-- facts stay kept
pub record Owes (table : Table) (history : List Entry) (old : Roster) (who : Who) (deed : Deed) : Type 0 where
  pub arrives : Arrives most_given old deed.outcome.roster
  pub known : IfSome deed.call (IsKnown table)
  pub asks : Asks deed.caller deed.call old deed.outcome.roster
  pub woken : (p : ℕ) → wakes p deed.outcome.notices ≡ true → WokenBy deed.call (record_at old p)
  pub own : (p : ℕ) → is_by_process p deed.caller ≡ true → is_turn_of (record_at old p).core who ≡ true
  pub begun : (work : Work) → work_begun deed.caller deed.call deed.outcome.reply ≡ Some work → (core : ℕ) → is_turn_of core who ≡ true
      → IsAtWork deed.outcome.roster core work.process
  pub exact : IsExact table history (entry_of (length history + 1) who deed) deed.outcome.object deed.outcome.roster

-- a process that calls at a turn of this core is bound to it
abbrev IsOfCore : Roster → ℕ → Caller → Type 0
IsOfCore roster core caller = (p : ℕ) → is_by_process p caller ≡ true → core ≡ (record_at roster p).core

-- a process that is ready on its core and begins work is at work there
module _ {X : Type 0} (roster : Roster) (objects : X) (core : ℕ) where
  ready_at_work : (p : ℕ) → IsReady roster p → core ≡ (record_at roster p).core → IsAtWork roster core p
  ready_at_work p ready same = record {
    known = ready.known;
    bound = sym same;
    idle = eligible_free roster.mode (record_at roster p) ready.eligible;
    late = normal_late roster.mode (runnable roster.mode (record_at roster p) ready.eligible).normal;
  }

module _ (table : Table) (lawful : IsLawful table) (history : List Entry) (core : ℕ) where
  abbrev objects : Objects
  objects = objects_after table history

  abbrev OwesHere : Roster → Deed → Type 0
  OwesHere roster = Owes table history roster (Core core)

  -- work that a call begins
  begins_work : (roster : Roster) (caller : Caller) → IsReadyCaller roster caller → IsOfCore roster core caller
      → (call : Call) (work : Work) → work_begun caller (Some call) (service roster objects caller call).reply ≡ Some work
      → IsAtWork (service roster objects caller call).roster core work.process
  begins_work roster (Process p) ready own (ToWork amount) work e =
      subst (IsAtWork roster core) (ap (λ (w : Work). w.process) (same_Some _ work e))
      (ready_at_work roster objects core p ready (own p (eq-eqb p p refl)))
  begins_work roster (Process p) ready own _ work e = absurd (none-some work e)
  begins_work roster Init ready own call work e = absurd (none-some work e)
  begins_work roster Nobody ready own call work e = absurd (none-some work e)

  served_owes : (roster : Roster) → IsOrderly table history roster → (caller : Caller) → IsReadyCaller roster caller
      → IsOfCore roster core caller → (is_cold_start roster.mode ≡ false → is_normal roster.mode ≡ true)
      → (call : Call) → IsKnown table call → OwesHere roster (served roster objects caller call)
  served_owes roster orderly caller ready own called call known =
      let count = lawful_count table lawful in
      let few : length roster.records ≤ MOST_PROCESSES = omega (arith, orderly.many, count) in
      let scene : Scene roster caller = record {
        starts = orderly.starts;
        one = orderly.one;
        few = few;
        spans = spans_of table lawful roster orderly.attributes;
        ready = ready;
        called = called;
      } in
      let idle = ready_idle roster caller ready in
      let serves = serves_call table history roster orderly.kept caller idle scene orderly.many call known in
      record {
        arrives = serves.arrives;
        known = known;
        asks = serves.asks;
        woken = serves.woken;
        own = λ p by. eq-eqb _ _ (sym (own p by));
        begun = λ work e c here. rw (eqb-true c core here) (begins_work roster caller ready own call work e);
        exact = serves.exact (length history + 1) (service roster objects caller call).roster.now (Core core);
      }

  module _ (roster : Roster) (orderly : IsOrderly table history roster) where
    -- a process that is chosen calls
    own_call : (p : ℕ) → IsReady roster p → core ≡ (record_at roster p).core → (call : Call) → IsKnown table call
        → OwesHere roster (served roster objects (Process p) call)
    own_call p ready same call known =
        served_owes roster orderly (Process p) ready (λ q by. same ∙ ap (λ (k : ℕ). (record_at roster k).core) (sym (eqb-true q p by)))
        (λ _. (runnable roster.mode (record_at roster p) ready.eligible).normal) call known

    -- it moves on, and calls
    moved_call : (p : ℕ) → IsReady roster p → core ≡ (record_at roster p).core → (call : Call) → IsKnown table call
        → OwesHere roster (served (move_on table roster p) objects (Process p) call)
    moved_call p ready same call known =
        let r = record_at roster p in
        let next = next_place (process_config table p) r.step in
        let moved = set_step roster p next in
        let reaches = reaches_set_step roster p ready.known next in
        let moves = reaches.moves in
        let frees = frees_moved roster moved p (record r { step = next }) refl (λ w h. h) in
        let cores = λ (q : ℕ). (reaches.periods q).core in
        let owes = served_owes moved
        (record {
          many = moves.many ∙ orderly.many;
          rules = moves.rules ∙ orderly.rules;
          attributes = λ q. (reaches.periods q).attributes ∙ orderly.attributes q;
          one = moves.one orderly.one;
          starts = moves.starts orderly.starts;
          owners = reaches.owners orderly.owners;
          kept = kept_freed table history roster moved frees orderly.kept;
        })
        (Process p) (ready_step roster p next ready)
        (λ q by. same ∙ ap (λ (k : ℕ). (record_at roster k).core) (sym (eqb-true q p by)) ∙ sym (cores q))
        (λ _. (runnable roster.mode (record_at roster p) ready.eligible).normal) call known in
        record {
          arrives = arrives_then 0 most_given reaches (λ q. started_step roster p next ready.known q) owes.arrives;
          known = owes.known;
          asks = asks_later frees owes.asks;
          woken = λ q waking. woken_before frees (Some call) q (owes.woken q waking);
          own = λ q by. ap (λ (c : ℕ). c == core) (sym (cores q)) ∙ owes.own q by;
          begun = owes.begun;
          exact = owes.exact;
        }

    script_owes : (p : ℕ) → IsReady roster p → core ≡ (record_at roster p).core → (step : Option Call) → step_of table roster p ≡ step
        → OwesHere roster (script_deed table roster objects p step)
    script_owes p ready same None is = own_call p ready same (ToCaller StopSelf) tt
    script_owes p ready same (Some call) is =
        let known = known_script_step table p (record_at roster p).step call lawful is in
        cond_both {A = Roster} (is_work call) roster (move_on table roster p)
        (λ moved. OwesHere roster (served moved objects (Process p) call))
        (λ _. own_call p ready same call known) (λ _. moved_call p ready same call known)

    chosen_owes : (found : Option ℕ) → chosen roster core ≡ found → OwesHere roster (chosen_deed table roster objects found)
    chosen_owes None is = record {
      arrives = arrives_of (reaches_none most_given roster);
      known = tt;
      asks = asks_freed Nobody None roster roster (frees_none roster);
      woken = λ p waking. absurd (both_ways false refl waking);
      own = λ p by. absurd (both_ways false refl by);
      begun = λ work e. absurd (none-some work e);
      exact = exact_uncalled table history roster orderly.kept roster _ refl refl
          (λ p woken. absurd (both_ways false refl woken)) (frees_none roster);
    }
    chosen_owes (Some p) is = script_owes p (chosen_ready roster core p is) (sym (chosen_core roster core p is)) (step_of table roster p) refl

    -- work ends, and the process that began it calls nothing
    module _ (work : Work) (at : IsAtWork roster core work.process) where
      abbrev p : ℕ
      p = work.process

      idle : IsIdle (Process p) roster
      idle q w by h = none-some w (sym at.idle ∙ rw (eqb-true q p by) at h)

      ended_by : (new : Roster) (reply : Reply) → Reaches most_given roster new → Frees roster new
          → ((w : Work) → work_begun (Process p) (Some (ToWork work.amount)) reply ≡ Some w → ⊥)
          → OwesHere roster (record {
            caller = Process p;
            call = Some (ToWork work.amount);
            outcome = record { roster = new; object = objects; reply = reply; notices = [] };
          })
      ended_by new reply reaches frees ends =
          let call = ToWork work.amount in
          let o : Outcome Objects = record { roster = new; object = objects; reply = reply; notices = [] } in
          let freed = serves_freed roster (Process p) call None new [] (arrives_of reaches) frees (λ q. refl) in
          let none : ServesNone roster objects (Process p) call o = record { serves = freed; stays = refl } in
          let serves = serves_none table history roster orderly.kept (Process p) idle call o none refl (work_creates work.amount) in
          record {
            arrives = serves.arrives;
            known = tt;
            asks = serves.asks;
            woken = serves.woken;
            own = λ q by. eq-eqb _ _ (ap (λ (k : ℕ). (record_at roster k).core) (eqb-true q p by) ∙ at.bound);
            begun = λ w e. absurd (ends w e);
            exact = serves.exact (length history + 1) new.now (Core core);
          }

      ended_owes : (unbroken : Bool) → OwesHere roster (ended_deed table roster objects (record { work = work; unbroken = unbroken }))
      ended_owes true =
          let r = record_at roster p in
          let next = next_place (process_config table p) r.step in
          ended_by (set_step roster p next) Done (reaches_more 0 most_given (lit≤ tt) (reaches_set_step roster p at.known next))
          (frees_moved roster (set_step roster p next) p (record r { step = next }) refl (λ w h. h)) (λ w e. none-some w e)
      ended_owes false = ended_by roster Lost (reaches_none most_given roster) (frees_none roster) (λ w e. none-some w e)

    pub turn_owes : (ongoing : Option OpenWork) → ((o : OpenWork) → ongoing ≡ Some o → IsAtWork roster core o.work.process)
        → (due : Option Call) → ((call : Call) → due ≡ Some call → IsKnown table call)
        → ((call : Call) → due ≡ Some call → is_cold_start roster.mode ≡ true)
        → OwesHere roster (turn_deed table roster objects core ongoing due)
    turn_owes (Some o) at due known cold = ended_owes o.work (at o refl) o.unbroken
    turn_owes None at None known cold = chosen_owes (chosen roster core) refl
    turn_owes None at (Some call) known cold =
        served_owes roster orderly Init tt (λ p by. absurd (both_ways false refl by))
        (λ late. absurd (both_ways _ late (cold call refl))) call (known call refl)
