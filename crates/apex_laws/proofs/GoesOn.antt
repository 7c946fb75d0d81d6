-- A situation that can go on can go on after each event.
use Rattle.std.proofs.Common.{◌≡◌, ◌∙◌, ℕ, ◌+◌, ◌*◌, ◌<◌, ◌≤◌, ◌==◌, ◌&&◌, ◌⊎◌, Bool, true, false, cond, if◌then◌else◌, List, [], length, slice_get, Option, None, Some, lit≤, option_map, refl, sym, ap, subst, inl, inr, arith}
use Rattle.std.specs.Option.{ForSome}
use Rattle.std.proofs.lemmas.Bool.{both_ways, cases_lt, cond_both}
use Rattle.std.proofs.lemmas.Int.{ints}
use Rattle.std.proofs.lemmas.List.{get_or_past}
use Rattle.std.proofs.lemmas.Option.{none-some, same_Some, slice_get_within}
use Rattle.apex_types.specs.declared.calls.Call.TheVariants.{Caller as ToCaller, Work as ToWork}
use Rattle.apex_types.specs.declared.calls.CallerCall.TheVariants.{StopSelf}
use Rattle.apex_types.specs.declared.entries.Caller.TheVariants.{Process, Init, Nobody}
use Rattle.apex_types.specs.declared.entries.Event.TheVariants.{Turn, Tick}
use Rattle.apex_types.specs.declared.entries.Reply.TheVariants.{Done, Idle, Lost}
use Rattle.apex_types.specs.declared.limits.TheConstants.{MOST_ENTRIES, MOST_PROCESSES, MOST_TICKS}
use Rattle.apex_types.specs.Modes.{is_cold_start, is_normal}
use Rattle.apex_machine.specs.Deeds.{Deed, Objects, chosen_deed, ended_deed, move_on, next_place, script_deed, served, step_of, service, tick_deed, turn_deed}
use Rattle.apex_machine.specs.Machine.{opening, situation_of}
use Rattle.apex_machine.specs.Situations.{Situation, deed, due_call, maker, step, works_after}
use Rattle.apex_machine.specs.Ticks.{pass_time, tick_goal}
use Rattle.apex_machine.specs.Works.{fresh, is_turn_of, watched, work_begun}
use Rattle.apex_machine.specs.processes.Periods.{AreInTime}
use Rattle.apex_machine.specs.processes.Roster.{Roster, record_at}
use Rattle.apex_machine.specs.processes.Running.{chosen}
use Rattle.apex_machine.specs.processes.Stamps.{HasManyStamps, HasOrderlyStarts, WaitsForOne, advance_to, set_step}
use Rattle.apex_machine.specs.services.Callers.{IsReady, IsReadyCaller, is_by_init}
use Rattle.apex_machine.specs.services.Calls.{is_work}
use Rattle.apex_machine.specs.services.Premises.{CanServe}
use Rattle.apex_machine.specs.table.Table.{ProcessConfig, Step, Table, IsKnown, no_process, IsLawful, call_in, process_config}
use Rattle.apex_machine.proofs.BothProfiles.{lawful_count}
use Rattle.apex_machine.proofs.Dues.{goal_before_deadlines, goal_before_dues, goal_forward, goal_near}
use Rattle.apex_machine.proofs.Periods.{HasSomeTicks}
use Rattle.apex_machine.proofs.Reaches.{Arrives, arrives_of, arrives_then, in_time_later, reaches_more, reaches_none, reaches_set_step, started_step}
use Rattle.apex_machine.proofs.Starts.{chosen_ready, ready_step, runnable}
use Rattle.apex_laws.specs.Premises.{AreOf, most_given}
use Rattle.apex_laws.specs.Terms.{Attributes, Call, Caller, Event, OpenWork, Reply, Work}
use Rattle.apex_laws.proofs.DuesServed.{IsServable}
use Rattle.apex_laws.proofs.Known.{known_due, known_script_step, objects_are}
use Rattle.apex_laws.proofs.Serving.{Scene}
use Rattle.apex_laws.proofs.Sound.{sound_opening}
use Rattle.apex_laws.proofs.TickTold.{reach_serve_instant}
use Rattle.apex_laws.specs.GoesOn.{CanGoOn}
use Rattle.apex_laws.proofs.Arrivals.{ServesOf, call_arrives}

-- a situation that can go on for some events can do so for fewer
pub goes_less : {table : Table} {s : Situation} (few many : ℕ) → few ≤ many → CanGoOn table many s → CanGoOn table few s
goes_less few many fewer can = record {
  records = can.records;
  attributes = can.attributes;
  objects = can.objects;
  workers = can.workers;
  made = can.made;
  one = can.one;
  starts = can.starts;
  times = can.times;
  stamps = record { young = omega (arith, ints, can.stamps.young, fewer); old = omega (arith, ints, can.stamps.old, fewer) };
  ticks = omega (arith, can.ticks, fewer);
}

-- what a service or a tick needs of a situation that can go on for one event
pub many_stamps : {table : Table} {s : Situation} → CanGoOn table 1 s → HasManyStamps s.roster
many_stamps can = record { young = omega (arith, ints, can.stamps.young); old = omega (arith, ints, can.stamps.old) }

pub can_serve : {table : Table} {s : Situation} → CanGoOn table 1 s → CanServe s.roster []
can_serve can = record { stamps = many_stamps can; time = omega (arith, can.ticks); room = omega arith }

-- a step of a list of steps is within it
pub call_within : (steps : List Step) (k : ℕ) (call : Call) → call_in steps k ≡ Some call → k < length steps
call_within steps k call is = found (slice_get steps k) refl where
  found : (o : Option Step) → slice_get steps k ≡ o → k < length steps
  found None none = absurd (none-some call (ap (option_map (λ (s : Step). s.call)) (sym none) ∙ is))
  found (Some step) some = slice_get_within steps k step some

-- the periods of the processes of a table are at least 1
spans_of : (table : Table) → IsLawful table → (roster : Roster)
    → ((p : ℕ) → (record_at roster p).attributes ≡ (process_config table p).attributes)
    → (p : ℕ) → HasSomeTicks (record_at roster p).attributes.period
spans_of table lawful roster same p n is =
    let own : (process_config table p).attributes.period ≡ Some n =
    sym (ap (λ (attributes : Attributes). attributes.period) (same p)) ∙ is in
    elim (cases_lt p (length table.processes)) [
      | inl within ↦ ((lawful.processes p within).period n own).0
      | inr past ↦
          let none : process_config table p ≡ no_process = get_or_past table.processes p no_process past in
          absurd (none-some n (sym (ap (λ (entry : ProcessConfig). entry.attributes.period) none) ∙ own))
    ]

-- an init step that is due is the table's, and due in COLD_START alone
pub record IsDue (table : Table) (s : Situation) (call : Call) : Type 0 where
  pub cold : is_cold_start s.roster.mode ≡ true
  pub known : IsKnown table call
  pub within : s.made < length table.init

pub due_is : (table : Table) → IsLawful table → (s : Situation) (core : ℕ) (call : Call) → due_call table s core ≡ Some call → IsDue table s call
due_is table lawful s core call is = by_case (is_cold_start s.roster.mode) (core == 0) refl is where
  by_case : (cold first : Bool) → is_cold_start s.roster.mode ≡ cold → cond (cold && first) (call_in table.init s.made) None ≡ Some call
      → IsDue table s call
  by_case true true early is = record {
    cold = early;
    known = known_due table s.made lawful true call is;
    within = call_within table.init s.made call is;
  }
  by_case true false early is = absurd (none-some call is)
  by_case false first early is = absurd (none-some call is)

-- a roster whose services can be served, with objects of the table
record IsReadyFor (table : Table) (roster : Roster) (objects : Objects) : Type 0 where
  records : length roster.records ≡ length table.processes
  attributes : (p : ℕ) → (record_at roster p).attributes ≡ (process_config table p).attributes
  one : WaitsForOne roster
  starts : HasOrderlyStarts roster
  all : AreOf table objects

-- what a deed then leaves: it arrives at its roster, there is an object for each entry of the
-- table, and the work that it begins is that of a process; it makes an init step only if one is due
record Leads (table : Table) (old : Roster) (due : Option Call) (d : Deed) : Type 0 where
  arrives : Arrives most_given old d.outcome.roster
  objects : AreOf table d.outcome.object
  begun : (work : Work) → work_begun d.caller d.call d.outcome.reply ≡ Some work → work.process < length table.processes
  made : is_by_init d.caller ≡ true → (call : Call) × (due ≡ Some call)

module _ (table : Table) (lawful : IsLawful table) (objects : Objects) where
  -- work that a call of a process begins is its own
  begins : (roster : Roster) → length roster.records ≡ length table.processes → (caller : Caller) → IsReadyCaller roster caller
      → (call : Call) (work : Work) → work_begun caller (Some call) (service roster objects caller call).reply ≡ Some work
      → work.process < length table.processes
  begins roster records (Process p) ready (ToWork amount) work is =
      subst (λ (w : Work). w.process < length table.processes) (same_Some _ work is) (omega (arith, records, ready.known))
  begins roster records (Process p) ready _ work is = absurd (none-some work is)
  begins roster records Init ready call work is = absurd (none-some work is)
  begins roster records Nobody ready call work is = absurd (none-some work is)

  -- a call is served
  served_leads : (roster : Roster) → IsReadyFor table roster objects → (caller : Caller) → IsReadyCaller roster caller
      → (is_cold_start roster.mode ≡ false → is_normal roster.mode ≡ true) → (due : Option Call)
      → (is_by_init caller ≡ true → (call : Call) × (due ≡ Some call)) → (call : Call) → IsKnown table call
      → Leads table roster due (served roster objects caller call)
  served_leads roster is caller ready called due made call known =
      let count = lawful_count table lawful in
      let scene : Scene roster caller = record {
        starts = is.starts;
        one = is.one;
        few = omega (arith, is.records, count);
        spans = spans_of table lawful roster is.attributes;
        ready = ready;
        called = called;
      } in
      let serves = call_arrives roster caller scene table objects is.all is.records call known in
      record {
        arrives = serves.arrives;
        objects = serves.objects;
        begun = begins roster is.records caller ready call;
        made = made;
      }

  module _ (roster : Roster) (is : IsReadyFor table roster objects) (core : ℕ) (due : Option Call) where
    -- a deed that no init step makes
    none_made : (caller : Caller) → is_by_init caller ≡ false → is_by_init caller ≡ true → (call : Call) × (due ≡ Some call)
    none_made caller other by = absurd (both_ways _ other by)

    own_leads : (p : ℕ) → IsReady roster p → (call : Call) → IsKnown table call
        → Leads table roster due (served roster objects (Process p) call)
    own_leads p ready call known =
        served_leads roster is (Process p) ready (λ _. (runnable roster.mode (record_at roster p) ready.eligible).normal)
        due (none_made (Process p) refl) call known

    moved_leads : (p : ℕ) → IsReady roster p → (call : Call) → IsKnown table call
        → Leads table roster due (served (move_on table roster p) objects (Process p) call)
    moved_leads p ready call known =
        let next = next_place (process_config table p) (record_at roster p).step in
        let moved = set_step roster p next in
        let reaches = reaches_set_step roster p ready.known next in
        let moves = reaches.moves in
        let leads = served_leads moved
        (record {
          records = moves.many ∙ is.records;
          attributes = λ q. (reaches.periods q).attributes ∙ is.attributes q;
          one = moves.one is.one;
          starts = moves.starts is.starts;
          all = is.all;
        })
        (Process p) (ready_step roster p next ready)
        (λ _. (runnable roster.mode (record_at roster p) ready.eligible).normal) due (none_made (Process p) refl) call known in
        record {
          arrives = arrives_then 0 most_given reaches (λ q. started_step roster p next ready.known q) leads.arrives;
          objects = leads.objects;
          begun = leads.begun;
          made = leads.made;
        }

    script_leads : (p : ℕ) → IsReady roster p → (step : Option Call) → step_of table roster p ≡ step
        → Leads table roster due (script_deed table roster objects p step)
    script_leads p ready None here = own_leads p ready (ToCaller StopSelf) tt
    script_leads p ready (Some call) here =
        let known = known_script_step table p (record_at roster p).step call lawful here in
        cond_both {A = Roster} (is_work call) roster (move_on table roster p)
        (λ moved. Leads table roster due (served moved objects (Process p) call))
        (λ _. own_leads p ready call known) (λ _. moved_leads p ready call known)

    -- nothing is called
    still_leads : (caller : Caller) → is_by_init caller ≡ false → (call : Option Call) (reply : Reply)
        → ((work : Work) → work_begun caller call reply ≡ Some work → ⊥) → (new : Roster) → Arrives most_given roster new
        → Leads table roster due (record {
          caller = caller;
          call = call;
          outcome = record { roster = new; object = objects; reply = reply; notices = [] };
        })
    still_leads caller other call reply none new arrives = record {
      arrives = arrives;
      objects = is.all;
      begun = λ work begun. absurd (none work begun);
      made = none_made caller other;
    }

    chosen_leads : (found : Option ℕ) → chosen roster core ≡ found → Leads table roster due (chosen_deed table roster objects found)
    chosen_leads None here =
        still_leads Nobody refl None Idle (λ work begun. none-some work begun) roster (arrives_of (reaches_none most_given roster))
    chosen_leads (Some p) here = script_leads p (chosen_ready roster core p here) (step_of table roster p) refl

    ended_leads : (o : OpenWork) → o.work.process < length table.processes → Leads table roster due (ended_deed table roster objects o)
    ended_leads o known = by_case o.unbroken where
      by_case : (unbroken : Bool) → Leads table roster due (ended_deed table roster objects (record { work = o.work; unbroken = unbroken }))
      by_case true =
          let next = next_place (process_config table o.work.process) (record_at roster o.work.process).step in
          still_leads (Process o.work.process) refl (Some (ToWork o.work.amount)) Done (λ work begun. none-some work begun) (set_step roster o.work.process next)
          (arrives_of (reaches_more 0 most_given (lit≤ tt) (reaches_set_step roster o.work.process (rw is.records known) next)))
      by_case false =
          still_leads (Process o.work.process) refl (Some (ToWork o.work.amount)) Lost (λ work begun. none-some work begun) roster
          (arrives_of (reaches_none most_given roster))

    turn_leads : (ongoing : Option OpenWork) → ForSome ongoing (λ o. o.work.process < length table.processes)
        → ((call : Call) → due ≡ Some call → IsKnown table call × (is_cold_start roster.mode ≡ true))
        → (asked : Option Call) → asked ≡ due → Leads table roster due (turn_deed table roster objects core ongoing asked)
    turn_leads (Some o) working known asked here = ended_leads o (working o refl)
    turn_leads None working known None here = chosen_leads (chosen roster core) refl
    turn_leads None working known (Some call) here =
        let facts = known call (sym here) in
        served_leads roster is Init tt (λ late. absurd (both_ways _ late facts.1)) due (λ _. (call, sym here)) call facts.0

-- work that is open after a deed is work that it began, or work that was open before
still_open : (roster : Roster) (core : ℕ) (mine : Bool) (begun : Option Work) (before : Option OpenWork) (o : OpenWork)
    → option_map (watched roster core) (if mine then option_map fresh begun else before) ≡ Some o
    → (begun ≡ Some o.work) ⊎ ((earlier : OpenWork) × (before ≡ Some earlier) × (earlier.work ≡ o.work))
still_open roster core true None before o is = absurd (none-some o is)
still_open roster core true (Some work) before o is =
    inl (ap (λ (x : OpenWork). Some x.work) (same_Some (watched roster core (fresh work)) o is))
still_open roster core false begun None o is = absurd (none-some o is)
still_open roster core false begun (Some earlier) o is =
    inr (earlier, refl, ap (λ (x : OpenWork). x.work) (same_Some (watched roster core earlier) o is))

-- a tick is of 1,048,576 at the most
abbrev pub IsShort : Event → Type 0
IsShort (Turn core) = Unit {0}
IsShort (Tick n) = n ≤ MOST_TICKS

module _ (table : Table) (lawful : IsLawful table) (s : Situation) (left : ℕ) (can : CanGoOn table (left + 1) s) where
  abbrev roster : Roster
  roster = s.roster

  -- the deed of an event leads from the instant at which time then is
  record Goes (event : Event) : Type 0 where
    instant : ℕ
    near : instant ≤ roster.now + MOST_TICKS
    times : AreInTime (advance_to roster instant)
    due : Option Call
    within : (call : Call) → due ≡ Some call → s.made < length table.init
    leads : Leads table (advance_to roster instant) due (deed table s event)

  goes : (event : Event) → IsShort event → Goes event
  unfolding pass_time
  goes (Turn core) range =
      let ready : IsReadyFor table roster s.objects =
      record { records = can.records; attributes = can.attributes; one = can.one; starts = can.starts; all = can.objects } in
      record {
        instant = roster.now;
        near = omega arith;
        times = can.times;
        due = due_call table s core;
        within = λ call is. (due_is table lawful s core call is).within;
        leads = turn_leads table lawful s.objects roster ready core (due_call table s core) (s.works core) (can.workers core)
            (λ call is. let due = due_is table lawful s core call is in (due.known, due.cold)) (due_call table s core) refl;
      }
  goes (Tick n) range =
      let goal = tick_goal roster n in
      let forward = goal_forward roster n (λ p. (can.times p).due) (λ p. (can.times p).deadline) in
      let times = in_time_later roster goal can.times forward (goal_before_dues roster n) (goal_before_deadlines roster n) in
      let starts = can.starts in
      let servable : IsServable (advance_to roster goal) =
      record { starts = record { dormant = starts.dormant; early = starts.early; undue = starts.undue }; times = times } in
      let count = lawful_count table lawful in
      record {
        instant = goal;
        near = omega (arith, goal_near roster n, range);
        times = times;
        due = None;
        within = λ call is. absurd (none-some call is);
        leads = record {
          arrives = arrives_of (reach_serve_instant (advance_to roster goal) servable (omega (arith, can.records, count)));
          objects = can.objects;
          begun = λ work begun. absurd (none-some work begun);
          made = λ by. absurd (both_ways false refl by);
        };
      }

  pub goes_on : (event : Event) → IsShort event → CanGoOn table left (step table s event)
  goes_on event range =
      let at = goes event range in
      let leads = at.leads in
      let arrives = leads.arrives in
      let moves = arrives.moves in
      let starts = can.starts in
      record {
        records = moves.many ∙ can.records;
        attributes = λ p. arrives.attributes p ∙ can.attributes p;
        objects = leads.objects;
        workers = λ core o is. working core o (still_open (deed table s event).outcome.roster core _ _ (s.works core) o is);
        made = made (is_by_init (deed table s event).caller) refl;
        one = moves.one can.one;
        starts = moves.starts (record { dormant = starts.dormant; early = starts.early; undue = starts.undue });
        times = moves.times at.times;
        stamps = record {
          young = omega (arith, ints, moves.stamps, can.stamps.young);
          old = omega (arith, ints, moves.older, can.stamps.old);
        };
        ticks = omega (arith, moves.time, at.near, can.ticks);
      } where
        working : (core : ℕ) (o : OpenWork)
            → (work_begun (deed table s event).caller (deed table s event).call (deed table s event).outcome.reply ≡ Some o.work)
            ⊎ ((earlier : OpenWork) × (s.works core ≡ Some earlier) × (earlier.work ≡ o.work)) → o.work.process < length table.processes
        working core o (inl begun) = (goes event range).leads.begun o.work begun
        working core o (inr before) =
            subst (λ (w : Work). w.process < length table.processes) before.2 (can.workers core before.0 before.1)

        made : (by : Bool) → is_by_init (deed table s event).caller ≡ by → s.made + (if by then 1 else 0) ≤ length table.init
        made false is = omega (arith, can.made)
        made true is =
            let due = (goes event range).leads.made is in
            let less = (goes event range).within due.0 due.1 in
            omega (arith, less)

-- the opening can go on for as many events as a history may have
pub opening_goes_on : (table : Table) → IsLawful table → (left : ℕ) → left ≤ MOST_ENTRIES
    → CanGoOn table left (situation_of table (opening table))
opening_goes_on table lawful left few =
    let sound = sound_opening table lawful in
    let orderly = sound.orderly in
    let count = lawful_count table lawful in
    let young = sound.stamps in
    let older = sound.older in
    record {
      records = orderly.many;
      attributes = orderly.attributes;
      objects = objects_are table [];
      workers = λ core o is. absurd (none-some o is);
      made = omega arith;
      one = orderly.one;
      starts = orderly.starts;
      times = sound.times;
      stamps = record { young = omega (arith, ints, young, few); old = omega (arith, ints, older, few) };
      ticks = omega (arith, few);
    }
