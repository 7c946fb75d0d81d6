-- The situation before any event is one whose form a search may keep, and so is what comes of an event
-- in a canonical form.
use Rattle.std.proofs.Common.{◌≡◌, ℕ, ◌+◌, ◌≤◌, ◌==◌, ◌&&◌, Bool, true, false, not, min, nat_lt, [], length, get_or, Option, None, Some, option_map, if◌then◌else◌, refl, sym, ◌∙◌, ap, subst, inl, inr, arith, ltb-true, ne_eqb}
use Rattle.std.specs.Option.{ForSome}
use Rattle.std.proofs.Math.Nat.{zero-min}
use Rattle.std.proofs.lemmas.Bool.{and_parts, cases_lt}
use Rattle.std.proofs.lemmas.List.{get_or_past}
use Rattle.std.proofs.lemmas.Option.{none-some, same_Some}
use Rattle.apex_types.proofs.Places.{get_or-map_places, length-map_places}
use Rattle.apex_types.specs.declared.calls.Call.{Call}
use Rattle.apex_types.specs.declared.calls.Call.TheVariants.{Work as ToWork}
use Rattle.apex_types.specs.declared.entries.Caller.TheVariants.{Process}
use Rattle.apex_types.specs.declared.entries.Event.TheVariants.{Turn, Tick}
use Rattle.apex_types.specs.declared.entries.Reply.TheVariants.{Begun}
use Rattle.apex_machine.specs.declared.works.Work.{Work}
use Rattle.apex_machine.specs.Deeds.{Deed, Objects, chosen_deed, script_deed, step_of, turn_deed}
use Rattle.apex_machine.specs.Machine.{objects_after}
use Rattle.apex_machine.specs.Situations.{Situation, deed, due_call, maker, step}
use Rattle.apex_machine.specs.Works.{fresh, is_turn_of, watched, work_begun}
use Rattle.apex_machine.specs.processes.Roster.{Roster, nobody, opening_record, opening_roster, record_at}
use Rattle.apex_machine.specs.processes.Running.{chosen}
use Rattle.apex_machine.specs.services.BlackboardServices.{blackboard_kind}
use Rattle.apex_machine.specs.services.BufferServices.{buffer_kind}
use Rattle.apex_machine.specs.services.SemaphoreServices.{semaphore_kind}
use Rattle.apex_machine.specs.table.Table.{IsLawful, Table, call_in, no_blackboard, no_buffer, no_process, no_semaphore, process_config}
use Rattle.apex_laws.proofs.GoesOn.{opening_goes_on}
use Rattle.apex_laws.proofs.Sound.{sound_opening}
use Rattle.apex_alike.specs.Canonical.{IsFit, canonical}
use Rattle.apex_alike.proofs.Canonical.{canonical_situation}
use Rattle.apex_alike.proofs.Spans.{spans_of}
use Rattle.apex_pace.specs.Pace.{Paced, is_allowed, is_starting, may_turn, paced_opening, paced_step, turns_after}
use Rattle.apex_forms.specs.Forms.{canonical_paced}
use Rattle.apex_recall.specs.Laws.{FormsReach}
use Rattle.apex_recall.specs.Reached.{BlackboardFits, BufferFits, IsAmount, IsReached, IsUsual, RecordFits, RosterFits, SemaphoreFits}
use Rattle.apex_recall.specs.Terms.{Caller, Event, OpenWork, Pace, Reply}
use Rattle.apex_recall.proofs.Calls.{init_call_is_usual, script_call_is_usual}
use Rattle.apex_recall.proofs.DeedsFit.{event_fits}
use Rattle.apex_recall.proofs.GoOn.{fit_next, of_next}
use Rattle.apex_choices.proofs.Short.{allowed_short}

-- the canonical form of records that fit
pub canonical_fits : (table : Table) (s : Situation) → IsFit s.roster → RosterFits table s.roster → RosterFits table (canonical s).roster
canonical_fits table s fit is =
    let alike = canonical_situation s fit in
    record {
      cores = is.cores;
      disciplines = is.disciplines;
      rules = is.rules;
      each = λ p. subst RecordFits (alike.rosters.each p).is (is.each p);
    }

-- the amount of work that is open after a deed
begun_by : (caller : Caller) (call : Option Call) (reply : Reply) (work : Work) → work_begun caller call reply ≡ Some work
    → call ≡ Some (ToWork work.amount)
begun_by (Process p) (Some (ToWork amount)) Begun work is = ap (λ (w : Work). Some (ToWork w.amount)) (same_Some _ work is)
begun_by caller call reply work is = absurd (none-some work is)

amount_after : (roster : Roster) (core : ℕ) (own : Bool) (begun : Option Work) (before : Option OpenWork) (o : OpenWork)
    → option_map (watched roster core) (if own then option_map fresh begun else before) ≡ Some o
    → ((work : Work) → begun ≡ Some work → IsAmount work.amount) → ForSome before (λ b. IsAmount b.work.amount) → IsAmount o.work.amount
amount_after roster core true None before o is begins still = absurd (none-some o is)
amount_after roster core true (Some work) before o is begins still =
    subst (λ (x : OpenWork). IsAmount x.work.amount) (same_Some (watched roster core (fresh work)) o is) (begins work refl)
amount_after roster core false begun None o is begins still = absurd (none-some o is)
amount_after roster core false begun (Some earlier) o is begins still =
    subst (λ (x : OpenWork). IsAmount x.work.amount) (same_Some (watched roster core earlier) o is) (still earlier refl)

unturned : (started own : Bool) (turns : ℕ) → own ≡ false → turns ≡ 0 → (if started && own then turns + 1 else turns) ≡ 0
unturned false own turns other none = none
unturned true own turns other none = rw other none

module _ (table : Table) (lawful : IsLawful table) where
  -- the call of a deed is one of the table's, or that of work that was open
  module _ (roster : Roster) (objects : Objects) where
    usual_script : (p : ℕ) (found : Option Call) → step_of table roster p ≡ found → (call : Call)
        → (script_deed table roster objects p found).call ≡ Some call → IsUsual call
    usual_script p None here call is = subst IsUsual (same_Some _ call is) tt
    usual_script p (Some own) here call is = subst IsUsual (same_Some own call is) (script_call_is_usual table lawful p (record_at roster p).step own here)

    usual_chosen : (found : Option ℕ) (call : Call) → (chosen_deed table roster objects found).call ≡ Some call → IsUsual call
    usual_chosen None call is = absurd (none-some call is)
    usual_chosen (Some p) call is = usual_script p (step_of table roster p) refl call is

    usual_turn : (core : ℕ) (begun : Option OpenWork) → ForSome begun (λ o. IsAmount o.work.amount) → (due : Option Call)
        → ((call : Call) → due ≡ Some call → IsUsual call) → (call : Call) → (turn_deed table roster objects core begun due).call ≡ Some call → IsUsual call
    usual_turn core (Some o) amounts due init call is = subst IsUsual (same_Some (ToWork o.work.amount) call is) (amounts o refl)
    usual_turn core None amounts None init call is = usual_chosen (chosen roster core) call is
    usual_turn core None amounts (Some own) init call is = subst IsUsual (same_Some own call is) (init own refl)

  usual_due : (s : Situation) (core : ℕ) (call : Call) → due_call table s core ≡ Some call → IsUsual call
  usual_due s core call is = by_case _ is where
    by_case : (due : Bool) → (if due then call_in table.init s.made else None) ≡ Some call → IsUsual call
    by_case true e = init_call_is_usual table lawful s.made call e
    by_case false e = absurd (none-some call e)

  usual_deed : (s : Situation) → ((core : ℕ) → ForSome (s.works core) (λ o. IsAmount o.work.amount)) → (event : Event) (call : Call)
      → (deed table s event).call ≡ Some call → IsUsual call
  usual_deed s amounts (Turn core) call is =
      usual_turn s.roster s.objects core (s.works core) (amounts core) (due_call table s core) (usual_due s core) call is
  usual_deed s amounts (Tick n) call is = absurd (none-some call is)

  module _ (pace : Pace) (s : Paced) (reached : IsReached table s) (event : Event) (allowed : is_allowed pace table (canonical_paced pace s) event ≡ true) where
    abbrev form : Paced
    form = canonical_paced pace s

    abbrev done : Deed
    done = deed table form.situation event

    amounts_next : (core : ℕ) → ForSome ((step table form.situation event).works core) (λ o. IsAmount o.work.amount)
    amounts_next core o is =
        amount_after done.outcome.roster core (is_turn_of core (maker event)) (work_begun done.caller done.call done.outcome.reply) (s.situation.works core) o is
        (λ work begun. usual_deed form.situation reached.amounts event (ToWork work.amount) (begun_by done.caller done.call done.outcome.reply work begun))
        (reached.amounts core)

    not_own : (event : Event) → is_allowed pace table form event ≡ true → (core : ℕ) → table.cores ≤ core → is_turn_of core (maker event) ≡ false
    not_own (Turn c) may core past =
        let below = ltb-true c table.cores (and_parts (nat_lt c table.cores) (may_turn pace table form c) may).0 in
        ne_eqb core c (λ same. omega (arith, below, past, same))
    not_own (Tick n) may core past = refl

    works_next : (core : ℕ) → table.cores ≤ core → (step table form.situation event).works core ≡ None
    works_next core past =
        ap (λ (own : Bool). option_map (watched done.outcome.roster core)
        (if own then option_map fresh (work_begun done.caller done.call done.outcome.reply) else s.situation.works core)) (not_own event allowed core past)
        ∙ ap (option_map (watched done.outcome.roster core)) (reached.works core past)

    turns_next : (event : Event) → is_allowed pace table form event ≡ true → (core : ℕ) → table.cores ≤ core → turns_after form event core ≡ 0
    turns_next (Turn c) may core past =
        unturned (not (is_starting form)) (core == c) (form.turns core) (not_own (Turn c) may core past)
        (ap (λ (turns : ℕ). min turns pace.turns) (reached.turns core past) ∙ zero-min pace.turns)
    turns_next (Tick n) may core past = refl

    pub reached_next : IsReached table (paced_step table form event)
    reached_next =
        let short = allowed_short pace table form event allowed in
        let fits = event_fits table lawful form.situation (canonical_fits table s.situation reached.fit reached.records) reached.objects event in
        record {
          of = of_next table lawful s.situation reached.of reached.fit event short;
          fit = fit_next table lawful s.situation reached.of reached.fit event short;
          records = fits.left;
          objects = fits.kept;
          amounts = amounts_next;
          works = works_next;
          turns = turns_next event allowed;
        }

-- before any event
module _ (table : Table) (lawful : IsLawful table) where
  opening_record_fits : (p : ℕ) → RecordFits (record_at (opening_roster table) p)
  opening_record_fits p = elim (cases_lt p (length table.processes)) [
    | inl within ↦
        let at : record_at (opening_roster table) p ≡ opening_record (0 + p) (process_config table p) =
        get_or-map_places opening_record 0 table.processes p no_process nobody within in
        let few = (lawful.processes p within).priority in
        subst RecordFits (sym at) (record {
          priority = omega (arith, few.1);
          core = omega arith;
          base = omega (arith, few.1);
          step = omega arith;
          waits = tt;
          few = omega arith;
          owned = tt;
        })
    | inr past ↦
        let many = length-map_places opening_record 0 table.processes in
        let none : record_at (opening_roster table) p ≡ nobody = get_or_past (opening_roster table).records p nobody (omega (arith, many, past)) in
        subst RecordFits (sym none) (record {
          priority = omega arith;
          core = omega arith;
          base = omega arith;
          step = omega arith;
          waits = tt;
          few = omega arith;
          owned = tt;
        })
  ]

  opening_semaphore : (s : ℕ) → SemaphoreFits table s (get_or (objects_after table []).semaphores s semaphore_kind.absent)
  opening_semaphore s = elim (cases_lt s (length table.semaphores)) [
    | inl within ↦
        let at = get_or-map_places (semaphore_kind.after []) 0 table.semaphores s no_semaphore semaphore_kind.absent within in
        subst (SemaphoreFits table s) (sym at) (refl, omega (arith, (lawful.semaphores s within).initial))
    | inr past ↦
        let many = length-map_places (semaphore_kind.after []) 0 table.semaphores in
        let none = get_or_past (objects_after table []).semaphores s semaphore_kind.absent (omega (arith, many, past)) in
        let config = get_or_past table.semaphores s no_semaphore past in
        subst (SemaphoreFits table s) (sym none) (rw config (refl, omega arith))
  ]

  opening_buffer : (b : ℕ) → BufferFits table b (get_or (objects_after table []).buffers b buffer_kind.absent)
  opening_buffer b = elim (cases_lt b (length table.buffers)) [
    | inl within ↦
        let at = get_or-map_places (buffer_kind.after []) 0 table.buffers b no_buffer buffer_kind.absent within in
        subst (BufferFits table b) (sym at) (record { capacity = refl; longest = refl; few = omega arith; messages = tt })
    | inr past ↦
        let many = length-map_places (buffer_kind.after []) 0 table.buffers in
        let none = get_or_past (objects_after table []).buffers b buffer_kind.absent (omega (arith, many, past)) in
        let config = get_or_past table.buffers b no_buffer past in
        subst (BufferFits table b) (sym none) (record { capacity = rw config refl; longest = rw config refl; few = omega arith; messages = tt })
  ]

  opening_blackboard : (b : ℕ) → BlackboardFits table b (get_or (objects_after table []).blackboards b blackboard_kind.absent)
  opening_blackboard b = elim (cases_lt b (length table.blackboards)) [
    | inl within ↦
        let at = get_or-map_places (blackboard_kind.after []) 0 table.blackboards b no_blackboard blackboard_kind.absent within in
        subst (BlackboardFits table b) (sym at) (refl, tt)
    | inr past ↦
        let many = length-map_places (blackboard_kind.after []) 0 table.blackboards in
        let none = get_or_past (objects_after table []).blackboards b blackboard_kind.absent (omega (arith, many, past)) in
        let config = get_or_past table.blackboards b no_blackboard past in
        subst (BlackboardFits table b) (sym none) (rw config refl, tt)
  ]

  pub opening_reached : IsReached table (paced_opening table)
  opening_reached =
      let can = opening_goes_on table lawful 0 (omega arith) in
      let sound = sound_opening table lawful in
      record {
        of = record {
          records = can.records;
          attributes = can.attributes;
          objects = can.objects;
          workers = can.workers;
          made = can.made;
          one = can.one;
          starts = can.starts;
          times = can.times;
        };
        fit = record {
          stamped = sound.stamped;
          dues = λ p. (can.times p).due;
          deadlines = λ p. (can.times p).deadline;
          undue = λ p h. can.starts.undue refl p;
          before = λ p. (can.times p).release;
          spans = spans_of table lawful (opening_roster table) can.attributes;
        };
        records = record { cores = refl; disciplines = refl; rules = refl; each = opening_record_fits };
        objects = record { semaphores = opening_semaphore; buffers = opening_buffer; blackboards = opening_blackboard };
        amounts = λ core o is. absurd (none-some o is);
        works = λ core past. refl;
        turns = λ core past. refl;
      }

pub forms_reach : (table : Table) → IsLawful table → FormsReach table
forms_reach table lawful = record {
  opens = opening_reached table lawful;
  steps = λ pace s reached event allowed. reached_next table lawful pace s reached event allowed;
}
