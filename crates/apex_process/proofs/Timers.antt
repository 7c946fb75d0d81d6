-- The timers stay those of the state as one process's record changes, and its timers are set.
use Rattle.std.proofs.Common.{◌≡◌, ◌≢◌, ℕ, zero, suc, ◌+◌, ◌<◌, List, [], ◌∷◌, get_or, Option, None, Some, length, false, is_none, inl, inr, refl, ap, sym, subst, ◌∙◌}
use Rattle.std.proofs.lemmas.Bool.{cases_eq, cond_both, false≢true}
use Rattle.std.proofs.lemmas.List.{length-replicate}
use Rattle.std.proofs.lemmas.Option.{none-some}
use Rattle.apex_machine.specs.declared.holdings.Holding.{Holding}
use Rattle.apex_types.specs.declared.modes.Mode.{Mode}
use Rattle.apex_machine.specs.declared.records.Record.{Record}
use Rattle.apex_machine.specs.declared.records.Wait.{Wait}
use Rattle.apex_machine.specs.declared.records.Wait.TheVariants.{Normal, Start}
use Rattle.apex_machine.specs.processes.Dues.{IsFrom, HasNoDeadlineBelow, HasNoDueBelow}
use Rattle.apex_types.specs.Places.{map_places}
use Rattle.apex_machine.specs.processes.Roster.{Roster, nobody, opening_record, opening_roster, record_at}
use Rattle.apex_machine.specs.table.Table.{ProcessConfig, Table}
use Rattle.apex_machine.specs.processes.Stamps as stamps
use Rattle.apex_machine.proofs.Dues.{deadline_later, from_now}
use Rattle.apex_types.proofs.Places.{length-map_places}
use Rattle.apex_machine.proofs.Replaces.{Replaces, each_stays, replaces_levelled, replaces_newest, replaces_readied, replaces_record}
use Rattle.apex_timeouts.specs.Timeline.{empty_line as bare_line, Times, IsReset}
use Rattle.apex_timeouts.proofs.Instants.{same_reset}
use Rattle.apex_process.specs.Timed.{due_of, deadline_of, AreTimers, IsLineOf}
use Rattle.apex_process.proofs.Starting.{start_cases}

-- no due and no deadline of the record is past
pub record IsTimely (now : ℕ) (r : Record) : Type 0 where
  pub due : IsFrom now r.due
  pub deadline : IsFrom now r.deadline

-- process p alone has another record, of which no due and no deadline is past if those of its old
-- one were not
pub record Retimes (old new : Roster) (p : ℕ) : Type 0 where
  pub now : new.now ≡ old.now
  pub many : length new.records ≡ length old.records
  pub others : (q : ℕ) → q ≢ p → record_at new q ≡ record_at old q
  pub timely : IsTimely old.now (record_at old p) → IsTimely old.now (record_at new p)

-- no process has another due or another deadline
pub record KeepsTimers (old new : Roster) : Type 0 where
  pub now : new.now ≡ old.now
  pub many : length new.records ≡ length old.records
  pub dues : (q : ℕ) → due_of new q ≡ due_of old q
  pub deadlines : (q : ℕ) → deadline_of new q ≡ deadline_of old q

pub no_due : (now : ℕ) → IsFrom now None
no_due now t e = absurd (none-some t e)

-- process p has this record, with another stamp or not
retimes_by : {most : ℕ} {old new : Roster} {p : ℕ} {r : Record} → Replaces most old new p r
    → (IsTimely old.now (record_at old p) → IsTimely old.now r) → Retimes old new p
retimes_by has timely = record {
  now = has.time;
  many = has.many;
  others = has.others;
  timely = λ before. let is = timely before in rw has.here (record { due = is.due; deadline = is.deadline });
}

-- it has the same due and the same deadline
pub timers_by : {most : ℕ} {old new : Roster} {p : ℕ} {r : Record} → Replaces most old new p r
    → r.due ≡ (record_at old p).due → r.deadline ≡ (record_at old p).deadline → KeepsTimers old new
timers_by has due deadline = record {
  now = has.time;
  many = has.many;
  dues = each_stays has (λ s t. t.due ≡ s.due) (λ _. refl) due;
  deadlines = each_stays has (λ s t. t.deadline ≡ s.deadline) (λ _. refl) deadline;
}

module _ (old : Roster) (p : ℕ) (known : p < length old.records) where
  pub retimes_stop : Retimes old (stamps.stop old p) p
  retimes_stop = retimes_by (replaces_record old p known (stamps.stopped (record_at old p)) refl 0) (λ before. record { due = no_due old.now; deadline = no_due old.now })

  pub retimes_block : (wait : Wait) (due : Option ℕ) → IsFrom old.now due → Retimes old (stamps.block old p wait due) p
  retimes_block wait due later = retimes_by (replaces_newest old p known (stamps.waiting (record_at old p) wait due)) (λ before. record { due = later; deadline = before.deadline })

  pub retimes_unblock : Retimes old (stamps.unblock old p) p
  retimes_unblock = retimes_by (replaces_readied old p known (stamps.awake (record_at old p)) refl) (λ before. record { due = no_due old.now; deadline = before.deadline })

  pub retimes_release : Retimes old (stamps.release old p) p
  retimes_release = retimes_by (replaces_readied old p known (stamps.released_at old.now (record_at old p)) refl) (λ before. record { due = no_due old.now; deadline = deadline_later old.now (record_at old p) })

  pub retimes_suspend_self : (due : Option ℕ) → IsFrom old.now due → Retimes old (stamps.suspend_self old p due) p
  retimes_suspend_self due later = retimes_by (replaces_newest old p known (stamps.self_suspended (record_at old p) due)) (λ before. record { due = later; deadline = before.deadline })

  pub retimes_resume : Retimes old (stamps.resume old p) p
  retimes_resume = cond_both {A = Roster} (stamps.is_by_itself (record_at old p).suspended) _ _ (λ new. Retimes old new p)
      (λ _. retimes_unblock) (λ _. retimes_by (replaces_readied old p known (stamps.unsuspended (record_at old p)) refl) (λ before. record { due = before.due; deadline = before.deadline }))

  pub retimes_inherit : (holding : Holding) → Retimes old (stamps.inherit old p holding) p
  retimes_inherit holding = retimes_by (replaces_readied old p known (stamps.awake (record (record_at old p) { owned = holding ∷ [] })) refl) (λ before. record { due = no_due old.now; deadline = before.deadline })

  pub retimes_deadline : (deadline : Option ℕ) → IsFrom old.now deadline → Retimes old (stamps.set_deadline old p deadline) p
  retimes_deadline deadline later = retimes_by (replaces_record old p known (record (record_at old p) { deadline = deadline }) refl 0) (λ before. record { due = before.due; deadline = later })

  pub retimes_without_due : Retimes old (stamps.without_due old p) p
  retimes_without_due = retimes_by (replaces_record old p known (record (record_at old p) { due = None }) refl 0) (λ before. record { due = no_due old.now; deadline = before.deadline })

  pub timers_priority : (base : ℕ) → KeepsTimers old (stamps.set_priority old p base)
  timers_priority base =
      let r : Record = record (record_at old p) { base = base } in
      cond_both {A = Roster} _ _ _ (λ new. KeepsTimers old new)
      (λ _. timers_by (replaces_newest old p known r) refl refl) (λ _. timers_by (replaces_record old p known r refl 0) refl refl)

  pub timers_own : (owned : List Holding) → KeepsTimers old (stamps.own old p owned)
  timers_own owned = timers_by (replaces_levelled old p known (record (record_at old p) { owned = owned }) refl) refl refl

pub timers_mode : (old : Roster) (mode : Mode) → KeepsTimers old (stamps.set_mode old mode)
timers_mode old mode = record { now = refl; many = refl; dues = λ q. refl; deadlines = λ q. refl }

pub retimes_start : (old : Roster) (p delay : ℕ) → p < length old.records → Retimes old (stamps.start old p delay) p
retimes_start old p delay known =
    let r = stamps.reset (record_at old p) in
    start_cases old p known delay (λ new. Retimes old new p)
    (λ _. retimes_by (replaces_readied old p known (stamps.released_at old.now r) refl)
    (λ before. record { due = no_due old.now; deadline = deadline_later old.now r }))
    (λ _. retimes_by (replaces_newest old p known (stamps.waiting r Start (Some (old.now + delay))))
    (λ before. record { due = from_now old.now delay; deadline = before.deadline }))
    (retimes_by (replaces_newest old p known (stamps.waiting r (Normal delay) None))
    (λ before. record { due = no_due old.now; deadline = before.deadline }))

-- a line with another instant of one process, or with the same ones
line_reset : (now many : ℕ) (f g : ℕ → Option ℕ) (times news : Times) (p : ℕ) (instant : Option ℕ) → IsLineOf now many f times → IsReset times news p instant
    → g p ≡ instant → ((q : ℕ) → q ≢ p → g q ≡ f q) → IsFrom now (g p) → IsLineOf now many g news
line_reset now many f g times news p instant line reset here others later = record {
  each = λ q. elim (cases_eq q p) [
    | inl e ↦ rw e (reset.here ∙ sym here)
    | inr apart ↦ reset.others q apart ∙ line.each q ∙ sym (others q apart)
  ];
  count = reset.count ∙ line.count;
  later = λ q. elim (cases_eq q p) [
    | inl e ↦ rw e later
    | inr apart ↦ rw (others q apart) (line.later q)
  ];
}

line_kept : (now many : ℕ) (f g : ℕ → Option ℕ) (times : Times) → IsLineOf now many f times → ((q : ℕ) → g q ≡ f q) → IsLineOf now many g times
line_kept now many f g times line same = record {
  each = λ q. line.each q ∙ sym (same q);
  count = line.count;
  later = λ q. rw (same q) (line.later q);
}

-- the timers of process p are set to those of its record
pub retimed_by : (old new target : Roster) (dues deadlines news newers : Times) (p : ℕ) → AreTimers old dues deadlines → new ≡ target → Retimes old target p
    → IsReset dues news p (due_of new p) → IsReset deadlines newers p (deadline_of new p) → AreTimers new news newers
retimed_by old new target dues deadlines news newers p timers is retimes due deadline = done (rw is retimes) where
  done : Retimes old new p → AreTimers new news newers
  done here =
      let timely = here.timely (record { due = timers.dues.later p; deadline = timers.deadlines.later p }) in
      record {
        dues = rw (here.now, here.many) (line_reset old.now (length old.records) (due_of old) (due_of new) dues news p (due_of new p) timers.dues due refl
            (λ q apart. ap (λ (s : Record). s.due) (here.others q apart)) timely.due);
        deadlines = rw (here.now, here.many) (line_reset old.now (length old.records) (deadline_of old) (deadline_of new) deadlines newers p (deadline_of new p) timers.deadlines deadline refl
            (λ q apart. ap (λ (s : Record). s.deadline) (here.others q apart)) timely.deadline);
      }

pub timers_kept : (old new target : Roster) (dues deadlines : Times) → AreTimers old dues deadlines → new ≡ target → KeepsTimers old target → AreTimers new dues deadlines
timers_kept old new target dues deadlines timers is keeps = done (rw is keeps) where
  done : KeepsTimers old new → AreTimers new dues deadlines
  done here = record {
    dues = rw (here.now, here.many) (line_kept old.now (length old.records) (due_of old) (due_of new) dues timers.dues here.dues);
    deadlines = rw (here.now, here.many) (line_kept old.now (length old.records) (deadline_of old) (deadline_of new) deadlines timers.deadlines here.deadlines);
  }

-- time goes on to an instant before which nothing is due
pub timers_later : (old new : Roster) (t : ℕ) (dues deadlines : Times) → AreTimers old dues deadlines → new ≡ stamps.advance_to old t
    → HasNoDueBelow old t → HasNoDeadlineBelow old t → AreTimers new dues deadlines
timers_later old new t dues deadlines timers is due deadline = rw is (record {
  dues = record { each = timers.dues.each; count = timers.dues.count; later = due };
  deadlines = record { each = timers.deadlines.each; count = timers.deadlines.count; later = deadline };
})

-- what every process has before any event
pub opening_field : {A : Type 0} (f : Record → A) (a : A) → ((q : ℕ) (e : ProcessConfig) → f (opening_record q e) ≡ a) → f nobody ≡ a
    → (entries : List ProcessConfig) (q p : ℕ) → f (get_or (map_places opening_record q entries) p nobody) ≡ a
opening_field f a each none [] q p = none
opening_field f a each none (e ∷ entries) q zero = each q e
opening_field f a each none (e ∷ entries) q (suc p) = opening_field f a each none entries (q + 1) p

empty_line : (now many : ℕ) (instants : ℕ → Option ℕ) → ((p : ℕ) → instants p ≡ None) → IsLineOf now many instants (bare_line many)
empty_line now many instants none = record {
  each = λ p. sym (none p);
  count = length-replicate many 0;
  later = λ p. rw (none p) (no_due now);
}

pub opens_timers : (table : Table) (many : ℕ) → many ≡ length table.processes
    → AreTimers (opening_roster table) (bare_line many) (bare_line many)
opens_timers table many is =
    let count : length (opening_roster table).records ≡ many = length-map_places opening_record 0 table.processes ∙ sym is in
    record {
      dues = rw count (empty_line 0 many (due_of (opening_roster table)) (opening_field (λ r. r.due) None (λ q e. refl) refl table.processes 0));
      deadlines = rw count (empty_line 0 many (deadline_of (opening_roster table)) (opening_field (λ r. r.deadline) None (λ q e. refl) refl table.processes 0));
    }

-- an instant that is set, under another name
pub reset_as : {times news : Times} {p : ℕ} {i j : Option ℕ} → i ≡ j → IsReset times news p i → IsReset times news p j
reset_as {times} {news} {p} same reset = subst (λ (k : Option ℕ). IsReset times news p k) same reset

-- a due, or a deadline, that stays, on a line that stays
pub due_stays : {old : Roster} {dues deadlines : Times} (new target : Roster) (news : Times) (p : ℕ) → AreTimers old dues deadlines → new ≡ target
    → due_of target p ≡ due_of old p → news ≡ dues → IsReset dues news p (due_of new p)
due_stays {old} {dues} {deadlines} new target news p timers is same stays =
    rw (stays, is) (same_reset dues p (due_of target p) (timers.dues.each p ∙ sym same))

pub deadline_stays : {old : Roster} {dues deadlines : Times} (new target : Roster) (newers : Times) (p : ℕ) → AreTimers old dues deadlines → new ≡ target
    → deadline_of target p ≡ deadline_of old p → newers ≡ deadlines → IsReset deadlines newers p (deadline_of new p)
deadline_stays {old} {dues} {deadlines} new target newers p timers is same stays =
    rw (stays, is) (same_reset deadlines p (deadline_of target p) (timers.deadlines.each p ∙ sym same))

-- the deadline that a record keeps
pub deadline_kept : {most : ℕ} {old new : Roster} {p : ℕ} {r : Record} → Replaces most old new p r
    → r.deadline ≡ (record_at old p).deadline → deadline_of new p ≡ deadline_of old p
deadline_kept has same = ap (λ (s : Record). s.deadline) has.here ∙ same

pub deadline_resume : (old : Roster) (p : ℕ) → p < length old.records → deadline_of (stamps.resume old p) p ≡ deadline_of old p
deadline_resume old p known = cond_both {A = Roster} (stamps.is_by_itself (record_at old p).suspended) _ _ (λ new. deadline_of new p ≡ deadline_of old p)
    (λ _. deadline_kept (replaces_readied old p known (stamps.awake (record_at old p)) refl) refl) (λ _. deadline_kept (replaces_readied old p known (stamps.unsuspended (record_at old p)) refl) refl)

-- a process that waits on as its suspension ends
pub timers_resume : (old : Roster) (p : ℕ) → p < length old.records → is_none (record_at (stamps.resume old p) p).wait ≡ false → KeepsTimers old (stamps.resume old p)
timers_resume old p known = cond_both {A = Roster} (stamps.is_by_itself (record_at old p).suspended) _ _ (λ new. is_none (record_at new p).wait ≡ false → KeepsTimers old new)
    (λ _ waits. absurd (false≢true (sym waits ∙ rw (waitless (stamps.awake (record_at old p)) refl refl) refl)))
    (λ _ _. timers_by (replaces_readied old p known (stamps.unsuspended (record_at old p)) refl) refl refl) where
      waitless : (r : Record) → r.since ≡ (record_at old p).since → r.wait ≡ None → (record_at (stamps.readied old p r) p).wait ≡ None
      waitless r since none = ap (λ (s : Record). s.wait) (replaces_readied old p known r since).here ∙ none

-- the timers of process p are set, if its record was read
module _ (old new target : Roster) (dues deadlines news newers : Times) (p : ℕ) (fields : Record) (timers : AreTimers old dues deadlines) (is : new ≡ target)
    (retimes : Retimes old target p) (read : fields ≡ record_at new p) where
  pub retimed_row : (mids mides : Times) → IsReset dues mids p fields.due → mides ≡ deadlines → news ≡ mids → IsReset mides newers p fields.deadline → AreTimers new news newers
  retimed_row mids mides due same stays deadline =
      retimed_by old new target dues deadlines news newers p timers is retimes
      (reset_as (ap (λ (r : Record). r.due) read) (rw stays due)) (reset_as (ap (λ (r : Record). r.deadline) read) (rw (← same) deadline))

  pub due_row : deadline_of target p ≡ deadline_of old p → IsReset dues news p fields.due → newers ≡ deadlines → AreTimers new news newers
  due_row same due stays =
      retimed_by old new target dues deadlines news newers p timers is retimes
      (reset_as (ap (λ (r : Record). r.due) read) due) (deadline_stays new target newers p timers is same stays)

-- the same, if the new record is known
module _ {most : ℕ} (old new target : Roster) (dues deadlines news newers : Times) (p : ℕ) {r : Record} (timers : AreTimers old dues deadlines) (is : new ≡ target)
    (has : Replaces most old target p r) (retimes : Retimes old target p) where
  due_here : due_of new p ≡ r.due
  due_here = rw is (ap (λ (s : Record). s.due) has.here)

  deadline_here : deadline_of new p ≡ r.deadline
  deadline_here = rw is (ap (λ (s : Record). s.deadline) has.here)

  pub due_known : r.deadline ≡ deadline_of old p → IsReset dues news p r.due → newers ≡ deadlines → AreTimers new news newers
  due_known same reset stays =
      retimed_by old new target dues deadlines news newers p timers is retimes (reset_as (sym due_here) reset)
      (deadline_stays new target newers p timers is (deadline_kept has same) stays)

  pub both_known : (mids mides : Times) → IsReset dues mids p r.due → mides ≡ deadlines → news ≡ mids → IsReset mides newers p r.deadline → AreTimers new news newers
  both_known mids mides reset same stays reset' =
      retimed_by old new target dues deadlines news newers p timers is retimes
      (reset_as (sym due_here) (rw stays reset)) (reset_as (sym deadline_here) (rw (← same) reset'))

  pub deadline_known : r.due ≡ due_of old p → news ≡ dues → IsReset deadlines newers p r.deadline → AreTimers new news newers
  deadline_known same stays reset =
      retimed_by old new target dues deadlines news newers p timers is retimes
      (due_stays new target news p timers is (ap (λ (s : Record). s.due) has.here ∙ same) stays) (reset_as (sym deadline_here) reset)
