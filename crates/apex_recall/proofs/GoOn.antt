-- A canonical form can go on for one event, and what comes of it is again a situation of the table.
use Rattle.std.proofs.Common.{◌≡◌, ℕ, suc, ◌+◌, ◌-◌, ◌*◌, ◌%◌, ◌<◌, ◌≤◌, Bool, true, false, ◌&&◌, not, nat_lt, List, [], ◌∷◌, length, get_or, Option, None, Some, inl, inr, refl, sym, ◌∙◌, ap, subst, arith}
use Rattle.std.proofs.Math.Nat.{add-mul, mod-lt, mul-le-mul}
use Rattle.std.proofs.lemmas.Bool.{cases_lt, cond_both, ltb-false}
use Rattle.std.proofs.lemmas.Int.{ints}
use Rattle.std.proofs.lemmas.List.{get_or_past}
use Rattle.std.proofs.lemmas.Option.{none-some}
use Rattle.apex_types.proofs.Places.{get_or-map_places}
use Rattle.apex_types.specs.Modes.{is_normal}
use Rattle.apex_types.specs.declared.limits.TheConstants.{MOST_PROCESSES, MOST_SPAN}
use Rattle.apex_machine.specs.Situations.{Situation, step}
use Rattle.apex_machine.specs.declared.records.Wait.TheVariants.{Period}
use Rattle.apex_machine.specs.processes.Periods.{AreInTime, IsWholePeriodsAfter, awaits_first}
use Rattle.apex_machine.specs.processes.Roster.{nobody, record_at}
use Rattle.apex_machine.specs.processes.Stamps.{is_by_itself}
use Rattle.apex_machine.specs.processes.Waiters.{queue_in}
use Rattle.apex_machine.specs.table.Table.{IsLawful, ProcessConfig, Table, no_process, process_config}
use Rattle.apex_machine.proofs.BothProfiles.{lawful_count}
use Rattle.apex_laws.specs.GoesOn.{CanGoOn}
use Rattle.apex_laws.proofs.GoesOn.{IsShort, goes_on}
use Rattle.apex_alike.specs.Alike.{ServesFor, later}
use Rattle.apex_alike.specs.AlikeSteps.{AreAlikeSituations, AreAlikeSteps, IsSituated}
use Rattle.apex_alike.specs.Canonical.{IsFit, age, canonical, canonical_record, oldest_age, recent}
use Rattle.apex_alike.proofs.Canonical.{canonical_situation}
use Rattle.apex_alike.proofs.Turns.{alike_steps}
use Rattle.apex_recall.specs.Reached.{IsSituationOf}
use Rattle.apex_recall.specs.Terms.{Attributes, Event, Record}

-- an instant that is none later is none
never : (d : ℕ) (instant : Option ℕ) → later d instant ≡ None → instant ≡ None
never d None e = refl
never d (Some t) e = cc

-- a situation to which one of the table is alike has the facts that the steps rest on
pub situated : (table : Table) {d : ℕ} {one s : Situation} → AreAlikeSituations d one s → IsSituationOf table s → IsSituated table one
situated table {d} {one} {s} alike of = record {
  many = sym alike.rosters.many ∙ of.records;
  one = λ p by.
      let is = (alike.rosters.each p).is in
      sym (ap (λ (r : Record). r.wait) is) ∙ of.one p (ap (λ (r : Record). is_by_itself r.suspended) is ∙ by);
  starts = record {
    dormant = λ p h.
        let is = (alike.rosters.each p).is in
        sym (ap (λ (r : Record). r.wait) is) ∙ of.starts.dormant p (ap (λ (r : Record). r.started) is ∙ h);
    early = λ e p h.
        let is = (alike.rosters.each p).is in
        sym (ap queue_in is) ∙ of.starts.early (ap is_normal alike.rosters.mode ∙ e) p (ap (λ (r : Record). r.started) is ∙ h);
    undue = λ e p.
        let is = (alike.rosters.each p).is in
        never d (record_at one.roster p).due
        (sym (ap (λ (r : Record). r.due) is) ∙ of.starts.undue (ap is_normal alike.rosters.mode ∙ e) p);
  };
  dues = λ p t h.
      let is = (alike.rosters.each p).is in
      let ahead = (of.times p).due (t + d) (ap (λ (r : Record). r.due) is ∙ ap (later d) h) in omega (arith, ahead, alike.rosters.time);
  deadlines = λ p t h.
      let is = (alike.rosters.each p).is in
      let ahead = (of.times p).deadline (t + d) (ap (λ (r : Record). r.deadline) is ∙ ap (later d) h) in omega (arith, ahead, alike.rosters.time);
  workers = λ core o is.
      let worker = of.workers core o (alike.works core ∙ is) in omega (arith, worker, alike.rosters.many, of.records);
}

-- a canonical form has time and stamps left
recent_few : (ticks : ℕ) (period : Option ℕ) → ((n : ℕ) → period ≡ Some n → (1 ≤ n) × (n ≤ MOST_SPAN)) → recent ticks period ≤ 2 * MOST_SPAN
recent_few ticks None span = omega arith
recent_few ticks (Some n) span =
    cond_both (nat_lt n ticks) (n + 1 + (ticks - (n + 1)) % n) ticks (λ x. x ≤ 2 * MOST_SPAN)
    (λ _. omega (arith, mod-lt (ticks - (n + 1)) (span n refl).0, (span n refl).1)) (λ short. omega (arith, (span n refl).1, ltb-false n ticks short))

abbrev HasSpan : Record → Type 0
HasSpan r = (n : ℕ) → r.attributes.period ≡ Some n → (1 ≤ n) × (n ≤ MOST_SPAN)

age_few : (now : ℕ) (r : Record) → HasSpan r → age now r ≤ 2 * MOST_SPAN
age_few now r span =
    cond_both (r.started && not (awaits_first r.wait)) (recent (now - r.release) r.attributes.period) 0 (λ x. x ≤ 2 * MOST_SPAN)
    (λ _. recent_few (now - r.release) r.attributes.period span) (λ _. omega arith)

oldest_few : (now : ℕ) (rs : List Record) → ((p : ℕ) → HasSpan (get_or rs p nobody)) → oldest_age now rs ≤ 2 * MOST_SPAN
oldest_few now [] span = omega arith
oldest_few now (r ∷ rs) span = omega (arith, age_few now r (span 0), oldest_few now rs (λ p. span (suc p)))

config_span : (table : Table) → IsLawful table → (p n : ℕ) → (process_config table p).attributes.period ≡ Some n → (1 ≤ n) × (n ≤ MOST_SPAN)
config_span table lawful p n is = elim (cases_lt p (length table.processes)) [
  | inl within ↦ (lawful.processes p within).period n is
  | inr past ↦
      let none : process_config table p ≡ no_process = get_or_past table.processes p no_process past in
      absurd (none-some n (sym (ap (λ (entry : ProcessConfig). entry.attributes.period) none) ∙ is))
]

-- the release of an aperiodic process is now
no_age : (now : ℕ) (r : Record) → r.attributes.period ≡ None → age now r ≡ 0
no_age now r none =
    cond_both (r.started && not (awaits_first r.wait)) (recent (now - r.release) r.attributes.period) 0 (λ x. x ≡ 0)
    (λ _. rw none refl) (λ _. refl)

-- a due that lies whole periods after one release lies so after another one, which is whole periods
-- after that
whole_after : (n k m first second t d : ℕ) → 1 ≤ n → first + d ≡ second + k * n → t + d ≡ second + m * n → first ≤ t → (j : ℕ) × (t ≡ first + j * n)
whole_after n k m first second t d some is due before = elim (cases_lt m k) [
  | inl less ↦
      let product : (m + 1) * n ≤ k * n = mul-le-mul (omega (arith, less)) (omega arith) in
      absurd (omega (arith, product, is, due, before, some))
  | inr more ↦
      let split : (m - k) * n + k * n ≡ m * n = sym (add-mul (m - k) k n) ∙ (let e : m - k + k ≡ m = omega (arith, more) in ap (λ (x : ℕ). x * n) e) in
      (m - k, omega (arith, split, is, due))
]

module _ (table : Table) (lawful : IsLawful table) (s : Situation) (of : IsSituationOf table s) (fit : IsFit s.roster) where
  abbrev start : ℕ
  start = oldest_age s.roster.now s.roster.records

  abbrev shift : ℕ
  shift = s.roster.now - start

  alike : AreAlikeSituations shift (canonical s) s
  alike = canonical_situation s fit

  pub form_situated : IsSituated table (canonical s)
  form_situated = situated table alike of

  at : (p : ℕ) → p < length s.roster.records → record_at (canonical s).roster p ≡ canonical_record s.roster start p (record_at s.roster p)
  at p within =
      let z : 0 + p ≡ p = omega arith in
      rw (get_or-map_places (canonical_record s.roster start) 0 s.roster.records p nobody nobody within, z) refl

  span : (p : ℕ) → HasSpan (record_at s.roster p)
  span p n is = config_span table lawful p n (sym (ap (λ (a : Attributes). a.period) (of.attributes p)) ∙ is)

  -- a wait for a release ends whole periods after the last one
  whole : (p : ℕ) → (record_at (canonical s).roster p).wait ≡ Some Period → (t : ℕ) → (record_at (canonical s).roster p).due ≡ Some t
      → (period : Option ℕ) → (record_at (canonical s).roster p).attributes.period ≡ period
      → IsWholePeriodsAfter period (record_at (canonical s).roster p).release t
  whole p waits t due None none = elim (cases_lt p (length s.roster.records)) [
    | inl within ↦
        let each = alike.rosters.each p in
        let waits2 : (record_at s.roster p).wait ≡ Some Period = ap (λ (r : Record). r.wait) each.is ∙ waits in
        let due2 : (record_at s.roster p).due ≡ Some (t + shift) = ap (λ (r : Record). r.due) each.is ∙ ap (later shift) due in
        let none2 : (record_at s.roster p).attributes.period ≡ None = ap (λ (r : Record). r.attributes.period) each.is ∙ none in
        let after = (of.times p).period waits2 (t + shift) due2 in
        let same : t + shift ≡ (record_at s.roster p).release = subst (λ (period : Option ℕ). IsWholePeriodsAfter period (record_at s.roster p).release (t + shift)) none2 after in
        let ahead = form_situated.dues p t due in
        let release : (record_at (canonical s).roster p).release ≡ start - age s.roster.now (record_at s.roster p) = ap (λ (r : Record). r.release) (at p within) in
        let young = no_age s.roster.now (record_at s.roster p) none2 in
        omega (arith, same, ahead, release, young, (of.times p).release, alike.rosters.time)
    | inr past ↦
        let nothing : record_at (canonical s).roster p ≡ nobody = get_or_past (canonical s).roster.records p nobody (omega (arith, past, alike.rosters.many)) in
        absurd (none-some Period (sym (ap (λ (r : Record). r.wait) nothing) ∙ waits))
  ]
  whole p waits t due (Some n) some =
      let each = alike.rosters.each p in
      let waits2 : (record_at s.roster p).wait ≡ Some Period = ap (λ (r : Record). r.wait) each.is ∙ waits in
      let due2 : (record_at s.roster p).due ≡ Some (t + shift) = ap (λ (r : Record). r.due) each.is ∙ ap (later shift) due in
      let some2 : (record_at s.roster p).attributes.period ≡ Some n = ap (λ (r : Record). r.attributes.period) each.is ∙ some in
      let after = subst (λ (period : Option ℕ). IsWholePeriodsAfter period (record_at s.roster p).release (t + shift)) some2 ((of.times p).period waits2 (t + shift) due2) in
      let started : (record_at (canonical s).roster p).started ≡ true = by_start (record_at (canonical s).roster p).started refl in
      let serves = subst (λ (period : Option ℕ). ServesFor shift (canonical s).roster.now period (record_at (canonical s).roster p).release each.release) some
      (each.released started (ap awaits_first waits)) in
      let release : (record_at s.roster p).release ≡ each.release = ap (λ (r : Record). r.release) each.is in
      let ahead = form_situated.dues p t due in
      whole_after n serves.periods after.0 (record_at (canonical s).roster p).release each.release t shift (each.spans n some) serves.is
      (after.1 ∙ ap (λ (x : ℕ). x + after.0 * n) release) (omega (arith, ahead, each.before)) where
        by_start : (started : Bool) → (record_at (canonical s).roster p).started ≡ started → (record_at (canonical s).roster p).started ≡ true
        by_start true is = is
        by_start false is = absurd (none-some Period (sym (form_situated.starts.dormant p is) ∙ waits))

  form_times : AreInTime (canonical s).roster
  form_times p = record {
    due = form_situated.dues p;
    deadline = form_situated.deadlines p;
    release = (alike.rosters.each p).before;
    period = λ waits t due. whole p waits t due (record_at (canonical s).roster p).attributes.period refl;
  }

  -- the canonical form can go on for an event
  pub can_go_on : CanGoOn table 1 (canonical s)
  can_go_on =
      let count = lawful_count table lawful in
      let many : length s.roster.records ≤ MOST_PROCESSES = omega (arith, count, of.records) in
      let more : length s.roster.records + 1 ≤ MOST_PROCESSES + 1 = omega (arith, many) in
      let square : (length s.roster.records + 1) * length s.roster.records ≤ (MOST_PROCESSES + 1) * MOST_PROCESSES = mul-le-mul more many in
      record {
        records = form_situated.many;
        attributes = λ p. sym (ap (λ (r : Record). r.attributes) (alike.rosters.each p).is) ∙ of.attributes p;
        objects = of.objects;
        workers = of.workers;
        made = of.made;
        one = form_situated.one;
        starts = form_situated.starts;
        times = form_times;
        stamps = record { young = omega (arith, ints, square); old = omega (arith, ints) };
        ticks = omega (arith, oldest_few s.roster.now s.roster.records span);
      }

  module _ (event : Event) (short : IsShort event) where
    steps : AreAlikeSteps shift table (canonical s) s event
    steps = alike_steps table lawful shift (canonical s) s form_situated alike event

    after : CanGoOn table 0 (step table (canonical s) event)
    after = goes_on table lawful (canonical s) 0 can_go_on event short

    -- what comes of the event is a situation of the table, and has a canonical form
    pub of_next : IsSituationOf table (step table (canonical s) event)
    of_next = record {
      records = after.records;
      attributes = after.attributes;
      objects = after.objects;
      workers = after.workers;
      made = after.made;
      one = after.one;
      starts = after.starts;
      times = after.times;
    }

    pub fit_next : IsFit (step table (canonical s) event).roster
    fit_next = record {
      stamped = steps.situations.rosters.stamped;
      dues = λ p. (after.times p).due;
      deadlines = λ p. (after.times p).deadline;
      undue = λ p. (steps.situations.rosters.each p).undue;
      before = λ p. (steps.situations.rosters.each p).before;
      spans = λ p. (steps.situations.rosters.each p).spans;
    }
