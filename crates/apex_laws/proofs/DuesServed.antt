-- The dues at a tick: the waits that they end.
use Rattle.std.proofs.Common.{◌≡◌, ℕ, ◌+◌, ◌<◌, true, false, length, ℤ, Option, None, Some, refl, sym, ◌∙◌, ap, subst, arith}
use Rattle.std.proofs.lemmas.Bool.{both_ways, eq-eqb}
use Rattle.std.proofs.lemmas.Option.{none-some}
use Rattle.apex_laws.specs.Premises.{due_count}
use Rattle.apex_laws.specs.Terms.{Record, Wait}
use Rattle.apex_machine.specs.declared.records.Wait.TheVariants as wait
use Rattle.apex_machine.specs.processes.Dues.{first_due, is_due_at}
use Rattle.apex_machine.specs.processes.Periods.{AreInTime, IsWholePeriodsAfter, awaits_first}
use Rattle.apex_types.specs.Modes.{is_normal}
use Rattle.apex_machine.specs.processes.Roster.{Roster, record_at}
use Rattle.apex_machine.specs.processes.Stamps.{HasOrderlyStarts, awake, readied, release, released_at, without_due}
use Rattle.apex_machine.specs.Ticks.{wait_over, serve_due, serve_dues}
use Rattle.apex_machine.proofs.Dues.{first_due_now, first_due_within}
use Rattle.apex_machine.proofs.Reaches.{Reaches, reaches_then, reaches_unblock, reaches_release, reaches_without_due, reaches_in_turn}
use Rattle.apex_machine.proofs.Rosters.{at_without_due}
use Rattle.apex_laws.proofs.Counts.{count, counted, counted_readied}

-- before NORMAL no process has a due
due_normal : (roster : Roster) → HasOrderlyStarts roster → (p : ℕ) → first_due roster ≡ Some p
    → is_normal roster.mode ≡ false → ⊥
due_normal roster starts p is e = none-some roster.now (sym (starts.undue e p) ∙ first_due_now roster p is)

-- the premises of the dues: starts are in order, and every process is in time
pub record IsServable (roster : Roster) : Type 0 where
  pub starts : HasOrderlyStarts roster
  pub times : AreInTime roster

-- the wait of process p, which is due now, ends
module _ (roster : Roster) (p : ℕ) (before : IsServable roster) (is : first_due roster ≡ Some p) where
  abbrev free : Roster
  free = without_due roster p

  known : p < length roster.records
  known = first_due_within roster p is

  here : record_at free p ≡ record (record_at roster p) { due = None }
  here = at_without_due roster p known

  freed : Reaches 0 roster free
  freed = reaches_without_due roster p known

  ends_released : (awaits_first (record_at free p).wait ≡ false
      → IsWholePeriodsAfter (record_at free p).attributes.period (record_at free p).release roster.now)
      → Reaches 1 free (release free p)
  ends_released later = reaches_release free p (rw freed.moves.many known) (due_normal roster before.starts p is) later

  ends_woken : Reaches 1 free (wait_over free p None).roster
  ends_woken = reaches_unblock free p (rw freed.moves.many known) (due_normal roster before.starts p is)

  ends : (w : Option Wait) → (record_at roster p).wait ≡ w → Reaches 1 free (wait_over free p w).roster
  ends (Some wait.Time) waits = ends_woken
  ends (Some wait.Start) waits =
      let late = ap (λ (x : Record). awaits_first x.wait) here ∙ ap awaits_first waits in
      ends_released (λ e. absurd (both_ways true (sym late ∙ e) refl))
  ends (Some wait.Period) waits =
      ends_released (λ _. subst (λ (x : Record). IsWholePeriodsAfter x.attributes.period x.release roster.now) (sym here)
      ((before.times p).period waits roster.now (first_due_now roster p is)))
  ends _ waits = ends_woken

  pub reach_serve_due : Reaches 1 roster (serve_due roster p).roster
  reach_serve_due = reaches_then 0 1 freed (ends (record_at roster p).wait refl)

  pub served_stays : IsServable (serve_due roster p).roster
  served_stays = record { starts = reach_serve_due.moves.starts before.starts; times = reach_serve_due.moves.times before.times }

-- it gives one notice
pub one_due : (roster : Roster) (p : ℕ) → length (serve_due roster p).notices ≡ 1
one_due roster p = one_by (record_at roster p).wait where
  one_by : (w : Option Wait) → length (wait_over (without_due roster p) p w).notices ≡ 1
  one_by (Some wait.Time) = refl
  one_by _ = refl

-- and one process less is due now
undue : (t : ℕ) (r : Record) → r.due ≡ None → is_due_at t r ≡ false
unfolding is_due_at
undue t r e = rw e refl

is_due : (t : ℕ) (r : Record) → r.due ≡ Some t → is_due_at t r ≡ true
unfolding is_due_at
is_due t r e = rw e (eq-eqb t t refl)

ageless : (t : ℕ) (r : Record) (since : ℤ) → is_due_at t (record r { since = since }) ≡ is_due_at t r
unfolding is_due_at
ageless t r since = refl

module _ (roster : Roster) (p : ℕ) (known : p < length roster.records) (now : ℕ) where
  -- a record without a due, for one without a due
  ends_in : (r : Record) → r.due ≡ None → (record_at roster p).due ≡ None
      → count (is_due_at now) (readied roster p r) ≡ count (is_due_at now) roster
  unfolding is_due_at
  ends_in r none free =
      let all = counted_readied (is_due_at now) (λ r since. refl) roster p known r in
      omega (arith, rw (undue now (record_at roster p) free, undue now r none) at all)

  ends_count : (w : Option Wait) → (record_at roster p).due ≡ None
      → count (is_due_at now) (wait_over roster p w).roster ≡ count (is_due_at now) roster
  ends_count (Some wait.Start) = ends_in (released_at roster.now (record_at roster p)) refl
  ends_count (Some wait.Period) = ends_in (released_at roster.now (record_at roster p)) refl
  ends_count _ = ends_in (awake (record_at roster p)) refl

pub one_less : (roster : Roster) (p : ℕ) → IsServable roster → first_due roster ≡ Some p → due_count (serve_due roster p).roster + 1 ≡ due_count roster
one_less roster p before is =
    let known = first_due_within roster p is in
    let free = without_due roster p in
    let r : Record = record (record_at roster p) { due = None } in
    let here : record_at free p ≡ r = at_without_due roster p known in
    let due = is_due roster.now (record_at roster p) (first_due_now roster p is) in
    let all = counted (is_due_at roster.now) (ageless roster.now) roster p known r in
    let cleared : count (is_due_at roster.now) free + 1 ≡ count (is_due_at roster.now) roster =
    omega (arith, rw (due, undue roster.now r refl) at all) in
    let many : p < length free.records = rw (reaches_without_due roster p known).moves.many known in
    let ended = ends_count free p many roster.now (record_at roster p).wait (ap (λ (x : Record). x.due) here) in
    rw (reach_serve_due roster p before is).moves.time (omega (arith, cleared, ended))

pub reach_serve_dues : (roster : Roster) → IsServable roster → Reaches (length roster.records) roster (serve_dues roster).roster
reach_serve_dues roster before =
    reaches_in_turn first_due serve_due IsServable served_stays reach_serve_due (length roster.records) roster before

-- the wait of process p is the same without its due
pub served_is : (old middle : Roster) (p : ℕ) (w : Option Wait) → p < length old.records
    → middle ≡ without_due old p → w ≡ (record_at middle p).wait
    → wait_over middle p w ≡ serve_due old p
served_is old middle p w known is same =
    let at_p = at_without_due old p known in
    rw (same, is, at_p) refl
