-- A form that represents a situation steps as the situation does.
use Rattle.std.proofs.Common.{◌≡◌, ℕ, ◌+◌, ◌-◌, Bool, true, false, Option, None, Some, refl, sym, ◌∙◌, ap, arith, min, ◌==◌, ◌&&◌, not, option_map, if◌then◌else◌}
use Rattle.apex_types.specs.declared.entries.Event.TheVariants.{Turn, Tick}
use Rattle.apex_machine.specs.Situations.{step}
use Rattle.apex_machine.specs.Works.{watched}
use Rattle.apex_machine.specs.processes.Roster.{Roster}
use Rattle.apex_machine.specs.processes.Running.{chosen, is_process}
use Rattle.apex_machine.specs.table.Table.{IsLawful, Table}
use Rattle.apex_pace.specs.Laws.{IsPace}
use Rattle.apex_pace.specs.Pace.{Paced, is_starting, paced_step, turns_after, worked_after}
use Rattle.apex_laws.proofs.GoesOn.{IsShort}
use Rattle.apex_alike.specs.AlikeSteps.{AreAlikeSteps}
use Rattle.apex_alike.specs.Canonical.{oldest_age}
use Rattle.apex_alike.proofs.Canonical.{canonical_situation}
use Rattle.apex_alike.proofs.Chains.{situations_then}
use Rattle.apex_alike.proofs.Turns.{alike_steps}
use Rattle.apex_forms.specs.Forms.{canonical_paced, kept_turns, kept_worked}
use Rattle.apex_search.specs.Laws.{FormsStandFor, StandsFor, StepsFor}
use Rattle.apex_recall.specs.Reached.{IsReached}
use Rattle.apex_search.specs.Terms.{Event, OpenWork, Pace}
use Rattle.apex_recall.proofs.GoOn.{fit_next, form_situated}
use Rattle.apex_search.proofs.SameFacts.{same_fact}
use Rattle.apex_search.proofs.Shifted.{same_allowed, same_starting}
use Rattle.apex_choices.proofs.Short.{allowed_short}

-- the counts of a pace after an event are kept as far as before
turns_kept : (most turns : ℕ) (started own : Bool)
    → min (if started && own then min turns most + 1 else min turns most) most ≡ min (if started && own then turns + 1 else turns) most
turns_kept most turns true true = omega arith
turns_kept most turns true false = omega arith
turns_kept most turns false own = omega arith

-- the ticks of work that went on, and was unbroken before if it still is
work_kept : (unbroken still : Bool) (worked more amount : ℕ)
    → (if unbroken && still then min ((if unbroken then min worked amount else 0) + more) amount else 0)
    ≡ (if unbroken && still then min (worked + more) amount else 0)
work_kept false still worked more amount = refl
work_kept true false worked more amount = refl
work_kept true true worked more amount = omega arith

ticked : (roster : Roster) (core : ℕ) (before : Option OpenWork) (worked more : ℕ)
    → kept_worked (option_map (watched roster core) before) (kept_worked before worked + more)
    ≡ kept_worked (option_map (watched roster core) before) (worked + more)
ticked roster core None worked more = refl
ticked roster core (Some o) worked more =
    work_kept o.unbroken (is_process o.work.process (chosen roster core)) worked more o.work.amount

gone_on : (roster : Roster) (core : ℕ) (own : Bool) (begun before : Option OpenWork) (worked : ℕ)
    → let works = option_map (watched roster core) (if own then begun else before) in
    kept_worked works (if own then 0 else kept_worked before worked) ≡ kept_worked works (if own then 0 else worked)
gone_on roster core true begun before worked = refl
gone_on roster core false begun before worked =
    let e : kept_worked before worked + 0 ≡ kept_worked before worked = omega arith in
    let f : worked + 0 ≡ worked = omega arith in
    ap (kept_worked (option_map (watched roster core) before)) (sym e)
    ∙ ticked roster core before worked 0 ∙ ap (kept_worked (option_map (watched roster core) before)) f

-- the turns of a pace after an event
module _ (pace : Pace) (is_pace : IsPace pace) (table : Table) {d : ℕ} {form s : Paced} (stands : StandsFor pace d form s) where
  same_turns : (event : Event) (core : ℕ) → kept_turns pace (turns_after form event core) ≡ kept_turns pace (turns_after s event core)
  same_turns (Turn c) core =
      ap (λ (b : Bool). min (if not b && core == c then form.turns core + 1 else form.turns core) pace.turns) (same_starting pace is_pace table stands)
      ∙ ap (λ (n : ℕ). min (if not (is_starting s) && core == c then n + 1 else n) pace.turns) (stands.turns core)
      ∙ turns_kept pace.turns (s.turns core) (not (is_starting s)) (core == c)
  same_turns (Tick n) core = refl

-- what is left of the pace's counts of work
module _ (pace : Pace) (table : Table) {d : ℕ} {form s : Paced} (stands : StandsFor pace d form s) where
  same_worked : (event : Event) → AreAlikeSteps d table form.situation s.situation event → (core : ℕ)
      → kept_worked ((step table form.situation event).works core)
      (worked_after form event (step table form.situation event).roster.now core)
      ≡ kept_worked ((step table s.situation event).works core) (worked_after s event (step table s.situation event).roster.now core)
  same_worked (Turn c) steps core =
      ap (λ works. kept_worked works (if core == c then 0 else form.worked core)) (sym (steps.situations.works core))
      ∙ ap (λ (n : ℕ). kept_worked ((step table s.situation (Turn c)).works core) (if core == c then 0 else n)) (stands.worked core)
      ∙ gone_on (step table s.situation (Turn c)).roster core (core == c) _ (s.situation.works core) (s.worked core)
  same_worked (Tick n) steps core =
      let went : (step table form.situation (Tick n)).roster.now - form.situation.roster.now
      ≡ (step table s.situation (Tick n)).roster.now - s.situation.roster.now =
      omega (arith, steps.situations.rosters.time, stands.alike.rosters.time) in
      ap (λ works. kept_worked works (form.worked core + ((step table form.situation (Tick n)).roster.now - form.situation.roster.now)))
      (sym (steps.situations.works core))
      ∙ ap (λ (ticks : ℕ). kept_worked ((step table s.situation (Tick n)).works core) (form.worked core + ticks)) went
      ∙ ap (λ (k : ℕ). kept_worked ((step table s.situation (Tick n)).works core) (k + ((step table s.situation (Tick n)).roster.now - s.situation.roster.now))) (stands.worked core)
      ∙ ticked (step table s.situation (Tick n)).roster core (s.situation.works core) (s.worked core)
      ((step table s.situation (Tick n)).roster.now - s.situation.roster.now)

module _ (pace : Pace) (is_pace : IsPace pace) (table : Table) (lawful : IsLawful table) (t : Paced) (reached : IsReached table t)
    (d : ℕ) (s : Paced) (stands : StandsFor pace d (canonical_paced pace t) s) (event : Event) where
  abbrev form : Paced
  form = canonical_paced pace t

  steps : AreAlikeSteps d table form.situation s.situation event
  steps = alike_steps table lawful d form.situation s.situation (form_situated table lawful t.situation reached.of reached.fit) stands.alike event

  abbrev next : ℕ
  next = (step table form.situation event).roster.now
      - oldest_age (step table form.situation event).roster.now (step table form.situation event).roster.records

  stands_next : IsShort event → StandsFor pace (next + d) (canonical_paced pace (paced_step table form event)) (paced_step table s event)
  stands_next short =
      let fit = fit_next table lawful t.situation reached.of reached.fit event short in
      record {
        alike = situations_then (canonical_situation (step table form.situation event) fit) steps.situations;
        turns = same_turns pace is_pace table stands event;
        worked = same_worked pace table stands event steps;
      }

  pub steps_for : StepsFor pace table (canonical_paced pace t) s event
  steps_for = record {
    allowed = same_allowed pace is_pace table stands event;
    fact = same_fact steps.deeds;
    later = next + d;
    stands = λ allowed. stands_next (allowed_short pace table s event allowed);
  }

pub forms_stand : (table : Table) → IsLawful table → FormsStandFor table
forms_stand table lawful pace is_pace t reached d s stands event = steps_for pace is_pace table lawful t reached d s stands event
