-- Paced situations that are the same do the same.
use Rattle.std.proofs.Common.{◌≡◌, ℕ, zero, suc, ◌+◌, ◌-◌, Bool, Option, None, Some, refl, ◌∙◌, ap, not, is_some, option_map, if◌then◌else◌}
use Rattle.std.proofs.Math.Path.{fun_ext}
use Rattle.apex_types.specs.declared.entries.Event.TheVariants.{Turn, Tick}
use Rattle.apex_types.specs.declared.calls.Call.{Call}
use Rattle.apex_machine.specs.Deeds.{Deed, Objects, turn_deed}
use Rattle.apex_machine.specs.Situations.{Situation, deed, due_call, maker, step, works_after}
use Rattle.apex_machine.specs.Works.{fresh, is_turn_of, watched, work_begun}
use Rattle.apex_machine.specs.processes.Dues.{next_instant, sooner}
use Rattle.apex_machine.specs.processes.Roster.{Roster}
use Rattle.apex_machine.specs.services.Callers.{is_by_init}
use Rattle.apex_machine.specs.table.Table.{Table}
use Rattle.apex_pace.specs.Pace.{Paced, all_cores, all_ticks, first_work_end, is_idle, is_quiet, is_settled, is_starting, is_within, least_ticks, may_turn, next_moment, next_tick, paced_step, settled_tick, ticks_to, turns_after, work_end, worked_after}
use Rattle.apex_alike.specs.Closed.{IsSameSituation}
use Rattle.apex_alike.proofs.SingleTicks.{same_then}
use Rattle.apex_choices.specs.Counts.{IsSamePaced}
use Rattle.apex_choices.specs.Choices.{event_of}
use Rattle.apex_choices.specs.Terms.{Event, OpenWork, Pace}

-- situations that are the same are equal
pub situation_is : {one other : Situation} → IsSameSituation one other → one ≡ other
situation_is {one} {other} same =
    ap (λ (r : Roster). record one { roster = r }) same.roster
    ∙ ap (λ (o : Objects). record one { roster = other.roster; objects = o }) same.objects
    ∙ ap (λ (w : ℕ → Option OpenWork). record other { works = w; made = one.made }) (fun_ext same.works)
    ∙ ap (λ (n : ℕ). record other { made = n }) same.made

pub paced_is : {one other : Paced} → IsSamePaced one other → one ≡ other
paced_is {one} {other} same =
    ap (λ (s : Situation). record one { situation = s }) (situation_is same.situation)
    ∙ ap (λ (t : ℕ → ℕ). record one { situation = other.situation; turns = t }) (fun_ext same.turns)
    ∙ ap (λ (w : ℕ → ℕ). record other { worked = w }) (fun_ext same.worked)

-- each is the same as itself
pub paced_refl : (s : Paced) → IsSamePaced s s
paced_refl s = record {
  situation = record { roster = refl; objects = refl; works = λ core. refl; made = refl };
  turns = λ core. refl;
  worked = λ core. refl;
}

-- two situations that are equal are the same
pub same_from : (one other : Situation) → one ≡ other → IsSameSituation one other
same_from one other same = record {
  roster = ap (λ (s : Situation). s.roster) same;
  objects = ap (λ (s : Situation). s.objects) same;
  works = λ core. ap (λ (s : Situation). s.works core) same;
  made = ap (λ (s : Situation). s.made) same;
}

pub paced_then : {one other third : Paced} → IsSamePaced one other → IsSamePaced other third → IsSamePaced one third
paced_then first second = record {
  situation = same_then first.situation second.situation;
  turns = λ core. first.turns core ∙ second.turns core;
  worked = λ core. first.worked core ∙ second.worked core;
}

-- all cores pass one test as they pass the other
pub same_all : (passes also : ℕ → Bool) (n : ℕ) → ((core : ℕ) → passes core ≡ also core) → all_cores passes n ≡ all_cores also n
same_all passes also zero same = refl
same_all passes also (suc n) same = rw (same n, same_all passes also n same) refl

-- the end of work, by what it depends on
abbrev end_by : (ℕ → ℕ) → ℕ → ℕ → Option OpenWork → Option ℕ
end_by ticks now worked begun =
    if is_within ticks worked begun then option_map (λ (o : OpenWork). now + (ticks o.work.amount - worked)) begun else None

-- a turn, by what it depends on
abbrev may_by : Bool → Bool → Bool → Bool
may_by starting due quiet = if starting then due else not quiet

module _ {one other : Paced} (same : IsSamePaced one other) where
  abbrev situation : IsSameSituation one.situation other.situation
  situation = same.situation

  -- what a pace asks of a core
  same_starting : is_starting one ≡ is_starting other
  same_starting = ap (λ (r : Roster). is_starting (record one { situation = record one.situation { roster = r } })) situation.roster

  same_idle : (core : ℕ) → is_idle one core ≡ is_idle other core
  same_idle core = rw (situation.works core, situation.roster) refl

  same_within : (ticks : ℕ → ℕ) (core : ℕ)
      → is_within ticks (one.worked core) (one.situation.works core) ≡ is_within ticks (other.worked core) (other.situation.works core)
  same_within ticks core = rw (situation.works core, same.worked core) refl

  same_quiet : (percent core : ℕ) → is_quiet percent one core ≡ is_quiet percent other core
  same_quiet percent core = rw (same_idle core, same_within (least_ticks percent) core) refl

  same_settled : (pace : Pace) (core : ℕ) → is_settled pace one core ≡ is_settled pace other core
  same_settled pace core = rw (same_idle core, same_within all_ticks core, same.turns core) refl

  same_end : (percent core : ℕ) → work_end percent one core ≡ work_end percent other core
  same_end percent core =
      ap (λ (r : Roster). end_by (least_ticks percent) r.now (one.worked core) (one.situation.works core)) situation.roster
      ∙ ap (λ (w : ℕ). end_by (least_ticks percent) other.situation.roster.now w (one.situation.works core)) (same.worked core)
      ∙ ap (end_by (least_ticks percent) other.situation.roster.now (other.worked core)) (situation.works core)

  same_ends : (percent n : ℕ) → first_work_end percent one n ≡ first_work_end percent other n
  same_ends percent zero = refl
  same_ends percent (suc n) = rw (same_end percent n, same_ends percent n) refl

  same_moment : (percent : ℕ) (table : Table) → next_moment percent table one ≡ next_moment percent table other
  same_moment percent table =
      ap (λ (r : Roster). sooner (next_instant r) (first_work_end percent one table.cores)) situation.roster
      ∙ ap (sooner (next_instant other.situation.roster)) (same_ends percent table.cores)

  same_ticks_to : (moment : ℕ) → ticks_to one moment ≡ ticks_to other moment
  same_ticks_to moment = ap (λ (r : Roster). ticks_to (record one { situation = record one.situation { roster = r } }) moment) situation.roster

  same_settled_tick : (percent : ℕ) (table : Table) → settled_tick percent table one ≡ settled_tick percent table other
  same_settled_tick percent table =
      rw (same_all (is_quiet percent one) (is_quiet percent other) table.cores (same_quiet percent), same_moment percent table)
      (by_moment (next_moment percent table other)) where
        by_moment : (moment : Option ℕ)
            → (if all_cores (is_quiet percent other) table.cores then option_map (ticks_to one) moment else Some 1)
            ≡ (if all_cores (is_quiet percent other) table.cores then option_map (ticks_to other) moment else Some 1)
        by_moment None = refl
        by_moment (Some t) = rw (same_ticks_to t) refl

  same_next_tick : (pace : Pace) (table : Table) → next_tick pace table one ≡ next_tick pace table other
  same_next_tick pace table =
      rw (same_starting, same_all (is_settled pace one) (is_settled pace other) table.cores (same_settled pace), same_settled_tick pace.percent table) refl

  same_due : (table : Table) (core : ℕ) → due_call table one.situation core ≡ due_call table other.situation core
  same_due table core =
      ap (λ (r : Roster). due_call table (record one.situation { roster = r }) core) situation.roster
      ∙ ap (λ (n : ℕ). due_call table (record one.situation { roster = other.situation.roster; made = n }) core) situation.made

  same_may_turn : (pace : Pace) (table : Table) (core : ℕ) → may_turn pace table one core ≡ may_turn pace table other core
  same_may_turn pace table core =
      ap (λ (b : Bool). may_by b (is_some (due_call table one.situation core)) (is_quiet pace.percent one core)) same_starting
      ∙ ap (λ (call : Option Call). may_by (is_starting other) (is_some call) (is_quiet pace.percent one core)) (same_due table core)
      ∙ ap (may_by (is_starting other) (is_some (due_call table other.situation core))) (same_quiet pace.percent core)

  pub same_event : (pace : Pace) (table : Table) (choice : ℕ) → event_of pace table one choice ≡ event_of pace table other choice
  same_event pace table choice = rw (same_may_turn pace table choice, same_next_tick pace table) refl

  -- an event
  pub same_deed : (table : Table) (event : Event) → deed table one.situation event ≡ deed table other.situation event
  same_deed table (Turn core) =
      ap (λ (r : Roster). turn_deed table r one.situation.objects core (one.situation.works core) (due_call table one.situation core)) situation.roster
      ∙ ap (λ (o : Objects). turn_deed table other.situation.roster o core (one.situation.works core) (due_call table one.situation core)) situation.objects
      ∙ ap (λ (w : Option OpenWork). turn_deed table other.situation.roster other.situation.objects core w (due_call table one.situation core)) (situation.works core)
      ∙ ap (turn_deed table other.situation.roster other.situation.objects core (other.situation.works core)) (same_due table core)
  same_deed table (Tick n) = rw (situation.roster, situation.objects) refl

  pub same_step : (table : Table) (event : Event) → IsSameSituation (step table one.situation event) (step table other.situation event)
  same_step table event =
      let deeds = same_deed table event in
      record {
        roster = ap (λ (d : Deed). d.outcome.roster) deeds;
        objects = ap (λ (d : Deed). d.outcome.object) deeds;
        works = λ core.
            ap (λ (d : Deed). works_after one.situation (maker event) d core) deeds
            ∙ ap (λ (before : Option OpenWork).
            option_map (watched (deed table other.situation event).outcome.roster core)
            (if is_turn_of core (maker event)
            then option_map fresh (work_begun (deed table other.situation event).caller (deed table other.situation event).call (deed table other.situation event).outcome.reply)
            else before)) (situation.works core);
        made = ap (λ (d : Deed). one.situation.made + (if is_by_init d.caller then 1 else 0)) deeds
            ∙ ap (λ (n : ℕ). n + (if is_by_init (deed table other.situation event).caller then 1 else 0)) situation.made;
      }

  same_turns : (event : Event) (core : ℕ) → turns_after one event core ≡ turns_after other event core
  same_turns (Turn c) core = rw (same_starting, same.turns core) refl
  same_turns (Tick n) core = refl

  same_worked : (event : Event) (now core : ℕ) → worked_after one event now core ≡ worked_after other event now core
  same_worked (Turn c) now core = rw (same.worked core) refl
  same_worked (Tick n) now core =
      ap (λ (w : ℕ). w + (now - one.situation.roster.now)) (same.worked core)
      ∙ ap (λ (r : Roster). other.worked core + (now - r.now)) situation.roster

  pub same_paced_step : (table : Table) (event : Event) → IsSamePaced (paced_step table one event) (paced_step table other event)
  same_paced_step table event = record {
    situation = same_step table event;
    turns = same_turns event;
    worked = λ core.
        ap (λ (r : Roster). worked_after one event r.now core) (same_step table event).roster
        ∙ same_worked event (step table other.situation event).roster.now core;
  }
