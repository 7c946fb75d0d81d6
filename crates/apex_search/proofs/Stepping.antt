-- One choice of a search, made in a situation that is in canonical form.
use Rattle.std.proofs.Common.{◌≡◌, ◌∙◌, ℕ, ◌<◌, ◌≤◌, ◌^◌, true, false, List, [], Option, None, Some, inl, inr, refl, sym, ap, subst, arith}
use Rattle.std.proofs.lemmas.Bool.{cases_lt}
use Rattle.apex_types.specs.Limits.{latest}
use Rattle.apex_types.specs.declared.calls.Call.{Call}
use Rattle.apex_types.specs.declared.limits.TheConstants.{MOST_CORES}
use Rattle.apex_machine.specs.Deeds.{Deed, Objects}
use Rattle.apex_machine.specs.Events.{IsWithin}
use Rattle.apex_machine.specs.Situations.{Situation, deed}
use Rattle.apex_machine.specs.processes.Roster.{Roster}
use Rattle.apex_machine.specs.table.Table.{IsLawful, Table}
use Rattle.apex_types.proofs.Places.{length-map_places}
use Rattle.apex_laws.specs.GoesOn.{CanGoOn}
use Rattle.apex_laws.specs.Laws.{OfEachTable}
use Rattle.apex_alike.specs.Canonical.{IsFit, canonical, canonical_record, oldest_age}
use Rattle.apex_dispatch.specs.Deeds.{Does}
use Rattle.apex_explore.specs.Systems.{step_of}
use Rattle.apex_explore.specs.declared.systems.Taken.TheVariants.{Next, Hit}
use Rattle.apex_pace.specs.Laws.{IsPace}
use Rattle.apex_pace.specs.Pace.{Paced, is_allowed, paced_step}
use Rattle.apex_choices.specs.Counts.{IsSameOnCores, IsSamePaced}
use Rattle.apex_search.specs.Facts.{has_fact, shown, shown_of}
use Rattle.apex_forms.specs.Forms.{canonical_paced, kept_turns, kept_worked}
use Rattle.apex_recall.specs.Laws.{FormsReach}
use Rattle.apex_recall.specs.Reached.{IsReached}
use Rattle.apex_recall.specs.Restored.{IsOfTable}
use Rattle.apex_choices.specs.Choices.{AreWordsAfter, event_of}
use Rattle.apex_recall.specs.Formed.{FormIsReady, FormsAreReady, IsForm, IsFormed, PartsAreKept, form_words}
use Rattle.apex_search.specs.Steps.{searched, step_by}
use Rattle.apex_forms.specs.Stored.{FitsWords, words_of}
use Rattle.apex_search.specs.Terms.{Caller, Event, Notice, OpenWork, Pace, Question, Reply}
use Rattle.apex_choices.proofs.Short.{event_allowed}
use Rattle.apex_choices.proofs.Same.{paced_is, situation_is}

-- what the entry of a deed that was done shows
pub shown_is : (d : Deed) (who : Caller) (asked : Option Call) (answer : Reply) (left : Roster) (objects : Objects) (after : List Notice)
    → Does d who asked answer left objects [] after → shown who asked answer after left ≡ shown_of d
shown_is d who asked answer left objects after does =
    ap (λ (c : Caller). shown c asked answer after left) does.caller
    ∙ ap (λ (c : Option Call). shown d.caller c answer after left) does.call
    ∙ ap (λ (r : Reply). shown d.caller d.call r after left) does.outcome.reply
    ∙ ap (λ (ns : List Notice). shown d.caller d.call d.outcome.reply ns left) does.outcome.notices
    ∙ ap (shown d.caller d.call d.outcome.reply d.outcome.notices) does.outcome.roster

-- the forms of situations that are the same on the cores
same_forms : (pace : Pace) (one other : Paced) → IsSameOnCores one other
    → ((core : ℕ) → MOST_CORES ≤ core → other.situation.works core ≡ None)
    → IsSamePaced (canonical_paced pace one) (canonical_paced pace other)
same_forms pace one other same none = record {
  situation = record {
    roster = ap (λ (s : Situation). (canonical s).roster) (situation_is same.situation);
    objects = same.situation.objects;
    works = same.situation.works;
    made = same.situation.made;
  };
  turns = λ core. ap (kept_turns pace) (same.turns core);
  worked = λ core.
      ap (λ (begun : Option OpenWork). kept_worked begun (one.worked core)) (same.situation.works core)
      ∙ elim (cases_lt core MOST_CORES) [
        | inl within ↦ ap (kept_worked (other.situation.works core)) (same.worked core within)
        | inr past ↦ rw (none core past) refl
      ];
}

-- the canonical form keeps the fixed parts
canonical_parts : (pace : Pace) (table : Table) (s : Paced) → IsOfTable table s.situation
    → IsOfTable table (canonical_paced pace s).situation
canonical_parts pace table s of =
    let roster = s.situation.roster in
    record {
      cores = of.cores;
      records = length-map_places (canonical_record roster (oldest_age roster.now roster.records)) 0 roster.records ∙ of.records;
      disciplines = of.disciplines;
      rules = of.rules;
      objects = of.objects;
    }

module _ (pace : Pace) (is_pace : IsPace pace) (few : pace.turns < 2 ^ 32) (table : Table) (lawful : IsLawful table)
    (bounds : FormsReach table) (ready : OfEachTable FormsAreReady) (here : Paced) (formed : IsFormed pace table here) where
  is : here ≡ canonical_paced pace formed.paced
  is = paced_is formed.same

  facts : FormIsReady pace table formed.paced
  facts = ready table lawful pace is_pace few formed.paced formed.reached

  pub here_parts : OfEachTable PartsAreKept → IsOfTable table here.situation
  here_parts kept =
      subst (λ (p : Paced). IsOfTable table p.situation) (sym is)
      (canonical_parts pace table formed.paced (kept table lawful formed.paced formed.reached))

  pub here_can : CanGoOn table 1 here.situation
  here_can = subst (λ (p : Paced). CanGoOn table 1 p.situation) (sym is) facts.can

  pub here_time : here.situation.roster.now ≤ latest
  here_time = omega (arith, here_can.ticks)

  pub here_counts : (event : Event) → IsWithin table.cores event → AreWordsAfter event here
  here_counts event range = subst (AreWordsAfter event) (sym is) (facts.counts event range)

  module _ (choice : ℕ) (event : Event) (found : event_of pace table here choice ≡ Some event) where
    pub next_reached : IsReached table (paced_step table here event)
    next_reached =
        subst (λ (p : Paced). is_allowed pace table p event ≡ true → IsReached table (paced_step table p event)) (sym is)
        (bounds.steps pace formed.paced formed.reached event) (event_allowed pace table here choice event found)

    next_ready : FormIsReady pace table (paced_step table here event)
    next_ready = ready table lawful pace is_pace few (paced_step table here event) next_reached

    module _ (made : Paced) (same : IsSameOnCores made (paced_step table here event)) where
      pub made_fit : IsFit made.situation.roster
      made_fit = subst IsFit (sym same.situation.roster) next_reached.fit

      pub made_parts : OfEachTable PartsAreKept → IsOfTable table made.situation
      made_parts kept =
          subst (IsOfTable table) (sym (situation_is same.situation)) (kept table lawful (paced_step table here event) next_reached)

      module _ (form : Paced) (forms : IsSamePaced form (canonical_paced pace made)) where
        pub form_is : form ≡ canonical_paced pace (paced_step table here event)
        form_is =
            paced_is forms
            ∙ paced_is (same_forms pace made (paced_step table here event) same
            (λ core past. next_reached.works core (omega (arith, past, lawful.cores))))

        pub form_fits : FitsWords table form
        form_fits = subst (FitsWords table) (sym form_is) next_ready.fits

        pub form_words_are : (words : List ℕ) → words ≡ words_of table form → words ≡ form_words pace table (paced_step table here event)
        form_words_are words is = is ∙ ap (words_of table) form_is

        pub is_form : (words : List ℕ) → words ≡ words_of table form → IsForm pace table words
        is_form words is = record { paced = paced_step table here event; form = form_words_are words is; reached = next_reached }

  -- what came of the event
  pub step_hit : (question : Question) (next : List ℕ) (event : Event)
      → true ≡ has_fact question (deed table here.situation event)
      → step_of Hit next ≡ step_by (searched table pace question) here (Some event)
  step_hit question next event has = rw (← has) refl

  pub step_next : (question : Question) (next : List ℕ) (event : Event)
      → false ≡ has_fact question (deed table here.situation event) → next ≡ form_words pace table (paced_step table here event)
      → step_of Next next ≡ step_by (searched table pace question) here (Some event)
  step_next question next event has words = rw (← has, words) refl
