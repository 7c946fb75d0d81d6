-- The schedule of a path, event by event, and what an answer of the search says.
use Rattle.std.proofs.Common.{◌≡◌, ◌∙◌, ℕ, zero, suc, ◌+◌, ◌-◌, ◌<◌, ◌≤◌, ◌^◌, List, [], ◌∷◌, ◌++◌, length, get_or, drop, Option, None, Some, Result, Ok, Err, refl, sym, ap, subst, arith, add-one, append-nil, append_assoc}
use Rattle.std.specs.Prelude.{All, IfOk}
use Rattle.std.proofs.Math.ListN.{drop_of_length-le}
use Rattle.std.proofs.Math.Seq.{drop-cons}
use Rattle.std.proofs.lemmas.List.Elements.{All-append}
use Rattle.apex_explore.specs.Answers.{Says}
use Rattle.apex_explore.specs.Systems.{step_within}
use Rattle.apex_explore.specs.declared.answers.Answer.{Answer}
use Rattle.apex_laws.specs.Laws.{OfEachTable}
use Rattle.apex_machine.specs.Events.{IsWithin}
use Rattle.apex_machine.specs.table.Table.{IsLawful, Table}
use Rattle.apex_alike.proofs.Canonical.{canonical_situation}
use Rattle.apex_alike.specs.Canonical.{canonical_roster}
use Rattle.apex_pace.specs.Laws.{IsPace}
use Rattle.apex_pace.specs.Pace.{KeepsPace, Paced, paced_opening, paced_run, paced_step}
use Rattle.apex_search.specs.Answers.{SaysOfSchedules, events_along, event_and_later, schedule_of}
use Rattle.apex_choices.specs.Counts.{IsSameOnCores, IsSamePaced}
use Rattle.apex_forms.specs.Forms.{canonical_paced}
use Rattle.apex_recall.specs.Laws.{FormsHaveWords, FormsReach, WordsAreExact}
use Rattle.apex_search.specs.Laws.{FormsStandFor, StandsFor, StepsFor}
use Rattle.apex_recall.specs.Reached.{IsReached}
use Rattle.apex_search.specs.Worst.{IsFormAfter}
use Rattle.apex_recall.specs.Formed.{FormsAreReady, IsFormed}
use Rattle.apex_search.specs.Steps.{Searched, choices_of, search_start, search_step}
use Rattle.apex_choices.specs.Choices.{event_of}
use Rattle.apex_search.specs.Terms.{Event, Pace}
use Rattle.apex_search.proofs.Schedules.{Stand, says_of_schedules}
use Rattle.apex_choices.proofs.Short.{event_allowed}
use Rattle.apex_search.proofs.Shifted.{form_event}
use Rattle.apex_search.proofs.Stepping.{form_is}
use Rattle.apex_choices.proofs.Same.{paced_is}

-- some choices of the path were made: the situation is in a canonical form that represents the one to
-- which their events lead, and the other choices give the events that are left
pub record IsAlong (system : Searched) (path : List ℕ) (here : Paced) (events : List Event) (taken : ℕ) : Type 0 where
  pub formed : IsFormed system.pace system.table here
  pub s : Paced
  pub later : ℕ
  pub stands : StandsFor system.pace later (canonical_paced system.pace formed.paced) s
  pub run : s ≡ paced_run system.table (paced_opening system.table) events
  pub whole : schedule_of system path ≡ events ++ events_along system s (drop taken path)
  pub within : All (IsWithin system.table.cores) events

pub run_push : (table : Table) (s : Paced) (events : List Event) (event : Event)
    → paced_run table s (events ++ event ∷ []) ≡ paced_step table (paced_run table s events) event
run_push table s [] event = refl
run_push table s (e ∷ events) event = run_push table (paced_step table s e) events event

-- a form stands for the situation
pub record HasForm (pace : Pace) (table : Table) (s : Paced) : Type 0 where
  pub t : Paced
  pub reached : IsReached table t
  pub later : ℕ
  pub stands : StandsFor pace later (canonical_paced pace t) s

-- the form is that of the situation to which the events lead
pub form_after : (system : Searched) (path : List ℕ) (here : Paced) (events : List Event) (taken : ℕ)
    → IsAlong system path here events taken → IsFormAfter system here events
form_after system path here events taken along = record {
  formed = along.formed;
  later = along.later;
  stands = subst (λ (s : Paced). StandsFor system.pace along.later (canonical_paced system.pace along.formed.paced) s) along.run along.stands;
}

same_itself : (s : Paced) → IsSamePaced s s
same_itself s = record {
  situation = record { roster = refl; objects = refl; works = λ core. refl; made = refl };
  turns = λ core. refl;
  worked = λ core. refl;
}

module _ (system : Searched) (is_pace : IsPace system.pace) (lawful : IsLawful system.table) (bounds : FormsReach system.table)
    (alike : OfEachTable FormsStandFor) where
  abbrev pace : Pace
  pace = system.pace

  abbrev table : Table
  table = system.table

  abbrev opening : Paced
  opening = paced_opening table

  abbrev shift : ℕ
  shift = opening.situation.roster.now - (canonical_roster opening.situation.roster).now

  opening_stands : StandsFor pace shift (canonical_paced pace opening) opening
  opening_stands = record {
    alike = canonical_situation opening.situation bounds.opens.fit;
    turns = λ core. refl;
    worked = λ core. refl;
  }

  -- the events of a schedule lead from a situation for which a form stands to another one
  still_has_form : (events : List Event) (s : Paced) → HasForm pace table s → KeepsPace pace table s events
      → HasForm pace table (paced_run table s events)
  still_has_form [] s form keeps = form
  still_has_form (event ∷ events) s form keeps =
      let steps : StepsFor pace table (canonical_paced pace form.t) s event =
      alike table lawful pace is_pace form.t form.reached form.later s form.stands event in
      still_has_form events (paced_step table s event) (record {
        t = paced_step table (canonical_paced pace form.t) event;
        reached = bounds.steps pace form.t form.reached event (steps.allowed ∙ keeps.0);
        later = steps.later;
        stands = steps.stands keeps.0;
      }) keeps.1

  pub has_form : (events : List Event) → KeepsPace pace table opening events → HasForm pace table (paced_run table opening events)
  has_form events = still_has_form events opening (record { t = opening; reached = bounds.opens; later = shift; stands = opening_stands })

  -- what is known of the situations whose forms are the states
  pub stand : OfEachTable WordsAreExact → OfEachTable FormsHaveWords → Stand pace table (IsReached table)
  stand exact words = record {
    opens = bounds.opens;
    later = shift;
    opening = opening_stands;
    next = bounds.steps pace;
    exact = λ t reached. exact table lawful pace t reached;
    event = λ t d s stands choice. form_event pace is_pace table stands choice;
    steps = λ t reached d s stands event. alike table lawful pace is_pace t reached d s stands event;
    words = words table lawful;
  }

  pub says_of : OfEachTable WordsAreExact → OfEachTable FormsHaveWords → {E : Type 0} (result : Result Answer E) (room : ℕ)
      → IfOk result (Says (step_within (choices_of system) (search_step system)) (search_start system) room)
      → IfOk result (SaysOfSchedules system room)
  says_of exact words (Ok answer) room says =
      says_of_schedules system (IsReached table) (stand exact words) room answer says
  says_of exact words (Err e) room says = tt

  module _ (path : List ℕ) where
    pub along_begins : (here : Paced) → IsSamePaced here (canonical_paced pace (paced_opening table))
        → IsAlong system path here [] 0
    along_begins here same = record {
      formed = record { paced = paced_opening table; reached = bounds.opens; same = same };
      s = paced_opening table;
      later = shift;
      stands = opening_stands;
      run = refl;
      whole = refl;
      within = λ k d h. absurd (omega (arith, h));
    }

    module _ (here : Paced) (events : List Event) (taken : ℕ) (along : IsAlong system path here events taken) where
      here_event : (choice : ℕ) → event_of pace table here choice ≡ event_of pace table along.s choice
      here_event choice =
          ap (λ (p : Paced). event_of pace table p choice) (paced_is along.formed.same)
          ∙ form_event pace is_pace table along.stands choice

      abbrev rest : Option Event → List Event
      rest found = event_and_later table along.s found (λ next. events_along system next (drop (taken + 1) path))

      abbrev choice : ℕ
      choice = get_or path taken 0

      left : taken < length path → events_along system along.s (drop taken path) ≡ rest (event_of pace table here choice)
      left below =
          ap (events_along system along.s)
          (drop-cons path taken 0 below ∙ ap (λ (n : ℕ). get_or path taken 0 ∷ drop n path) (sym (add-one taken)))
          ∙ ap rest (sym (here_event choice))

      -- a choice that is not allowed ends the schedule
      pub along_stops : taken < length path → None ≡ event_of pace table here (get_or path taken 0)
          → events ≡ schedule_of system path
      along_stops below none =
          sym (along.whole ∙ ap (λ (others : List Event). events ++ others) (left below ∙ ap rest (sym none))
          ∙ append-nil events)

      -- so does the end of the path
      pub along_ends : length path ≤ taken → events ≡ schedule_of system path
      along_ends past =
          sym (along.whole ∙ ap (λ (others : List ℕ). events ++ events_along system along.s others) (drop_of_length-le path past)
          ∙ append-nil events)

      one_within : (event : Event) → IsWithin table.cores event → All (IsWithin table.cores) (event ∷ [])
      one_within event within zero d below = within
      one_within event within (suc k) d below = absurd (omega (arith, below))

      -- one event more
      pub along_more : (few : pace.turns < 2 ^ 32) (ready : OfEachTable FormsAreReady) → taken < length path
          → (event : Event) → Some event ≡ event_of pace table here (get_or path taken 0) → IsWithin table.cores event → (made : Paced) → IsSameOnCores made (paced_step table here event) → (after : Paced)
          → IsSamePaced after (canonical_paced pace made) → IsAlong system path after (events ++ event ∷ []) (taken + 1)
      along_more few ready below event found event_within made same after forms =
          let t = along.formed.paced in
          let steps : StepsFor pace table (canonical_paced pace t) along.s event =
          alike table lawful pace is_pace t along.formed.reached along.later along.s along.stands event in
          let allowed = event_allowed pace table along.s choice event (sym (here_event choice) ∙ sym found) in
          let form : after ≡ canonical_paced pace (paced_step table (canonical_paced pace t) event) =
          form_is pace is_pace few table lawful bounds ready here along.formed choice event (sym found) made same after forms
          ∙ ap (λ (p : Paced). canonical_paced pace (paced_step table p event)) (paced_is along.formed.same) in
          record {
            formed = record {
              paced = paced_step table (canonical_paced pace t) event;
              reached = bounds.steps pace t along.formed.reached event (steps.allowed ∙ allowed);
              same = subst (λ (p : Paced). IsSamePaced p (canonical_paced pace (paced_step table (canonical_paced pace t) event))) (sym form)
                  (same_itself (canonical_paced pace (paced_step table (canonical_paced pace t) event)));
            };
            s = paced_step table along.s event;
            later = steps.later;
            stands = steps.stands allowed;
            run = ap (λ (p : Paced). paced_step table p event) along.run ∙ sym (run_push table opening events event);
            whole = along.whole
                ∙ ap (λ (others : List Event). events ++ others) (left below ∙ ap rest (sym found))
                ∙ sym (append_assoc events (event ∷ []) (events_along system (paced_step table along.s event) (drop (taken + 1) path)));
            within = All-append (IsWithin table.cores) events (event ∷ []) along.within (one_within event event_within);
          }
