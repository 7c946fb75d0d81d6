-- Paths of a search are schedules of the pace, and schedules are paths.
use Rattle.std.proofs.Common.{◌≡◌, ℕ, suc, ◌+◌, ◌<◌, ◌≤◌, Bool, true, false, List, [], ◌∷◌, ◌++◌, length, nat_lt, Option, None, Some, inl, inr, refl, sym, ◌∙◌, ap, subst, arith, if◌then◌else◌, ltb-true, lt-ltb, le_trans, length-append}
use Rattle.std.proofs.lemmas.Bool.{and_parts, cases_Bool, le-ltb}
use Rattle.apex_types.specs.declared.entries.Event.TheVariants.{Turn, Tick}
use Rattle.apex_explore.specs.Answers.{Says}
use Rattle.apex_explore.specs.Paths.{IsHit, Leads}
use Rattle.apex_explore.specs.Systems.{Step, goes, hits, refuses, step_within}
use Rattle.apex_explore.specs.declared.answers.Answer.{Answer}
use Rattle.apex_explore.specs.declared.answers.Answer.TheVariants.{Found, Closed, Full}
use Rattle.apex_machine.specs.Situations.{deed}
use Rattle.apex_machine.specs.table.Table.{Table}
use Rattle.apex_pace.specs.Pace.{KeepsPace, Paced, is_allowed, may_turn, next_tick, paced_opening, paced_run, paced_step}
use Rattle.apex_search.specs.Answers.{LeadsToFact, SaysOfSchedules, event_and_later, events_along, schedule_of}
use Rattle.apex_search.specs.Facts.{has_fact}
use Rattle.apex_forms.specs.Forms.{canonical_paced}
use Rattle.apex_choices.specs.Counts.{IsSamePaced}
use Rattle.apex_recall.specs.Laws.{FormsHaveWords}
use Rattle.apex_search.specs.Laws.{StandsFor, StepsFor}
use Rattle.apex_recall.specs.Restored.{paced_from}
use Rattle.apex_search.specs.Steps.{Searched, choices_of, makes as makes_of, search_start, search_step, step_by}
use Rattle.apex_choices.specs.Choices.{event_of}
use Rattle.apex_recall.specs.Formed.{form_words}
use Rattle.apex_search.specs.Terms.{Event, Pace}
use Rattle.apex_recall.proofs.SameForms.{same_canonical_paced}
use Rattle.apex_choices.proofs.Same.{same_deed, same_event, same_paced_step}
use Rattle.apex_choices.proofs.Short.{instant_is}
use Rattle.apex_choices.proofs.Short.{event_allowed}

-- the choice of an event
abbrev choice_of : Table → Event → ℕ
choice_of table (Turn core) = core
choice_of table (Tick n) = table.cores

choice_is : (pace : Pace) (table : Table) (s : Paced) (event : Event) → is_allowed pace table s event ≡ true
    → (event_of pace table s (choice_of table event) ≡ Some event) × (choice_of table event < table.cores + 1)
choice_is pace table s (Turn core) allowed =
    let parts = and_parts (nat_lt core table.cores) (may_turn pace table s core) allowed in
    (rw (parts.0, parts.1) refl, (let below = ltb-true core table.cores parts.0 in omega arith))
choice_is pace table s (Tick n) allowed =
    let none : nat_lt table.cores table.cores ≡ false = le-ltb table.cores table.cores (omega arith) in
    (rw (none, instant_is n (next_tick pace table s) allowed) refl, omega arith)

-- a choice within a system's does what its step says
within_is : {K : Type 0} (choices : ℕ) (step : K → ℕ → Step K) (k : K) (choice : ℕ) → choice < choices
    → step_within choices step k choice ≡ step k choice
within_is choices step k choice below = rw (lt-ltb choice choices below) refl

goes_within : {K : Type 0} (choices : ℕ) (step : K → ℕ → Step K) (k : K) (choice : ℕ) (n : K)
    → step_within choices step k choice ≡ goes n → step k choice ≡ goes n
goes_within choices step k choice n is = by_choice (nat_lt choice choices) is where
  by_choice : (within : Bool) → (if within then step k choice else refuses) ≡ goes n → step k choice ≡ goes n
  by_choice true e = e
  by_choice false e = cc

hits_within : {K : Type 0} (choices : ℕ) (step : K → ℕ → Step K) (k : K) (choice : ℕ)
    → step_within choices step k choice ≡ hits → step k choice ≡ hits
hits_within choices step k choice is = by_choice (nat_lt choice choices) is where
  by_choice : (within : Bool) → (if within then step k choice else refuses) ≡ hits → step k choice ≡ hits
  by_choice true e = e
  by_choice false e = cc

-- the events of a whole schedule
keeps_push : (pace : Pace) (table : Table) (s : Paced) (events : List Event) (event : Event) → KeepsPace pace table s events
    → is_allowed pace table (paced_run table s events) event ≡ true → KeepsPace pace table s (events ++ event ∷ [])
keeps_push pace table s [] event keeps allowed = (allowed, tt)
keeps_push pace table s (e ∷ events) event keeps allowed =
    (keeps.0, keeps_push pace table (paced_step table s e) events event keeps.1 allowed)

-- what is known of the situations of a table whose forms are the states of a search
pub record Stand (pace : Pace) (table : Table) (Here : Paced → Type 0) : Type 0 where
  pub opens : Here (paced_opening table)
  pub later : ℕ
  pub opening : StandsFor pace later (canonical_paced pace (paced_opening table)) (paced_opening table)
  pub next : (t : Paced) → Here t → (event : Event) → is_allowed pace table (canonical_paced pace t) event ≡ true
      → Here (paced_step table (canonical_paced pace t) event)
  pub exact : (t : Paced) → Here t → IsSamePaced (paced_from table (form_words pace table t)) (canonical_paced pace t)
  pub event : (t : Paced) (d : ℕ) (s : Paced) → StandsFor pace d (canonical_paced pace t) s → (choice : ℕ)
      → event_of pace table (canonical_paced pace t) choice ≡ event_of pace table s choice
  pub steps : (t : Paced) → Here t → (d : ℕ) (s : Paced) → StandsFor pace d (canonical_paced pace t) s → (event : Event)
      → StepsFor pace table (canonical_paced pace t) s event
  pub words : FormsHaveWords table

module _ (system : Searched) (Here : Paced → Type 0) (stand : Stand system.pace system.table Here) where
  abbrev pace : Pace
  pace = system.pace

  abbrev table : Table
  table = system.table

  abbrev makes : List ℕ → ℕ → Step (List ℕ)
  makes = makes_of system

  -- a form that represents the situation
  record At (s : Paced) : Type 0 where
    t : Paced
    here : Here t
    later : ℕ
    stands : StandsFor pace later (canonical_paced pace t) s

  abbrev start : At (paced_opening table)
  start = record { t = paced_opening table; here = stand.opens; later = stand.later; stands = stand.opening }

  abbrev words : {s : Paced} → At s → List ℕ
  words at = form_words pace table at.t

  -- the words after an event
  abbrev then_words : {s : Paced} → At s → Event → List ℕ
  then_words at event = form_words pace table (paced_step table (canonical_paced pace at.t) event)

  -- an event of a situation: it hits, or goes on to the words of the next form
  abbrev made : {s : Paced} → At s → Option Event → Step (List ℕ)
  made at None = refuses
  made {s} at (Some event) = if has_fact system.question (deed table s.situation event) then hits else goes (then_words at event)

  -- an event that is allowed goes on to a form that represents what comes of it
  abbrev on : {s : Paced} (at : At s) (event : Event) → is_allowed pace table s event ≡ true → At (paced_step table s event)
  on {s} at event allowed =
      let steps = stand.steps at.t at.here at.later s at.stands event in
      record {
        t = paced_step table (canonical_paced pace at.t) event;
        here = stand.next at.t at.here event (steps.allowed ∙ allowed);
        later = steps.later;
        stands = steps.stands allowed;
      }

  -- the words step as the situation does
  steps_as : {s : Paced} (at : At s) (choice : ℕ) → search_step system (words at) choice ≡ made at (event_of pace table s choice)
  steps_as {s} at choice =
      let exact : IsSamePaced (paced_from table (words at)) (canonical_paced pace at.t) = stand.exact at.t at.here in
      let event : event_of pace table (paced_from table (words at)) choice ≡ event_of pace table s choice =
      same_event exact pace table choice ∙ stand.event at.t at.later s at.stands choice in
      ap (step_by system (paced_from table (words at))) event ∙ by_event (event_of pace table s choice) where
        by_event : (found : Option Event) → step_by system (paced_from table (words at)) found ≡ made at found
        by_event None = refl
        by_event (Some event) =
            let exact : IsSamePaced (paced_from table (words at)) (canonical_paced pace at.t) = stand.exact at.t at.here in
            let steps : StepsFor pace table (canonical_paced pace at.t) s event = stand.steps at.t at.here at.later s at.stands event in
            let fact : has_fact system.question (deed table (paced_from table (words at)).situation event)
            ≡ has_fact system.question (deed table s.situation event) =
            ap (has_fact system.question) (same_deed exact table event) ∙ steps.fact system.question in
            let stepped : IsSamePaced (paced_step table (paced_from table (words at)) event) (paced_step table (canonical_paced pace at.t) event) =
            same_paced_step exact table event in
            let next : form_words pace table (paced_step table (paced_from table (words at)) event) ≡ then_words at event =
            stand.words pace (paced_step table (paced_from table (words at)) event) (paced_step table (canonical_paced pace at.t) event)
            (same_canonical_paced stepped pace) in
            rw (fact, next) refl

  -- a choice that goes on makes an event without the fact
  record GoesOn {s : Paced} (at : At s) (choice : ℕ) (n : List ℕ) : Type 0 where
    event : Event
    is : event_of pace table s choice ≡ Some event
    next : n ≡ then_words at event

  goes_on : {s : Paced} (at : At s) (choice : ℕ) (n : List ℕ) → makes (words at) choice ≡ goes n → GoesOn at choice n
  goes_on {s} at choice n is =
      by_event (event_of pace table s choice) refl
      (sym (steps_as at choice) ∙ goes_within (choices_of system) (search_step system) (words at) choice n is) where
        by_fact : (event : Event) (fact : Bool) → event_of pace table s choice ≡ Some event
            → (if fact then hits else goes (then_words at event)) ≡ goes n → GoesOn at choice n
        by_fact event true found e = cc
        by_fact event false found e = record { event = event; is = found; next = cc }

        by_event : (found : Option Event) → event_of pace table s choice ≡ found → made at found ≡ goes n → GoesOn at choice n
        by_event None found e = cc
        by_event (Some event) found e = by_fact event (has_fact system.question (deed table s.situation event)) found e

  -- a choice that hits makes an event with the fact
  record Hits (s : Paced) (choice : ℕ) : Type 0 where
    event : Event
    is : event_of pace table s choice ≡ Some event
    fact : has_fact system.question (deed table s.situation event) ≡ true

  hits_by : {s : Paced} (at : At s) (choice : ℕ) → makes (words at) choice ≡ hits → Hits s choice
  hits_by {s} at choice is =
      by_event (event_of pace table s choice) refl
      (sym (steps_as at choice) ∙ hits_within (choices_of system) (search_step system) (words at) choice is) where
        by_fact : (event : Event) (fact : Bool) → has_fact system.question (deed table s.situation event) ≡ fact
            → event_of pace table s choice ≡ Some event
            → (if fact then hits else goes (then_words at event)) ≡ hits → Hits s choice
        by_fact event true fact found e = record { event = event; is = found; fact = fact }
        by_fact event false fact found e = cc

        by_event : (found : Option Event) → event_of pace table s choice ≡ found → made at found ≡ hits → Hits s choice
        by_event None found e = cc
        by_event (Some event) found e = by_fact event (has_fact system.question (deed table s.situation event)) refl found e

  -- these events, as many as this, keep the pace, and lead to a situation for which the form of the
  -- words n stands
  record LeadsBy (s : Paced) (events : List Event) (count : ℕ) (n : List ℕ) : Type 0 where
    keeps : KeepsPace pace table s events
    many : length events ≡ count
    at : At (paced_run table s events)
    is : n ≡ words at

  -- a path leads along a schedule
  abbrev Arrives : Paced → List ℕ → List ℕ → Type 0
  Arrives s path n = LeadsBy s (events_along system s path) (length path) n

  -- so does one that goes on with an event
  arrives_on : (s : Paced) (choice : ℕ) (event : Event) → event_of pace table s choice ≡ Some event → (path : List ℕ) (n : List ℕ)
      → Arrives (paced_step table s event) path n → Arrives s (choice ∷ path) n
  arrives_on s choice event is path n way =
      let along : events_along system s (choice ∷ path) ≡ event ∷ events_along system (paced_step table s event) path =
      ap (λ (found : Option Event). event_and_later table s found (λ next. events_along system next path)) is in
      subst (λ (events : List Event). LeadsBy s events (suc (length path)) n) (sym along) (record {
        keeps = (event_allowed pace table s choice event is, way.keeps);
        many = ap suc way.many;
        at = way.at;
        is = way.is;
      })

  arrives : (path : List ℕ) {s : Paced} (at : At s) (n : List ℕ) → Leads makes (words at) path n → Arrives s path n
  arrives [] at n leads = record { keeps = tt; many = refl; at = at; is = sym leads }
  arrives (choice ∷ path) {s} at n (m, goes_is, rest) =
      let step = goes_on at choice m goes_is in
      let allowed = event_allowed pace table s choice step.event step.is in
      arrives_on s choice step.event step.is path n
      (arrives path (on at step.event allowed) n (subst (λ (k : List ℕ). Leads makes k path n) step.next rest))

  -- one choice more is one event more
  along_push : (path : List ℕ) (s : Paced) (last : ℕ) (event : Event) → length (events_along system s path) ≡ length path
      → event_of pace table (paced_run table s (events_along system s path)) last ≡ Some event
      → events_along system s (path ++ last ∷ []) ≡ events_along system s path ++ event ∷ []
  along_push [] s last event many is = rw is refl
  along_push (choice ∷ path) s last event many is =
      by_event (λ e. along_push path (paced_step table s e) last event) (event_of pace table s choice) refl where
        by_event : ((e : Event) → length (events_along system (paced_step table s e) path) ≡ length path
            → event_of pace table (paced_run table (paced_step table s e) (events_along system (paced_step table s e) path)) last ≡ Some event
            → events_along system (paced_step table s e) (path ++ last ∷ []) ≡ events_along system (paced_step table s e) path ++ event ∷ [])
            → (found : Option Event) → event_of pace table s choice ≡ found
            → events_along system s (choice ∷ path ++ last ∷ []) ≡ events_along system s (choice ∷ path) ++ event ∷ []
        by_event again None found = let none : 0 ≡ suc (length path) = rw found at many in absurd (omega (arith, none))
        by_event again (Some e) found =
            let more : suc (length (events_along system (paced_step table s e) path)) ≡ suc (length path) = rw found at many in
            let here : event_of pace table (paced_run table (paced_step table s e) (events_along system (paced_step table s e) path)) last ≡ Some event = rw found at is in
            rw found (ap (λ events. e ∷ events) (again e (omega (arith, more)) here))

  -- a path that hits is a schedule that leads to the fact
  pub record HitIs (path : List ℕ) : Type 0 where
    pub leads : LeadsToFact system (schedule_of system path)
    pub many : length (schedule_of system path) ≡ length path

  pub hit_is : (path : List ℕ) → IsHit makes (search_start system) path → HitIs path
  hit_is path (front, last, n, split, leads, hit) =
      let opening = paced_opening table in
      let way = arrives front start n leads in
      let reached = paced_run table opening (events_along system opening front) in
      let found = hits_by way.at last (subst (λ (k : List ℕ). makes k last ≡ hits) way.is hit) in
      let whole : schedule_of system path ≡ events_along system opening front ++ found.event ∷ [] =
      ap (schedule_of system) split ∙ along_push front opening last found.event way.many found.is in
      record {
        leads = record {
          earlier = events_along system opening front;
          last = found.event;
          is = whole;
          keeps = subst (KeepsPace pace table opening) (sym whole)
              (keeps_push pace table opening (events_along system opening front) found.event way.keeps
              (event_allowed pace table reached last found.event found.is));
          has = found.fact;
        };
        many = ap length whole ∙ length-append (events_along system opening front) (found.event ∷ []) ∙ ap (λ (k : ℕ). k + 1) way.many
            ∙ sym (ap length split ∙ length-append front (last ∷ []));
      }

  -- a schedule that leads to the fact has a path that hits, and is no longer
  record HasHit {s : Paced} (at : At s) (events : List Event) : Type 0 where
    path : List ℕ
    short : length path ≤ length events
    hit : IsHit makes (words at) path

  hit_at : {s : Paced} (at : At s) (event : Event) → is_allowed pace table s event ≡ true
      → has_fact system.question (deed table s.situation event) ≡ true → makes (words at) (choice_of table event) ≡ hits
  hit_at {s} at event allowed fact =
      let choice = choice_is pace table s event allowed in
      within_is (choices_of system) (search_step system) (words at) (choice_of table event) choice.1
      ∙ steps_as at (choice_of table event) ∙ ap (made at) choice.0 ∙ rw fact refl

  goes_at : {s : Paced} (at : At s) (event : Event) → is_allowed pace table s event ≡ true
      → has_fact system.question (deed table s.situation event) ≡ false
      → makes (words at) (choice_of table event) ≡ goes (then_words at event)
  goes_at {s} at event allowed fact =
      let choice = choice_is pace table s event allowed in
      within_is (choices_of system) (search_step system) (words at) (choice_of table event) choice.1
      ∙ steps_as at (choice_of table event) ∙ ap (made at) choice.0 ∙ rw fact refl

  has_hit : (earlier : List Event) (last : Event) {s : Paced} (at : At s) → KeepsPace pace table s (earlier ++ last ∷ [])
      → has_fact system.question (deed table (paced_run table s earlier).situation last) ≡ true
      → HasHit at (earlier ++ last ∷ [])
  has_hit [] last at keeps fact = record {
    path = choice_of table last ∷ [];
    short = omega arith;
    hit = ([], choice_of table last, words at, refl, refl, hit_at at last keeps.0 fact);
  }
  has_hit (event ∷ earlier) last {s} at keeps fact = elim (cases_Bool (has_fact system.question (deed table s.situation event))) [
    | inl soon ↦ record {
      path = choice_of table event ∷ [];
      short = omega arith;
      hit = ([], choice_of table event, words at, refl, refl, hit_at at event keeps.0 soon);
    }
    | inr later ↦
        let rest = has_hit earlier last (on at event keeps.0) keeps.1 fact in
        record {
          path = choice_of table event ∷ rest.path;
          short = omega (arith, rest.short);
          hit = (
            choice_of table event ∷ rest.hit.0,
            rest.hit.1,
            rest.hit.2,
            ap (λ path. choice_of table event ∷ path) rest.hit.3,
            (then_words at event, goes_at at event keeps.0 later, rest.hit.4),
            rest.hit.5,
          );
        }
  ]

  found_in : (events : List Event) → LeadsToFact system events → HasHit start events
  found_in events leads =
      subst (HasHit start) (sym leads.is)
      (has_hit leads.earlier leads.last start (subst (KeepsPace pace table (paced_opening table)) leads.is leads.keeps) leads.has)

  -- so an answer about the words says as much of the schedules
  pub says_of_schedules : (room : ℕ) (answer : Answer) → Says makes (search_start system) room answer → SaysOfSchedules system room answer
  says_of_schedules room (Found path) (hit, shortest) =
      let found = hit_is path.items hit in
      record {
        leads = found.leads;
        many = found.many;
        shortest = λ other leads. let has = found_in other leads in le_trans (shortest has.path has.hit) has.short;
      }
  says_of_schedules room (Closed states) says = (λ events leads. let has = found_in events leads in says.0 has.path has.hit, says.1)
  says_of_schedules room (Full depth) says =
      (λ events short leads. let has = found_in events leads in says.0 has.path (le_trans has.short short) has.hit, says.1)
