-- The laws on which the answers of a search rest. Each holds of every lawful table.
use Rattle.std.specs.Prelude.{◌≡◌, ℕ, ◌+◌, ◌<◌, Some, true}
use Rattle.apex_alike.specs.AlikeSteps.{AreAlikeSituations}
use Rattle.apex_machine.specs.Situations.{deed}
use Rattle.apex_machine.specs.table.Table.{Table}
use Rattle.apex_pace.specs.Laws.{IsPace}
use Rattle.apex_pace.specs.Pace.{Paced, is_allowed, paced_step}
use Rattle.apex_search.specs.Facts.{has_fact, is_age}
use Rattle.apex_forms.specs.Forms.{canonical_paced, kept_turns, kept_worked}
use Rattle.apex_recall.specs.Reached.{IsReached}
use Rattle.apex_explore.specs.Answers.{Says}
use Rattle.apex_explore.specs.Systems.{step_within}
use Rattle.apex_explore.specs.declared.answers.Answer.{Answer}
use Rattle.apex_search.specs.Answers.{SaysOfSchedules}
use Rattle.apex_search.specs.Steps.{Searched, choices_of, search_start, search_step}
use Rattle.apex_search.specs.Terms.{Event, Pace, Question}

-- the form represents the situation, which is alike to it and d later: the form counts turns and the
-- ticks of work as the situation does, as far as they matter at the pace
pub record StandsFor (pace : Pace) (d : ℕ) (form s : Paced) : Type 0 where
  pub alike : AreAlikeSituations d form.situation s.situation
  pub turns : (core : ℕ) → form.turns core ≡ kept_turns pace (s.turns core)
  pub worked : (core : ℕ)
      → form.worked core ≡ kept_worked (s.situation.works core) (s.worked core)

-- an event is allowed in the form exactly if it is allowed in the situation, and its entry has the
-- same facts; and the canonical form of what comes of it in the form represents what comes of it in
-- the situation
pub record StepsFor (pace : Pace) (table : Table) (form s : Paced) (event : Event) : Type 0 where
  pub allowed : is_allowed pace table form event ≡ is_allowed pace table s event
  pub fact : (question : Question) → has_fact question (deed table form.situation event)
      ≡ has_fact question (deed table s.situation event)
  pub later : ℕ
  pub stands : is_allowed pace table s event ≡ true
      → StandsFor pace later (canonical_paced pace (paced_step table form event))
      (paced_step table s event)

-- so it is with every event in every situation for which a canonical form stands
abbrev pub FormsStandFor : Table → Type 0
FormsStandFor table = (pace : Pace) → IsPace pace → (form : Paced) → IsReached table form
    → (d : ℕ) (s : Paced) → StandsFor pace d (canonical_paced pace form) s
    → (event : Event) → StepsFor pace table (canonical_paced pace form) s event

-- an answer about the words of a search says as much of the schedules of the pace
abbrev pub AnswersSay : Table → Type 0
AnswersSay table = (pace : Pace) → IsPace pace → (question : Question) →
    let system : Searched = record { table = table; pace = pace; question = question } in
    (room : ℕ) (answer : Answer)
    → Says (step_within (choices_of system) (search_step system)) (search_start system) room answer
    → SaysOfSchedules system room answer

-- a response for which a search is asked with more ticks than a period is one of a tick more than the
-- period
abbrev pub LongResponsesAreAlike : Type 0
LongResponsesAreAlike = (ticks period age : ℕ) → period < ticks
    → is_age ticks (Some period) age ≡ is_age (period + 1) (Some period) age
