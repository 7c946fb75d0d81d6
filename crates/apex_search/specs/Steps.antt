-- The transition system of a table under a pace: its states are words, and its choices are a turn of
-- each core and the tick that may come.
use Rattle.std.specs.Prelude.{◌≡◌, ℕ, ◌+◌, ◌≤◌, List, Option, None, Some, if◌then◌else◌}
use Rattle.apex_explore.specs.Systems.{Step, refuses, goes, hits, step_within}
use Rattle.apex_machine.specs.Situations.{deed}
use Rattle.apex_machine.specs.table.Table.{Table}
use Rattle.apex_pace.specs.Pace.{Paced, paced_opening, paced_step}
use Rattle.apex_choices.specs.Counts.{IsSamePaced, StoredPaced, paced_in}
use Rattle.apex_search.specs.Facts.{has_fact}
use Rattle.apex_recall.specs.Restored.{IsOfTable, paced_from}
use Rattle.apex_search.specs.Terms.{Event, Pace, Question}
use Rattle.apex_search.specs.declared.systems.Workplace.{Workplace}
use Rattle.apex_types.specs.Limits.{latest}
use Rattle.apex_choices.specs.Choices.{event_of}
use Rattle.apex_recall.specs.Formed.{form_words}

-- a table under a pace, and what is looked for
pub record Searched : Type 0 where
  pub table : Table
  pub pace : Pace
  pub question : Question

-- the system of a table, a pace and a question
abbrev pub searched : Table → Pace → Question → Searched
searched table pace question = record { table = table; pace = pace; question = question }

-- the number of choices
abbrev pub choices_of : Searched → ℕ
choices_of system = system.table.cores + 1

-- an event goes on to a form, or hits: its entry has one of the facts
abbrev pub step_by : Searched → Paced → Option Event → Step (List ℕ)
step_by system s None = refuses
step_by system s (Some event) =
    if has_fact system.question (deed system.table s.situation event) then hits
    else goes (form_words system.pace system.table (paced_step system.table s event))

-- a choice in the state of these words
abbrev pub search_step : Searched → List ℕ → ℕ → Step (List ℕ)
search_step system words choice =
    let s = paced_from system.table words in
    step_by system s (event_of system.pace system.table s choice)

-- what a choice does in the words of a state; one that the system does not have is refused
abbrev pub makes : Searched → List ℕ → ℕ → Step (List ℕ)
makes system = step_within (choices_of system) (search_step system)

-- the first state: the form of the situation before any event
abbrev pub search_start : Searched → List ℕ
search_start system = form_words system.pace system.table (paced_opening system.table)

-- the workplace has two situations of the table
pub record IsWorkplace (table : Table) (workplace : Workplace) : Type 0 where
  pub here : StoredPaced
  pub made : StoredPaced
  pub is_here : workplace.here ≡ Some here
  pub is_made : workplace.made ≡ Some made
  pub here_of : IsOfTable table (paced_in here).situation
  pub made_of : IsOfTable table (paced_in made).situation

-- the choices in the workplace are made in the situation of these words
pub record IsIn (table : Table) (workplace : Workplace) (words : List ℕ) : Type 0 where
  pub here : StoredPaced
  pub is_here : workplace.here ≡ Some here
  pub same : IsSamePaced (paced_in here) (paced_from table words)

-- what a choice makes is made of the situation of these words
pub record IsCopied (table : Table) (workplace : Workplace) (words : List ℕ) : Type 0 where
  pub made : StoredPaced
  pub is_made : workplace.made ≡ Some made
  pub same : IsSamePaced (paced_in made) (paced_from table words)

-- the choices in the workplace are made in a situation that is not too late
pub record IsHereInTime (workplace : Workplace) : Type 0 where
  pub here : StoredPaced
  pub is_here : workplace.here ≡ Some here
  pub time : (paced_in here).situation.roster.now ≤ latest
